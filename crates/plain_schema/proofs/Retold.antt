-- What stays of the tables after a command: all but the text and the columns of one.
use Rattle.std.proofs.Common.{◌≡◌, ◌<◌, ℕ, Bool, true, false, if◌then◌else◌, Some, List, [], ◌∷◌, get_or, refl, sym, ◌∙◌, ap, subst}
use Rattle.std.proofs.lemmas.Bool.{both_ways, cond-false, cond-true}
use Rattle.std.proofs.lemmas.List.Elements.{All-from_recursion}
use Rattle.std.proofs.lemmas.List.Folds.{list_any_at}
use Rattle.std.proofs.lemmas.List.Kept.{AllPairs-cons}
use Rattle.std.proofs.lemmas.List.Quantifiers.{all_pairs_push}
use Rattle.std.proofs.lemmas.Option.{same_Some}
use Rattle.std.specs.Cmp.Lexicographic.{bytes_decides}
use Rattle.std.specs.List.{AllByRecursion, AllPairs, find, list_any}
use Rattle.sql_token.specs.Names.{folded}
use Rattle.plain_sql.specs.Words.{IsPlainWord}
use Rattle.plain_sql.specs.declared.script.Command.{Command}
use Rattle.schema_rows.specs.declared.schema.SchemaRow.{SchemaRow}
use Rattle.plain_schema.specs.declared.table.Table.{Table}
use Rattle.plain_schema.specs.FirstForm.{AreApart, IsSpelled, rows_of}
use Rattle.plain_schema.specs.Step.{added, after, has_column, is_named, same_name}
use Rattle.plain_sql.proofs.Added.{spells_added}
use Rattle.common_laws.proofs.Pairs.{pairs_head, pairs_tail}
use Rattle.plain_schema.proofs.Tables.{after-none, none_behind}

-- the row is the same but for its text
pub record IsRetold (old new : SchemaRow) : Type 0 where
  pub rowid : new.rowid ≡ old.rowid
  pub name : new.name ≡ old.name
  pub root : new.root ≡ old.root

-- a table after a command
retold_by : (named : Bool) (command : Command) (table : Table) → IsRetold table.row (if named then added command table else table).row
retold_by true command table = record { rowid = refl; name = refl; root = refl }
retold_by false command table = record { rowid = refl; name = refl; root = refl }

-- what holds of all rows holds of all rows that are retold
pub all_after : (P Q : SchemaRow → Type 0) (command : Command) (tables : List Table) → ((old new : SchemaRow) → IsRetold old new → P old → Q new)
    → AllByRecursion P (rows_of tables) → AllByRecursion Q (rows_of (after command tables))
all_after P Q command [] keeps all = tt
all_after P Q command (table ∷ tables) keeps all =
    let now = if is_named command table then added command table else table in
    (keeps table.row now.row (retold_by (is_named command table) command table) all.0, all_after P Q command tables keeps all.1)

-- rows that are retold are apart as before
apart_retold : (a b c d : SchemaRow) → IsRetold a c → IsRetold b d → AreApart a b → AreApart c d
apart_retold a b c d first second apart = record {
  ascending = subst (λ (n : ℕ). n < d.rowid) (sym first.rowid) (subst (λ (n : ℕ). a.rowid < n) (sym second.rowid) apart.ascending);
  named = λ same. apart.named (ap folded (sym first.name) ∙ same ∙ ap folded second.name);
  rooted = λ same. apart.rooted (sym first.root ∙ same ∙ second.root);
}

-- the rows after a command are apart
pub apart_after : (command : Command) (tables : List Table) → AllPairs AreApart (rows_of tables) → AllPairs AreApart (rows_of (after command tables))
apart_after command [] apart = apart
apart_after command (table ∷ tables) apart =
    let now = if is_named command table then added command table else table in
    let here = retold_by (is_named command table) command table in
    AllPairs-cons AreApart now.row (rows_of (after command tables))
    (All-from_recursion (AreApart now.row) (rows_of (after command tables))
    (all_after (AreApart table.row) (AreApart now.row) command tables
    (λ old new retold was. apart_retold table.row old now.row new here retold was)
    (pairs_head AreApart table.row (rows_of tables) apart)))
    (apart_after command tables (pairs_tail AreApart table.row (rows_of tables) apart))

-- two names are not alike
abbrev DifferFolded : List ℕ → List ℕ → Type 0
DifferFolded a b = (folded a ≡ folded b) → ⊥

-- the table with the column added is one that its text makes
pub spelled_added : (command : Command) (table : Table) → IsPlainWord command.column → has_column command table ≡ false → IsSpelled table
    → IsSpelled (added command table)
spelled_added command table plain other is =
    let its = is.its_name in
    record {
      name = is.name;
      text = spells_added table.row.text is.name table.columns table.columns_end command.column is.text plain;
      its_name = record { named = its.named; table_named = its.table_named; own = its.own };
      columns_apart =
          all_pairs_push DifferFolded table.columns command.column is.columns_apart
          (λ k d within same.
          both_ways (list_any (same_name command.column) table.columns) other
          (list_any_at (same_name command.column) table.columns k d within
          ((bytes_decides (folded command.column) (folded (get_or table.columns k d))).1 (sym same))));
    }

-- the tables after a command are those that their texts make, if that holds of the one that it is about
pub spelled_after : (command : Command) (tables : List Table) (found : Table) → AllPairs AreApart (rows_of tables)
    → find (is_named command) tables ≡ Some found → (IsSpelled found → IsSpelled (added command found)) → AllByRecursion IsSpelled tables
    → AllByRecursion IsSpelled (after command tables)
spelled_after command [] found apart at adds all = tt
spelled_after command (table ∷ tables) found apart at adds all =
    by (is_named command table) refl
    (λ later. spelled_after command tables found (pairs_tail AreApart table.row (rows_of tables) apart) later adds all.1)
  where
    by : (named : Bool) → is_named command table ≡ named
        → (find (is_named command) tables ≡ Some found → AllByRecursion IsSpelled (after command tables))
        → AllByRecursion IsSpelled (after command (table ∷ tables))
    by true named others =
        let it : table ≡ found = same_Some table found (sym (cond-true (is_named command table) (Some table) (find (is_named command) tables) named) ∙ at) in
        let none = none_behind command table tables named (pairs_head AreApart table.row (rows_of tables) apart) in
        let rest : after command tables ≡ tables = after-none command tables none in
        let new : IsSpelled (added command table) = subst (λ (t : Table). IsSpelled t → IsSpelled (added command t)) (sym it) adds all.0 in (
          subst IsSpelled (sym (cond-true (is_named command table) (added command table) table named)) new,
          subst (λ (l : List Table). AllByRecursion IsSpelled l) (sym rest) all.1,
        )
    by false named others =
        let later : find (is_named command) tables ≡ Some found =
        sym (cond-false (is_named command table) (Some table) (find (is_named command) tables) named) ∙ at in (
          subst IsSpelled (sym (cond-false (is_named command table) (added command table) table named)) all.0,
          others later,
        )
