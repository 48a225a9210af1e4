-- The laws of what is read as INSERT, whose select may stand before an upsert, and as a statement of a trigger.
use Rattle.std.proofs.Common.{List, Some, [], ap, append_assoc, false, inl, inr, refl, sym, true, ℕ, ◌++◌, ◌∙◌, ◌∷◌, ◌≡◌}
use Rattle.std.specs.List.{AllByRecursion}
use Rattle.std.specs.Prelude.{IsTrue}
use Rattle.std.proofs.lemmas.Bool.{cond-false, false_from_ne_true}
use Rattle.sql_token.specs.Spelled.{flat}
use Rattle.sql_token.specs.declared.token.Token.{Token}
use Rattle.sql_expr.specs.Joined.{ends_in_joined}
use Rattle.sql_expr.specs.Rules.{IsSelectAt}
use Rattle.sql_expr.specs.Tree.{select_tokens}
use Rattle.sql_expr.specs.declared.select.Select.{Select}
use Rattle.sql_reader.proofs.Choices.{choice_reads}
use Rattle.sql_reader.proofs.Forms.{formed_reads, ruled, variant_reads, widened_reads}
use Rattle.sql_reader.proofs.Laws.{Reads, leaf_reads, seq_reads}
use Rattle.sql_reader.proofs.Leaves.{name_fits, word_fits}
use Rattle.sql_reader.proofs.Looks.{clear-within}
use Rattle.sql_reader.proofs.Outcomes.{same_outcome}
use Rattle.sql_reader.specs.Looks.{looks}
use Rattle.sql_reader.specs.Reading.{Read, and_then, made_of, read_seq, read_turns}
use Rattle.sql_reader.specs.Sorts.{sort_of}
use Rattle.sql_tree.specs.Rules.{IsInsert, IsStatement, IsUpsert}
use Rattle.sql_tree.specs.Tokens.{insert_tokens, statement_tokens, upsert_tokens}
use Rattle.sql_tree.specs.declared.statement.Insert.{Insert}
use Rattle.sql_tree.specs.declared.statement.Statement.{Statement}
use Rattle.sql_tree.specs.declared.statement.Upsert.{Upsert}
use Rattle.query_reading.proofs.NameLaws.{opt_names_reads}
use Rattle.query_reading.specs.Exprs.{Inner, select, select_goes_on, select_starts}
use Rattle.trigger_reading.proofs.Ends.{seq_is, seq_parts, starts_anyway}
use Rattle.trigger_reading.proofs.StatementLaws.{Given, delete_reads, insert_verb_reads, update_reads, upsert_reads, upserts_reads}
use Rattle.trigger_reading.specs.Statements.{insert, insert_source, read_insert, read_insert_source, read_statement, read_upsert, read_upserts, statement, statement_starts, upsert_starts, upserts}
use Rattle.sql_token.specs.declared.keyword.Keyword.TheVariants as K
use Rattle.sql_tree.specs.declared.statement.Statement.TheVariants as Statement'

abbrev L : Type 0
L = List Token

-- a select and the upserts behind it: none where it ends in a joined source without a constraint
abbrev pub IsInsertSource : List ℕ → ℕ → Select × List Upsert → Type 0
IsInsertSource text m v =
    (IsSelectAt text m v.0 × AllByRecursion (IsUpsert text m) v.1) × (IsTrue (ends_in_joined v.0) → v.1 ≡ [])

abbrev pub insert_source_tokens : Select × List Upsert → List Token
insert_source_tokens v = select_tokens v.0 ++ flat upsert_tokens v.1

-- no upsert is read where no ON is next
no_upserts : (text : List ℕ) (inner : Inner) (ts : L) (xs : List Upsert) (rest : L) → looks (sort_of text) upsert_starts ts ≡ false
    → read_upserts (sort_of text) inner ts ≡ Some (xs, rest) → xs ≡ []
unfolding read_upserts
no_upserts text inner ts xs rest other e =
    let sort = sort_of text in
    let read = read_upsert sort inner in
    let none : List Upsert = [] in
    let next : Upsert → Read (List Upsert) = λ x mid. made_of (λ ys. x ∷ ys) (read_turns sort upsert_starts read _ mid) in
    sym (same_outcome none xs ts rest
    (sym (cond-false (looks sort upsert_starts ts) (and_then (read ts) next) (Some (none, ts)) other) ∙ e)).0

module _ {text : List ℕ} {b m : ℕ} {inner twin : Inner} where
  -- the select for its soundness alone: nothing is covered, so anything may follow
  heard : Given text b m inner twin → Reads (sort_of text) Select (IsSelectAt text m) (λ x. ⊥) select_tokens b
      (record (select {sort = sort_of text} inner) { goes_on = [] }) twin.select
  heard given =
      let nested = given.nested in
      let laws = nested.select in
      record {
        sound = laws.sound;
        size = laws.size;
        begins = λ x rest covers clear. absurd covers;
        complete = λ x rest covers clear. absurd covers;
        alike = laws.alike;
      }

  -- before upserts, or before what ends the statement
  source_complete : Given text b m inner twin → (x : Select) (xs : List Upsert) (rest : L) → IsInsertSource text m (x, xs)
      → looks (sort_of text) select_goes_on rest ≡ false
      → read_seq inner.select (read_upserts (sort_of text) inner) ((select_tokens x ++ flat upsert_tokens xs) ++ rest) ≡ Some ((x, xs), rest)
  source_complete given x xs rest covers clear =
      let more = upserts_reads given in
      seq_is inner.select (read_upserts (sort_of text) inner) x xs (select_tokens x) (flat upsert_tokens xs) rest (front xs covers)
      (more.complete xs rest covers.0.1 (clear-within (sort_of text) (upserts (sort_of text) inner).goes_on select_goes_on rest refl clear))
    where
      front : (ys : List Upsert) → IsInsertSource text m (x, ys) → inner.select (select_tokens x ++ (flat upsert_tokens ys ++ rest)) ≡ Some (x, flat upsert_tokens ys ++ rest)
      front [] h = let nested = given.nested in let laws = nested.select in laws.complete x rest h.0.0 clear
      front (y ∷ ys) h =
          let ends = given.ends in
          let behind : L = (upsert_tokens y ++ flat upsert_tokens ys) ++ rest in
          let on : looks (sort_of text) upsert_starts behind ≡ true =
          ap (λ l. looks (sort_of text) upsert_starts l) (append_assoc (upsert_tokens y) (flat upsert_tokens ys) rest)
          ∙ starts_anyway (upsert_reads given) refl refl refl y (flat upsert_tokens ys ++ rest) h.0.1.0 in
          ends.holds x behind h.0.0
          (false_from_ne_true (ends_in_joined x) (λ joined. let wrong : y ∷ ys ≡ [] = h.1 joined in absurd (cc))) on

  -- select {upsert}, where ON directly behind a joined source begins its constraint
  pub insert_source_reads : Given text b m inner twin → Reads (sort_of text) (Select × List Upsert) (IsInsertSource text m) (IsInsertSource text m) insert_source_tokens b
      (insert_source (sort_of text) inner) (read_insert_source (sort_of text) twin)
  unfolding read_insert_source
  insert_source_reads given =
      let nested = given.nested in
      let ends = given.ends in
      let plain = seq_reads (heard given) (upserts_reads given) refl in
      record {
        sound = λ ts v rest e.
            let so = plain.sound ts v rest e in
            let (mid, first, second) = seq_parts inner.select (read_upserts (sort_of text) inner) ts v rest e in
            ((so.0, λ joined. no_upserts text inner mid v.1 rest (ends.stops ts v.0 mid first joined) second), so.1);
        size = λ some. plain.size refl;
        begins = λ v rest covers clear.
            inl (ap (λ l. looks (sort_of text) select_starts l) (append_assoc (select_tokens v.0) (flat upsert_tokens v.1) rest)
            ∙ starts_anyway nested.select refl refl refl v.0 (flat upsert_tokens v.1 ++ rest) covers.0.0);
        complete = λ v rest covers clear. source_complete given v.0 v.1 rest covers clear;
        alike = plain.alike;
      }

  -- (INSERT [or] | REPLACE) INTO name ["(" names ")"] select {upsert}
  pub insert_reads : Given text b m inner twin → Reads (sort_of text) Insert (IsInsert text m) (IsInsert text m) insert_tokens b
      (insert (sort_of text) inner) (read_insert (sort_of text) twin)
  unfolding read_insert
  insert_reads given =
      formed_reads
      (seq_reads
      (seq_reads
      (seq_reads (seq_reads (insert_verb_reads text) (leaf_reads (word_fits text K.Into)) refl) (leaf_reads (name_fits text)) refl)
      (opt_names_reads text) refl)
      (insert_source_reads given) refl)
      (record {
        spelled = λ v. append_assoc _ (select_tokens v.1.0) (flat upsert_tokens v.1.1);
        meets = λ v h. (h.0.0.0.0, h.0.0.0.1, h.0.0.1, h.0.1, h.1.0.0, h.1.0.1, h.1.1);
        covers = λ x h. (
          ((((x.verb, x.into), x.name), x.columns), (x.select, x.upserts)),
          refl,
          ((((h.0, h.1), h.2), h.3), ((h.4, h.5), h.6)),
        );
      })

  -- select | UPDATE .. | INSERT .. | DELETE ..
  pub statement_reads : Given text b m inner twin → Reads (sort_of text) Statement (IsStatement text m) (IsStatement text m) statement_tokens b
      (statement (sort_of text) inner) (read_statement (sort_of text) twin)
  unfolding read_statement
  statement_reads given =
      let nested = given.nested in
      widened_reads {starts = statement_starts} {goes_on = select_goes_on}
      (ruled
      (choice_reads (variant_reads nested.select (λ v. refl) (λ v h. h))
      (choice_reads (variant_reads (update_reads given) (λ v. refl) (λ v h. h))
      (choice_reads (variant_reads (insert_reads given) (λ v. refl) (λ v h. h)) (variant_reads (delete_reads given) (λ v. refl) (λ v h. h))
      refl refl refl) refl refl refl) refl refl refl)
      (λ x h. h)
      (elim [
        | Statement'.Select v ↦ λ h. inl (v, refl, h)
        | Statement'.Update v ↦ λ h. inr (inl (v, refl, h))
        | Statement'.Insert v ↦ λ h. inr (inr (inl (v, refl, h)))
        | Statement'.Delete v ↦ λ h. inr (inr (inr (v, refl, h)))
      ]))
      refl refl
