-- The laws of whole texts: a tree that spells the tokens is read of them with as many levels as tokens, and no other tree spells them.
use Rattle.std.proofs.Common.{List, Some, [], ap, arith, length, refl, suc, sym, zero, ℕ, ⊎_elim, ◌++◌, ◌+◌, ◌∙◌, ◌≡◌, ◌≤◌}
use Rattle.std.proofs.lemmas.Bool.{cases_lt}
use Rattle.std.proofs.lemmas.List.{append-nil}
use Rattle.sql_token.specs.declared.token.Token.{Token}
use Rattle.sql_reader.proofs.Outcomes.{reach_least, same_outcome}
use Rattle.sql_reader.specs.Reading.{Read}
use Rattle.sql_reader.specs.Sorts.{sort_of}
use Rattle.sql_tree.proofs.Heights.{column_higher, create_index_higher, create_table_higher, create_view_higher}
use Rattle.sql_tree.specs.Rules.{IsColumn, IsCreateIndex, IsCreateTable, IsCreateView, SpellsColumn, SpellsIndex, SpellsTable, SpellsView}
use Rattle.sql_tree.specs.Tokens.{column_tokens, create_index_tokens, create_table_tokens, create_view_tokens}
use Rattle.sql_tree.specs.declared.index.CreateIndex.{CreateIndex}
use Rattle.sql_tree.specs.declared.index.CreateView.{CreateView}
use Rattle.sql_tree.specs.declared.table.Column.{Column}
use Rattle.sql_tree.specs.declared.table.CreateTable.{CreateTable}
use Rattle.query_reading.specs.Levels.{read_at}
use Rattle.table_reading.proofs.ColumnLaws.{column_reads}
use Rattle.table_reading.proofs.KeyLaws.{given_at}
use Rattle.table_reading.proofs.TableLaws.{create_index_reads, create_table_reads, create_view_reads}
use Rattle.table_reading.specs.Columns.{column, read_column}
use Rattle.table_reading.specs.Handed.{over}
use Rattle.table_reading.specs.Tables.{create_index, create_table, create_view, read_create_index, read_create_table, read_create_view}

-- What a reading at each number of levels reads, and that more levels do not lose a tree.
record Rises (text : List ℕ) (A : Type 0) (rule : ℕ → A → Type 0) (tokens : A → List Token) (read : ℕ → Read A) : Type 0 where
  pub sound : (n : ℕ) (ts : List Token) (x : A) (rest : List Token) → read n ts ≡ Some (x, rest) → rule n x × (ts ≡ tokens x ++ rest)
  pub whole : (n : ℕ) (x : A) → rule n x → read n (tokens x ++ []) ≡ Some (x, [])
  pub next : (n : ℕ) (ts : List Token) → length ts ≤ n → read n ts ≡ read (suc n) ts
  pub higher : (n m : ℕ) (x : A) → n ≤ m → rule n x → rule m x

module _ {text : List ℕ} {A : Type 0} {rule : ℕ → A → Type 0} {tokens : A → List Token} {read : ℕ → Read A} (rises : Rises text A rule tokens read) where
  -- as many levels as tokens are as good as more
  enough : (n m : ℕ) (ts : List Token) → length ts ≤ n → n ≤ m → read n ts ≡ read m ts
  enough n zero ts most fewer = let same : n ≡ 0 = omega (arith, fewer) in ap (λ k. read k ts) same
  enough n (suc m) ts most fewer =
      ⊎_elim (λ less. enough n m ts most (omega arith) ∙ rises.next m ts (omega arith))
      (λ least. let same : n ≡ suc m = omega arith in ap (λ k. read k ts) same)
      (cases_lt n (suc m))

  -- what is read of all tokens spells them
  spelled : (n : ℕ) (ts : List Token) (x : A) → read n ts ≡ Some (x, []) → ((k : ℕ) × rule k x) × (ts ≡ tokens x)
  spelled n ts x e =
      let so : rule n x × (ts ≡ tokens x ++ []) = rises.sound n ts x [] e in
      ((n, so.0), so.1 ∙ append-nil (tokens x))

  -- a tree that spells the tokens is read of them
  all_read : (ts : List Token) (x : A) → ((k : ℕ) × rule k x) × (ts ≡ tokens x) → read (length ts) ts ≡ Some (x, [])
  all_read ts x spells =
      let n = length ts in
      let height = spells.0.0 in
      let same : ts ≡ tokens x ++ [] = spells.1 ∙ sym (append-nil (tokens x)) in
      enough n (height + n) ts (omega arith) (omega arith)
      ∙ ap (λ l. read (height + n) l) same
      ∙ rises.whole (height + n) x (rises.higher height (height + n) x (omega arith) spells.0.1)

  -- one tree at most spells the tokens
  only_one : (ts : List Token) (x y : A) → ((k : ℕ) × rule k x) × (ts ≡ tokens x) → ((k : ℕ) × rule k y) × (ts ≡ tokens y) → x ≡ y
  only_one ts x y one other = (same_outcome x y [] [] (sym (all_read ts x one) ∙ all_read ts y other)).0

module _ (text : List ℕ) where
  -- the readings of whole texts with so many levels
  abbrev pub column_at : ℕ → Read Column
  column_at n = read_column (sort_of text) (over text n (read_at (sort_of text) n))

  abbrev pub table_at : ℕ → Read CreateTable
  table_at n = read_create_table (sort_of text) (over text n (read_at (sort_of text) n))

  abbrev pub index_at : ℕ → Read CreateIndex
  index_at n = read_create_index (sort_of text) n (read_at (sort_of text) n)

  abbrev pub view_at : ℕ → Read CreateView
  view_at n = read_create_view (sort_of text) (read_at (sort_of text) n)

  column_rises : Rises text Column (IsColumn text) column_tokens column_at
  column_rises =
      record {
        sound = λ n ts x rest e. let laws = column_reads (given_at text n) in laws.sound ts x rest e;
        whole = λ n x h. let laws = column_reads (given_at text n) in laws.complete x [] h refl;
        next = λ n ts most. let laws = column_reads (given_at text n) in laws.alike ts (omega (arith, reach_least (column (sort_of text) (over text n (read_at (sort_of text) n))).guarded n));
        higher = λ n m x fewer h. column_higher text n m fewer x h;
      }

  table_rises : Rises text CreateTable (IsCreateTable text) create_table_tokens table_at
  table_rises =
      record {
        sound = λ n ts x rest e. let laws = create_table_reads (given_at text n) in laws.sound ts x rest e;
        whole = λ n x h. let laws = create_table_reads (given_at text n) in laws.complete x [] h refl;
        next = λ n ts most. let laws = create_table_reads (given_at text n) in laws.alike ts (omega (arith, reach_least (create_table (sort_of text) (over text n (read_at (sort_of text) n))).guarded n));
        higher = λ n m x fewer h. create_table_higher text n m fewer x h;
      }

  index_rises : Rises text CreateIndex (IsCreateIndex text) create_index_tokens index_at
  index_rises =
      record {
        sound = λ n ts x rest e. let laws = create_index_reads (given_at text n) in laws.sound ts x rest e;
        whole = λ n x h. let laws = create_index_reads (given_at text n) in laws.complete x [] h refl;
        next = λ n ts most. let laws = create_index_reads (given_at text n) in laws.alike ts (omega (arith, reach_least (create_index (sort_of text) n (read_at (sort_of text) n)).guarded n));
        higher = λ n m x fewer h. create_index_higher text n m fewer x h;
      }

  view_rises : Rises text CreateView (IsCreateView text) create_view_tokens view_at
  view_rises =
      record {
        sound = λ n ts x rest e. let laws = create_view_reads (given_at text n) in laws.sound ts x rest e;
        whole = λ n x h. let laws = create_view_reads (given_at text n) in laws.complete x [] h refl;
        next = λ n ts most. let laws = create_view_reads (given_at text n) in laws.alike ts (omega (arith, reach_least (create_view (sort_of text) (read_at (sort_of text) n)).guarded n));
        higher = λ n m x fewer h. create_view_higher text n m fewer x h;
      }

  -- what is read of all tokens spells them
  pub column_spelled : (n : ℕ) (ts : List Token) (x : Column) → column_at n ts ≡ Some (x, []) → SpellsColumn text x ts
  column_spelled n ts x e = spelled column_rises n ts x e

  pub table_spelled : (n : ℕ) (ts : List Token) (x : CreateTable) → table_at n ts ≡ Some (x, []) → SpellsTable text x ts
  table_spelled n ts x e = spelled table_rises n ts x e

  pub index_spelled : (n : ℕ) (ts : List Token) (x : CreateIndex) → index_at n ts ≡ Some (x, []) → SpellsIndex text x ts
  index_spelled n ts x e = spelled index_rises n ts x e

  pub view_spelled : (n : ℕ) (ts : List Token) (x : CreateView) → view_at n ts ≡ Some (x, []) → SpellsView text x ts
  view_spelled n ts x e = spelled view_rises n ts x e

  -- a tree that spells the tokens is read of them, with as many levels as tokens
  pub column_read : (ts : List Token) (x : Column) → SpellsColumn text x ts → column_at (length ts) ts ≡ Some (x, [])
  column_read ts x spells = all_read column_rises ts x spells

  pub table_read : (ts : List Token) (x : CreateTable) → SpellsTable text x ts → table_at (length ts) ts ≡ Some (x, [])
  table_read ts x spells = all_read table_rises ts x spells

  pub index_read : (ts : List Token) (x : CreateIndex) → SpellsIndex text x ts → index_at (length ts) ts ≡ Some (x, [])
  index_read ts x spells = all_read index_rises ts x spells

  pub view_read : (ts : List Token) (x : CreateView) → SpellsView text x ts → view_at (length ts) ts ≡ Some (x, [])
  view_read ts x spells = all_read view_rises ts x spells

  -- one tree at most spells the tokens
  pub one_column : (ts : List Token) (x y : Column) → SpellsColumn text x ts → SpellsColumn text y ts → x ≡ y
  one_column ts x y one other = only_one column_rises ts x y one other

  pub one_table : (ts : List Token) (x y : CreateTable) → SpellsTable text x ts → SpellsTable text y ts → x ≡ y
  one_table ts x y one other = only_one table_rises ts x y one other

  pub one_index : (ts : List Token) (x y : CreateIndex) → SpellsIndex text x ts → SpellsIndex text y ts → x ≡ y
  one_index ts x y one other = only_one index_rises ts x y one other

  pub one_view : (ts : List Token) (x y : CreateView) → SpellsView text x ts → SpellsView text y ts → x ≡ y
  one_view ts x y one other = only_one view_rises ts x y one other
