-- The laws of what is read level by level: trees of less than a height are read, and as many levels as tokens are enough.
use Rattle.std.proofs.Common.{List, None, Option, Some, [], ap, arith, false, inl, length, refl, subst, suc, sym, true, zero, ℕ, ⊎_elim, ◌++◌, ◌+◌, ◌<◌, ◌∙◌, ◌∷◌, ◌≡◌, ◌≤◌}
use Rattle.std.proofs.lemmas.Bool.{both_ways, cases_lt}
use Rattle.std.proofs.lemmas.List.{append-nil}
use Rattle.sql_token.specs.Spelled.{one}
use Rattle.sql_token.specs.declared.token.Token.{Token}
use Rattle.sql_expr.proofs.Heights.{higher}
use Rattle.sql_expr.specs.Rules.{IsExprAt, IsSelectAt, SpellsExpr, SpellsSelect, UsualAt}
use Rattle.sql_expr.specs.Tree.{expr_tokens, select_tokens}
use Rattle.sql_expr.specs.declared.expr.Expr.{Expr}
use Rattle.sql_expr.specs.declared.select.Select.{Select}
use Rattle.sql_reader.proofs.Laws.{Reads}
use Rattle.sql_reader.proofs.Outcomes.{reach, same_outcome}
use Rattle.sql_reader.specs.Looks.{Look}
use Rattle.sql_reader.specs.Reading.{Read, Reading, child}
use Rattle.sql_reader.specs.Sorts.{sort_of}
use Rattle.sql_reader.specs.declared.sort.Sort.{Sort}
use Rattle.query_reading.proofs.LeafLaws.{Nested, column_name_fits}
use Rattle.query_reading.proofs.OperandLaws.{expr_level_reads}
use Rattle.query_reading.proofs.SelectLaws.{select_level_reads}
use Rattle.query_reading.proofs.SourceLaws.{sources_level_reads}
use Rattle.query_reading.specs.Exprs.{Inner}
use Rattle.query_reading.specs.Levels.{read_at}

-- nothing is read without a level
none_reads : {sort : Token → Sort} {A : Type 0} {P : A → Type 0} {f : A → List Token} {starts goes_on : Look} {twin : Read A}
    → ((x : A) → P x → ⊥) → twin [] ≡ None → Reads sort A P P f 0 (child starts goes_on (λ _. None)) twin
none_reads {twin = twin} never empty =
    record {
      sound = λ ts x rest e. absurd (cc);
      size = λ _ ts x rest e. absurd (cc);
      begins = λ x rest h clear. absurd (never x h);
      complete = λ x rest h clear. absurd (never x h);
      alike = λ ts most. at ts most;
    }
  where
    at : (ts : List Token) → length ts ≤ 0 → None ≡ twin ts
    at [] most = sym empty
    at (t ∷ ts) most = absurd (omega arith)

-- what takes a token reads nothing where there is none
reads_none : {sort : Token → Sort} {A : Type 0} {P C : A → Type 0} {f : A → List Token} {n : ℕ} {r : Reading sort A} {twin : Read A}
    → Reads sort A P C f n r twin → r.nullable ≡ false → r.read [] ≡ None
reads_none {A = A} {r = r} laws some = at (r.read []) refl
  where
    at : (o : Option (A × List Token)) → r.read [] ≡ o → r.read [] ≡ None
    at None e = e
    at (Some p) e = let less : length p.1 < 0 = laws.size some [] p.0 p.1 e in absurd (omega arith)

-- what was read behind a token is handed in to the next level: it agrees with its twin on one token more
as_child : {sort : Token → Sort} {A : Type 0} {P C : A → Type 0} {f : A → List Token} {n : ℕ} {r : Reading sort A} {twin : Read A}
    → Reads sort A P C f n r twin → r.nullable ≡ false → r.guarded ≡ true
    → Reads sort A P C f (suc n) (child r.starts r.goes_on r.read) twin
as_child {n = n} {r = r} laws some guarded =
    record {
      sound = laws.sound;
      size = λ _. laws.size some;
      begins = λ x rest h clear.
          ⊎_elim (λ s. inl s) (λ none. absurd (both_ways r.nullable some none.0)) (laws.begins x rest h clear);
      complete = laws.complete;
      alike = λ ts most. laws.alike ts (subst (λ g. length ts ≤ reach g n) (sym guarded) most);
    }

module _ (text : List ℕ) where
  abbrev sort : Token → Sort
  sort = sort_of text

  -- without a level, whatever the twin reads where there is a token
  none_nested : (twin : Inner) → twin.expr [] ≡ None → twin.select [] ≡ None → twin.sources [] ≡ None
      → Nested text 0 (UsualAt text 0) (read_at sort 0) twin
  none_nested twin no_expr no_select no_sources =
      record {
        column = column_name_fits text;
        expr = none_reads (λ x h. h) no_expr;
        select = none_reads (λ x h. h) no_select;
        sources = none_reads (λ x h. h) no_sources;
      }

  -- what the readings of each level read
  pub nested_at : (n : ℕ) → Nested text n (UsualAt text n) (read_at sort n) (read_at sort (suc n))
  nested_at zero =
      let bare = none_nested (read_at sort 0) refl refl refl in
      none_nested (read_at sort 1) (reads_none (expr_level_reads bare) refl) (reads_none (select_level_reads bare) refl)
      (reads_none (sources_level_reads bare) refl)
  nested_at (suc n) =
      let below = nested_at n in
      record {
        column = column_name_fits text;
        expr = as_child (expr_level_reads below) refl refl;
        select = as_child (select_level_reads below) refl refl;
        sources = as_child (sources_level_reads below) refl refl;
      }

  -- as many levels as tokens are as good as more
  expr_enough : (n m : ℕ) (ts : List Token) → length ts ≤ n → n ≤ m → (read_at sort n).expr ts ≡ (read_at sort m).expr ts
  expr_enough n zero ts most fewer = let same : n ≡ 0 = omega (arith, fewer) in ap (λ k. (read_at sort k).expr ts) same
  expr_enough n (suc m) ts most fewer =
      let next = nested_at m in
      let laws = next.expr in
      ⊎_elim (λ less. expr_enough n m ts most (omega arith) ∙ laws.alike ts (omega arith))
      (λ most. let same : n ≡ suc m = omega arith in ap (λ k. (read_at sort k).expr ts) same)
      (cases_lt n (suc m))

  select_enough : (n m : ℕ) (ts : List Token) → length ts ≤ n → n ≤ m → (read_at sort n).select ts ≡ (read_at sort m).select ts
  select_enough n zero ts most fewer = let same : n ≡ 0 = omega (arith, fewer) in ap (λ k. (read_at sort k).select ts) same
  select_enough n (suc m) ts most fewer =
      let next = nested_at m in
      let laws = next.select in
      ⊎_elim (λ less. select_enough n m ts most (omega arith) ∙ laws.alike ts (omega arith))
      (λ most. let same : n ≡ suc m = omega arith in ap (λ k. (read_at sort k).select ts) same)
      (cases_lt n (suc m))

  -- what is read of all tokens spells them
  pub expr_spelled : (n : ℕ) (ts : List Token) (x : Expr) → (read_at sort n).expr ts ≡ Some (x, []) → SpellsExpr text x ts
  expr_spelled n ts x e =
      let at = nested_at n in
      let laws = at.expr in
      let so : IsExprAt text n x × (ts ≡ expr_tokens x ++ []) = laws.sound ts x [] e in
      ((n, so.0), so.1 ∙ append-nil (expr_tokens x))

  pub select_spelled : (n : ℕ) (ts : List Token) (x : Select) → (read_at sort n).select ts ≡ Some (x, []) → SpellsSelect text x ts
  select_spelled n ts x e =
      let at = nested_at n in
      let laws = at.select in
      let so : IsSelectAt text n x × (ts ≡ select_tokens x ++ []) = laws.sound ts x [] e in
      ((n, so.0), so.1 ∙ append-nil (select_tokens x))

  -- a tree that spells the tokens is read of them, with as many levels as tokens
  pub expr_read : (ts : List Token) (x : Expr) → SpellsExpr text x ts → (read_at sort (length ts)).expr ts ≡ Some (x, [])
  expr_read ts x spells =
      let n = length ts in
      let height = spells.0.0 in
      let wider = higher text height (height + n) (omega arith) in
      let at = nested_at (height + n) in
      let laws = at.expr in
      let whole : ts ≡ expr_tokens x ++ [] = spells.1 ∙ sym (append-nil (expr_tokens x)) in
      expr_enough n (height + n) ts (omega arith) (omega arith)
      ∙ ap (λ l. (read_at sort (height + n)).expr l) whole
      ∙ laws.complete x [] (wider.expr x spells.0.1) refl

  pub select_read : (ts : List Token) (x : Select) → SpellsSelect text x ts → (read_at sort (length ts)).select ts ≡ Some (x, [])
  select_read ts x spells =
      let n = length ts in
      let height = spells.0.0 in
      let wider = higher text height (height + n) (omega arith) in
      let at = nested_at (height + n) in
      let laws = at.select in
      let whole : ts ≡ select_tokens x ++ [] = spells.1 ∙ sym (append-nil (select_tokens x)) in
      select_enough n (height + n) ts (omega arith) (omega arith)
      ∙ ap (λ l. (read_at sort (height + n)).select l) whole
      ∙ laws.complete x [] (wider.select x spells.0.1) refl

  -- one tree at most spells the tokens
  pub one_expr : (ts : List Token) (x y : Expr) → SpellsExpr text x ts → SpellsExpr text y ts → x ≡ y
  one_expr ts x y one other = (same_outcome x y [] [] (sym (expr_read ts x one) ∙ expr_read ts y other)).0

  pub one_select : (ts : List Token) (x y : Select) → SpellsSelect text x ts → SpellsSelect text y ts → x ≡ y
  one_select ts x y one other = (same_outcome x y [] [] (sym (select_read ts x one) ∙ select_read ts y other)).0
