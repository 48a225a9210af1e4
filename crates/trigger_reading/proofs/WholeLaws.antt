-- The laws of whole texts: a trigger that spells the tokens is read of them with as many levels as tokens, and no other spells them.
use Rattle.std.proofs.Common.{List, Some, [], ap, arith, length, refl, suc, sym, zero, ℕ, ⊎_elim, ◌++◌, ◌+◌, ◌∙◌, ◌≡◌, ◌≤◌}
use Rattle.std.proofs.lemmas.Bool.{cases_lt}
use Rattle.std.proofs.lemmas.List.{append-nil}
use Rattle.sql_token.specs.declared.token.Token.{Token}
use Rattle.sql_reader.proofs.Outcomes.{reach_least, same_outcome}
use Rattle.sql_reader.specs.Reading.{Read}
use Rattle.sql_reader.specs.Sorts.{sort_of}
use Rattle.sql_tree.proofs.Heights.{create_trigger_higher}
use Rattle.sql_tree.specs.Rules.{IsCreateTrigger, SpellsTrigger}
use Rattle.sql_tree.specs.Tokens.{create_trigger_tokens}
use Rattle.sql_tree.specs.declared.trigger.CreateTrigger.{CreateTrigger}
use Rattle.query_reading.proofs.LevelLaws.{nested_at}
use Rattle.query_reading.specs.Levels.{read_at}
use Rattle.trigger_reading.proofs.EndLaws.{selects_end_at}
use Rattle.trigger_reading.proofs.StatementLaws.{Given}
use Rattle.trigger_reading.proofs.TriggerLaws.{create_trigger_reads}
use Rattle.trigger_reading.specs.Triggers.{create_trigger, read_create_trigger}

-- what the readings of each level read
pub given_at : (text : List ℕ) (n : ℕ) → Given text n n (read_at (sort_of text) n) (read_at (sort_of text) (suc n))
given_at text n = record { nested = nested_at text n; ends = selects_end_at text n }

module _ (text : List ℕ) where
  -- the reading of a whole text with so many levels
  abbrev pub trigger_at : ℕ → Read CreateTrigger
  trigger_at n = read_create_trigger (sort_of text) (read_at (sort_of text) n)

  -- as many levels as tokens are as good as more
  trigger_enough : (n m : ℕ) (ts : List Token) → length ts ≤ n → n ≤ m → trigger_at n ts ≡ trigger_at m ts
  trigger_enough n zero ts most fewer = let same : n ≡ 0 = omega (arith, fewer) in ap (λ k. trigger_at k ts) same
  trigger_enough n (suc m) ts most fewer =
      let laws = create_trigger_reads (given_at text m) in
      ⊎_elim
      (λ less. trigger_enough n m ts most (omega arith)
      ∙ laws.alike ts (omega (arith, reach_least (create_trigger (sort_of text) (read_at (sort_of text) m)).guarded m)))
      (λ least. let same : n ≡ suc m = omega arith in ap (λ k. trigger_at k ts) same)
      (cases_lt n (suc m))

  -- what is read of all tokens spells them
  pub trigger_spelled : (n : ℕ) (ts : List Token) (x : CreateTrigger) → trigger_at n ts ≡ Some (x, []) → SpellsTrigger text x ts
  trigger_spelled n ts x e =
      let laws = create_trigger_reads (given_at text n) in
      let so : IsCreateTrigger text n x × (ts ≡ create_trigger_tokens x ++ []) = laws.sound ts x [] e in
      ((n, so.0), so.1 ∙ append-nil (create_trigger_tokens x))

  -- a trigger that spells the tokens is read of them, with as many levels as tokens
  pub trigger_read : (ts : List Token) (x : CreateTrigger) → SpellsTrigger text x ts → trigger_at (length ts) ts ≡ Some (x, [])
  trigger_read ts x spells =
      let n = length ts in
      let height = spells.0.0 in
      let laws = create_trigger_reads (given_at text (height + n)) in
      let whole : ts ≡ create_trigger_tokens x ++ [] = spells.1 ∙ sym (append-nil (create_trigger_tokens x)) in
      trigger_enough n (height + n) ts (omega arith) (omega arith)
      ∙ ap (λ l. trigger_at (height + n) l) whole
      ∙ laws.complete x [] (create_trigger_higher text height (height + n) (omega arith) x spells.0.1) refl

  -- one trigger at most spells the tokens
  pub one_trigger : (ts : List Token) (x y : CreateTrigger) → SpellsTrigger text x ts → SpellsTrigger text y ts → x ≡ y
  one_trigger ts x y one other = (same_outcome x y [] [] (sym (trigger_read ts x one) ∙ trigger_read ts y other)).0
