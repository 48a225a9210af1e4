use Rattle.std.proofs.Common.{sym, ap, ◌∙◌, subst, ◌++◌, ◌∷◌, ◌-◌, [], List, ℕ, length, take, drop}
use Rattle.std.proofs.lemmas.Bool.{both_ways}
use Rattle.plain_sql.proofs.ColumnsLemmas.{LeadsTo, leads_on, leads_to_end_only, leads_to_no_column, leads_to_no_comma}
use Rattle.common_laws.proofs.Lists.{first_or, none_below}
use Rattle.plain_sql.proofs.table.read_columns.Goals as goal

pub returns-in_default-clause-only : goal.returns-in_default-clause-only
returns-in_default-clause-only c = λ all. leads_to_no_column _ _ _ _ all c.loop-name.invariant c.in_default.ensures.none

pub returns-in_default-others-clause-only : goal.returns-in_default-others-clause-only
returns-in_default-others-clause-only c = λ all columns.
    c.in_ok-push.ensures.ok
    ∙ ap (λ name. c.loop-name.names ++ name ∷ []) c.in_ok-from_slice.ensures
    ∙ leads_to_end_only _ _ _ _ _ _ all c.loop-name.invariant c.in-Some.ensures.found (none_below _ c.in_default-others.len_below) columns

pub returns-then-not-is_sign-clause-only : goal.returns-then-not-is_sign-clause-only
returns-then-not-is_sign-clause-only c = λ all.
    leads_to_no_comma _ _ _ _ _ _ _ _ all c.loop-name.invariant c.in-Some.ensures.found (first_or c.in-Some.others.now _ c.in-len1-up.len_at_least)
    (λ is. both_ways _ c.if-not-is_sign.true (c.is_sign.ensures.1 is))

pub loop-name-preserved : goal.loop-name-preserved
loop-name-preserved c =
    let names = c.in_ok-push.ensures.ok ∙ ap (λ name. c.loop-name.names ++ name ∷ []) c.in_ok-from_slice.ensures in
    let others = c.in-Some.others.now in
    let P : List (List ℕ) → Type 0 = λ n. LeadsTo c.args.text.now c.args.tokens.now n (take (length others - 1) (drop 1 others)) in
    subst P (sym names)
    (leads_on _ _ _ others _ _ _ _ c.loop-name.invariant c.in-Some.ensures.found (first_or others _ c.in-len1-up.len_at_least)
    (c.is_sign.ensures.0 c.if-not-is_sign.false))
