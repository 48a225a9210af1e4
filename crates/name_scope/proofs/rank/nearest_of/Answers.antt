use Rattle.std.proofs.Common.{nat_eq, length, ap, ◌∙◌, arith}
use Rattle.std.proofs.lemmas.Bool.{both_ways}
use Rattle.name_scope.specs.Rank.{Denotes}
use Rattle.name_scope.proofs.Below.{up_to}
use Rattle.name_scope.proofs.rank.nearest_of.Goals as goal

pub loop-place-preserved : goal.loop-place-preserved
loop-place-preserved c =
    up_to (λ p. ¬ Denotes c.args.seen.now p) c.loop-place.place c.loop-place.invariant (λ least. both_ways _ c.if-is_least.false (c.is_least.ensures.1 least))

pub returns : goal.returns
returns c = (
  λ none. both_ways _ c.if-is_empty.false (c.is_empty.ensures ∙ ap (λ l. nat_eq (length l) 0) none),
  λ place least. c.loop-place.invariant place (omega (arith, least.there, c.loop-place-test.false)) least,
)
