use Rattle.std.proofs.Common.{refl, arith}
use Rattle.std.proofs.lemmas.Option.{slice_get_within}
use Rattle.name_scope.specs.Rank.{IsBehind}
use Rattle.name_scope.proofs.Below.{up_to}
use Rattle.name_scope.proofs.rank.is_least.Goals as goal

pub loop-at-preserved : goal.loop-at-preserved
loop-at-preserved c = up_to (IsBehind c.args.seen.now c.args.place) c.loop-at.at c.loop-at.invariant (c.is_behind.ensures.0 c.if-not-is_behind.false)

pub returns : goal.returns
returns c = (
  λ yes. record {
    there = c.requires;
    nearest = λ at target other apart here is. c.loop-at.invariant at (omega (arith, slice_get_within c.args.seen.now at other is, c.loop-at-test.false)) target other apart here is;
  },
  λ denotes. refl,
)
