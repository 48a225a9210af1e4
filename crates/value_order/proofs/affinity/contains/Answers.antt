use Rattle.std.proofs.Common.{refl}
use Rattle.value_order.proofs.Found.{in_front, step}
use Rattle.value_order.proofs.affinity.contains.Goals as goal

pub loop-rest-preserved : goal.loop-rest-preserved
loop-rest-preserved c =
    step c.args.word.now c.args.text.now c.loop-rest.rest.now c.begins_with.result c.in-len1-up.len_at_least c.begins_with.ensures.1 c.loop-rest-test.true
    c.loop-rest.invariant

pub returns : goal.returns
returns c = (
  λ here. c.loop-rest.invariant.1 (in_front c.args.word.now c.loop-rest.rest.now (c.begins_with.ensures.0 c.loop-rest-test.false)),
  λ found. refl,
)
