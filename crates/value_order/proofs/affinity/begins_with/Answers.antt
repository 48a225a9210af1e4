use Rattle.std.proofs.Common.{arith}
use Rattle.std.proofs.lemmas.Bool.{false≢true}
use Rattle.value_order.proofs.Found.{begins_from, begins_to, begins_fits}
use Rattle.value_order.proofs.affinity.begins_with.Goals as goal

pub returns-then-text-word : goal.returns-then-text-word
returns-then-text-word c = (λ wrong. absurd (false≢true wrong), λ begins. absurd (omega (arith, begins_fits c.args.word.now c.args.text.now begins)))

pub returns : goal.returns
returns c = (
  λ same. begins_from c.args.word.now c.args.text.now c.requires (c.same_name.ensures.0 same),
  λ begins. c.same_name.ensures.1 (begins_to c.args.word.now c.args.text.now c.requires begins),
)
