use Rattle.std.proofs.Common.{arith, sym, ◌∙◌}
use Rattle.pager_core.proofs.Sound.{accepted_length}
use Rattle.pager_core.proofs.file_shape.shape.Goals as goal

pub shape_of-requires-in-None-clause-header : goal.shape_of-requires-in-None-clause-header
shape_of-requires-in-None-clause-header c = let long = accepted_length c.args.first.now c.args.len (sym c.first_refusal.ensures ∙ c.in-None.is) in omega (arith, c.requires)
