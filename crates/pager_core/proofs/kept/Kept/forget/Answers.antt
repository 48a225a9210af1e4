use Rattle.std.proofs.Common.{ap, map, ◌∙◌}
use Rattle.pager_core.specs.Slots.{forgotten}
use Rattle.pager_core.proofs.KeptLemmas.{left_forgets, left_kept}
use Rattle.pager_core.proofs.kept.Kept.forget.Goals as goal

pub invariant_of-self : goal.invariant_of-self
invariant_of-self c = left_kept _ _ c.self.invariant (c.forget_all.ensures ∙ ap (map forgotten) c.truncate.ensures.items)

pub returns : goal.returns
returns c = rw (← c.self.view_is) (left_forgets _ _ (c.forget_all.ensures ∙ ap (map forgotten) c.truncate.ensures.items))
