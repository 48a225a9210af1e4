use Rattle.pager_core.proofs.KeptLemmas.{kept_settled, settles_so}
use Rattle.pager_core.proofs.kept.Kept.settle.Goals as goal

pub invariant_of-self : goal.invariant_of-self
invariant_of-self c = kept_settled _ _ c.self.invariant c.settle_all.ensures

pub returns : goal.returns
returns c = rw (← c.self.view_is) (settles_so _ _ c.settle_all.ensures)
