use Rattle.pager_core.specs.Slots.{forgotten}
use Rattle.pager_core.proofs.KeptLemmas.{mapped_more}
use Rattle.pager_core.proofs.kept.forget_all.Goals as goal

pub loop-n-preserved : goal.loop-n-preserved
loop-n-preserved c = mapped_more forgotten _ _ _ _ _ _ c.loop-n-test.true c.loop-n.invariant c.index_mut.ensures.value c.forget.ensures
