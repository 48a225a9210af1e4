use Rattle.pager_core.proofs.KeptLemmas.{adds_none}
use Rattle.pager_core.proofs.kept.fill.Goals as goal

pub loop-slots-init : goal.loop-slots-init
loop-slots-init c = adds_none _ _
