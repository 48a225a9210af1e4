use Rattle.pager_core.proofs.PagesLemmas.{settles_changes}
use Rattle.pager_core.proofs.pages.Pages.settle.Goals as goal

pub returns : goal.returns
returns g c = settles_changes g.D.Disk c.args.self.now _ c.settle.ensures
