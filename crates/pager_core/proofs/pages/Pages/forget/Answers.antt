use Rattle.pager_core.proofs.PagesLemmas.{forgets_changes}
use Rattle.pager_core.proofs.pages.Pages.forget.Goals as goal

pub returns : goal.returns
returns g c = forgets_changes g.D.Disk c.args.self.now _ c.forget.ensures
