use Rattle.std.proofs.Common.{refl}
use Rattle.std.proofs.lemmas.Result.{on_ok_weaker}
use Rattle.pager_core.proofs.WriteLemmas.{known-written}
use Rattle.pager_core.proofs.pages.Pages.write_back.Goals as goal

pub returns-clause-known : goal.returns-clause-known
returns-clause-known g c =
    on_ok_weaker c.write.result (known-written g.D.Disk c.args.self.now _ c.args.n _ _ refl c.placed-at.ensures.place c.placed-at.ensures.bytes c.placed-at.ensures.page.0 c.placed-at.ensures.page.1) c.write.ensures.written
