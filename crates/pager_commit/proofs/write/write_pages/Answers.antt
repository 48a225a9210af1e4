use Rattle.std.proofs.Common.{sym, subst}
use Rattle.std.proofs.lemmas.Result.{on_ok_weaker}
use Rattle.alter_disk.specs.declared.which.Which.TheVariants.{Db, Journal}
use Rattle.alter_disk.specs.Moments.{Reads, Rests}
use Rattle.pager_core.specs.Pages.{bytes_of, is_changed, shape_of}
use Rattle.pager_commit.specs.Stages.{written_upto}
use Rattle.pager_commit.proofs.write.write_pages.Goals as goal

pub returns-clause-done : goal.returns-clause-done
returns-clause-done g c =
    let pages = c.args.pages.now in
    on_ok_weaker c.sync_database.result (λ done base log rests.
    let writes = c.in_ok-write_changed.ensures.written base log rests in
    let after = written_upto (is_changed pages) (bytes_of pages) (shape_of pages).page (shape_of pages).count base in
    done after log (subst (Reads g.D.Disk Db after) (sym c.disk.ensures.disk) writes.reads) (subst (Rests g.D.Disk Journal log) (sym c.disk.ensures.disk) writes.journal)) c.sync_database.ensures.done
