use Rattle.std.proofs.Common.{◌⊎◌}
use Rattle.std.proofs.lemmas.Result.{on_ok_weaker}
use Rattle.alter_disk.specs.Moments.{Leaves}
use Rattle.pager_core.specs.Pages.{disk_of, shape_of}
use Rattle.pager_commit.specs.Opens.{Opens}
use Rattle.alter_session.specs.Committing.{IsClean}
use Rattle.alter_session.proofs.Carried.{carried_so}
use Rattle.alter_session.proofs.carry.carry_out.Goals as goal

pub returns-in-Changed-clause-done : goal.returns-in-Changed-clause-done
returns-in-Changed-clause-done g c = on_ok_weaker c.commit_page.result (λ done image clean gives.
    carried_so (shape_of c.args.pages.now) c.args.plan.now c.in-Changed.change _ image (λ i. IsClean g.D.Disk i c.commit_page.new.pages) c.in-Changed.is c.as_slice.ensures (done image clean) gives) c.commit_page.ensures.done

pub returns-in-Changed-clause-stops : goal.returns-in-Changed-clause-stops
returns-in-Changed-clause-stops g c = λ image clean gives.
    carried_so (shape_of c.args.pages.now) c.args.plan.now c.in-Changed.change _ image (λ i. Leaves g.D.Disk (disk_of c.args.pages.now) (disk_of c.commit_page.new.pages) (λ c. Opens image c ⊎ Opens i c))
    c.in-Changed.is c.as_slice.ensures (c.commit_page.ensures.stops image clean) gives
