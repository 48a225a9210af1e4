use Rattle.pager_core.specs.Pages.{disk_of}
use Rattle.alter_session.proofs.Staging.{committed, page_stops, quiet_stops}
use Rattle.alter_session.proofs.commit.commit_page.Goals as goal

pub returns-in-Ok-clause-done : goal.returns-in-Ok-clause-done
returns-in-Ok-clause-done g c = λ image clean gives.
    committed g.D.Disk image c.args.page.now c.in_ok-plan.plan c.stage.new.pages c.commit.new.pages (c.in_ok-plan.ensures.staged image clean gives)
    c.in-Ok.ensures.done c.in-Ok.ensures.settled c.commit.ensures.telling

pub returns-in-Ok-clause-stops : goal.returns-in-Ok-clause-stops
returns-in-Ok-clause-stops g c = λ image clean gives.
    page_stops g.D.Disk image c.args.page.now c.in_ok-plan.plan c.stage.new.pages c.commit.new.pages (c.in_ok-plan.ensures.staged image clean gives) c.args.pages.now
    (quiet_stops g.D.Disk image c.args.pages.now (disk_of c.stage.new.pages) clean c.stage.ensures.reads) c.commit.ensures.stops

pub returns-in-Err-clause-stops : goal.returns-in-Err-clause-stops
returns-in-Err-clause-stops g c = λ image clean gives.
    page_stops g.D.Disk image c.args.page.now c.in_ok-plan.plan c.stage.new.pages c.commit.new.pages (c.in_ok-plan.ensures.staged image clean gives) c.args.pages.now
    (quiet_stops g.D.Disk image c.args.pages.now (disk_of c.stage.new.pages) clean c.stage.ensures.reads) c.commit.ensures.stops
