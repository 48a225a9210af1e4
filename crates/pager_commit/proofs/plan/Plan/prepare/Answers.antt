use Rattle.pager_core.specs.Pages.{disk_of}
use Rattle.pager_commit.proofs.Made.{made_plan, made_size}
use Rattle.pager_commit.proofs.plan.Plan.prepare.Goals as goal

pub invariant_of-result : goal.invariant_of-result
invariant_of-result g c =
    made_size c.args.pages.now (g.D.Disk.files (disk_of c.args.pages.now)) _ _ c.in_ok-journal.ensures.journal c.in_ok-add_records.ensures.added c.start_journal.ensures.sound c.start_journal.ensures.within.1

pub returns-clause-plan : goal.returns-clause-plan
returns-clause-plan g c = λ f is. made_plan c.args.pages.now (g.D.Disk.files (disk_of c.args.pages.now)) _ _ c.in_ok-journal.ensures.journal c.in_ok-add_records.ensures.added c.start_journal.ensures.sound c.start_journal.ensures.within c.start_journal.ensures.added f is
