use Rattle.std.proofs.Common.{List, ℕ, refl, sym, ◌∙◌, subst}
use Rattle.alter_disk.specs.Changes.{IfTold}
use Rattle.alter_disk.specs.Faults.{Rose}
use Rattle.alter_disk.specs.Moments.{Leaves, ReadsQuietly}
use Rattle.alter_disk.specs.Uses.{ReadFailed, WriteFailed}
use Rattle.alter_session.specs.Session.{Holds, disk_of}
use Rattle.alter_cli.specs.First.{first_rules}
use Rattle.alter_cli.specs.Given.{WroteFront}
use Rattle.alter_cli.specs.Left.{left_on}
use Rattle.alter_cli.specs.Stops.{NotRun, OpensAround}
use Rattle.alter_cli.proofs.FirstRun.{closed_each, failed_run, reads_refused}
use Rattle.alter_cli.proofs.run.run_command.Goals as goal

pub returns-in-Done-clause-stop : goal.returns-in-Done-clause-stop
returns-in-Done-clause-stop g c = (
  c.in-Err.ensures.cause.failed,
  (
    c.in-Done.answer.verdict,
    (λ last holds. let step = c.in-Done.ensures.applied last holds in (step.last, step.step, closed_each g.D.Disk step.last c.in-Done.session c.close.result c.close.ensures step.holds)),
    subst (λ (l : List ℕ). IfTold (g.K.Sink.written c.args.out.now) (λ w. WroteFront w l (g.K.Sink.written c.print.new.out)))
        (c.as_bytes.ensures.value ∙ c.in-Done.ensures.line) c.in-Err.ensures.front,
    λ none. subst (ReadsQuietly g.D.Disk (disk_of c.args.session)) (sym c.close.ensures)
        (reads_refused g.D.Disk c.in-Done.answer.verdict (disk_of c.args.session) (disk_of c.in-Done.session) c.in-Done.ensures.quiet none),
  ),
)

pub returns-in-Done-clause-stops : goal.returns-in-Done-clause-stops
returns-in-Done-clause-stops g c = λ image holds.
    subst (λ d. Leaves g.D.Disk (disk_of c.args.session) d (OpensAround first_rules image c.args.command.now)) (sym c.close.ensures)
    (c.in-Done.ensures.stops image holds)

pub returns-in-Ok-clause-makes : goal.returns-in-Ok-clause-makes
returns-in-Ok-clause-makes g c = λ last holds. let step = c.in-Done.ensures.applied last holds in (step.last, step.step, step.holds)

pub returns-in-Memory-clause-stop : goal.returns-in-Memory-clause-stop
returns-in-Memory-clause-stop g c = (
  (λ image holds. closed_each g.D.Disk image c.in-Memory.session c.close-in-Memory.result c.close-in-Memory.ensures (c.in-Memory.ensures.applied image holds)),
  refl,
  subst (ReadsQuietly g.D.Disk (disk_of c.args.session)) (sym c.close-in-Memory.ensures) c.in-Memory.ensures.quiet,
)

pub returns-in-Memory-clause-stops : goal.returns-in-Memory-clause-stops
returns-in-Memory-clause-stops g c = λ image holds.
    subst (λ d. Leaves g.D.Disk (disk_of c.args.session) d (OpensAround first_rules image c.args.command.now)) (sym c.close-in-Memory.ensures)
    (c.in-Memory.ensures.stops image holds)

pub returns-clause-stop : goal.returns-clause-stop
returns-clause-stop g c =
    let sunk = Rose (g.K.Sink.faults c.args.out.now) (g.K.Sink.faults c.args.out.now) in
    let had = g.K.Sink.written c.args.out.now in
    subst (NotRun first_rules (ReadFailed g.D.Disk (disk_of c.args.session) c.in-Failed.disk) (WriteFailed g.D.Disk (disk_of c.args.session) c.in-Failed.disk)
    sunk (ReadsQuietly g.D.Disk (disk_of c.args.session) c.in-Failed.disk) (λ image. Holds g.D.Disk image c.args.session) c.args.number c.args.command.now (left_on g.D.Disk c.in-Failed.disk) had had) (sym c.stop_of_way.ensures)
    (failed_run g.D.Disk g.met.D.Disk.counts_now g.met.D.Disk.only_now sunk c.args.session c.in-Failed.disk c.in-Failed.way c.args.number c.args.command.now had
    c.in-Failed.ensures.quiet c.in-Failed.ensures.cause c.in-Failed.ensures.stops c.in-Failed.ensures.applied)
