use Rattle.std.proofs.Common.{arith, ◌≡◌, ◌&&◌, ◌+◌, take, refl, sym, ◌∙◌, ap, subst}
use Rattle.alter_disk.specs.Faults.{Rose}
use Rattle.alter_disk.specs.Moments.{Leaves, ReadsQuietly}
use Rattle.alter_disk.specs.Uses.{ReadFailed, WriteFailed}
use Rattle.plain_schema.specs.Verdicts.{is_done}
use Rattle.alter_session.specs.Session.{Holds, disk_of}
use Rattle.alter_cli.specs.First.{first_rules}
use Rattle.alter_cli.specs.Left.{left_on}
use Rattle.alter_cli.specs.Stops.{IsReachedBy, OpensAround}
use Rattle.alter_disk.proofs.Moments.{goes_far, reads_none, reads_on, started, stays_none, stays_on, weaker}
use Rattle.alter_cli.proofs.Printed.{gave_more, gave_none}
use Rattle.alter_cli.proofs.FirstRun.{closed_each, reached_stop, reads_refused}
use Rattle.alter_cli.proofs.Reached.{Reached, is_next, may_reach, reached_all, reached_more, reached_none}
use Rattle.alter_cli.proofs.run.run_commands.Goals as goal
use Rattle.alter_cli.proofs.run.run_commands.Goals.{then-all_done, else-all_done}

pub loop-command-init : goal.loop-command-init
loop-command-init g c = record {
  reached = λ image holds. reached_none first_rules (ReadsQuietly g.D.Disk (disk_of c.args.session) (disk_of c.args.session)) (λ i. Holds g.D.Disk i c.args.session)
      (g.K.Sink.written c.args.out.now) image (reads_none g.D.Disk (disk_of c.args.session)) holds;
  stops = λ image holds. started g.D.Disk (disk_of c.args.session) (IsReachedBy first_rules image c.args.commands.now);
  ready = c.requires.ready;
  number = refl;
  printed = gave_none (g.K.Sink.written c.args.out.now);
  stays = stays_none g.D.Disk (disk_of c.args.session);
  reading = refl;
  writing = refl;
  sink = refl;
}

pub returns-in-Err-clause-stop : goal.returns-in-Err-clause-stop
returns-in-Err-clause-stop g c = λ image holds.
    let d = c.in-Err.field-0.disk in
    let inv = c.loop-command.invariant in
    let next = is_next c.args.commands.now c.loop-command.command-index c.loop-command.number c.command-item.result inv.number c.loop-command-test.true c.command-item.is in
    reached_stop (ReadFailed g.D.Disk (disk_of c.loop-command.session) d) (WriteFailed g.D.Disk (disk_of c.loop-command.session) d)
    (Rose (g.K.Sink.faults c.loop-command.out) (g.K.Sink.faults c.run_command.new.out)) (ReadFailed g.D.Disk (disk_of c.args.session) d)
    (WriteFailed g.D.Disk (disk_of c.args.session) d) (Rose (g.K.Sink.faults c.args.out.now) (g.K.Sink.faults c.run_command.new.out))
    (ReadsQuietly g.D.Disk (disk_of c.args.session) (disk_of c.loop-command.session)) (ReadsQuietly g.D.Disk (disk_of c.loop-command.session) d)
    (ReadsQuietly g.D.Disk (disk_of c.args.session) d) (λ i. Holds g.D.Disk i c.loop-command.session) image c.args.commands.now (g.K.Sink.written c.args.out.now) (g.K.Sink.written c.loop-command.out)
    (g.K.Sink.written c.run_command.new.out) c.loop-command.command-index (c.loop-command.number + 1) c.command-item.result (left_on g.D.Disk d)
    c.loop-command.all_done c.in-Err.field-0.stop (λ r. omega (arith, inv.stays.reads, r)) (λ r. omega (arith, inv.stays.writes, r))
    (λ r. omega (arith, inv.sink, r)) (reads_on g.D.Disk (disk_of c.args.session) (disk_of c.loop-command.session) d) next c.in-Err.ensures.stop (inv.reached image holds)

pub returns-in-Err-clause-stops : goal.returns-in-Err-clause-stops
returns-in-Err-clause-stops g c = λ image holds.
    let d = c.in-Err.field-0.disk in
    let inv = c.loop-command.invariant in
    let next = is_next c.args.commands.now c.loop-command.command-index c.loop-command.number c.command-item.result inv.number c.loop-command-test.true c.command-item.is in
    let reached = inv.reached image holds in
    goes_far g.D.Disk (disk_of c.args.session) (disk_of c.loop-command.session) d (IsReachedBy first_rules image c.args.commands.now) (inv.stops image holds)
    (weaker g.D.Disk (disk_of c.loop-command.session) d (OpensAround first_rules reached.last c.command-item.result) (IsReachedBy first_rules image c.args.commands.now)
    (may_reach first_rules (ReadsQuietly g.D.Disk (disk_of c.args.session) (disk_of c.loop-command.session)) (λ i. Holds g.D.Disk i c.loop-command.session) image c.args.commands.now (g.K.Sink.written c.args.out.now) c.loop-command.command-index
    (c.loop-command.number + 1) c.command-item.result (g.K.Sink.written c.loop-command.out) (g.K.Sink.written c.run_command.new.out) c.loop-command.all_done next reached)
    (c.in-Err.ensures.stops reached.last reached.of))

pub loop-command-preserved : goal.loop-command-preserved
loop-command-preserved g c =
    let inv = c.loop-command.invariant in
    let next = is_next c.args.commands.now c.loop-command.command-index c.loop-command.number c.command-item.result inv.number c.loop-command-test.true c.command-item.is in
    let verdict = c.in-Ok.field-0.verdict in
    let session = c.in-Ok.field-0.session in
    let given = g.K.Sink.written c.args.out.now in
    let had = g.K.Sink.written c.loop-command.out in
    let now = g.K.Sink.written c.run_command.new.out in
    let all : (c.loop-command.all_done && is_done verdict) ≡ c.if-all_done.all_done =
    elim c.if-all_done.branch [
      | then-all_done w ↦ ap (λ b. b && is_done verdict) w.if-all_done.true ∙ sym (w.all_done-is ∙ w.is_done-all_done.ensures)
      | else-all_done w ↦ ap (λ b. b && is_done verdict) w.if-all_done.false ∙ sym w.if-all_done.false ∙ sym w.all_done-is
    ] in
    record {
      reached = λ image holds.
          subst (Reached first_rules (ReadsQuietly g.D.Disk (disk_of c.args.session) (disk_of session)) (λ i. Holds g.D.Disk i session) image (take (c.loop-command.command-index + 1) c.args.commands.now) given now) all
          (reached_more first_rules (ReadsQuietly g.D.Disk (disk_of c.args.session) (disk_of c.loop-command.session)) (λ i. Holds g.D.Disk i c.loop-command.session) image c.args.commands.now given c.loop-command.command-index
          (c.loop-command.number + 1) c.command-item.result had now c.loop-command.all_done next (inv.reached image holds)
          (ReadsQuietly g.D.Disk (disk_of c.args.session) (disk_of session)) (λ i. Holds g.D.Disk i session) verdict
          (λ quiet none. reads_on g.D.Disk (disk_of c.args.session) (disk_of c.loop-command.session) (disk_of session) quiet
          (reads_refused g.D.Disk verdict (disk_of c.loop-command.session) (disk_of session) c.in-Ok.ensures.quiet none)) c.in-Ok.ensures.makes c.in-Ok.ensures.line);
      stops = λ image holds.
          let reached = inv.reached image holds in
          goes_far g.D.Disk (disk_of c.args.session) (disk_of c.loop-command.session) (disk_of session) (IsReachedBy first_rules image c.args.commands.now)
          (inv.stops image holds)
          (weaker g.D.Disk (disk_of c.loop-command.session) (disk_of session) (OpensAround first_rules reached.last c.command-item.result)
          (IsReachedBy first_rules image c.args.commands.now)
          (may_reach first_rules (ReadsQuietly g.D.Disk (disk_of c.args.session) (disk_of c.loop-command.session)) (λ i. Holds g.D.Disk i c.loop-command.session) image c.args.commands.now given c.loop-command.command-index
          (c.loop-command.number + 1) c.command-item.result had now c.loop-command.all_done next reached) (c.in-Ok.ensures.stops reached.last reached.of));
      ready = c.in-Ok.ensures.ready;
      number = ap (λ n. n + 1) inv.number;
      printed = gave_more given had now c.loop-command.command-index (c.loop-command.number + 1) verdict c.loop-command.all_done c.if-all_done.all_done
          (ap (λ n. n + 1) inv.number) all c.in-Ok.ensures.line inv.printed;
      stays = stays_on g.D.Disk (disk_of c.args.session) (disk_of c.loop-command.session) (disk_of session) inv.stays c.in-Ok.ensures.stays;
      reading = c.in-Ok.ensures.cause.reading.only (λ is. cc) ∙ inv.reading;
      writing = c.in-Ok.ensures.cause.writing.only (λ is. cc) ∙ inv.writing;
      sink = c.in-Ok.ensures.cause.printing.only (λ is. cc) ∙ inv.sink;
    }

pub returns-clause-ran : goal.returns-clause-ran
returns-clause-ran g c = λ image holds.
    reached_all first_rules (ReadsQuietly g.D.Disk (disk_of c.args.session) (disk_of c.loop-command.session)) (ReadsQuietly g.D.Disk (disk_of c.args.session) c.close.result) (λ i. Holds g.D.Disk i c.loop-command.session) image c.args.commands.now (g.K.Sink.written c.args.out.now) (g.K.Sink.written c.loop-command.out)
    (left_on g.D.Disk c.close.result) c.loop-command.command-index c.loop-command.all_done (omega arith)
    (λ quiet. subst (ReadsQuietly g.D.Disk (disk_of c.args.session)) (sym c.close.ensures) quiet)
    (λ i is. closed_each g.D.Disk i c.loop-command.session c.close.result c.close.ensures is) (c.loop-command.invariant.reached image holds)

pub returns-clause-stops : goal.returns-clause-stops
returns-clause-stops g c = λ image holds.
    subst (λ d. Leaves g.D.Disk (disk_of c.args.session) d (IsReachedBy first_rules image c.args.commands.now)) (sym c.close.ensures)
    (c.loop-command.invariant.stops image holds)
