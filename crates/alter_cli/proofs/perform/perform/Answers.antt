use Rattle.std.proofs.Common.{◌∙◌, List, arith, subst}
use Rattle.alter_disk.specs.Faults.{Rose}
use Rattle.alter_disk.specs.Moments.{Leaves, ReadsQuietly}
use Rattle.alter_disk.specs.Outside.{Rises, rises, span}
use Rattle.alter_disk.specs.Uses.{ReadFailed, WriteFailed}
use Rattle.plain_sql.specs.declared.script.Command.{Command}
use Rattle.plain_schema.specs.Image.{Image}
use Rattle.alter_session.specs.Opening.{KeepsBytes}
use Rattle.alter_session.specs.Session.{Holds, disk_of}
use Rattle.alter_cli.specs.First.{first_rules}
use Rattle.alter_cli.specs.Left.{left_on}
use Rattle.alter_cli.specs.Stops.{CanRunTold, IsReachedBy}
use Rattle.alter_cli.proofs.FirstRun.{still_kept}
use Rattle.alter_cli.proofs.PerformLemmas.{Run_left, commands_ran, no_script, no_session}
use Rattle.alter_cli.proofs.StatusLemmas.{can_run_told, err_cause, ok_able, session_cause}
use Rattle.alter_cli.proofs.StopLemmas.{stopped_alike, stopped_none, stopped_run, unwritten_cold, unwritten_none, unwritten_opened, wider}
use Rattle.alter_cli.proofs.perform.perform.Given.{Over}
use Rattle.alter_cli.proofs.perform.perform.Goals as goal

pub returns-in-Err-clause-told : goal.returns-in-Err-clause-told
returns-in-Err-clause-told g c =
    no_script first_rules (rises (span g.S.Source g.D.Disk g.K.Sink (c.args.script.now, c.args.disk, c.args.out.now) (c.read_commands.new.script, c.args.disk, c.args.out.now)))
    (g.S.Source.left c.args.script.now) (g.S.Source.left c.read_commands.new.script) (left_on g.D.Disk c.args.disk) (g.K.Sink.written c.args.out.now)
    (g.D.Disk.called c.args.disk) c.in-Err.stop c.requires.fresh c.in-Err.ensures.told c.in-Err.ensures.stop

pub returns-in-Err-clause-stops : goal.returns-in-Err-clause-stops
returns-in-Err-clause-stops g c = stopped_none first_rules g.D.Disk (g.S.Source.left c.args.script.now) (g.D.Disk.files c.args.disk) c.args.disk

pub returns-in-Err-clause-unwritten : goal.returns-in-Err-clause-unwritten
returns-in-Err-clause-unwritten g c = unwritten_none first_rules g.D.Disk c.args.disk

-- what can be run
can : (g : Over) (c : goal.After-drop-commands g) → CanRunTold first_rules (g.S.Source.left c.args.script.now) (g.D.Disk.files c.args.disk)
can g c =
    can_run_told first_rules (g.S.Source.left c.args.script.now) (g.S.Source.left c.read_commands.new.script) (g.D.Disk.files c.args.disk) c.in-Ok.commands.items
    (λ image. Holds g.D.Disk image c.in-Ok-open_session.session) c.in-Ok.ensures.found c.in-Ok-open_session.ensures.opened

pub returns-in-Ok-open_session-clause-able : goal.returns-in-Ok-open_session-clause-able
returns-in-Ok-open_session-clause-able g c =
    ok_able first_rules (g.S.Source.left c.args.script.now) (g.D.Disk.files c.args.disk) c.run_commands.result.result (can g c)

pub returns-in-Ok-open_session-clause-cause : goal.returns-in-Ok-open_session-clause-cause
returns-in-Ok-open_session-clause-cause g c =
    let session = disk_of c.in-Ok-open_session.session in
    let d = c.run_commands.result.disk in
    let stays = c.in-Ok-open_session.ensures.stays in
    err_cause first_rules (rises (span g.S.Source g.D.Disk g.K.Sink (c.args.script.now, c.args.disk, c.args.out.now) (c.read_commands.new.script, d, c.run_commands.new.out)))
    (ReadFailed g.D.Disk session d) (WriteFailed g.D.Disk session d) (g.S.Source.left c.args.script.now) (g.D.Disk.files c.args.disk) c.run_commands.result.result
    (λ r. omega (arith, stays.reads, r)) (λ r. omega (arith, stays.writes, r)) (can g c) c.run_commands.ensures.cause

pub returns-in-Ok-open_session-clause-stops : goal.returns-in-Ok-open_session-clause-stops
returns-in-Ok-open_session-clause-stops g c =
    let session = disk_of c.in-Ok-open_session.session in
    let d = c.run_commands.result.disk in
    stopped_run first_rules g.D.Disk (g.S.Source.left c.args.script.now) (g.S.Source.left c.read_commands.new.script) (g.D.Disk.files c.args.disk) c.args.disk session d
    c.in-Ok.commands.items (λ image. Holds g.D.Disk image c.in-Ok-open_session.session) c.in-Ok.ensures.found c.in-Ok-open_session.ensures.opened
    c.in-Ok-open_session.ensures.stops
    (subst (λ (commands : List Command). (image : Image) → Holds g.D.Disk image c.in-Ok-open_session.session → Leaves g.D.Disk session d (IsReachedBy first_rules image commands))
    c.as_slice.ensures.value c.run_commands.ensures.stops)

pub returns-in-Ok-open_session-clause-unwritten : goal.returns-in-Ok-open_session-clause-unwritten
returns-in-Ok-open_session-clause-unwritten g c =
    unwritten_opened first_rules (g.D.Disk.files c.args.disk) (λ f. KeepsBytes g.D.Disk f c.args.disk c.run_commands.result.disk) (λ image. Holds g.D.Disk image c.in-Ok-open_session.session)
    c.in-Ok-open_session.ensures.opened

pub returns-clause-cause : goal.returns-clause-cause
returns-clause-cause g c =
    let d = c.in-Err-open_session.field-0.disk in
    session_cause first_rules (rises (span g.S.Source g.D.Disk g.K.Sink (c.args.script.now, c.args.disk, c.args.out.now) (c.read_commands.new.script, d, c.args.out.now)))
    (g.S.Source.left c.args.script.now) (g.S.Source.left c.read_commands.new.script) (left_on g.D.Disk c.args.disk) (left_on g.D.Disk d) c.in-Ok.commands.items
    c.in-Err-open_session.field-0.stop c.in-Ok.ensures.found c.in-Err-open_session.ensures.stop

pub returns-clause-stops : goal.returns-clause-stops
returns-clause-stops g c =
    stopped_alike first_rules g.D.Disk (g.S.Source.left c.args.script.now) (g.D.Disk.files c.args.disk) c.args.disk c.in-Err-open_session.field-0.disk
    c.in-Err-open_session.ensures.stops

pub returns-clause-unwritten : goal.returns-clause-unwritten
returns-clause-unwritten g c =
    unwritten_cold first_rules (g.D.Disk.files c.args.disk) (λ f. KeepsBytes g.D.Disk f c.args.disk c.in-Err-open_session.field-0.disk) c.in-Err-open_session.ensures.unwritten

pub returns-clause-told : goal.returns-clause-told
returns-clause-told g c =
    let d = c.in-Err-open_session.field-0.disk in
    no_session first_rules (rises (span g.S.Source g.D.Disk g.K.Sink (c.args.script.now, c.args.disk, c.args.out.now) (c.read_commands.new.script, d, c.args.out.now)))
    (g.S.Source.left c.args.script.now) (g.S.Source.left c.read_commands.new.script) (g.D.Disk.files c.args.disk) (g.D.Disk.may_leave c.args.disk) (left_on g.D.Disk d)
    (g.K.Sink.written c.args.out.now) (g.D.Disk.called d) c.in-Ok.commands.items c.in-Err-open_session.field-0.stop
    c.in-Err-open_session.ensures.stays.called c.in-Ok.ensures.found c.in-Err-open_session.ensures.stop

pub returns-in-Ok-open_session-clause-told : goal.returns-in-Ok-open_session-clause-told
returns-in-Ok-open_session-clause-told g c =
    let session = disk_of c.in-Ok-open_session.session in
    let d = c.run_commands.result.disk in
    let stays = c.in-Ok-open_session.ensures.stays in
    let given = g.K.Sink.written c.args.out.now in
    let now = g.K.Sink.written c.run_commands.new.out in
    let sunk = Rose (g.K.Sink.faults c.args.out.now) (g.K.Sink.faults c.run_commands.new.out) in
    let of : Image → Type 0 = λ image. Holds g.D.Disk image c.in-Ok-open_session.session in
    let rose : Rises = rises (span g.S.Source g.D.Disk g.K.Sink (c.args.script.now, c.args.disk, c.args.out.now) (c.read_commands.new.script, d, c.run_commands.new.out)) in
    let left : List Command → Type 0 = λ commands. Run_left first_rules (ReadFailed g.D.Disk session d) (WriteFailed g.D.Disk session d) sunk (ReadsQuietly g.D.Disk session d) of commands
    (left_on g.D.Disk d) given now c.run_commands.result.result in
    let ran : left c.as_slice.result.now = (c.run_commands.ensures.ran, c.run_commands.ensures.stop) in
    commands_ran first_rules rose (g.S.Source.left c.args.script.now) (g.S.Source.left c.read_commands.new.script) (g.D.Disk.files c.args.disk)
    (g.D.Disk.may_leave c.args.disk) (left_on g.D.Disk d) given now (g.D.Disk.called d) (ReadsQuietly g.D.Disk session d) c.in-Ok.commands.items of c.run_commands.result.result
    (c.run_commands.ensures.stays.called ∙ stays.called) c.in-Ok.ensures.found c.in-Ok-open_session.ensures.opened
    (still_kept g.D.Disk (g.D.Disk.files c.args.disk) session d c.in-Ok-open_session.ensures.rests)
    (wider first_rules (ReadFailed g.D.Disk session d) (WriteFailed g.D.Disk session d) rose.reading rose.writing sunk (ReadsQuietly g.D.Disk session d) of c.in-Ok.commands.items (left_on g.D.Disk d) given now
    c.run_commands.result.result (λ r. omega (arith, stays.reads, r)) (λ r. omega (arith, stays.writes, r)) (subst left c.as_slice.ensures.value ran))
