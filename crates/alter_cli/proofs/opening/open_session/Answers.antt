use Rattle.std.proofs.Common.{◌∙◌, is_some, ap, sym, subst}
use Rattle.alter_disk.specs.Uses.{ReadFailed, WriteFailed}
use Rattle.alter_cli.specs.First.{first_rules}
use Rattle.alter_cli.specs.Left.{left_on}
use Rattle.alter_cli.specs.Stops.{NoSession}
use Rattle.alter_cli.proofs.OpenLemmas.{keeps_first, keeps_open, no_session_for, opened_told, rests_told}
use Rattle.alter_cli.proofs.opening.open_session.Goals as goal

pub returns-in-Ok-clause-opened : goal.returns-in-Ok-clause-opened
returns-in-Ok-clause-opened g c =
    opened_told g.D.Disk (g.D.Disk.files c.args.disk) (g.D.Disk.files c.open.new.disk) c.in-Ok.session c.open.ensures.opens.only.files c.in-Ok.ensures.opened

pub returns-in-Ok-clause-rests : goal.returns-in-Ok-clause-rests
returns-in-Ok-clause-rests g c =
    rests_told g.D.Disk (g.D.Disk.files c.args.disk) (g.D.Disk.files c.open.new.disk) c.in-Ok.session c.open.ensures.opens.only.files
    (c.in-Ok.ensures.stays.telling ∙ ap is_some c.open.ensures.opens.only.files) c.in-Ok.ensures.opened

pub returns-in-Err-open-clause-stop : goal.returns-in-Err-open-clause-stop
returns-in-Err-open-clause-stop g c =
    let d = c.in-Err-open.field-0.disk in
    subst (NoSession first_rules (ReadFailed g.D.Disk c.args.disk d) (WriteFailed g.D.Disk c.args.disk d) (left_on g.D.Disk c.args.disk) (left_on g.D.Disk d))
    (sym c.stop_of_error.ensures)
    (no_session_for g.D.Disk g.met.D.Disk.counts_now g.met.D.Disk.only_now c.args.disk c.open.new.disk d c.in-Err-open.field-0.cause c.open.ensures.opens
    c.in-Err-open.ensures.stays.telling c.in-Err-open.ensures.refused c.in-Err-open.ensures.stops c.in-Err-open.ensures.cause
    c.in-Err-open.ensures.kept)

pub returns-in-Err-clause-unwritten : goal.returns-in-Err-clause-unwritten
returns-in-Err-clause-unwritten g c = keeps_first g.D.Disk c.args.disk c.open.new.disk c.open.ensures.opens

pub returns-in-Ok-clause-unwritten : goal.returns-in-Ok-clause-unwritten
returns-in-Ok-clause-unwritten g c = keeps_open g.D.Disk c.args.disk c.open.new.disk _ c.open.ensures.opens c.in-Ok.ensures.kept

pub returns-in-Err-open-clause-unwritten : goal.returns-in-Err-open-clause-unwritten
returns-in-Err-open-clause-unwritten g c =
    keeps_open g.D.Disk c.args.disk c.open.new.disk c.in-Err-open.field-0.disk c.open.ensures.opens c.in-Err-open.ensures.kept
