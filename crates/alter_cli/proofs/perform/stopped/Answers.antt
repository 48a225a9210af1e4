use Rattle.std.proofs.Common.{sym, subst, IsSomeAnd}
use Rattle.alter_disk.specs.Faults.{Rose}
use Rattle.alter_disk.specs.Changes.{IfTold}
use Rattle.alter_cli.specs.declared.status.Status.{Status}
use Rattle.alter_cli.specs.Stops.{IsLast}
use Rattle.alter_cli.proofs.FinishLemmas.{last_ok, last_err}
use Rattle.alter_cli.proofs.perform.stopped.Goals as goal

pub returns-in-Ok-clause-told : goal.returns-in-Ok-clause-told
returns-in-Ok-clause-told g c =
    let had = g.K.Sink.written c.args.out.now in
    let now = g.K.Sink.written c.print_last.new.out in
    let sunk = Rose (g.K.Sink.faults c.args.out.now) (g.K.Sink.faults c.print_last.new.out) in
    subst (λ (s : Status). IfTold had (λ given. IsSomeAnd now (IsLast sunk c.args.stop.now s given))) (sym c.status.ensures)
    (last_ok sunk c.args.stop.now had now c.in-Ok.ensures.written)

pub returns-in-Err-clause-told : goal.returns-in-Err-clause-told
returns-in-Err-clause-told g c =
    last_err (Rose (g.K.Sink.faults c.args.out.now) (g.K.Sink.faults c.print_last.new.out)) c.args.stop.now (g.K.Sink.written c.args.out.now)
    (g.K.Sink.written c.print_last.new.out) c.in-Err.ensures.cause.failed c.in-Err.ensures.front
