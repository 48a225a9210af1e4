use Rattle.std.proofs.Common.{inl, inr, sym}
use Rattle.common_laws.proofs.Options.{if_none_so}
use Rattle.record_codec.proofs.Fronts.{no_serial_reserved, no_serial_without}
use Rattle.record_codec.proofs.fields.serial_front.Goals as goal
use Rattle.record_codec.proofs.fields.serial_front.Goals.{then-serial-eq10-via-then-serial-eq10, then-serial-eq10-via-else-serial-eq10+then-serial-eq11}

pub returns-in_err-serial-clause-none : goal.returns-in_err-serial-clause-none
returns-in_err-serial-clause-none c = if_none_so _ c.from_residual.result (no_serial_without c.args.types.now (sym c.in_err-serial.ensures.exact))

pub returns-then-serial-eq10-clause-none : goal.returns-then-serial-eq10-clause-none
returns-then-serial-eq10-clause-none c =
    no_serial_reserved c.args.types.now c.in_ok-serial.serial c.in_ok-serial.len (sym c.in_ok-serial.ensures.exact) (elim c.then-serial-eq10.branch [
      | then-serial-eq10-via-then-serial-eq10 w ↦ inl w.if-serial-eq10.true
      | then-serial-eq10-via-else-serial-eq10+then-serial-eq11 w ↦ inr w.if-serial-eq11.true
    ])
