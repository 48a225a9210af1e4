use Rattle.std.proofs.Common.{sym}
use Rattle.common_laws.proofs.Options.{if_none_so}
use Rattle.record_codec.specs.declared.value.Value.TheVariants.{Int}
use Rattle.record_codec.proofs.in_place.int_front.Goals as goal

pub returns-in_err-serial-clause-none : goal.returns-in_err-serial-clause-none
returns-in_err-serial-clause-none c = if_none_so _ c.from_residual.result (λ number others are. c.in_err-serial.ensures.none (Int number) others are)

pub returns-in_err-number-clause-none : goal.returns-in_err-number-clause-none
returns-in_err-number-clause-none c =
    if_none_so _ c.from_residual-in_err-number.result (λ number others are. c.in_err-number.ensures.none number (sym (c.in_ok-serial.ensures.found.only (Int number) others are).0))
