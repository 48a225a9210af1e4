use Rattle.std.proofs.Common.{sym}
use Rattle.common_laws.proofs.Options.{if_none_so}
use Rattle.record_codec.specs.declared.value.Value.TheVariants.{Text}
use Rattle.record_codec.proofs.in_place.text_front.Goals as goal

pub returns-in_err-serial-clause-none : goal.returns-in_err-serial-clause-none
returns-in_err-serial-clause-none c = if_none_so _ c.from_residual.result (λ text others are. c.in_err-serial.ensures.none (Text text) others are)

pub returns-in_err-text-clause-none : goal.returns-in_err-text-clause-none
returns-in_err-text-clause-none c =
    if_none_so _ c.from_residual-in_err-text.result (λ text others are. c.in_err-text.ensures.none text (sym (c.in_ok-serial.ensures.found.only (Text text) others are).0))
