use Rattle.std.proofs.Common.{inl, inr, sym}
use Rattle.common_laws.proofs.Options.{if_none_so}
use Rattle.record_codec.proofs.Fronts.{no_header_so_long, no_header_without}
use Rattle.record_codec.proofs.fields.header.Goals as goal
use Rattle.record_codec.proofs.fields.header.Goals.{then-size-len-via-then-size-len, then-size-len-via-else-size-len+then-bytes-size}

pub returns-in_err-size-clause-none : goal.returns-in_err-size-clause-none
returns-in_err-size-clause-none c = if_none_so _ c.from_residual.result (no_header_without c.args.bytes.now (sym c.in_err-size.ensures.exact))

pub returns-then-size-len-clause-none : goal.returns-then-size-len-clause-none
returns-then-size-len-clause-none c =
    no_header_so_long c.args.bytes.now c.in_ok-size.size c.in_ok-size.len (sym c.in_ok-size.ensures.exact) (elim c.then-size-len.branch [
      | then-size-len-via-then-size-len w ↦ inl w.if-size-len.true
      | then-size-len-via-else-size-len+then-bytes-size w ↦ inr w.if-bytes-size.true
    ])
