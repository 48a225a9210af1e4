use Rattle.std.proofs.Common.{◌+◌, length, sym, ap, ◌∙◌, arith}
use Rattle.alter_bytes.proofs.VarintLemmas.{length-varint-le}
use Rattle.alter_bytes.specs.Varint.{varint}
use Rattle.record_codec.proofs.Sizes.{size_len-le, size_len-more}
use Rattle.record_codec.proofs.writing.size_len.Goals as goal

pub overflow_add-least : goal.overflow_add-least
overflow_add-least c = omega (arith, c.varint_len-least.ensures, length-varint-le c.args.types, c.requires)

pub overflow_add-result : goal.overflow_add-result
overflow_add-result c = omega (arith, c.varint_len-least.ensures, length-varint-le c.args.types)

pub returns-then-varint_len-least-clause-small : goal.returns-then-varint_len-least-clause-small
returns-then-varint_len-least-clause-small c = omega (arith, c.varint_len-least.ensures, length-varint-le c.args.types)

pub returns-else-varint_len-least-clause-small : goal.returns-else-varint_len-least-clause-small
returns-else-varint_len-least-clause-small c =
    let least = c.varint_len-least.ensures in
    let more = size_len-more c.args.types
    (λ same. c.if-varint_len-least.false (c.varint_len.ensures ∙ ap (λ k. length (varint (k + c.args.types))) least ∙ same ∙ sym least)) in
    omega (arith, least, more, size_len-le c.args.types)
