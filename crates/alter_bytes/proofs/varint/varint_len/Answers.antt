use Rattle.std.proofs.Common.{arith}
use Rattle.alter_bytes.proofs.VarintLemmas.{higher_septets-le, length-varint}
use Rattle.alter_bytes.proofs.varint.varint_len.Goals as goal

pub overflow_add-result : goal.overflow_add-result
overflow_add-result c = omega (arith, c.count_higher.ensures, higher_septets-le 8 c.args.v)

pub returns : goal.returns
returns c = omega (arith, c.count_higher.ensures, length-varint c.args.v)
