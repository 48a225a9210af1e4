use Rattle.std.proofs.Common.{◌∙◌, arith}
use Rattle.alter_bytes.proofs.VarintLemmas.{septet_bytes-none, septet_bytes-set}
use Rattle.alter_bytes.proofs.varint.+write_septets.Goals as goal

pub returns-then-n-gt0 : goal.returns-then-n-gt0
returns-then-n-gt0 t c = c.write_septets.ensures ∙ septet_bytes-set c.args.n c.args.v c.args.out.now c.if-n-gt0.true (omega arith)

pub returns-else-n-gt0 : goal.returns-else-n-gt0
returns-else-n-gt0 t c = septet_bytes-none c.args.n c.args.v c.args.out.now (omega arith)
