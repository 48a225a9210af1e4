use Rattle.alter_bytes.proofs.VarintLemmas.{one_form}
use Rattle.alter_bytes.proofs.varint.one_varint.Goals as goal

pub returns : goal.returns
returns c = λ a b x y m n first second same. one_form a b x y m n first second same
