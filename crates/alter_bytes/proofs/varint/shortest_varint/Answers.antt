use Rattle.std.proofs.Common.{refl, length}
use Rattle.alter_bytes.proofs.VarintLemmas.{length-varint-least, varint_at-written, varint-is}
use Rattle.alter_bytes.proofs.varint.shortest_varint.Goals as goal

pub returns-clause-is_varint : goal.returns-clause-is_varint
returns-clause-is_varint c = λ v small. varint-is v small

pub returns-clause-shortest : goal.returns-clause-shortest
returns-clause-shortest c = λ v bytes form. length-varint-least v bytes form

pub returns-clause-reads_back : goal.returns-clause-reads_back
returns-clause-reads_back c = λ v front rest small. varint_at-written v front rest (length front) small refl
