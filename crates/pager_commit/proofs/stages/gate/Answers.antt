use Rattle.std.proofs.Common.{arith}
use Rattle.pager_commit.proofs.StageLemmas.{gate_leaves}
use Rattle.pager_commit.proofs.stages.gate.Goals as goal

pub returns-clause-stops : goal.returns-clause-stops
returns-clause-stops g c = λ db journal rests. gate_leaves g.D.Disk _ _ _ db journal (omega arith) c.write_and_sync.ensures.changes rests
