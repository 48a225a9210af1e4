use Rattle.pager_commit.proofs.StageLemmas.{fill_leaves}
use Rattle.pager_commit.proofs.stages.fill.Goals as goal

pub returns-clause-stops : goal.returns-clause-stops
returns-clause-stops g c = λ db rests. fill_leaves g.D.Disk _ _ _ db c.write_and_sync.ensures.changes rests
