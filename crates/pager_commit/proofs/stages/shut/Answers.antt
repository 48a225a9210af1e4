use Rattle.pager_commit.proofs.StageLemmas.{cut_leaves, shut_leaves}
use Rattle.pager_commit.proofs.stages.shut.Goals as goal

pub returns-in_err-cut_and_sync-clause-stops : goal.returns-in_err-cut_and_sync-clause-stops
returns-in_err-cut_and_sync-clause-stops g c = λ db journal rests cold. cut_leaves g.D.Disk _ _ db journal c.cut_and_sync.ensures.changes rests cold

pub returns-clause-stops : goal.returns-clause-stops
returns-clause-stops g c = λ db journal rests cold.
    shut_leaves g.D.Disk _ _ _ db journal c.cut_and_sync.ensures.changes c.write_and_sync.ensures.changes rests (c.in_ok-cut_and_sync.ensures.shortened journal rests.journal.reads) cold
