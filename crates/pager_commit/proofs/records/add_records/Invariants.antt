use Rattle.std.proofs.Common.{◌≡◌}
use Rattle.pager_core.specs.Pages.{before_of, disk_of}
use Rattle.pager_commit.proofs.RecordLemmas.{Added}
use Rattle.pager_commit.proofs.records.add_records.Given as goal

-- the records of the first n pages were added, and no read failed
abbrev pub invariant-loop-n : goal.invariant-loop-n
invariant-loop-n g l = Added g.D.Disk l.n l.fn.pages l.pages l.fn.journal.items l.journal.items × (l.n-end ≡ before_of l.fn.pages)
    × (g.D.Disk.read_faults (disk_of l.pages) ≡ g.D.Disk.read_faults (disk_of l.fn.pages))
