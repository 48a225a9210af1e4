use Rattle.std.proofs.Common.{◌≡◌, ◌+◌, ◌-◌, Some, length}
use Rattle.alter_disk.specs.Files.{Files}
use Rattle.alter_disk.specs.Moments.{ReadsQuietly}
use Rattle.rollback_journal.specs.Cursor.{entries_left, GoesOn}
use Rattle.rollback_journal.proofs.cursor.Cursor.next.Given as goal

-- nothing was found so far, and no read failed
abbrev pub invariant-loop-number : goal.invariant-loop-number
invariant-loop-number g l = record {
  on : GoesOn l.fn.self l.self;
  same : (f : Files) → g.D.Disk.files l.fn.disk ≡ Some f → l.fn.self.len ≡ length f.journal → entries_left f.journal l.fn.self ≡ entries_left f.journal l.self;
  reads : ReadsQuietly g.D.Disk l.fn.disk l.disk;
  faultless : g.D.Disk.read_faults l.disk ≡ g.D.Disk.read_faults l.fn.disk;
}

-- each step goes on by a byte at least
abbrev pub decreases-loop-number : goal.decreases-loop-number
decreases-loop-number g l = l.self.len + 65536 - l.self.at
