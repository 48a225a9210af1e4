use Rattle.std.proofs.Common.{◌≡◌, ℕ, ◌+◌, ◌-◌, ◌<◌, Some, false, ◌||◌, is_some, length, get_or}
use Rattle.alter_disk.specs.Files.{Files}
use Rattle.alter_disk.specs.Moments.{ReadsQuietly}
use Rattle.rollback_journal.specs.Playback.{last_entry}
use Rattle.rollback_journal.specs.Cursor.{entries_left, GoesOn}
use Rattle.rollback_journal.proofs.coverage.mark_pages.Given as goal

-- the marks so far and the entries that are left make up all, and no read failed
abbrev pub invariant-loop-number : goal.invariant-loop-number
invariant-loop-number g l = record {
  on : GoesOn l.fn.cursor l.cursor;
  marked : (f : Files) → g.D.Disk.files l.fn.disk ≡ Some f → l.fn.cursor.len ≡ length f.journal → (i : ℕ) → i < length l.marks
      → (get_or l.marks i false || is_some (last_entry (entries_left f.journal l.cursor) (i + 1))) ≡ (get_or l.fn.marks i false || is_some (last_entry (entries_left f.journal l.fn.cursor) (i + 1)));
  reads : ReadsQuietly g.D.Disk l.fn.disk l.disk;
  faultless : g.D.Disk.read_faults l.disk ≡ g.D.Disk.read_faults l.fn.disk;
}

-- each entry is further on by a byte at least
abbrev pub decreases-loop-number : goal.decreases-loop-number
decreases-loop-number g l = l.cursor.len + 65536 - l.cursor.at
