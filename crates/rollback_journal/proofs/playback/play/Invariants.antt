use Rattle.std.proofs.Common.{◌≡◌, ◌+◌, ◌-◌, Some, length}
use Rattle.alter_disk.specs.Files.{Files}
use Rattle.alter_disk.specs.Moments.{AtRest, Leaves}
use Rattle.alter_disk.specs.Moments.{Stays}
use Rattle.rollback_journal.specs.Standing.{standing}
use Rattle.rollback_journal.specs.Cursor.{entries_left}
use Rattle.rollback_journal.specs.Replay.{IsReady, Playing}
use Rattle.rollback_journal.proofs.playback.play.Given as goal

-- the entries so far are played, no call failed, and each crash since the start leaves what stands for the same
abbrev pub invariant-loop-next : goal.invariant-loop-next
invariant-loop-next g l = record {
  header : l.cursor.header ≡ l.header;
  len : l.cursor.len ≡ l.len;
  room : length l.buf ≡ length l.fn.buf;
  stays : Stays g.D.Disk l.fn.disk l.disk;
  read : g.D.Disk.read_faults l.disk ≡ g.D.Disk.read_faults l.fn.disk;
  written : g.D.Disk.write_faults l.disk ≡ g.D.Disk.write_faults l.fn.disk;
  playing : (f : Files) → g.D.Disk.files l.fn.disk ≡ Some f → IsReady f l.header l.len → AtRest g.D.Disk f l.fn.disk → Playing g.D.Disk f l.header (entries_left f.journal l.cursor) l.disk;
  stops : (f : Files) → g.D.Disk.files l.fn.disk ≡ Some f → IsReady f l.header l.len → AtRest g.D.Disk f l.fn.disk → Leaves g.D.Disk l.fn.disk l.disk (λ c. standing c ≡ standing f);
}

-- each entry is further on by a byte at least
abbrev pub decreases-loop-next : goal.decreases-loop-next
decreases-loop-next g l = l.cursor.len + 65536 - l.cursor.at
