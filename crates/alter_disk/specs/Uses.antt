-- What calls of a disk, a source or a sink did, at a bound `D: Disk` and the like.
use Rattle.std.specs.Prelude.{◌≡◌, ◌≤◌, true, is_some}
use Rattle.alter_disk.specs.declared.disk.Disk.{Ghosts}
use Rattle.alter_disk.specs.declared.source.Source as sources
use Rattle.alter_disk.specs.declared.sink.Sink as sinks
use Rattle.alter_disk.specs.Faults.{Rose}

-- a call that reads failed
abbrev pub ReadFailed : {D : Type 0} → Ghosts D → D → D → Type 0
ReadFailed disk old new = Rose (disk.read_faults old) (disk.read_faults new)

-- a call that writes failed
abbrev pub WriteFailed : {D : Type 0} → Ghosts D → D → D → Type 0
WriteFailed disk old new = Rose (disk.write_faults old) (disk.write_faults new)

-- a read of the source failed
abbrev pub SourceFailed : {S : Type 0} → sources.Ghosts S → S → S → Type 0
SourceFailed source old new = Rose (source.faults old) (source.faults new)

-- a write of the sink failed
abbrev pub SinkFailed : {K : Type 0} → sinks.Ghosts K → K → K → Type 0
SinkFailed sink old new = Rose (sink.faults old) (sink.faults new)

-- calls that only read changed no byte and did not fail to write
pub record OnlyReads {D : Type 0} (disk : Ghosts D) (old new : D) : Type 0 where
  pub files : disk.files new ≡ disk.files old
  pub label : disk.label new ≡ disk.label old
  pub called : disk.called new ≡ disk.called old
  pub later : disk.read_faults old ≤ disk.read_faults new
  pub writes_stay : disk.write_faults new ≡ disk.write_faults old

-- the same of a call of `open` and of those behind it
pub record OnlyOpens {D : Type 0} (disk : Ghosts D) (old new : D) : Type 0 where
  pub files : disk.files new ≡ disk.files old
  pub label : disk.label new ≡ disk.label old
  pub called : disk.called new ≡ true
  pub later : disk.read_faults old ≤ disk.read_faults new
  pub writes_stay : disk.write_faults new ≡ disk.write_faults old

-- calls that only write left the label and the opening, told what was told, and did not fail to read
pub record OnlyWrites {D : Type 0} (disk : Ghosts D) (old new : D) : Type 0 where
  pub telling : is_some (disk.files new) ≡ is_some (disk.files old)
  pub label : disk.label new ≡ disk.label old
  pub called : disk.called new ≡ disk.called old
  pub later : disk.write_faults old ≤ disk.write_faults new
  pub reads_stay : disk.read_faults new ≡ disk.read_faults old
