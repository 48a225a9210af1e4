-- Failures that were counted: each is the answer.
use Rattle.std.specs.Prelude.{◌≡◌, ◌≢◌, ◌≤◌, ℕ, Result, Ok, Err}
use Rattle.alter_disk.specs.declared.disk.Disk as disks
use Rattle.alter_disk.specs.declared.sink.Sink as sinks
use Rattle.alter_disk.specs.Faults.{HasCauseOf}
use Rattle.alter_disk.specs.Outside.{AnyRose, Rises, Span, rises}
use Rattle.alter_cli.specs.declared.halted.Halted.{Halted}
use Rattle.alter_cli.specs.declared.status.Status.{Status}
use Rattle.alter_cli.specs.declared.status.Status.TheVariants.{Fault}
use Rattle.alter_cli.specs.declared.stop.Stop.{Stop}
use Rattle.alter_cli.specs.declared.stop.Stop.TheVariants.{Unread, Unreadable, Unwritten, Unprinted}

-- a result without the disk that is handed back
abbrev pub or_stop : {D T : Type 0} → Result T (Halted D) → Result T Stop
or_stop (Ok value) = Ok value
or_stop (Err halted) = Err halted.stop

-- a failure of the disk names its kind: that count rose where it is the answer, and else it stayed
pub record HasDiskCauses {D T : Type 0} (disk : disks.Ghosts D) (old new : D) (result : Result T Stop) : Type 0 where
  pub reading : HasCauseOf Unreadable (disk.read_faults old) (disk.read_faults new) result
  pub writing : HasCauseOf Unwritten (disk.write_faults old) (disk.write_faults new) result

-- the same of a run of commands, whose lines go into a sink
pub record HasRunCauses {D K T : Type 0} (disk : disks.Ghosts D) (sink : sinks.Ghosts K) (old new : D) (given now : K) (result : Result T Stop) : Type 0 where
  pub reading : HasCauseOf Unreadable (disk.read_faults old) (disk.read_faults new) result
  pub writing : HasCauseOf Unwritten (disk.write_faults old) (disk.write_faults new) result
  pub printing : HasCauseOf Unprinted (sink.faults given) (sink.faults now) result

-- the same of a call up to its last line
pub record HasCauses {T : Type 0} (span : Span) (result : Result T Stop) : Type 0 where
  pub source : HasCauseOf Unread span.before.source_faults span.now.source_faults result
  pub reading : HasCauseOf Unreadable span.before.read_faults span.now.read_faults result
  pub writing : HasCauseOf Unwritten span.before.write_faults span.now.write_faults result
  pub printing : HasCauseOf Unprinted span.before.sink_faults span.now.sink_faults result

-- a failure of the sink at the last line is the status
pub record EndsCounted (before now : ℕ) (status : Status) : Type 0 where
  pub later : before ≤ now
  pub only : status ≢ Fault → now ≡ before

-- the count of the source's faults stayed, and those of the disk's readings and of its writings
abbrev pub SourceStays : Span → Type 0
SourceStays span = span.now.source_faults ≡ span.before.source_faults

abbrev pub ReadingStays : Span → Type 0
ReadingStays span = span.now.read_faults ≡ span.before.read_faults

abbrev pub WritingStays : Span → Type 0
WritingStays span = span.now.write_faults ≡ span.before.write_faults

-- which counts rose, of the source and of the disk without the other two
abbrev pub rises_alone : Span → Rises
rises_alone span =
    let rose = rises span in
    record {
      source = rose.source × ReadingStays span × WritingStays span;
      reading = rose.reading × SourceStays span × WritingStays span;
      writing = rose.writing × SourceStays span × ReadingStays span;
      sink = rose.sink;
    }

-- no count rose
pub record NoneRose (span : Span) : Type 0 where
  pub source : SourceStays span
  pub reading : ReadingStays span
  pub writing : WritingStays span
  pub sink : span.now.sink_faults ≡ span.before.sink_faults

-- a fault is a failure that was counted, and a failure that was counted is a fault
pub record IsFaultExactly (span : Span) (status : Status) : Type 0 where
  pub rose : status ≡ Fault → AnyRose (rises span)
  pub only : status ≢ Fault → NoneRose span
