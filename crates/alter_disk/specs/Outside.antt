-- What source, disk and sink tell and count, and which of their counts rose between two moments.
use Rattle.std.specs.Prelude.{ℕ, ◌≤◌, ◌⊎◌, List, Bool, Option}
use Rattle.alter_disk.specs.declared.disk.Disk as disks
use Rattle.alter_disk.specs.declared.source.Source as sources
use Rattle.alter_disk.specs.declared.sink.Sink as sinks
use Rattle.alter_disk.specs.Files.{Files}
use Rattle.alter_disk.specs.Faults.{Rose}

-- what source, disk and sink tell and count at one moment
pub record Outside : Type 0 where
  -- what is left of the script
  pub left : Option (List ℕ)
  pub files : Option Files
  -- what the sink was given so far
  pub written : Option (List ℕ)
  -- the one name that the disk takes
  pub label : Option (List ℕ)
  -- the disk's opening was called
  pub called : Bool
  -- how often the source, a reading or a writing of the disk, and the sink have failed
  pub source_faults : ℕ
  pub read_faults : ℕ
  pub write_faults : ℕ
  pub sink_faults : ℕ

-- the moment of these three
abbrev pub outside : {S D K : Type 0} → sources.Ghosts S → disks.Ghosts D → sinks.Ghosts K → S → D → K → Outside
outside source disk sink s d k = record {
  left = source.left s;
  files = disk.files d;
  written = sink.written k;
  label = disk.label d;
  called = disk.called d;
  source_faults = source.faults s;
  read_faults = disk.read_faults d;
  write_faults = disk.write_faults d;
  sink_faults = sink.faults k;
}

-- which counts rose: a read of the source, a reading or a writing of the disk, or the sink failed
pub record Rises : Type 1 where
  pub source : Type 0
  pub reading : Type 0
  pub writing : Type 0
  pub sink : Type 0

-- a count of reading rose, the source's or the disk's
abbrev pub ReadRose : Rises → Type 0
ReadRose rose = rose.source ⊎ rose.reading

-- some count rose
abbrev pub AnyRose : Rises → Type 0
AnyRose rose = rose.source ⊎ rose.reading ⊎ rose.writing ⊎ rose.sink

-- what was outside before some calls, and what is behind them
pub record Span : Type 0 where
  pub before : Outside
  pub now : Outside

-- the span between two moments of these three
abbrev pub span : {S D K : Type 0} → sources.Ghosts S → disks.Ghosts D → sinks.Ghosts K → S × D × K → S × D × K → Span
span source disk sink before now =
    record { before = outside source disk sink before.0 before.1 before.2; now = outside source disk sink now.0 now.1 now.2 }

-- which counts rose in it
abbrev pub rises : Span → Rises
rises span = record {
  source = Rose span.before.source_faults span.now.source_faults;
  reading = Rose span.before.read_faults span.now.read_faults;
  writing = Rose span.before.write_faults span.now.write_faults;
  sink = Rose span.before.sink_faults span.now.sink_faults;
}

-- no count fell in it
pub record NoneFell (span : Span) : Type 0 where
  pub source : span.before.source_faults ≤ span.now.source_faults
  pub reading : span.before.read_faults ≤ span.now.read_faults
  pub writing : span.before.write_faults ≤ span.now.write_faults
  pub sink : span.before.sink_faults ≤ span.now.sink_faults
