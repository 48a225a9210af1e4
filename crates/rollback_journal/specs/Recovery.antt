-- What a recovery answers and leaves.
use Rattle.std.specs.Prelude.{◌≡◌, ℕ, ◌+◌, ◌<◌, Bool, true, false, ◌||◌, if◌then◌else◌, List, length, slice_index_or, is_some, None, Result, Ok, Err}
use Rattle.alter_disk.specs.declared.way.Way.TheVariants.{Read, Write}
use Rattle.alter_disk.specs.declared.disk.Disk.{Ghosts}
use Rattle.alter_disk.specs.Files.{Files}
use Rattle.alter_disk.specs.Changes.{overwritten}
use Rattle.alter_disk.specs.Moments.{AtRest, ReadsQuietly}
use Rattle.alter_disk.specs.Faults.{HasCauseOf}
use Rattle.rollback_journal.specs.declared.fault.RecoverFault.{RecoverFault}
use Rattle.rollback_journal.specs.declared.fault.RecoverFault.TheVariants.{Memory, Failed, Super, Short, TooLarge}
use Rattle.rollback_journal.specs.declared.heat.Heat.{Heat}
use Rattle.rollback_journal.specs.declared.heat.Heat.TheVariants.{Cold, Hot, Super as NamesSuper}
use Rattle.rollback_journal.specs.declared.header.Header.{Header}
use Rattle.rollback_journal.specs.Header.{no_magic}
use Rattle.rollback_journal.specs.Heat.{heat_of}
use Rattle.rollback_journal.specs.Records.{Entry, entries_of}
use Rattle.rollback_journal.specs.Playback.{last_entry, first_missing}
use Rattle.rollback_journal.specs.Standing.{Standing, is_too_large, standing, Stands, IsSuper, IsShort, IsTooLarge}

-- of pages with a mark each, page i + 1 at index i, those are marked that have an entry, and those that were
abbrev pub Marks : List Entry → List Bool → List Bool → Type 0
Marks entries old new = (i : ℕ) → i < length new → slice_index_or new i false ≡ (slice_index_or old i false || is_some (last_entry entries (i + 1)))

-- the marks are those of the entries
abbrev pub IsMarked : List Entry → List Bool → Type 0
IsMarked entries marks = (i : ℕ) → i < length marks → slice_index_or marks i false ≡ is_some (last_entry entries (i + 1))

-- want of memory and failures refuse nothing
abbrev pub IsFree : RecoverFault → Type 0
IsFree (Memory e) = Unit {0}
IsFree (Failed way) = Unit {0}
IsFree Super = ⊥
IsFree (Short n) = ⊥
IsFree TooLarge = ⊥

-- a refusal is what two files stand for; want of memory and failures are free here
abbrev pub IsRefusal : Files → RecoverFault → Type 0
IsRefusal f (Memory e) = Unit {0}
IsRefusal f (Failed way) = Unit {0}
IsRefusal f Super = standing f ≡ IsSuper
IsRefusal f (Short n) = standing f ≡ IsShort n
IsRefusal f TooLarge = standing f ≡ IsTooLarge

-- a failure names its kind: that count rose where it is the answer, and else it stayed
pub record HasCauses {D T : Type 0} (disk : Ghosts D) (old new : D) (result : Result T RecoverFault) : Type 0 where
  pub reading : HasCauseOf (Failed Read) (disk.read_faults old) (disk.read_faults new) result
  pub writing : HasCauseOf (Failed Write) (disk.write_faults old) (disk.write_faults new) result

-- whether a journal has to be played
abbrev pub is_hot : Heat → Bool
is_hot Cold = false
is_hot NamesSuper = false
is_hot (Hot h) = true

-- a journal whose first eight bytes are zeros
abbrev pub shut : List ℕ → List ℕ
shut journal = overwritten journal 0 no_magic

-- what a recovery makes of two files that stand for this
abbrev pub recovered_as : Standing → Files → Files
recovered_as (Stands bytes) f = record { db = bytes; journal = if is_hot (heat_of f.journal) then shut f.journal else f.journal }
recovered_as IsSuper f = f
recovered_as IsTooLarge f = f
recovered_as (IsShort page) f = f

-- The files that a recovery leaves: the bytes that they stand for, and eight zeros in place of the magic of a hot journal that
-- was played. Files that are refused, and those with a cold journal, stay as they are.
abbrev pub recovered : Files → Files
recovered f = recovered_as (standing f) f

-- What a recovery leaves of files that stood for these bytes: the database has them, nothing is pending, and the journal is cold.
-- Where it was hot, it was played, and eight zeros stand in place of its magic; else both files are as they were.
pub record Recovered {D : Type 0} (disk : Ghosts D) (f : Files) (played : Bool) (new : D) : Type 0 where
  pub bytes : List ℕ
  pub stood : standing f ≡ Stands bytes
  pub hot : is_hot (heat_of f.journal) ≡ played
  pub rests : AtRest disk (record { db = bytes; journal = if played then shut f.journal else f.journal }) new
  pub cold : heat_of (if played then shut f.journal else f.journal) ≡ Cold

-- a recovery that played nothing, or was refused, wrote nothing
abbrev pub Unwritten : {D : Type 0} → Ghosts D → D → D → Result Bool RecoverFault → Type 0
Unwritten disk old new (Ok true) = Unit {0}
Unwritten disk old new (Ok false) = ReadsQuietly disk old new
Unwritten disk old new (Err (Failed way)) = Unit {0}
Unwritten disk old new (Err (Memory e)) = ReadsQuietly disk old new
Unwritten disk old new (Err Super) = ReadsQuietly disk old new
Unwritten disk old new (Err (Short n)) = ReadsQuietly disk old new
Unwritten disk old new (Err TooLarge) = ReadsQuietly disk old new

-- a hot journal is within the limits, and playback knows each page up to the size
pub record IsPlayable (f : Files) (h : Header) : Type 0 where
  pub hot : heat_of f.journal ≡ Hot h
  pub within : is_too_large (length f.journal) h ≡ false
  pub complete : first_missing h.page h.size (entries_of f.journal h) f.db ≡ None
