-- What a crash may leave at each moment of several calls of a disk, at a bound `D: Disk`.
use Rattle.std.specs.Prelude.{◌≡◌, ◌⊎◌, ◌≤◌, ℕ, List, Result, is_some}
use Rattle.alter_disk.specs.declared.way.Way.{Way}
use Rattle.alter_disk.specs.declared.way.Way.TheVariants.{Read, Write}
use Rattle.alter_disk.specs.declared.which.Which.{Which}
use Rattle.alter_disk.specs.declared.which.Which.TheVariants.{Db, Journal}
use Rattle.alter_disk.specs.declared.disk.Disk.{Ghosts}
use Rattle.alter_disk.specs.Files.{Files, file, other_of}
use Rattle.alter_disk.specs.Changes.{IfTold, ChangesOne}
use Rattle.alter_disk.specs.Crash.{After, NoMore}
use Rattle.alter_disk.specs.Faults.{HasCauseOf}
use Rattle.alter_disk.specs.Uses.{OnlyReads}

-- a crash at any moment between two states leaves what it might have left before the first, or files of which P holds
pub record Leaves {D : Type 0} (disk : Ghosts D) (old new : D) (P : Files → Type 0) : Type 0 where
  pub later : disk.moment old ≤ disk.moment new
  pub before : (t : ℕ) (c : Files) → t ≤ disk.moment old → disk.left_since new t c → disk.left_since old t c ⊎ P c

-- a read gives these bytes of a file, where they are told
abbrev pub Reads : {D : Type 0} → Ghosts D → Which → List ℕ → D → Type 0
Reads disk which bytes d = IfTold (disk.files d) (λ f. file which f ≡ bytes)

-- a read gives these bytes of a file, and so does each crash now
pub record Rests {D : Type 0} (disk : Ghosts D) (which : Which) (bytes : List ℕ) (d : D) : Type 0 where
  pub reads : Reads disk which bytes d
  pub crash : (c : Files) → disk.may_leave d c → file which c ≡ bytes

-- nothing is pending: a read gives these two files, and so does each crash
pub record AtRest {D : Type 0} (disk : Ghosts D) (f : Files) (d : D) : Type 0 where
  pub db : Rests disk Db f.db d
  pub journal : Rests disk Journal f.journal d

-- calls that changed one file so, or were cut short in it: where the other one rested, it rests
pub record ChangesFile {D : Type 0} (disk : Ghosts D) (which : Which) (Change : List ℕ → List ℕ → Type 0) (old new : D) : Type 0 where
  pub other : (b : List ℕ) → Rests disk (other_of which) b old → Rests disk (other_of which) b new
  pub follows : (c : Files) → disk.may_leave new c → After (ChangesOne which Change) (disk.may_leave old) c
  pub stops : Leaves disk old new (After (ChangesOne which Change) (disk.may_leave old))

-- calls that only read, at whose moments a crash leaves no more than before
pub record ReadsQuietly {D : Type 0} (disk : Ghosts D) (old new : D) : Type 0 where
  pub only : OnlyReads disk old new
  pub crash : NoMore (disk.may_leave old) (disk.may_leave new)
  pub stops : Leaves disk old new (disk.may_leave old)

-- calls behind the opening left the disk's label, told what was told, and no count of faults fell
pub record Stays {D : Type 0} (disk : Ghosts D) (old new : D) : Type 0 where
  pub label : disk.label new ≡ disk.label old
  pub called : disk.called new ≡ disk.called old
  pub telling : is_some (disk.files new) ≡ is_some (disk.files old)
  pub reads : disk.read_faults old ≤ disk.read_faults new
  pub writes : disk.write_faults old ≤ disk.write_faults new

-- a failure names its kind: that count rose where it is the answer, and else it stayed
pub record HasWay {D T : Type 0} (disk : Ghosts D) (old new : D) (result : Result T Way) : Type 0 where
  pub reading : HasCauseOf Read (disk.read_faults old) (disk.read_faults new) result
  pub writing : HasCauseOf Write (disk.write_faults old) (disk.write_faults new) result
