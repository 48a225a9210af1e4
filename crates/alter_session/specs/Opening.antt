-- What opening a database leaves of its two files, and why it is not opened.
use Rattle.std.specs.Prelude.{◌≡◌, ◌⊎◌, ℕ, List, length, take, Some, None, Result, Ok, Err}
use Rattle.alter_disk.specs.declared.disk.Disk.{Ghosts}
use Rattle.alter_disk.specs.declared.way.Way.TheVariants.{Read, Write}
use Rattle.alter_disk.specs.Faults.{HasCauseOf}
use Rattle.alter_disk.specs.Files.{Files}
use Rattle.alter_disk.specs.Moments.{AtRest, Leaves}
use Rattle.rollback_journal.specs.declared.fault.RecoverFault.{RecoverFault}
use Rattle.rollback_journal.specs.declared.fault.RecoverFault.TheVariants as recoveries
use Rattle.rollback_journal.specs.Recovery.{recovered}
use Rattle.rollback_journal.specs.Standing.{Stands, standing}
use Rattle.pager_core.specs.declared.error.PageError.{PageError}
use Rattle.pager_core.specs.declared.error.PageError.TheVariants as pages
use Rattle.pager_core.specs.declared.file_shape.FileShape.{FileShape}
use Rattle.pager_core.specs.Refusals.{first_refusal}
use Rattle.pager_core.specs.Shape.{HasShape, IsShape}
use Rattle.alter_session.specs.declared.open_error.OpenError.{OpenError}
use Rattle.alter_session.specs.declared.open_error.OpenError.TheVariants.{Memory, Failed, Super, Short, Journal, Refused}
use Rattle.alter_session.specs.declared.open_error.Unopened.{Unopened}
use Rattle.alter_session.specs.declared.session.Session.{Session}
use Rattle.alter_session.specs.Serves.{Refuses, Serves}
use Rattle.alter_session.specs.Session.{Holds, disk_of}
use Rattle.plain_schema.specs.Image.{Image}
use Rattle.plain_schema.specs.Served.{IsSoundShape}

-- no files at all
abbrev pub Nothing : Files → Type 0
Nothing c = ⊥

-- Calls that kept every byte of both files: they read so, and a crash at any moment left what it could have left before, or
-- them as they read.
pub record KeepsBytes {D : Type 0} (disk : Ghosts D) (f : Files) (old new : D) : Type 0 where
  pub read : disk.files new ≡ Some f
  pub stops : Leaves disk old new (λ c. c ≡ f)

-- why a recovery failed, and why a page was not read
abbrev pub error_of_recovery : RecoverFault → OpenError
error_of_recovery (recoveries.Memory fault) = Memory fault
error_of_recovery (recoveries.Failed way) = Failed way
error_of_recovery recoveries.Super = Super
error_of_recovery (recoveries.Short page) = Short page
error_of_recovery recoveries.TooLarge = Journal

abbrev pub error_of_page : PageError → OpenError
error_of_page (pages.Memory fault) = Memory fault
error_of_page pages.Failed = Failed Read

-- a failure names its kind: that count rose where it is the answer, and else it stayed
pub record HasOpenCauses {D T : Type 0} (disk : Ghosts D) (old new : D) (result : Result T OpenError) : Type 0 where
  pub reading : HasCauseOf (Failed Read) (disk.read_faults old) (disk.read_faults new) result
  pub writing : HasCauseOf (Failed Write) (disk.write_faults old) (disk.write_faults new) result

-- the sizes of a database that is opened
pub record IsOpenable (shape : FileShape) : Type 0 where
  pub held : IsShape shape
  pub served : IsSoundShape shape

-- the bytes of a database are not refused, and these are their sizes
pub record ShapesBytes (bytes : List ℕ) (shape : FileShape) : Type 0 where
  pub accepted : first_refusal (take 100 bytes) (length bytes) ≡ None
  pub sizes : HasShape (take 100 bytes) (length bytes) shape

-- the bytes of a database are refused for this; failures are free here
abbrev pub IsUnshaped : List ℕ → OpenError → Type 0
IsUnshaped bytes (Failed way) = Unit {0}
IsUnshaped bytes (Refused refusal) = first_refusal (take 100 bytes) (length bytes) ≡ Some refusal
IsUnshaped bytes cause = ⊥

-- What is left of files that were not opened for this: at a refusal what a recovery leaves, and at want of memory that or what
-- was there. What a failure leaves is said by what a crash may leave.
abbrev pub IsUnopened : {D : Type 0} → Ghosts D → Files → OpenError → D → Type 0
IsUnopened disk f (Memory fault) new = AtRest disk f new ⊎ AtRest disk (recovered f) new
IsUnopened disk f (Failed way) new = Unit {0}
IsUnopened disk f cause new = Refuses f cause × AtRest disk (recovered f) new

-- the two files stand for a database of these sizes, which is not refused, and are recovered
pub record IsShaped {D : Type 0} (disk : Ghosts D) (f : Files) (shape : FileShape) (new : D) : Type 0 where
  pub bytes : List ℕ
  pub stood : standing f ≡ Stands bytes
  pub shapes : ShapesBytes bytes shape
  pub rests : AtRest disk (recovered f) new

-- the disk that is handed back, or that the session owns
abbrev pub disk_after : {D : Type 0} → Result (Session D) (Unopened D) → D
disk_after (Ok session) = disk_of session
disk_after (Err unopened) = unopened.disk

-- the session, or why there is none
abbrev pub opened_or_why : {D : Type 0} → Result (Session D) (Unopened D) → Result (Session D) OpenError
opened_or_why (Ok session) = Ok session
opened_or_why (Err unopened) = Err unopened.cause

-- the two files are served, and the session has their image; they are recovered
pub record IsOpenedFrom {D : Type 0} (disk : Ghosts D) (f : Files) (session : Session D) : Type 0 where
  pub image : Image
  pub serves : Serves f image
  pub holds : Holds disk image session
  pub rests : AtRest disk (recovered f) (disk_of session)
