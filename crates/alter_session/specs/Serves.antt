-- The databases that are served, and why two files have none.
use Rattle.std.specs.Prelude.{◌≡◌, ℕ, List, length, take, Some, None}
use Rattle.alter_disk.specs.Files.{Files}
use Rattle.rollback_journal.specs.Standing.{Stands, IsSuper, IsShort, IsTooLarge, standing}
use Rattle.pager_core.specs.declared.refusal.FileRefusal.{FileRefusal}
use Rattle.pager_core.specs.Image.{image_of}
use Rattle.pager_core.specs.Refusals.{first_refusal}
use Rattle.plain_schema.specs.declared.table.Table.{Table}
use Rattle.plain_schema.specs.Image.{Image}
use Rattle.plain_schema.specs.FirstForm.{IsFirstForm}
use Rattle.alter_session.specs.declared.open_error.OpenError.{OpenError}
use Rattle.alter_session.specs.declared.open_error.OpenError.TheVariants.{Memory, Failed, Super, Short, Journal, Refused, Unbuilt}

-- the two files stand for the bytes of a database that is not refused, and its image holds tables of the form that is served
pub record Serves (f : Files) (image : Image) : Type 0 where
  pub bytes : List ℕ
  pub stood : standing f ≡ Stands bytes
  pub accepted : first_refusal (take 100 bytes) (length bytes) ≡ None
  pub image_is : image_of bytes ≡ Some image
  pub tables : List Table
  pub form : IsFirstForm image tables

-- they stand for the bytes of a database that is refused for this
pub record IsRefusedFor (f : Files) (refusal : FileRefusal) : Type 0 where
  pub bytes : List ℕ
  pub stood : standing f ≡ Stands bytes
  pub refused : first_refusal (take 100 bytes) (length bytes) ≡ Some refusal

-- they stand for the bytes of a database that is not refused, and its image is none that is served
pub record IsUnbuilt (f : Files) : Type 0 where
  pub bytes : List ℕ
  pub stood : standing f ≡ Stands bytes
  pub accepted : first_refusal (take 100 bytes) (length bytes) ≡ None
  pub unserved : (image : Image) → Serves f image → ⊥

-- the two files are refused for this; want of memory and failures refuse none
abbrev pub Refuses : Files → OpenError → Type 0
Refuses f (Memory fault) = ⊥
Refuses f (Failed way) = ⊥
Refuses f Super = standing f ≡ IsSuper
Refuses f (Short page) = standing f ≡ IsShort page
Refuses f Journal = standing f ≡ IsTooLarge
Refuses f (Refused refusal) = IsRefusedFor f refusal
Refuses f Unbuilt = IsUnbuilt f
