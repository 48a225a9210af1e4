-- What a new page 1 makes of the pages of an opened database.
use Rattle.std.specs.Prelude.{◌≡◌, ℕ, false, List, ◌∷◌, drop, Some, Result}
use Rattle.alter_disk.specs.declared.disk.Disk.{Ghosts}
use Rattle.alter_disk.specs.declared.way.Way.TheVariants.{Read, Write}
use Rattle.alter_disk.specs.Faults.{HasCauseOf}
use Rattle.alter_disk.specs.Moments.{ReadsQuietly}
use Rattle.pager_core.specs.declared.error.PageError.{PageError}
use Rattle.pager_core.specs.declared.error.PageError.TheVariants as pages
use Rattle.pager_core.specs.declared.file_shape.FileShape.{FileShape}
use Rattle.pager_core.specs.declared.pages.Pages.{Pages}
use Rattle.pager_core.specs.Header.{number_at, page_size}
use Rattle.pager_core.specs.Image.{image_of, known_image}
use Rattle.pager_core.specs.Pages.{before_of, disk_of, is_changed, shape_of}
use Rattle.pager_commit.specs.Ready.{IsOpened, IsReady}
use Rattle.alter_session.specs.declared.fault.Fault.{Fault}
use Rattle.alter_session.specs.declared.fault.Fault.TheVariants.{Memory, Failed}

-- the pages are those of a database that rests, beside a cold journal, and none of them counts as changed
pub record IsClean {D : Type 0} (disk : Ghosts D) (image : List (List ℕ)) (pages : Pages D) : Type 0 where
  pub base : List ℕ
  pub log : List ℕ
  pub opened : IsOpened disk pages base log
  pub image_is : image_of base ≡ Some image
  pub count : before_of pages ≡ (shape_of pages).count
  pub unchanged : (n : ℕ) → is_changed pages n ≡ false

-- a page 1 that gives the sizes of the file: that of a page, and up to date that in pages
pub record GivesSizes (shape : FileShape) (page : List ℕ) : Type 0 where
  pub size : page_size page ≡ shape.page
  pub count : number_at 4 28 page ≡ shape.count
  pub current : number_at 4 24 page ≡ number_at 4 92 page

-- the image with another page 1
abbrev pub with_first : List ℕ → List (List ℕ) → List (List ℕ)
with_first page image = page ∷ drop 1 image

-- page 1 was put in, over a database of this image, and the plan is the journal of that
pub record IsStaged {D : Type 0} (disk : Ghosts D) (image : List (List ℕ)) (page plan : List ℕ) (pages : Pages D) : Type 0 where
  pub base : List ℕ
  pub log : List ℕ
  pub opened : IsOpened disk pages base log
  pub ready : IsReady disk pages base log plan
  pub before : image_of base ≡ Some image
  pub after : known_image disk pages ≡ Some (with_first page image)

-- the sizes of the file stay
pub record KeepsSizes {D : Type 0} (old new : Pages D) : Type 0 where
  pub shape : shape_of new ≡ shape_of old
  pub before : before_of new ≡ before_of old

-- why a page was not read
abbrev pub fault_of_page : PageError → Fault
fault_of_page (pages.Memory fault) = Memory fault
fault_of_page pages.Failed = Failed Read

-- a failure names its kind: that count rose where it is the answer, and else it stayed
pub record HasCauses {D T : Type 0} (disk : Ghosts D) (old new : D) (result : Result T Fault) : Type 0 where
  pub reading : HasCauseOf (Failed Read) (disk.read_faults old) (disk.read_faults new) result
  pub writing : HasCauseOf (Failed Write) (disk.write_faults old) (disk.write_faults new) result

-- before the first write the disk was only read, and no page counts as changed
abbrev pub IsBefore : {D : Type 0} → Ghosts D → Pages D → Pages D → Fault → Type 0
IsBefore disk old new (Failed Write) = Unit {0}
IsBefore disk old new fault = ReadsQuietly disk (disk_of old) (disk_of new) × ((image : List (List ℕ)) → IsClean disk image old → IsClean disk image new)
