-- What the pages are when they are committed.
use Rattle.std.specs.Prelude.{◌≡◌, ◌⊎◌, ◌≤◌, ◌<◌, ℕ, ◌*◌, true, List, length, Some}
use Rattle.alter_disk.specs.declared.disk.Disk.{Ghosts}
use Rattle.alter_disk.specs.Files.{Files}
use Rattle.alter_disk.specs.Moments.{Leaves}
use Rattle.rollback_journal.specs.declared.heat.Heat.TheVariants.{Cold}
use Rattle.rollback_journal.specs.Heat.{heat_of}
use Rattle.pager_core.specs.declared.pages.Pages.{Pages}
use Rattle.pager_core.specs.Header.{number_at, page_size}
use Rattle.pager_core.specs.Image.{image_of}
use Rattle.pager_core.specs.Pages.{FitsDatabase, before_of, bytes_of, disk_of, is_changed, known, page_bytes, shape_of}
use Rattle.pager_commit.specs.Opens.{Opens}
use Rattle.pager_commit.specs.Plan.{IsPlanOf}
use Rattle.pager_commit.specs.Stages.{RestBoth}

-- page 1 is changed, and its header gives the pages' size and, up to date, how many there are
pub record HasFirstPage {D : Type 0} (pages : Pages D) : Type 0 where
  pub changed : is_changed pages 1 ≡ true
  pub size : page_size (bytes_of pages 1) ≡ (shape_of pages).page
  pub count : number_at 4 28 (bytes_of pages 1) ≡ (shape_of pages).count
  pub current : number_at 4 24 (bytes_of pages 1) ≡ number_at 4 92 (bytes_of pages 1)

-- a page stands wholly in the database as it is known
pub record StandsIn {D : Type 0} (disk : Ghosts D) (pages : Pages D) (base : List ℕ) (n : ℕ) : Type 0 where
  pub whole : n * (shape_of pages).page ≤ length base
  pub known : known disk pages n ≡ Some (page_bytes (shape_of pages).page n base)

-- each page is changed, or stands in the database
pub record EachStands {D : Type 0} (disk : Ghosts D) (pages : Pages D) (base : List ℕ) : Type 0 where
  pub each : (n : ℕ) → 1 ≤ n → n ≤ (shape_of pages).count → (is_changed pages n ≡ true) ⊎ StandsIn disk pages base n

-- nothing is pending on the disk, its journal is cold, and the plan is that of the pages
pub record IsReady {D : Type 0} (disk : Ghosts D) (pages : Pages D) (base log plan : List ℕ) : Type 0 where
  pub rests : RestBoth disk base log (disk_of pages)
  pub cold : heat_of log ≡ Cold
  pub planned : IsPlanOf pages base plan
  pub first : HasFirstPage pages

-- the database's pages are those before the changes, and each page that was not there before is changed
pub record IsOverDatabase {D : Type 0} (disk : Ghosts D) (pages : Pages D) (base : List ℕ) : Type 0 where
  pub fits : FitsDatabase disk pages base
  pub grown : (n : ℕ) → before_of pages < n → n ≤ (shape_of pages).count → is_changed pages n ≡ true

-- nothing is pending, the journal is cold, and each crash leaves files that open to this image
pub record IsCommitted {D : Type 0} (disk : Ghosts D) (image : List (List ℕ)) (d : D) : Type 0 where
  pub base : List ℕ
  pub log : List ℕ
  pub rests : RestBoth disk base log d
  pub cold : heat_of log ≡ Cold
  pub pages : image_of base ≡ Some image
  pub opens : (c : Files) → disk.may_leave d c → Opens image c

-- Until `mid` each crash leaves files that open to the image before. At `mid` the database is as it was and the whole journal is
-- durable, or the run ends there. From then on each crash leaves files that open to the image before or to the one after.
pub record StopsBetween {D : Type 0} (disk : Ghosts D) (before after : List (List ℕ)) (base plan : List ℕ) (old new : D) : Type 0 where
  pub mid : D
  pub whole : (mid ≡ new) ⊎ RestBoth disk base plan mid
  pub first : Leaves disk old mid (Opens before)
  pub then_ : Leaves disk mid new (λ c. Opens before c ⊎ Opens after c)

-- the pages of an opened database: both its files are told, nothing is pending, the journal is cold, and the pages are over the database
pub record IsOpened {D : Type 0} (disk : Ghosts D) (pages : Pages D) (base log : List ℕ) : Type 0 where
  pub told : disk.files (disk_of pages) ≡ Some (record { db = base; journal = log })
  pub rests : RestBoth disk base log (disk_of pages)
  pub cold : heat_of log ≡ Cold
  pub over : IsOverDatabase disk pages base
