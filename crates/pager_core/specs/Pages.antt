-- The pages of a file over its disk, as far as they are known.
use Rattle.std.specs.Prelude.{◌≡◌, ◌≢◌, ◌≤◌, ◌<◌, ℕ, ◌-◌, ◌*◌, Bool, true, false, List, [], ◌++◌, length, take, drop, replicate, Option, Some, IsSome, IsSomeAnd, option_map, unwrap_or}
use Rattle.std.specs.Option.{option_or}
use Rattle.alter_bytes.specs.Field.{overlaid}
use Rattle.alter_disk.specs.declared.disk.Disk.{Ghosts}
use Rattle.alter_disk.specs.Moments.{ReadsQuietly}
use Rattle.pager_core.specs.declared.file_shape.FileShape.{FileShape}
use Rattle.pager_core.specs.declared.pages.Pages.{Pages}
use Rattle.pager_core.specs.Header.{page_count, page_size}
use Rattle.pager_core.specs.Kept.{KeepsAll, changed_pages, slot_of, unread}
use Rattle.pager_core.specs.Slots.{is_changed_in, original_in, shown_in}

-- the bytes, filled up with zeros to this length
abbrev pub padded : ℕ → List ℕ → List ℕ
padded size bytes = bytes ++ replicate (size - length bytes) 0

-- the page of this number, from 1, in the bytes of a file; those past its end count as zero
abbrev pub page_bytes : ℕ → ℕ → List ℕ → List ℕ
page_bytes size number bytes = padded size (take size (drop ((number - 1) * size) bytes))

module _ {D : Type 0} where
  -- the disk that the pages own
  abbrev pub disk_of : Pages D → D
  disk_of pages = pages.disk

  -- the file's sizes with its changes
  abbrev pub shape_of : Pages D → FileShape
  shape_of pages = pages.kept.shape

  -- how many pages it had before them
  abbrev pub before_of : Pages D → ℕ
  before_of pages = pages.kept.before

  -- how many pages count as changed
  abbrev pub dirty_of : Pages D → ℕ
  dirty_of pages = changed_pages pages.kept

  -- the pages of a file of this shape, none of which was read
  abbrev pub unread_pages : D → FileShape → Pages D
  unread_pages disk shape = record { disk = disk; kept = unread shape }

  -- the same pages over this disk
  abbrev pub with_disk : Pages D → D → Pages D
  with_disk pages disk = record pages { disk = disk }

  -- nothing is kept of a page that was not kept before, and all else is kept as it was
  abbrev pub KeepsNoMore : Pages D → Pages D → Type 0
  KeepsNoMore old new = KeepsAll old.kept new.kept

  -- what is kept of every other page is the same
  abbrev pub KeepsOthers : ℕ → Pages D → Pages D → Type 0
  KeepsOthers n old new = (m : ℕ) → m ≢ n → slot_of new.kept m ≡ slot_of old.kept m

  -- a number of a page, from 1
  abbrev pub IsPage : Pages D → ℕ → Type 0
  IsPage pages n = (1 ≤ n) × (n ≤ (shape_of pages).count)

  -- the bytes of a page that was read or changed
  abbrev pub shown : Pages D → ℕ → Option (List ℕ)
  shown pages n = shown_in (slot_of pages.kept n)

  -- the page counts as changed
  abbrev pub is_changed : Pages D → ℕ → Bool
  is_changed pages n = is_changed_in (slot_of pages.kept n)

  -- each page that was not there before the changes counts as changed
  abbrev pub CountsAdded : Pages D → Type 0
  CountsAdded pages = (n : ℕ) → before_of pages < n → n ≤ (shape_of pages).count → is_changed pages n ≡ true

  -- the page's bytes in the database, where the disk tells them
  abbrev pub told : Ghosts D → Pages D → ℕ → Option (List ℕ)
  told disk pages n = option_map (λ files. page_bytes pages.kept.shape.page n files.db) (disk.files pages.disk)

  -- the page's bytes: those that are kept, or else those in the database
  abbrev pub known : Ghosts D → Pages D → ℕ → Option (List ℕ)
  known disk pages n = option_or (shown pages n) (told disk pages n)

  -- the bytes of a page that was read, without its changes
  abbrev pub kept_original : Pages D → ℕ → Option (List ℕ)
  kept_original pages n = original_in (slot_of pages.kept n)

  -- the page's bytes without its changes
  abbrev pub original : Ghosts D → Pages D → ℕ → Option (List ℕ)
  original disk pages n = option_or (kept_original pages n) (told disk pages n)

  -- where the page stands in the database
  abbrev pub place_of : Pages D → ℕ → ℕ
  place_of pages n = (n - 1) * pages.kept.shape.page

  -- the bytes of a page that is kept
  abbrev pub bytes_of : Pages D → ℕ → List ℕ
  bytes_of pages n = unwrap_or (shown pages n) []

-- what is kept of the page stays, and so does what was known of it, with its changes and without
pub record PageStays {D : Type 0} (disk : Ghosts D) (n : ℕ) (old new : Pages D) : Type 0 where
  pub kept : (bytes : List ℕ) → shown old n ≡ Some bytes → shown new n ≡ Some bytes
  pub known : (bytes : List ℕ) → known disk old n ≡ Some bytes → known disk new n ≡ Some bytes
  pub original : (bytes : List ℕ) → original disk old n ≡ Some bytes → original disk new n ≡ Some bytes
  pub changed : is_changed new n ≡ is_changed old n

-- what was known of the pages is known
abbrev pub KeepsKnown : {D : Type 0} → Ghosts D → Pages D → Pages D → Type 0
KeepsKnown disk old new = (n : ℕ) (bytes : List ℕ) → 1 ≤ n → known disk old n ≡ Some bytes → known disk new n ≡ Some bytes

-- all pages stay, and the disk was only read
pub record StayAll {D : Type 0} (disk : Ghosts D) (old new : Pages D) : Type 0 where
  pub shape : shape_of new ≡ shape_of old
  pub before : before_of new ≡ before_of old
  pub pages : (n : ℕ) → PageStays disk n old new
  pub reads : ReadsQuietly disk (disk_of old) (disk_of new)

-- one page has this piece at `at`, and all others stay
pub record ChangesPage {D : Type 0} (disk : Ghosts D) (n at : ℕ) (piece : List ℕ) (old new : Pages D) : Type 0 where
  pub shape : shape_of new ≡ shape_of old
  pub before : before_of new ≡ before_of old
  pub there : IsSome (shown new n)
  pub bytes : (bytes : List ℕ) → known disk old n ≡ Some bytes → shown new n ≡ Some (overlaid bytes at piece)
  pub original : (bytes : List ℕ) → original disk old n ≡ Some bytes → original disk new n ≡ Some bytes
  pub changed : is_changed new n ≡ true
  -- where it did not count as changed, its bytes before the piece are kept
  pub first : is_changed old n ≡ false → IsSomeAnd (kept_original new n) (λ was. shown new n ≡ Some (overlaid was at piece))
  pub others : (m : ℕ) → m ≢ n → PageStays disk m old new
  pub reads : ReadsQuietly disk (disk_of old) (disk_of new)

-- the pages are as they were before the changes, and there are as many as then
pub record ForgetsChanges {D : Type 0} (disk : Ghosts D) (old new : Pages D) : Type 0 where
  pub shape : shape_of new ≡ record (shape_of old) { count = before_of old }
  pub before : before_of new ≡ before_of old
  pub pages : (n : ℕ) → n ≤ before_of old → known disk new n ≡ original disk old n
  pub changed : (n : ℕ) → is_changed new n ≡ false
  pub stays : disk_of new ≡ disk_of old

-- the pages stay as they are with the changes, and none counts as changed
pub record SettlesChanges {D : Type 0} (disk : Ghosts D) (old new : Pages D) : Type 0 where
  pub shape : shape_of new ≡ shape_of old
  pub before : before_of new ≡ (shape_of old).count
  pub kept : (n : ℕ) → shown new n ≡ shown old n
  pub pages : (n : ℕ) → known disk new n ≡ known disk old n
  pub original : (n : ℕ) → original disk new n ≡ known disk old n
  pub changed : (n : ℕ) → is_changed new n ≡ false
  pub stays : disk_of new ≡ disk_of old

-- the pages without their changes are those of these bytes of a database, which has as many and has them wholly
pub record FitsDatabase {D : Type 0} (disk : Ghosts D) (pages : Pages D) (db : List ℕ) : Type 0 where
  pub size : page_size db ≡ (shape_of pages).page
  pub count : page_count db (length db) ≡ before_of pages
  pub whole : before_of pages * (shape_of pages).page ≤ length db
  pub originals : (n : ℕ) → 1 ≤ n → n ≤ before_of pages → original disk pages n ≡ Some (page_bytes (shape_of pages).page n db)
