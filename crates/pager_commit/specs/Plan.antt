-- The journal of a commit: by its records the pages are restored as they were before the changes.
use Rattle.std.specs.Prelude.{◌≡◌, ◌<◌, ◌≤◌, ◌^◌, ℕ, zero, suc, ◌-◌, Bool, true, false, if◌then◌else◌, List, [], ◌∷◌, ◌++◌, length, drop, map, replicate, Option}
use Rattle.std.specs.List.{flat_map}
use Rattle.byteorder.specs.Endian.{big_bytes}
use Rattle.alter_disk.specs.Changes.{IfTold}
use Rattle.alter_disk.specs.Files.{Files}
use Rattle.rollback_journal.specs.declared.header.Header.{Header}
use Rattle.rollback_journal.specs.Checksum.{checksum_of}
use Rattle.rollback_journal.specs.Header.{bytes_of, has_magic}
use Rattle.rollback_journal.specs.Records.{Entry}
use Rattle.pager_core.specs.declared.pages.Pages.{Pages}
use Rattle.pager_core.specs.Pages.{CountsAdded, before_of, is_changed, page_bytes, shape_of}
use Rattle.pager_core.specs.Shape.{IsShape}

-- the numbers from 1 to n of which the test holds, in order
abbrev pub numbers_upto : (ℕ → Bool) → ℕ → List ℕ
numbers_upto test zero = []
numbers_upto test (suc n) = if test (suc n) then numbers_upto test n ++ suc n ∷ [] else numbers_upto test n

-- a page of a database, by its number
abbrev pub entry_at : ℕ → List ℕ → ℕ → Entry
entry_at page db n = record { page = n; bytes = page_bytes page n db }

-- the bytes of a journal's record without a nonce: the page's number, the page and its checksum
abbrev pub record_of : Entry → List ℕ
record_of entry = big_bytes 4 entry.page ++ entry.bytes ++ big_bytes 4 (checksum_of 0 entry.bytes)

-- the bytes of a journal with this header, which counts, and these records behind its sector
abbrev pub journal_of : Header → List Entry → List ℕ
journal_of h entries = bytes_of h true ++ replicate (h.sector - 28) 0 ++ flat_map record_of entries

module _ {D : Type 0} where
  -- the pages of which the journal has a record: those that are changed, of the pages that there were before
  abbrev pub journaled : Pages D → List ℕ
  journaled pages = numbers_upto (is_changed pages) (before_of pages)

  -- the header of the journal: the size of the database is the one before the changes
  abbrev pub header_for : Pages D → Header
  header_for pages = record { count = length (journaled pages); nonce = 0; size = before_of pages; sector = 512; page = (shape_of pages).page }

  -- these pages as the database has them
  abbrev pub originals : Pages D → List ℕ → List Entry
  originals pages db = map (entry_at (shape_of pages).page db) (journaled pages)

  -- the plan is the journal of the changed pages as this database has them, and its last eight bytes are not the magic
  pub record IsPlanOf (pages : Pages D) (db plan : List ℕ) : Type 0 where
    pub sound : IsShape (shape_of pages)
    pub some : 1 ≤ before_of pages
    pub within : before_of pages ≤ (shape_of pages).count
    pub added : CountsAdded pages
    pub journal : plan ≡ journal_of (header_for pages) (originals pages db)
    pub own : has_magic (drop (length plan - 8) plan) ≡ false

-- a record of page n was added, which has the page as the database has it where it is told
pub record AddsRecord (page n : ℕ) (files : Option Files) (old new : List ℕ) : Type 0 where
  pub entry : Entry
  pub number : entry.page ≡ n
  pub extent : length entry.bytes ≡ page
  pub told : IfTold files (λ f. entry.bytes ≡ page_bytes page n f.db)
  pub sum : checksum_of 0 entry.bytes < 2 ^ 24
  pub added : new ≡ old ++ record_of entry
