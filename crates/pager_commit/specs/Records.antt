-- The records that were added to a journal so far.
use Rattle.std.specs.Prelude.{◌≡◌, ◌<◌, ◌^◌, ℕ, Bool, true, false, List, ◌++◌, length, map, Option}
use Rattle.std.specs.List.{AllByRecursion, flat_map}
use Rattle.alter_disk.specs.Changes.{IfTold}
use Rattle.alter_disk.specs.Files.{Files}
use Rattle.rollback_journal.specs.Checksum.{checksum_of}
use Rattle.rollback_journal.specs.Records.{Entry}
use Rattle.pager_commit.specs.Plan.{AddsRecord, entry_at, numbers_upto, record_of}

-- an entry has a whole page, whose checksum is small
pub record IsSmallEntry (page : ℕ) (entry : Entry) : Type 0 where
  pub extent : length entry.bytes ≡ page
  pub sum : checksum_of 0 entry.bytes < 2 ^ 24

-- behind a front stand the records of those of the first n pages that are changed, as the database has them where it is told
pub record HasRecords (changed : ℕ → Bool) (page n : ℕ) (files : Option Files) (front log : List ℕ) : Type 0 where
  pub entries : List Entry
  pub numbers : map (λ (e : Entry). e.page) entries ≡ numbers_upto changed n
  pub small : AllByRecursion (IsSmallEntry page) entries
  pub told : IfTold files (λ f. entries ≡ map (entry_at page f.db) (numbers_upto changed n))
  pub journal : log ≡ front ++ flat_map record_of entries

-- a record was added, or nothing where the page is not changed
abbrev pub MayAdd : Bool → (page n : ℕ) → Option Files → List ℕ → List ℕ → Type 0
MayAdd true page n files old new = AddsRecord page n files old new
MayAdd false page n files old new = new ≡ old
