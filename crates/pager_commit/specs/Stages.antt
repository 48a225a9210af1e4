-- What a crash may leave of both files while a commit goes on, and what they are between its stages.
use Rattle.std.specs.Prelude.{◌≡◌, ◌⊎◌, ◌≤◌, ℕ, zero, suc, ◌-◌, ◌*◌, Bool, true, false, if◌then◌else◌, List, length}
use Rattle.alter_disk.specs.declared.disk.Disk.{Ghosts}
use Rattle.alter_disk.specs.declared.which.Which.TheVariants.{Db, Journal}
use Rattle.alter_disk.specs.Changes.{overwritten}
use Rattle.alter_disk.specs.Files.{Files}
use Rattle.alter_disk.specs.Moments.{Leaves, Reads, Rests}
use Rattle.rollback_journal.specs.declared.heat.Heat.TheVariants.{Cold}
use Rattle.rollback_journal.specs.Heat.{heat_of}
use Rattle.rollback_journal.specs.Playback.{file_page}
use Rattle.pager_core.specs.declared.pages.Pages.{Pages}
use Rattle.pager_core.specs.Pages.{bytes_of, disk_of, is_changed, shape_of}

-- both files read so, and each crash now leaves them so
pub record RestBoth {D : Type 0} (disk : Ghosts D) (base log : List ℕ) (d : D) : Type 0 where
  pub db : Rests disk Db base d
  pub journal : Rests disk Journal log d

-- the database is this one, beside a cold journal
pub record ColdBeside (base : List ℕ) (c : Files) : Type 0 where
  pub db : c.db ≡ base
  pub cold : heat_of c.journal ≡ Cold

-- the database is this one, beside this journal or a cold one
pub record ColdOr (base log : List ℕ) (c : Files) : Type 0 where
  pub db : c.db ≡ base
  pub journal : (c.journal ≡ log) ⊎ (heat_of c.journal ≡ Cold)

-- each page that was not to be changed and stood in the old file stands in the new one as it was
pub record KeepsUnchanged (changed : ℕ → Bool) (page : ℕ) (old new : List ℕ) : Type 0 where
  pub each : (n : ℕ) → 1 ≤ n → changed n ≡ false → n * page ≤ length old → (n * page ≤ length new) × (file_page page new n ≡ file_page page old n)

-- the journal is this one, and the database has each page that was not to be changed
pub record Unchanged (changed : ℕ → Bool) (page : ℕ) (base log : List ℕ) (c : Files) : Type 0 where
  pub db : KeepsUnchanged changed page base c.db
  pub journal : c.journal ≡ log

-- a database after page n was written, if it is to be changed
abbrev pub written_one : (changed : ℕ → Bool) (bytes : ℕ → List ℕ) (page n : ℕ) → List ℕ → List ℕ
written_one changed bytes page n base = if changed n then overwritten base ((n - 1) * page) (bytes n) else base

-- a database after those of its first n pages were written that are to be changed
unfoldable pub written_upto : (changed : ℕ → Bool) (bytes : ℕ → List ℕ) (page n : ℕ) → List ℕ → List ℕ
written_upto changed bytes page zero base = base
written_upto changed bytes page (suc n) base = written_one changed bytes page (suc n) (written_upto changed bytes page n base)

-- the changed pages up to n were written, beside a journal that rests
pub record Writes {D : Type 0} (disk : Ghosts D) (changed : ℕ → Bool) (bytes : ℕ → List ℕ) (page n : ℕ) (base log : List ℕ) (old new : D) : Type 0 where
  pub reads : Reads disk Db (written_upto changed bytes page n base) new
  pub journal : Rests disk Journal log new
  pub crash : (c : Files) → disk.may_leave new c → Unchanged changed page base log c
  pub stops : Leaves disk old new (Unchanged changed page base log)

-- the same of the pages that count as changed
abbrev pub WritesPages : {D : Type 0} → Ghosts D → Pages D → ℕ → D → Type 0
WritesPages disk pages n new = (base log : List ℕ) → RestBoth disk base log (disk_of pages)
    → Writes disk (is_changed pages) (bytes_of pages) (shape_of pages).page n base log (disk_of pages) new

-- the first n pages have their size, where they count as changed
abbrev pub HasExtents : {D : Type 0} → ℕ → Pages D → Type 0
HasExtents n pages = (m : ℕ) → 1 ≤ m → m ≤ n → is_changed pages m ≡ true → length (bytes_of pages m) ≡ (shape_of pages).page

-- a database after all pages were written that count as changed
abbrev pub written_whole : {D : Type 0} → Pages D → List ℕ → List ℕ
written_whole pages base = written_upto (is_changed pages) (bytes_of pages) (shape_of pages).page (shape_of pages).count base

-- no page that is not to be changed is lost at any moment, beside a journal that rests
abbrev pub LosesNone : {D : Type 0} → Ghosts D → Pages D → D → Type 0
LosesNone disk pages new = (base log : List ℕ) → RestBoth disk base log (disk_of pages)
    → Leaves disk (disk_of pages) new (Unchanged (is_changed pages) (shape_of pages).page base log)

-- Before `mid` the database is as it was, beside a cold journal or the whole one. At `mid` the whole journal is durable, or
-- the run ends there. From then on the pages are written beside the whole journal, and at last it may be cold again.
pub record GoesThrough {D : Type 0} (disk : Ghosts D) (pages : Pages D) (base log : List ℕ) (new : D) : Type 0 where
  pub mid : D
  pub whole : (mid ≡ new) ⊎ RestBoth disk base log mid
  pub before : Leaves disk (disk_of pages) mid (ColdOr base log)
  pub behind : Leaves disk mid new (λ c. Unchanged (is_changed pages) (shape_of pages).page base log c ⊎ (HasExtents (shape_of pages).count pages × ColdOr (written_whole pages base) log c))

-- the database rests as these bytes, beside a cold journal that rests
pub record IsEnded {D : Type 0} (disk : Ghosts D) (base : List ℕ) (d : D) : Type 0 where
  pub log : List ℕ
  pub rests : RestBoth disk base log d
  pub cold : heat_of log ≡ Cold
