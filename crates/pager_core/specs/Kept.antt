-- What is kept of the pages of a file.
use Rattle.std.specs.Prelude.{◌≡◌, ◌≢◌, ◌≤◌, ◌<◌, ℕ, ◌+◌, true, max, List, [], length, count_by, slice_index_or}
use Rattle.pager_core.specs.declared.file_shape.FileShape.{FileShape}
use Rattle.pager_core.specs.declared.slot.Slot.{Slot}
use Rattle.pager_core.specs.declared.slot.Slot.TheVariants.{Unread}
use Rattle.pager_core.specs.Shape.{IsShape}
use Rattle.pager_core.specs.Slots.{HasLength, forgotten, is_changed_in, settled}

pub record KeptPages : Type 0 where
  -- the file's sizes with its changes
  pub shape : FileShape
  -- how many pages it had before them
  pub before : ℕ
  -- what is kept of each page at the place of its number, as far as pages were read; nothing at place 0
  pub slots : List Slot

-- what is kept of the page of this number
abbrev pub slot_of : KeptPages → ℕ → Slot
slot_of kept n = slice_index_or kept.slots n Unread

-- how many pages count as changed
abbrev pub changed_pages : KeptPages → ℕ
changed_pages kept = count_by is_changed_in kept.slots

-- each page that was not there before the changes counts as changed
abbrev pub CountsAdded : KeptPages → Type 0
CountsAdded kept = (n : ℕ) → kept.before < n → n ≤ kept.shape.count → is_changed_in (slot_of kept n) ≡ true

-- what holds of the pages that are kept
pub record AreKept (kept : KeptPages) : Type 0 where
  pub shape : IsShape kept.shape
  pub some : 1 ≤ kept.before
  pub grown : kept.before ≤ kept.shape.count
  pub few : length kept.slots ≤ kept.shape.count + 1
  pub none : slot_of kept 0 ≡ Unread
  pub lengths : (n : ℕ) → HasLength kept.shape.page (slot_of kept n)
  pub added : CountsAdded kept

-- the same is kept of each page
pub record KeepsAll (old new : KeptPages) : Type 0 where
  pub shape : new.shape ≡ old.shape
  pub before : new.before ≡ old.before
  pub slots : (n : ℕ) → slot_of new n ≡ slot_of old n

-- this is kept of one page, and of each other one the same as before
pub record Puts (n : ℕ) (slot : Slot) (old new : KeptPages) : Type 0 where
  pub shape : new.shape ≡ old.shape
  pub before : new.before ≡ old.before
  pub here : slot_of new n ≡ slot
  pub others : (m : ℕ) → m ≢ n → slot_of new m ≡ slot_of old m

-- empty places were added, so that there are up to so many
pub record AddsUnread (len : ℕ) (old new : List Slot) : Type 0 where
  pub few : length new ≤ max len (length old)
  pub more : length old ≤ length new
  pub slots : (n : ℕ) → slice_index_or new n Unread ≡ slice_index_or old n Unread

-- nothing is kept of the pages of a file of this shape
abbrev pub unread : FileShape → KeptPages
unread shape = record { shape = shape; before = shape.count; slots = [] }

-- the pages are as they were before the changes, and there are as many as then
pub record Forgets (old new : KeptPages) : Type 0 where
  pub shape : new.shape ≡ record old.shape { count = old.before }
  pub before : new.before ≡ old.before
  pub slots : (n : ℕ) → n ≤ old.before → slot_of new n ≡ forgotten (slot_of old n)
  pub behind : (n : ℕ) → old.before < n → slot_of new n ≡ Unread

-- the pages are those with the changes
pub record Settles (old new : KeptPages) : Type 0 where
  pub shape : new.shape ≡ old.shape
  pub before : new.before ≡ old.shape.count
  pub slots : (n : ℕ) → slot_of new n ≡ settled (slot_of old n)
