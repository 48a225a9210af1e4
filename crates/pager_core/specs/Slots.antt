-- What is kept of one page.
use Rattle.std.specs.Prelude.{◌≡◌, ℕ, Bool, true, false, List, length, Option, Some, None, IfSome}
use Rattle.alter_bytes.specs.Field.{overlaid}
use Rattle.pager_core.specs.declared.slot.Slot.{Slot}
use Rattle.pager_core.specs.declared.slot.Slot.TheVariants.{Unread, Same, Changed}

-- the page's bytes, if it was read
abbrev pub shown_in : Slot → Option (List ℕ)
shown_in Unread = None
shown_in (Same bytes) = Some bytes
shown_in (Changed bytes original) = Some bytes

-- its bytes before it was changed, if it was read before that
abbrev pub original_in : Slot → Option (List ℕ)
original_in Unread = None
original_in (Same bytes) = Some bytes
original_in (Changed bytes original) = original

abbrev pub is_changed_in : Slot → Bool
is_changed_in Unread = false
is_changed_in (Same bytes) = false
is_changed_in (Changed bytes original) = true

-- the page with a piece written at `at`
abbrev pub changed_slot : ℕ → List ℕ → Slot → Slot
changed_slot at piece Unread = Unread
changed_slot at piece (Same bytes) = Changed (overlaid bytes at piece) (Some bytes)
changed_slot at piece (Changed bytes original) = Changed (overlaid bytes at piece) original

-- a page as it was first read, if it was
abbrev pub read_slot : Option (List ℕ) → Slot
read_slot None = Unread
read_slot (Some bytes) = Same bytes

-- the page without its changes
abbrev pub forgotten : Slot → Slot
forgotten Unread = Unread
forgotten (Same bytes) = Same bytes
forgotten (Changed bytes original) = read_slot original

-- the page with its changes, which no longer count as such
abbrev pub settled : Slot → Slot
settled Unread = Unread
settled (Same bytes) = Same bytes
settled (Changed bytes original) = Same bytes

-- what is kept has so many bytes
abbrev pub HasLength : ℕ → Slot → Type 0
HasLength page Unread = Unit {0}
HasLength page (Same bytes) = length bytes ≡ page
HasLength page (Changed bytes original) = (length bytes ≡ page) × IfSome original (λ old. length old ≡ page)

-- so many bytes are what a copy of the page takes, which was not changed before
abbrev pub HasRoom : ℕ → Slot → Type 0
HasRoom room Unread = Unit {0}
HasRoom room (Same bytes) = room ≡ length bytes
HasRoom room (Changed bytes original) = Unit {0}
