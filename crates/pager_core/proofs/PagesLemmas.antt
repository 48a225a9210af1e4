-- What is known of the pages after a page is read or changed.
use Rattle.std.proofs.Common.{◌≡◌, ℕ, inl, inr, false, List, Option, Some, None, is_some, option_map, refl, sym, ap, ap₂, ◌∙◌, subst}
use Rattle.std.proofs.lemmas.Bool.{cases_eq, cases_lt}
use Rattle.std.specs.Option.{option_or}
use Rattle.alter_disk.specs.Changes.{IfTold}
use Rattle.alter_disk.specs.Files.{Files}
use Rattle.alter_disk.specs.Moments.{ReadsQuietly}
use Rattle.alter_disk.specs.declared.disk.Disk.{Ghosts}
use Rattle.pager_core.specs.declared.file_shape.FileShape.{FileShape}
use Rattle.pager_core.specs.declared.pages.Pages.{Pages}
use Rattle.pager_core.specs.declared.slot.Slot.{Slot}
use Rattle.pager_core.specs.declared.slot.Slot.TheVariants.{Unread, Same, Changed}
use Rattle.pager_core.specs.Kept.{Forgets, KeepsAll, KeptPages, Puts, Settles, slot_of}
use Rattle.pager_core.specs.Pages.{ForgetsChanges, PageStays, SettlesChanges, StayAll, original, page_bytes, shown, told}
use Rattle.pager_core.specs.Slots.{forgotten, is_changed_in, original_in, settled, shown_in}

-- a page that is not shown was not read
pub unread_slot : (slot : Slot) → is_some (shown_in slot) ≡ false → slot ≡ Unread
unread_slot Unread none = refl
unread_slot (Same bytes) none = absurd (cc)
unread_slot (Changed bytes original) none = absurd (cc)

-- a value that is told is the one of which something is said
told_is : (f : Files → List ℕ) (files : Option Files) (bytes page : List ℕ) → IfTold files (λ g. bytes ≡ f g) → option_map f files ≡ Some page → bytes ≡ page
told_is f None bytes page so is = absurd (cc)
told_is f (Some g) bytes page so is = let e : f g ≡ page = cc in so ∙ e

not_none : {X : Type 0} (o : Option X) (x : X) → o ≡ None → o ≡ Some x → ⊥
not_none None x none is = cc
not_none (Some y) x none is = cc

module _ {D : Type 0} (disk : Ghosts D) where
  told_same : (old new : Pages D) → new.kept.shape ≡ old.kept.shape → disk.files new.disk ≡ disk.files old.disk → (n : ℕ) → told disk new n ≡ told disk old n
  told_same old new shape files n = ap₂ (λ (s : FileShape) (f : Option Files). option_map (λ g. page_bytes s.page n g.db) f) shape files

  page_stays : (old new : Pages D) → new.kept.shape ≡ old.kept.shape → disk.files new.disk ≡ disk.files old.disk
      → (n : ℕ) → slot_of new.kept n ≡ slot_of old.kept n → PageStays disk n old new
  page_stays old new shape files n same = record {
    kept = λ bytes is. ap shown_in same ∙ is;
    known = λ bytes is. ap₂ (λ s t. option_or (shown_in s) t) same (told_same old new shape files n) ∙ is;
    original = λ bytes is. ap₂ (λ s t. option_or (original_in s) t) same (told_same old new shape files n) ∙ is;
    changed = ap is_changed_in same;
  }

  -- a page that was not read is kept as the disk tells it
  read_page : (old new : Pages D) (n : ℕ) (bytes : List ℕ) → new.kept.shape ≡ old.kept.shape → disk.files new.disk ≡ disk.files old.disk
      → slot_of old.kept n ≡ Unread → slot_of new.kept n ≡ Same bytes → IfTold (disk.files old.disk) (λ f. bytes ≡ page_bytes old.kept.shape.page n f.db)
      → PageStays disk n old new
  read_page old new n bytes shape files was here so =
      let fits : (page : List ℕ) → told disk old n ≡ Some page → bytes ≡ page = λ page is. told_is (λ f. page_bytes old.kept.shape.page n f.db) (disk.files old.disk) bytes page so is in
      record {
        kept = λ page is. absurd (not_none (shown old n) page (ap shown_in was) is);
        known = λ page is.
            ap (λ s. option_or (shown_in s) (told disk new n)) here ∙ ap Some (fits page (sym (ap (λ s. option_or (shown_in s) (told disk old n)) was) ∙ is));
        original = λ page is.
            ap (λ s. option_or (original_in s) (told disk new n)) here ∙ ap Some (fits page (sym (ap (λ s. option_or (original_in s) (told disk old n)) was) ∙ is));
        changed = ap is_changed_in here ∙ sym (ap is_changed_in was);
      }

  pub read_stays : (old new : Pages D) (mid : KeptPages) (n page : ℕ) (bytes : List ℕ) → slot_of old.kept n ≡ Unread → KeepsAll old.kept mid
      → Puts n (Same bytes) mid new.kept → ReadsQuietly disk old.disk new.disk → page ≡ mid.shape.page
      → IfTold (disk.files old.disk) (λ f. bytes ≡ page_bytes page n f.db) → StayAll disk old new
  read_stays old new mid n page bytes was keeps put reads size read =
      let shape = put.shape ∙ keeps.shape in
      let P : ℕ → Type 0 = λ k. IfTold (disk.files old.disk) (λ f. bytes ≡ page_bytes k n f.db) in
      let so = subst P (size ∙ ap (λ (s : FileShape). s.page) keeps.shape) read in
      record {
        shape = shape;
        before = put.before ∙ keeps.before;
        pages = λ m. elim (cases_eq m n) [
          | inl same ↦ let P : ℕ → Type 0 = λ k. PageStays disk k old new in subst P (sym same) (read_page old new n bytes shape reads.only.files was put.here so)
          | inr other ↦ page_stays old new shape reads.only.files m (put.others m other ∙ keeps.slots m)
        ];
        reads = reads;
      }

-- what is shown of a page that is forgotten or settled
forgotten_shown : (slot : Slot) → shown_in (forgotten slot) ≡ original_in slot
forgotten_shown Unread = refl
forgotten_shown (Same bytes) = refl
forgotten_shown (Changed bytes None) = refl
forgotten_shown (Changed bytes (Some old)) = refl

forgotten_counts : (slot : Slot) → is_changed_in (forgotten slot) ≡ false
forgotten_counts Unread = refl
forgotten_counts (Same bytes) = refl
forgotten_counts (Changed bytes None) = refl
forgotten_counts (Changed bytes (Some old)) = refl

settled_shown : (slot : Slot) → shown_in (settled slot) ≡ shown_in slot
settled_shown Unread = refl
settled_shown (Same bytes) = refl
settled_shown (Changed bytes old) = refl

settled_original : (slot : Slot) → original_in (settled slot) ≡ shown_in slot
settled_original Unread = refl
settled_original (Same bytes) = refl
settled_original (Changed bytes old) = refl

settled_counts : (slot : Slot) → is_changed_in (settled slot) ≡ false
settled_counts Unread = refl
settled_counts (Same bytes) = refl
settled_counts (Changed bytes old) = refl

pub forgets_changes : {D : Type 0} (disk : Ghosts D) (pages : Pages D) (kept : KeptPages) → Forgets pages.kept kept
    → ForgetsChanges disk pages (record { disk = pages.disk; kept = kept })
forgets_changes disk pages kept gone = record {
  shape = gone.shape;
  before = gone.before;
  pages = λ n within. ap₂ (λ (o : Option (List ℕ)) (s : FileShape). option_or o (option_map (λ g. page_bytes s.page n g.db) (disk.files pages.disk)))
      (ap shown_in (gone.slots n within) ∙ forgotten_shown (slot_of pages.kept n)) gone.shape;
  changed = λ n. elim (cases_lt pages.kept.before n) [
    | inl past ↦ ap is_changed_in (gone.behind n past)
    | inr within ↦ ap is_changed_in (gone.slots n within) ∙ forgotten_counts (slot_of pages.kept n)
  ];
  stays = refl;
}

pub settles_changes : {D : Type 0} (disk : Ghosts D) (pages : Pages D) (kept : KeptPages) → Settles pages.kept kept
    → SettlesChanges disk pages (record { disk = pages.disk; kept = kept })
settles_changes disk pages kept done =
    let same : (n : ℕ) → shown_in (slot_of kept n) ≡ shown_in (slot_of pages.kept n) = λ n. ap shown_in (done.slots n) ∙ settled_shown (slot_of pages.kept n) in
    let telling : (n : ℕ) → option_map (λ g. page_bytes kept.shape.page n g.db) (disk.files pages.disk) ≡ told disk pages n =
    λ n. ap (λ (s : FileShape). option_map (λ g. page_bytes s.page n g.db) (disk.files pages.disk)) done.shape in
    record {
      shape = done.shape;
      before = done.before;
      kept = same;
      pages = λ n. ap₂ option_or (same n) (telling n);
      original = λ n. ap₂ option_or (ap original_in (done.slots n) ∙ settled_original (slot_of pages.kept n)) (telling n);
      changed = λ n. ap is_changed_in (done.slots n) ∙ settled_counts (slot_of pages.kept n);
      stays = refl;
    }
