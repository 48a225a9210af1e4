-- Calls that read or change pages leave them over the same database.
use Rattle.std.proofs.Common.{◌≡◌, ℕ, ◌*◌, ◌≤◌, true, false, length, List, [], Option, Some, unwrap_or, refl, sym, ap, ap₂, ◌∙◌, subst}
use Rattle.std.proofs.lemmas.Bool.{cases_eq}
use Rattle.std.proofs.Common.{inl, inr}
use Rattle.alter_disk.specs.declared.disk.Disk.{Ghosts}
use Rattle.pager_core.specs.declared.file_shape.FileShape.{FileShape}
use Rattle.pager_core.specs.declared.pages.Pages.{Pages}
use Rattle.std.specs.Option.{option_or}
use Rattle.pager_core.specs.declared.slot.Slot.{Slot}
use Rattle.pager_core.specs.declared.slot.Slot.TheVariants.{Unread, Same, Changed}
use Rattle.pager_core.specs.Kept.{slot_of}
use Rattle.pager_core.specs.Slots.{is_changed_in, original_in, shown_in}
use Rattle.pager_core.specs.Pages.{ChangesPage, FitsDatabase, StayAll, before_of, bytes_of, is_changed, known, original, page_bytes, shape_of, told}

module _ {D : Type 0} (disk : Ghosts D) where
  fits_on : (old new : Pages D) (db : List ℕ) → shape_of new ≡ shape_of old → before_of new ≡ before_of old
      → ((n : ℕ) (bytes : List ℕ) → original disk old n ≡ Some bytes → original disk new n ≡ Some bytes) → FitsDatabase disk old db → FitsDatabase disk new db
  fits_on old new db shape before same fits =
      let page : (shape_of new).page ≡ (shape_of old).page = ap (λ (s : FileShape). s.page) shape in
      record {
        size = fits.size ∙ sym page;
        count = fits.count ∙ sym before;
        whole = let P : ℕ → Type 0 = λ k. k ≤ length db in subst P (sym (ap₂ (λ (n m : ℕ). n * m) before page)) fits.whole;
        originals = λ n some few. same n _ (fits.originals n some (let P : ℕ → Type 0 = λ k. n ≤ k in subst P before few)) ∙ ap (λ k. Some (page_bytes k n db)) (sym page);
      }

  pub fits_stay : (old new : Pages D) (db : List ℕ) → StayAll disk old new → FitsDatabase disk old db → FitsDatabase disk new db
  fits_stay old new db stay fits = fits_on old new db stay.shape stay.before (λ n bytes is. (stay.pages n).original bytes is) fits

  pub fits_change : (old new : Pages D) (n at : ℕ) (piece db : List ℕ) → ChangesPage disk n at piece old new → FitsDatabase disk old db → FitsDatabase disk new db
  fits_change old new n at piece db change fits = fits_on old new db change.shape change.before (λ m bytes is. elim (cases_eq m n) [
    | inl here ↦ let P : ℕ → Type 0 = λ k. original disk new k ≡ Some bytes in
        let Q : ℕ → Type 0 = λ k. original disk old k ≡ Some bytes in subst P (sym here) (change.original bytes (subst Q here is))
    | inr other ↦ (change.others m other).original bytes is
  ]) fits

changed_shown : (slot : Slot) → is_changed_in slot ≡ true → shown_in slot ≡ Some (unwrap_or (shown_in slot) [])
changed_shown Unread is = absurd (cc)
changed_shown (Same bytes) is = absurd (cc)
changed_shown (Changed bytes old) is = refl

-- a changed page is known by its bytes
pub changed_known : {D : Type 0} (disk : Ghosts D) (pages : Pages D) (n : ℕ) → is_changed pages n ≡ true → known disk pages n ≡ Some (bytes_of pages n)
changed_known disk pages n is = ap (λ (o : Option (List ℕ)). option_or o (told disk pages n)) (changed_shown (slot_of pages.kept n) is)

unchanged_shown : (slot : Slot) → is_changed_in slot ≡ false → shown_in slot ≡ original_in slot
unchanged_shown Unread is = refl
unchanged_shown (Same bytes) is = refl
unchanged_shown (Changed bytes old) is = absurd (cc)

-- a page that is not changed is known as it was
pub unchanged_known : {D : Type 0} (disk : Ghosts D) (pages : Pages D) (n : ℕ) → is_changed pages n ≡ false → known disk pages n ≡ original disk pages n
unchanged_known disk pages n is = ap (λ (o : Option (List ℕ)). option_or o (told disk pages n)) (unchanged_shown (slot_of pages.kept n) is)
