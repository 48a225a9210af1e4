-- What a page that is written at its place leaves of the other pages.
use Rattle.std.proofs.Common.{◌≡◌, ◌≢◌, ℕ, zero, suc, ◌+◌, ◌-◌, ◌*◌, ◌<◌, ◌≤◌, ◌⊎◌, inl, inr, List, [], ◌∷◌, ◌++◌, length, length-append, take, drop, replicate, get_or, Option, Some, None, option_map, refl, sym, ap, ap₂, ◌∙◌, arith, append_assoc}
use Rattle.std.proofs.lemmas.Bool.{cases_eq, cases_order}
use Rattle.std.proofs.lemmas.List.{ext_get_or, get_or-append_right, get_or-drop, get_or-take, length-replicate, length-take, length-take-le}
use Rattle.std.proofs.Math.Nat.{mul-le-mul_right}
use Rattle.alter_disk.specs.Changes.{Written, overwritten}
use Rattle.std.specs.Option.{option_or}
use Rattle.alter_disk.specs.declared.disk.Disk.{Ghosts}
use Rattle.alter_disk.specs.declared.which.Which.TheVariants.{Db}
use Rattle.alter_disk.specs.Files.{Files, file, with_file}
use Rattle.pager_core.specs.declared.pages.Pages.{Pages}
use Rattle.pager_core.specs.Kept.{KeptPages, slot_of}
use Rattle.pager_core.specs.Pages.{KeepsKnown, page_bytes, place_of, shown, told}
use Rattle.pager_core.specs.Slots.{shown_in}

get_or-zeros : (k i : ℕ) → ◌≡◌ {A = ℕ} (get_or (replicate k 0) i 0) 0
get_or-zeros zero i = refl
get_or-zeros (suc k) zero = refl
get_or-zeros (suc k) (suc i) = get_or-zeros k i

-- zeros behind are what is read past the end
get_or-filled : (xs : List ℕ) (k i : ℕ) → get_or (xs ++ replicate k 0) i 0 ≡ get_or xs i 0
get_or-filled [] k i = get_or-zeros k i
get_or-filled (x ∷ xs) k zero = refl
get_or-filled (x ∷ xs) k (suc i) = get_or-filled xs k i

get_or-front : (xs ys : List ℕ) (i : ℕ) → i < length xs → get_or (xs ++ ys) i 0 ≡ get_or xs i 0
get_or-front [] ys i within = absurd (omega arith)
get_or-front (x ∷ xs) ys zero within = refl
get_or-front (x ∷ xs) ys (suc i) within = get_or-front xs ys i (omega arith)

-- a byte outside of the piece that was written
pub get_or-overwritten : (old : List ℕ) (at : ℕ) (piece : List ℕ) (j : ℕ) → (j < at) ⊎ (at + length piece ≤ j)
    → get_or (overwritten old at piece) j 0 ≡ get_or old j 0
get_or-overwritten old at piece j outside =
    let filled = old ++ replicate (at - length old) 0 in
    let room : length filled ≡ length old + (at - length old) = length-append old (replicate (at - length old) 0) ∙ ap (λ k. length old + k) (length-replicate {A = ℕ} (at - length old) 0) in
    let front : length (take at filled) ≡ at = length-take-le at filled (omega arith) in
    elim outside [
      | inl before ↦
          ap (λ l. get_or l j 0) (append_assoc (take at filled) piece (drop (at + length piece) old))
          ∙ get_or-front (take at filled) (piece ++ drop (at + length piece) old) j (omega arith)
          ∙ get_or-take at filled j 0 before
          ∙ get_or-filled old (at - length old) j
      | inr behind ↦
          let e : at + length piece + (j - (at + length piece)) ≡ j = omega arith in
          get_or-append_right (take at filled ++ piece) (drop (at + length piece) old) (at + length piece) j 0 (length-append (take at filled) piece ∙ ap (λ k. k + length piece) front) behind
          ∙ get_or-drop (at + length piece) old (j - (at + length piece)) 0
          ∙ ap (λ k. get_or old k 0) e
    ]

-- a page has its size, and its bytes are those at its place
pub length-page : (size n : ℕ) (bytes : List ℕ) → length (page_bytes size n bytes) ≡ size
length-page size n bytes =
    let got = take size (drop ((n - 1) * size) bytes) in
    omega (arith, length-append got (replicate (size - length got) 0), length-replicate {A = ℕ} (size - length got) 0, length-take size (drop ((n - 1) * size) bytes))

get_or-page : (size n : ℕ) (bytes : List ℕ) (i : ℕ) → i < size → get_or (page_bytes size n bytes) i 0 ≡ get_or bytes ((n - 1) * size + i) 0
get_or-page size n bytes i within =
    let got = take size (drop ((n - 1) * size) bytes) in
    get_or-filled got (size - length got) i ∙ get_or-take size (drop ((n - 1) * size) bytes) i 0 within ∙ get_or-drop ((n - 1) * size) bytes i 0

-- the places of different pages are apart
pub pages_apart : (size n m i : ℕ) → 1 ≤ n → 1 ≤ m → m ≢ n → i < size → ((m - 1) * size + i < (n - 1) * size) ⊎ ((n - 1) * size + size ≤ (m - 1) * size + i)
pages_apart size n m i some more other within = elim (cases_order m n) [
  | inl same ↦ absurd (other same)
  | inr apart ↦ elim apart [
    | inl less ↦
        let steps : (m - 1) + 1 ≤ n - 1 = omega arith in
        let whole = mul-le-mul_right size steps in
        let e : ((m - 1) + 1) * size ≡ (m - 1) * size + size = omega arith in
        inl (omega (arith, whole, e))
    | inr less ↦
        let steps : (n - 1) + 1 ≤ m - 1 = omega arith in
        let whole = mul-le-mul_right size steps in
        let e : ((n - 1) + 1) * size ≡ (n - 1) * size + size = omega arith in
        inr (omega (arith, whole, e))
  ]
]

-- another page than the one that was written stays
pub page-overwritten : (size n m : ℕ) (old piece : List ℕ) → 1 ≤ n → 1 ≤ m → m ≢ n → length piece ≡ size
    → page_bytes size m (overwritten old ((n - 1) * size) piece) ≡ page_bytes size m old
page-overwritten size n m old piece some more other len =
    let new = overwritten old ((n - 1) * size) piece in
    ext_get_or 0 (page_bytes size m new) (page_bytes size m old) (length-page size m new ∙ sym (length-page size m old)) (λ i within.
    let inside : i < size = omega (arith, length-page size m new) in
    let outside = pages_apart size n m i some more other inside in
    let apart : ((m - 1) * size + i < (n - 1) * size) ⊎ ((n - 1) * size + length piece ≤ (m - 1) * size + i) =
    elim outside [ inl before ↦ inl before | inr behind ↦ inr (omega (arith, len)) ] in
    get_or-page size m new i inside ∙ get_or-overwritten old ((n - 1) * size) piece ((m - 1) * size + i) apart ∙ sym (get_or-page size m old i inside))

-- what is told of another page stays
told-written : (size n m : ℕ) (piece : List ℕ) (files : Option Files) → 1 ≤ n → 1 ≤ m → m ≢ n → length piece ≡ size
    → option_map (λ f. page_bytes size m f.db) (option_map (λ f. with_file Db (overwritten (file Db f) ((n - 1) * size) piece) f) files)
    ≡ option_map (λ f. page_bytes size m f.db) files
told-written size n m piece None some more other len = refl
told-written size n m piece (Some f) some more other len = ap Some (page-overwritten size n m f.db piece some more other len)

-- what is known of each page is known after a page that is kept was written at its place
pub known-written : {D : Type 0} (disk : Ghosts D) (old new : Pages D) (n place : ℕ) (piece : List ℕ) → new.kept ≡ old.kept
    → place ≡ place_of old n → shown old n ≡ Some piece → 1 ≤ n → length piece ≡ old.kept.shape.page
    → Written Db place piece (disk.files old.disk) (disk.files new.disk) → KeepsKnown disk old new
known-written disk old new n place piece same at is some len written m bytes more known_before = elim (cases_eq m n) [
  | inl here ↦
      let was : shown old m ≡ Some piece = ap (shown old) here ∙ is in
      let now : shown new m ≡ Some piece = ap (λ k. shown_in (slot_of k m)) same ∙ was in
      ap (λ o. option_or o (told disk new m)) now ∙ sym (ap (λ o. option_or o (told disk old m)) was) ∙ known_before
  | inr other ↦
      let size = old.kept.shape.page in
      let files : disk.files new.disk ≡ option_map (λ f. with_file Db (overwritten (file Db f) ((n - 1) * size) piece) f) (disk.files old.disk) =
      written ∙ ap (λ k. option_map (λ f. with_file Db (overwritten (file Db f) k piece) f) (disk.files old.disk)) at in
      let telling : told disk new m ≡ told disk old m =
      ap₂ (λ (k : KeptPages) (f : Option Files). option_map (λ g. page_bytes k.shape.page m g.db) f) same files ∙ told-written size n m piece (disk.files old.disk) some more other len in
      ap₂ option_or (ap (λ k. shown_in (slot_of k m)) same) telling ∙ known_before
]
