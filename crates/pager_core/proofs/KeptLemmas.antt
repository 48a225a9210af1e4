-- What is kept of the pages after a place is written, added, forgotten or settled.
use Rattle.std.proofs.Common.{◌≡◌, ◌≢◌, ℕ, true, zero, suc, ◌+◌, ◌<◌, ◌≤◌, inl, inr, List, [], ◌∷◌, ◌++◌, length, take, drop, map, set, get_or, refl, sym, ap, ◌∙◌, subst, arith, Some, None, IsSome}
use Rattle.std.proofs.lemmas.Bool.{cases_eq, cases_lt, false≢true}
use Rattle.std.proofs.lemmas.List.Edits.{map_over_more}
use Rattle.std.proofs.lemmas.List.{get_or-set_other, get_or-set_same, get_or-take, length-map, length-set, length-take}
use Rattle.alter_bytes.proofs.Fields.{length-overlaid}
use Rattle.pager_core.specs.declared.file_shape.FileShape.{FileShape}
use Rattle.pager_core.specs.declared.slot.Slot.{Slot}
use Rattle.pager_core.specs.declared.slot.Slot.TheVariants.{Unread, Same, Changed}
use Rattle.pager_core.specs.Slots.{HasLength, changed_slot, forgotten, is_changed_in, settled, shown_in}
use Rattle.pager_core.specs.Kept.{AddsUnread, AreKept, Forgets, KeptPages, Settles, slot_of}
use Rattle.pager_core.specs.Shape.{IsShape}
use Rattle.std.proofs.Math.Nat.{mul-le-mul_right}

-- an element of a list in which each is changed so
pub get_or-map_default : {X : Type 0} (f : X → X) (d : X) → f d ≡ d → (xs : List X) (n : ℕ) → get_or (map f xs) n d ≡ f (get_or xs n d)
get_or-map_default f d same [] n = sym same
get_or-map_default f d same (x ∷ xs) zero = refl
get_or-map_default f d same (x ∷ xs) (suc n) = get_or-map_default f d same xs n

forgotten_length : (page : ℕ) (slot : Slot) → HasLength page slot → HasLength page (forgotten slot)
forgotten_length page Unread len = tt
forgotten_length page (Same bytes) len = len
forgotten_length page (Changed bytes None) len = tt
forgotten_length page (Changed bytes (Some original)) len = len.1

settled_length : (page : ℕ) (slot : Slot) → HasLength page slot → HasLength page (settled slot)
settled_length page Unread len = tt
settled_length page (Same bytes) len = len
settled_length page (Changed bytes original) len = len.0

-- the places behind a front are empty
take_behind : {X : Type 0} (n : ℕ) (xs : List X) (i : ℕ) (d : X) → n ≤ i → get_or (take n xs) i d ≡ d
take_behind zero xs i d behind = refl
take_behind (suc n) [] i d behind = refl
take_behind (suc n) (x ∷ xs) zero d behind = absurd (omega arith)
take_behind (suc n) (x ∷ xs) (suc i) d behind = take_behind n xs i d (omega arith)

-- the pages that are forgotten
pub forgets : (kept : KeptPages) → Forgets kept (record { shape = record kept.shape { count = kept.before }; before = kept.before; slots = map forgotten (take (kept.before + 1) kept.slots) })
forgets kept = record {
  shape = refl;
  before = refl;
  slots = λ n within. get_or-map_default forgotten Unread refl (take (kept.before + 1) kept.slots) n ∙ ap forgotten (get_or-take (kept.before + 1) kept.slots n Unread (omega arith));
  behind = λ n past. get_or-map_default forgotten Unread refl (take (kept.before + 1) kept.slots) n ∙ ap forgotten (take_behind (kept.before + 1) kept.slots n Unread (omega arith));
}

fewer_pages : (shape : FileShape) (count : ℕ) → IsShape shape → 1 ≤ count → count ≤ shape.count → IsShape (record shape { count = count })
fewer_pages shape count is some less = record {
  size = is.size;
  least = is.least;
  usable = is.usable;
  some = some;
  few = omega (arith, is.few);
  small = let product = mul-le-mul_right shape.page less in omega (arith, product, is.small);
}

pub forgets_kept : (kept : KeptPages) → AreKept kept → AreKept (record { shape = record kept.shape { count = kept.before }; before = kept.before; slots = map forgotten (take (kept.before + 1) kept.slots) })
forgets_kept kept are =
    let gone = forgets kept in
    let P : Slot → Type 0 = λ s. HasLength kept.shape.page s in
    record {
      shape = fewer_pages kept.shape kept.before are.shape are.some are.grown;
      some = are.some;
      grown = omega arith;
      few = omega (arith, length-map (take (kept.before + 1) kept.slots) forgotten, length-take (kept.before + 1) kept.slots);
      none = gone.slots 0 (omega arith) ∙ ap forgotten are.none;
      lengths = λ n. elim (cases_lt kept.before n) [
        | inl past ↦ subst P (sym (gone.behind n past)) tt
        | inr within ↦ subst P (sym (gone.slots n within)) (forgotten_length kept.shape.page (slot_of kept n) (are.lengths n))
      ];
      added = λ n past to. absurd (omega (arith, past, to));
    }

-- the pages that are settled
pub settles : (kept : KeptPages) → Settles kept (record { shape = kept.shape; before = kept.shape.count; slots = map settled kept.slots })
settles kept = record {
  shape = refl;
  before = refl;
  slots = λ n. get_or-map_default settled Unread refl kept.slots n;
}

pub settles_kept : (kept : KeptPages) → AreKept kept → AreKept (record { shape = kept.shape; before = kept.shape.count; slots = map settled kept.slots })
settles_kept kept are =
    let done = settles kept in
    let P : Slot → Type 0 = λ s. HasLength kept.shape.page s in
    record {
      shape = are.shape;
      some = are.shape.some;
      grown = omega arith;
      few = omega (arith, are.few, length-map kept.slots settled);
      none = done.slots 0 ∙ ap settled are.none;
      lengths = λ n. subst P (sym (done.slots n)) (settled_length kept.shape.page (slot_of kept n) (are.lengths n));
      added = λ n past to. absurd (omega (arith, past, to));
    }

-- a place that shows a page is one of the list
shown_there : (slots : List Slot) (n : ℕ) → IsSome (shown_in (get_or slots n Unread)) → n < length slots
shown_there [] n shown = absurd (cc)
shown_there (slot ∷ slots) zero shown = omega arith
shown_there (slot ∷ slots) (suc n) shown = let before = shown_there slots n shown in omega (arith, before)

same_default : (slots : List Slot) (n : ℕ) (d e : Slot) → n < length slots → get_or slots n d ≡ get_or slots n e
same_default [] n d e there = absurd (omega arith)
same_default (slot ∷ slots) zero d e there = refl
same_default (slot ∷ slots) (suc n) d e there = same_default slots n d e (omega arith)

changed_counts : (at : ℕ) (piece : List ℕ) (slot : Slot) → IsSome (shown_in slot) → is_changed_in (changed_slot at piece slot) ≡ true
changed_counts at piece Unread shown = absurd (cc)
changed_counts at piece (Same bytes) shown = refl
changed_counts at piece (Changed bytes original) shown = refl

changed_length : (page at : ℕ) (piece : List ℕ) (slot : Slot) → at + length piece ≤ page → HasLength page slot → HasLength page (changed_slot at piece slot)
changed_length page at piece Unread fits len = tt
changed_length page at piece (Same bytes) fits len = (length-overlaid bytes at piece (omega (arith, fits, len)) ∙ len, len)
changed_length page at piece (Changed bytes original) fits len = (length-overlaid bytes at piece (omega (arith, fits, len.0)) ∙ len.0, len.1)

-- a page that is shown is changed in its place, and counts as such
pub changed_kept : (kept : KeptPages) (n at : ℕ) (piece : List ℕ) (was slot : Slot) → AreKept kept → at + length piece ≤ kept.shape.page → IsSome (shown_in (slot_of kept n))
    → was ≡ get_or kept.slots n was → slot ≡ changed_slot at piece was → AreKept (record kept { slots = set kept.slots n slot })
changed_kept kept n at piece was slot are fits shown is done =
    let there = shown_there kept.slots n shown in
    let old : was ≡ slot_of kept n = is ∙ same_default kept.slots n was Unread there in
    let Shows : Slot → Type 0 = λ s. IsSome (shown_in s) in
    let Long : Slot → Type 0 = λ s. HasLength kept.shape.page s in
    let counts : is_changed_in slot ≡ true = ap is_changed_in done ∙ changed_counts at piece was (subst Shows (sym old) shown) in
    let long : Long slot = subst Long (sym done) (changed_length kept.shape.page at piece was fits (subst Long (sym old) (are.lengths n))) in
    let here : (m : ℕ) → m ≡ n → get_or (set kept.slots n slot) m Unread ≡ slot = λ m same. ap (λ k. get_or (set kept.slots n slot) k Unread) same ∙ get_or-set_same kept.slots n slot Unread there in
    let elsewhere : (m : ℕ) → m ≢ n → get_or (set kept.slots n slot) m Unread ≡ slot_of kept m = λ m other. get_or-set_other kept.slots n m slot Unread other in
    record {
      shape = are.shape;
      some = are.some;
      grown = are.grown;
      few = omega (arith, are.few, length-set kept.slots n slot);
      none = elsewhere 0 (λ same. false≢true (subst Shows (ap (slot_of kept) (sym same) ∙ are.none) shown)) ∙ are.none;
      lengths = λ m. elim (cases_eq m n) [
        | inl same ↦ subst Long (sym (here m same)) long
        | inr other ↦ subst Long (sym (elsewhere m other)) (are.lengths m)
      ];
      added = λ m past to. elim (cases_eq m n) [
        | inl same ↦ ap is_changed_in (here m same) ∙ counts
        | inr other ↦ ap is_changed_in (elsewhere m other) ∙ are.added m past to
      ];
    }

-- no place was added
pub adds_none : (len : ℕ) (slots : List Slot) → AddsUnread len slots slots
adds_none len slots = record { few = omega arith; more = omega arith; slots = λ n. refl }

-- one more element is changed in its place
pub mapped_more : {X : Type 0} (f : X → X) (xs ys : List X) (i end : ℕ) (x y : X) → i < end
    → (ys ≡ map f (take i xs) ++ drop i xs) × (end ≡ length xs) × (length ys ≡ length xs) → x ≡ get_or ys i x → y ≡ f x
    → (set ys i y ≡ map f (take (i + 1) xs) ++ drop (i + 1) xs) × (end ≡ length xs) × (length (set ys i y) ≡ length xs)
mapped_more f xs ys i end x y below so is done = (
  ap (set ys i) done ∙ map_over_more f xs ys i x (omega (arith, so.1)) so.0 is,
  so.1,
  length-set ys i y ∙ so.2,
)

-- the same of the places that the code leaves
pub left_kept : (kept : KeptPages) (slots : List Slot) → AreKept kept → slots ≡ map forgotten (take (kept.before + 1) kept.slots)
    → AreKept (record { shape = record kept.shape { count = kept.before }; before = kept.before; slots = slots })
left_kept kept slots are is =
    let P : List Slot → Type 0 = λ l. AreKept (record { shape = record kept.shape { count = kept.before }; before = kept.before; slots = l }) in
    subst P (sym is) (forgets_kept kept are)

pub left_forgets : (kept : KeptPages) (slots : List Slot) → slots ≡ map forgotten (take (kept.before + 1) kept.slots)
    → Forgets kept (record { shape = record kept.shape { count = kept.before }; before = kept.before; slots = slots })
left_forgets kept slots is =
    let P : List Slot → Type 0 = λ l. Forgets kept (record { shape = record kept.shape { count = kept.before }; before = kept.before; slots = l }) in
    subst P (sym is) (forgets kept)

pub kept_settled : (kept : KeptPages) (slots : List Slot) → AreKept kept → slots ≡ map settled kept.slots
    → AreKept (record { shape = kept.shape; before = kept.shape.count; slots = slots })
kept_settled kept slots are is =
    let P : List Slot → Type 0 = λ l. AreKept (record { shape = kept.shape; before = kept.shape.count; slots = l }) in
    subst P (sym is) (settles_kept kept are)

pub settles_so : (kept : KeptPages) (slots : List Slot) → slots ≡ map settled kept.slots
    → Settles kept (record { shape = kept.shape; before = kept.shape.count; slots = slots })
settles_so kept slots is =
    let P : List Slot → Type 0 = λ l. Settles kept (record { shape = kept.shape; before = kept.shape.count; slots = l }) in
    subst P (sym is) (settles kept)
