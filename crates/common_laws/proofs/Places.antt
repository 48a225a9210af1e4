-- The element at an index of a list.
use Rattle.std.proofs.Common.{◌≡◌, ℕ, zero, suc, ◌<◌, ◌⊎◌, inl, inr, Option, Some, None, List, [], ◌∷◌, ◌++◌, length, take, refl, ap, arith}
use Rattle.std.specs.List.{slice_get}

-- an element in range, and the front of the list with it
pub element_at : {X : Type 0} (xs : List X) (k : ℕ) → k < length xs → (x : X) × (slice_get xs k ≡ Some x) × (take (suc k) xs ≡ take k xs ++ x ∷ [])
element_at [] k h = absurd (omega arith)
element_at (a ∷ xs) zero h = (a, refl, refl)
element_at (a ∷ xs) (suc k) h = let e = element_at xs k (omega arith) in (e.0, e.1, ap (λ l. a ∷ l) e.2)

-- an element of a list with one more at its end
pub slice_get-push_cases : {X : Type 0} (xs : List X) (x y : X) (i : ℕ) → slice_get (xs ++ x ∷ []) i ≡ Some y
    → (slice_get xs i ≡ Some y) ⊎ ((i ≡ length xs) × (x ≡ y))
slice_get-push_cases [] x y zero h = inr (refl, cc)
slice_get-push_cases [] x y (suc i) h = absurd (cc h)
slice_get-push_cases (a ∷ xs) x y zero h = inl h
slice_get-push_cases (a ∷ xs) x y (suc i) h = elim (slice_get-push_cases xs x y i h) [
  | inl e ↦ inl e
  | inr e ↦ inr (ap suc e.0, e.1)
]

pub slice_get-push_last : {X : Type 0} (xs : List X) (x : X) → slice_get (xs ++ x ∷ []) (length xs) ≡ Some x
slice_get-push_last [] x = refl
slice_get-push_last (a ∷ xs) x = slice_get-push_last xs x

-- an element of the front of joined lists
pub slice_get-append_left : {X : Type 0} (xs ys : List X) (y : X) (i : ℕ) → slice_get xs i ≡ Some y → slice_get (xs ++ ys) i ≡ Some y
slice_get-append_left [] ys y i h = absurd (cc h)
slice_get-append_left (a ∷ xs) ys y zero h = h
slice_get-append_left (a ∷ xs) ys y (suc i) h = slice_get-append_left xs ys y i h

-- an element of the first n
pub slice_get-take : {X : Type 0} (xs : List X) (n i : ℕ) (x : X) → slice_get (take n xs) i ≡ Some x → (i < n) × (slice_get xs i ≡ Some x)
slice_get-take {X} xs zero i x is = absurd (none x is)
  where
    none : (x : X) → ◌≡◌ {A = Option X} None (Some x) → ⊥
    none x e = cc
slice_get-take {X} [] (suc n) i x is = absurd (none x is)
  where
    none : (x : X) → ◌≡◌ {A = Option X} None (Some x) → ⊥
    none x e = cc
slice_get-take {X} (y ∷ ys) (suc n) zero x is = (omega arith, is)
slice_get-take {X} (y ∷ ys) (suc n) (suc i) x is =
    let ih = slice_get-take ys n i x is in
    (omega (arith, ih.0), ih.1)
