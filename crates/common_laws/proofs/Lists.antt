-- Parts of joined lists: fronts, middles, ends, and the elements between.
use Rattle.std.proofs.Common.{◌≡◌, ℕ, true, false, eqb, suc, ◌+◌, ◌-◌, ◌<◌, ◌≤◌, ◌⊎◌, ⊎_elim, inl, inr, List, [], ◌∷◌, ◌++◌, length, take, drop, get_or, refl, sym, ap, ap₂, ◌∙◌, arith, length-append, length-drop, append_assoc}
use Rattle.std.proofs.lemmas.Bool.{eqb-true, true≢false}
use Rattle.std.proofs.lemmas.List.{drop_at, drop-drop, length-take-le, take_all, take_at, take_more}
use Rattle.std.specs.List.{slice_range}

-- a list that begins with both of two lists of one length begins with one
pub same_front : {X : Type 0} (a b x y : List X) → a ++ x ≡ b ++ y → length a ≡ length b → a ≡ b
same_front a b x y e len =
    sym (take_at a x (length a) refl) ∙ ap (take (length a)) e ∙ take_at b y (length a) (sym len)

-- of two lists that begin one, the longer begins with the shorter
pub front_of_longer : {X : Type 0} (a b c d : List X) → a ++ c ≡ b ++ d → length a ≤ length b → (e : List X) × (b ≡ a ++ e)
front_of_longer [] b c d same less = (b, refl)
front_of_longer (x ∷ a) [] c d same less = absurd (omega arith)
front_of_longer (x ∷ a) (y ∷ b) c d same less =
    let heads : x ≡ y = cc in
    let tails : a ++ c ≡ b ++ d = cc in
    let (e, split) = front_of_longer a b c d tails (omega arith) in
    (e, ap (λ z. z ∷ b) (sym heads) ∙ ap (λ zs. x ∷ zs) split)

-- a front of a list with one more is a front of the list, or all of both
pub front_or_whole : {X : Type 0} (before : List X) (x : X) (front back : List X) → before ++ x ∷ [] ≡ front ++ back
    → ((e : List X) × (before ≡ front ++ e)) ⊎ (front ≡ before ++ x ∷ [])
front_or_whole [] x [] back same = inl ([], refl)
front_or_whole [] x (y ∷ []) back same = inr (cc)
front_or_whole [] x (y ∷ z ∷ front) back same = absurd (cc)
front_or_whole (w ∷ before) x [] back same = inl (w ∷ before, refl)
front_or_whole (w ∷ before) x (y ∷ front) back same =
    let heads : w ≡ y = cc in
    let tails : before ++ x ∷ [] ≡ front ++ back = cc in
    ⊎_elim
    (λ split. inl (split.0, ap (λ z. z ∷ before) heads ∙ ap (λ zs. y ∷ zs) split.1))
    (λ whole. inr (ap (λ z. z ∷ front) (sym heads) ∙ ap (λ zs. w ∷ zs) whole))
    (front_or_whole before x front back tails)

-- the elements behind fronts of one length are equal
pub same_element : {X : Type 0} (a b : List X) (x y : X) (c d : List X) → a ++ x ∷ c ≡ b ++ y ∷ d → length a ≡ length b → x ≡ y
same_element [] [] x y c d same len = cc
same_element [] (z ∷ b) x y c d same len = absurd (omega arith)
same_element (z ∷ a) [] x y c d same len = absurd (omega arith)
same_element (z ∷ a) (w ∷ b) x y c d same len = let tails : a ++ x ∷ c ≡ b ++ y ∷ d = cc in same_element a b x y c d tails (omega arith)

-- two equal lists with a last element are equal in it and in front of it
pub last_apart : {X : Type 0} (xs ys : List X) (x y : X) → xs ++ x ∷ [] ≡ ys ++ y ∷ [] → (xs ≡ ys) × (x ≡ y)
last_apart xs ys x y e =
    let len : length xs ≡ length ys = omega (arith, ap length e, length-append xs (x ∷ []), length-append ys (y ∷ [])) in
    (same_front xs ys (x ∷ []) (y ∷ []) e len, same_element xs ys x y [] [] e len)

-- the part of `front ++ mid ++ back` behind its front, its middle, and its end
pub drop_front : {X : Type 0} (front mid back : List X) (n : ℕ) → length front ≡ n → drop n (front ++ mid ++ back) ≡ mid ++ back
drop_front front mid back n e = ap (drop n) (append_assoc front mid back) ∙ drop_at front (mid ++ back) n e

pub take_mid : {X : Type 0} (front mid back : List X) (n k : ℕ) → length front ≡ n → length mid ≡ k → take k (drop n (front ++ mid ++ back)) ≡ mid
take_mid front mid back n k e f = ap (take k) (drop_front front mid back n e) ∙ take_at mid back k f

pub drop_mid : {X : Type 0} (front mid back : List X) (n : ℕ) → length front + length mid ≡ n → drop n (front ++ mid ++ back) ≡ back
drop_mid front mid back n e = drop_at (front ++ mid) back n (length-append front mid ∙ e)

-- a front of what stands from a place on is a range, and what is behind it
pub range_at : {X : Type 0} (xs front rest : List X) (at end : ℕ) → drop at xs ≡ front ++ rest → end ≡ at + length front → slice_range xs at end ≡ front
range_at xs front rest at end split is = ap (take (end - at)) split ∙ take_at front rest (end - at) (omega arith)

pub rest_at : {X : Type 0} (xs front rest : List X) (at end : ℕ) → drop at xs ≡ front ++ rest → end ≡ at + length front → drop end xs ≡ rest
rest_at xs front rest at end split is =
    ap (λ k. drop k xs) is ∙ sym (drop-drop (length front) at xs) ∙ ap (drop (length front)) split ∙ drop_at front rest (length front) refl

-- how many elements a range has
pub range_length : {X : Type 0} (xs : List X) (at end : ℕ) → end ≤ length xs → length (slice_range xs at end) ≡ end - at
range_length xs at end bound = length-take-le (end - at) (drop at xs) (omega (arith, length-drop at xs))

-- a front with the element behind it
pub take_one : {X : Type 0} (xs : List X) (i : ℕ) (x : X) → i < length xs → x ≡ get_or xs i x → take i xs ++ x ∷ [] ≡ take (i + 1) xs
take_one xs i x within is = ap (λ y. take i xs ++ y ∷ []) is ∙ sym (take_more xs i x within)

-- a list that has no element
pub nothing_left : {X : Type 0} (xs : List X) → length xs ≡ 0 → xs ≡ []
nothing_left [] none = refl
nothing_left (x ∷ xs) none = absurd (omega arith)

pub none_below : {X : Type 0} (xs : List X) → length xs < 1 → xs ≡ []
none_below xs few = nothing_left xs (omega arith)

-- a test of the length says which
pub none_left : {X : Type 0} (xs : List X) → eqb (length xs) 0 ≡ true → xs ≡ []
none_left xs test = nothing_left xs (eqb-true (length xs) 0 test)

-- a list that is not empty has an element
pub some_left : {X : Type 0} (xs : List X) → eqb (length xs) 0 ≡ false → 1 ≤ length xs
some_left [] test = absurd (true≢false test)
some_left (x ∷ xs) test = omega arith

-- the first element, and all behind it
pub first_and_rest : {X : Type 0} (xs : List X) (x : X) → 1 ≤ length xs → x ≡ get_or xs 0 x → xs ≡ x ∷ take (length xs - 1) (drop 1 xs)
first_and_rest [] x some same = absurd (omega arith)
first_and_rest (y ∷ ys) x some same = ap₂ (λ z zs. z ∷ zs) (sym same) (sym (take_all _ ys (omega arith)))

-- the same, where the first element is read with a default
pub first_or : {X : Type 0} (xs : List X) (d : X) → 1 ≤ length xs → xs ≡ get_or xs 0 d ∷ take (length xs - 1) (drop 1 xs)
first_or [] d some = absurd (omega arith)
first_or (y ∷ ys) d some = ap (λ zs. y ∷ zs) (sym (take_all _ ys (omega arith)))

-- all but the last element, and the last one
pub front_and_last : {X : Type 0} (xs : List X) (d : X) (n : ℕ) → length xs ≡ n + 1 → xs ≡ take n xs ++ get_or xs n d ∷ []
front_and_last xs d n len = sym (take_all (n + 1) xs (omega arith)) ∙ take_more xs n d (omega arith)

-- four elements, those between, and the last one
pub four_and_last : {X : Type 0} (xs : List X) (d : X) → 5 ≤ length xs
    → xs ≡ get_or xs 0 d ∷ get_or xs 1 d ∷ get_or xs 2 d ∷ get_or xs 3 d ∷ take (length xs - 1 - 4) (drop 4 xs) ++ get_or xs (length xs - 1) d ∷ []
four_and_last [] d some = absurd (omega arith)
four_and_last (x ∷ []) d some = absurd (omega arith)
four_and_last (x ∷ y ∷ []) d some = absurd (omega arith)
four_and_last (x ∷ y ∷ z ∷ []) d some = absurd (omega arith)
four_and_last (x ∷ y ∷ z ∷ w ∷ ys) d some =
    let n = length ys - 1 in
    let len : length (x ∷ y ∷ z ∷ w ∷ ys) - 1 - 4 ≡ n = omega arith in
    let at : length (x ∷ y ∷ z ∷ w ∷ ys) - 1 ≡ suc (suc (suc (suc n))) = omega arith in
    let back = front_and_last ys d n (omega arith) in
    ap (λ zs. x ∷ y ∷ z ∷ w ∷ zs)
    (back ∙ ap₂ (λ (k l : ℕ). take k ys ++ get_or (x ∷ y ∷ z ∷ w ∷ ys) l d ∷ []) (sym len) (sym at))

-- four elements, and all behind them
pub four_and_rest : {X : Type 0} (xs : List X) (d : X) → 4 ≤ length xs
    → xs ≡ get_or xs 0 d ∷ get_or xs 1 d ∷ get_or xs 2 d ∷ get_or xs 3 d ∷ take (length xs - 4) (drop 4 xs)
four_and_rest [] d some = absurd (omega arith)
four_and_rest (x ∷ []) d some = absurd (omega arith)
four_and_rest (x ∷ y ∷ []) d some = absurd (omega arith)
four_and_rest (x ∷ y ∷ z ∷ []) d some = absurd (omega arith)
four_and_rest (x ∷ y ∷ z ∷ w ∷ ys) d some = ap (λ zs. x ∷ y ∷ z ∷ w ∷ zs) (sym (take_all _ ys (omega arith)))
