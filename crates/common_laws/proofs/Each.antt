-- What holds of each element of a list, by recursion over it.
use Rattle.std.proofs.Common.{◌≡◌, ℕ, zero, suc, ◌+◌, ◌<◌, ⊎_elim, Bool, true, Some, List, [], ◌∷◌, ◌++◌, length, get_or, take, nat_eq, refl, sym, ap, ap₂, subst, ◌∙◌}
use Rattle.std.proofs.lemmas.Bool.{and_from, and_parts, or_cases}
use Rattle.std.proofs.lemmas.Option.{same_Some}
use Rattle.std.specs.Cmp.Lexicographic.{pointwise, bytes_decides}
use Rattle.std.specs.List.{AllByRecursion, list_all, list_any, slice_get}
use Rattle.common_laws.proofs.Lists.{take_one}

-- what holds of the element at each index holds of all
pub all_from_get : {X : Type 0} (P : X → Type 0) (xs : List X) → ((i : ℕ) (x : X) → slice_get xs i ≡ Some x → P x) → AllByRecursion P xs
all_from_get P [] each = tt
all_from_get P (x ∷ xs) each = (each 0 x refl, all_from_get P xs (λ i y at. each (suc i) y at))

-- what holds of all holds of the one at an index
pub at_index : {X : Type 0} (P : X → Type 0) (xs : List X) (i : ℕ) (x : X) → AllByRecursion P xs → slice_get xs i ≡ Some x → P x
at_index P [] i x all is = absurd cc
at_index P (y ∷ xs) zero x all is = subst P (same_Some y x is) all.0
at_index P (y ∷ xs) (suc i) x all is = at_index P xs i x all.1 is

-- what holds of all holds of one among them
pub all_at : {X : Type 0} (P : X → Type 0) (xs : List X) (x : X) (ys : List X) → AllByRecursion P (xs ++ x ∷ ys) → P x
all_at P [] x ys all = all.0
all_at P (z ∷ xs) x ys all = all_at P xs x ys all.1

-- what holds of all of two lists holds of all of both
pub all_append : {X : Type 0} (P : X → Type 0) (xs ys : List X) → AllByRecursion P xs → AllByRecursion P ys → AllByRecursion P (xs ++ ys)
all_append P [] ys front back = back
all_append P (x ∷ xs) ys front back = (front.0, all_append P xs ys front.1 back)

-- one more of which it holds
pub all_push : {X : Type 0} (P : X → Type 0) (xs : List X) (x : X) → AllByRecursion P xs → P x → AllByRecursion P (xs ++ x ∷ [])
all_push P xs x all one = all_append P xs (x ∷ []) all (one, tt)

-- what holds of all holds of all in front, and of all behind
pub all_before : {X : Type 0} (P : X → Type 0) (xs ys : List X) → AllByRecursion P (xs ++ ys) → AllByRecursion P xs
all_before P [] ys all = tt
all_before P (x ∷ xs) ys all = (all.0, all_before P xs ys all.1)

pub all_behind : {X : Type 0} (P : X → Type 0) (xs ys : List X) → AllByRecursion P (xs ++ ys) → AllByRecursion P ys
all_behind P [] ys all = all
all_behind P (x ∷ xs) ys all = all_behind P xs ys all.1

-- what holds of all of a front and of the element behind it
pub all_more : {X : Type 0} (P : X → Type 0) (xs : List X) (i : ℕ) (x : X) → AllByRecursion P (take i xs) → i < length xs → x ≡ get_or xs i x → P x
    → AllByRecursion P (take (i + 1) xs)
all_more P xs i x all within is one = subst (λ l. AllByRecursion P l) (take_one xs i x within is) (all_push P (take i xs) x all one)

-- what follows from a fact that holds of all holds of all
pub all_weaker : {X : Type 0} (P Q : X → Type 0) (xs : List X) → ((x : X) → P x → Q x) → AllByRecursion P xs → AllByRecursion Q xs
all_weaker P Q [] follows all = tt
all_weaker P Q (x ∷ xs) follows all = (follows x all.0, all_weaker P Q xs follows all.1)

-- the first element of which it does not hold is in one place
pub cut_one : {X : Type 0} (P : X → Type 0) (a b : List X) (s t : X) (c d : List X) → AllByRecursion P a → AllByRecursion P b → (P s → ⊥) → (P t → ⊥)
    → a ++ s ∷ c ≡ b ++ t ∷ d → (a ≡ b) × (s ≡ t) × (c ≡ d)
cut_one P [] [] s t c d pa pb ns nt e = (refl, cc, cc)
cut_one P [] (y ∷ b) s t c d pa pb ns nt e = let same : y ≡ s = cc in absurd (ns (subst P same pb.0))
cut_one P (x ∷ a) [] s t c d pa pb ns nt e = let same : x ≡ t = cc in absurd (nt (subst P same pa.0))
cut_one P (x ∷ a) (y ∷ b) s t c d pa pb ns nt e =
    let behind : a ++ s ∷ c ≡ b ++ t ∷ d = cc in
    let same : x ≡ y = cc in
    let (front, sign, back) = cut_one P a b s t c d pa.1 pb.1 ns nt behind in
    (ap₂ (λ z zs. z ∷ zs) same front, sign, back)

-- a test that all pass, and one more does
pub list_all-push : {X : Type 0} (p : X → Bool) (xs : List X) (x : X) → list_all p xs ≡ true → p x ≡ true → list_all p (xs ++ x ∷ []) ≡ true
list_all-push p [] x all one = and_from (p x) true one refl
list_all-push p (y ∷ xs) x all one =
    let parts = and_parts (p y) (list_all p xs) all in
    and_from (p y) (list_all p (xs ++ x ∷ [])) parts.0 (list_all-push p xs x parts.1 one)

-- bytes that are among a list's pass a test that all of it pass
pub in_list : (q : List ℕ → Bool) (bytes : List ℕ) (list : List (List ℕ)) → list_all q list ≡ true
    → list_any (λ item. pointwise nat_eq item bytes) list ≡ true → q bytes ≡ true
in_list q bytes [] all one = absurd (cc)
in_list q bytes (item ∷ list) all one =
    let parts = and_parts (q item) (list_all q list) all in
    ⊎_elim
    (λ here. ap q (sym ((bytes_decides item bytes).0 here)) ∙ parts.0)
    (in_list q bytes list parts.1)
    (or_cases (pointwise nat_eq item bytes) (list_any (λ other. pointwise nat_eq other bytes) list) one)
