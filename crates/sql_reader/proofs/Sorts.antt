-- What a test of all sorts says of each, and what a token of each sort is.
use Rattle.std.proofs.Common.{◌≡◌, ℕ, zero, suc, ⊎_elim, Bool, true, not, ◌&&◌, ◌||◌, List, [], ◌∷◌, Some, refl, sym, ap, ◌∙◌}
use Rattle.std.proofs.lemmas.Bool.{and_parts, and_from, or_cases, not-true, both_ways, eqb-true, eq-eqb}
use Rattle.std.proofs.lemmas.Option.{same_Some}
use Rattle.std.specs.List.{list_all, slice_get}
use Rattle.sql_reader.specs.declared.sort.Sort.{Sort}
use Rattle.sql_reader.specs.Sorts.{sorts, number_of, same_sort}
use Rattle.sql_reader.specs.Looks.{Set, disjoint, subset}
use Rattle.sql_reader.proofs.Numbers.{at_number}

-- a test that all elements pass is passed by the one at an index
all_pass : {X : Type 0} (p : X → Bool) (xs : List X) (i : ℕ) (x : X) → list_all p xs ≡ true → slice_get xs i ≡ Some x → p x ≡ true
all_pass p [] i x all is = absurd (cc)
all_pass p (y ∷ xs) zero x all is = ap p (sym (same_Some y x is)) ∙ (and_parts (p y) (list_all p xs) all).0
all_pass p (y ∷ xs) (suc i) x all is = all_pass p xs i x (and_parts (p y) (list_all p xs) all).1 is

-- what all sorts pass, each passes
pub each_sort : (p : Sort → Bool) (s : Sort) → list_all p sorts ≡ true → p s ≡ true
each_sort p s all = all_pass p sorts (number_of s) s all (at_number s)

-- two sorts of one number are one
pub same_sort-true : (s t : Sort) → same_sort s t ≡ true → s ≡ t
same_sort-true s t same =
    let numbers : number_of s ≡ number_of t = eqb-true (number_of s) (number_of t) same in
    let joined : Some s ≡ Some t = sym (at_number s) ∙ ap (slice_get sorts) numbers ∙ at_number t in
    same_Some s t joined

-- a sort is itself
pub same_sort-self : (s : Sort) → same_sort s s ≡ true
same_sort-self s = eq-eqb (number_of s) (number_of s) refl

-- no sort is in two disjoint sets
pub disjoint-so : (a b : Set) (s : Sort) → disjoint a b ≡ true → a s ≡ true → b s ≡ true → ⊥
disjoint-so a b s apart here there =
    let test : Sort → Bool = λ x. not (a x && b x) in
    both_ways (a s && b s) (not-true (a s && b s) (each_sort test s apart)) (and_from (a s) (b s) here there)

-- a sort of a set is in a larger one
pub subset-so : (a b : Set) (s : Sort) → subset a b ≡ true → a s ≡ true → b s ≡ true
subset-so a b s within here =
    let test : Sort → Bool = λ x. not (a x) || b x in
    ⊎_elim (λ out. absurd (both_ways (a s) (not-true (a s) out) here)) (λ there. there) (or_cases (not (a s)) (b s) (each_sort test s within))
