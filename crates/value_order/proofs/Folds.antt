-- Lists of bytes that are compared, letters of either case.
use Rattle.std.proofs.Common.{◌≡◌, ℕ, ◌+◌, ◌-◌, ◌<◌, ◌≤◌, Equal, List, [], ◌∷◌, length, drop, get_or, refl, sym, ap, ap₂, ◌∙◌, arith, add-one, length-drop, drop-cons}
use Rattle.std.proofs.lemmas.Bool.Decides.{nat_tests}
use Rattle.std.specs.Cmp.Lexicographic.{slice_cmp}
use Rattle.std.specs.Ordering.{nat_cmp, ordering_then}
use Rattle.sql_token.specs.Names.{fold, folded}

-- the order of the lists from a place on
pub turn : (a b : List ℕ) (i : ℕ) → i < length a → i < length b
    → slice_cmp nat_cmp (folded (drop i a)) (folded (drop i b))
    ≡ ordering_then (nat_cmp (fold (get_or a i 0)) (fold (get_or b i 0))) (slice_cmp nat_cmp (folded (drop (i + 1) a)) (folded (drop (i + 1) b)))
turn a b i less also =
    ap₂ (λ x y. slice_cmp nat_cmp (folded x) (folded y))
    (drop-cons a i 0 less ∙ ap (λ k. get_or a i 0 ∷ drop k a) (sym (add-one i)))
    (drop-cons b i 0 also ∙ ap (λ k. get_or b i 0 ∷ drop k b) (sym (add-one i)))

pub equal_turn : (a b : List ℕ) (i : ℕ) → i < length a → i < length b → nat_cmp (fold (get_or a i 0)) (fold (get_or b i 0)) ≡ Equal
    → slice_cmp nat_cmp (folded (drop i a)) (folded (drop i b)) ≡ slice_cmp nat_cmp (folded (drop (i + 1) a)) (folded (drop (i + 1) b))
equal_turn a b i less also same =
    turn a b i less also ∙ ap (λ o. ordering_then o (slice_cmp nat_cmp (folded (drop (i + 1) a)) (folded (drop (i + 1) b)))) same

ends : (a b : List ℕ) → (1 ≤ length a → 1 ≤ length b → ⊥) → nat_cmp (length a) (length b) ≡ slice_cmp nat_cmp (folded a) (folded b)
ends [] [] one = refl
ends [] (y ∷ b) one = grind (arith, nat_tests)
ends (x ∷ a) [] one = grind (arith, nat_tests)
ends (x ∷ a) (y ∷ b) one = absurd (one (omega arith) (omega arith))

less_by : (i m n : ℕ) → i ≤ m → i ≤ n → nat_cmp m n ≡ nat_cmp (m - i) (n - i)
less_by i m n within also = grind (arith, nat_tests)

-- where one ends, the shorter one is less
pub one_ends : (a b : List ℕ) (i : ℕ) → i ≤ length a → i ≤ length b → (i < length a → i < length b → ⊥)
    → nat_cmp (length a) (length b) ≡ slice_cmp nat_cmp (folded (drop i a)) (folded (drop i b))
one_ends a b i within also one =
    let la : length (drop i a) ≡ length a - i = length-drop i a in
    let lb : length (drop i b) ≡ length b - i = length-drop i b in
    less_by i (length a) (length b) within also
    ∙ ap₂ nat_cmp (sym la) (sym lb)
    ∙ ends (drop i a) (drop i b) (λ some more. one (omega arith) (omega arith))
