-- What holds of each element of a list and each later one.
use Rattle.std.proofs.Common.{◌≡◌, suc, List, ◌∷◌, subst, sym, arith, All, AllPairs}
use Rattle.std.proofs.lemmas.List.Elements.{All-from_get_or, recursion_from_All}
use Rattle.std.proofs.lemmas.List.Kept.{AllPairs-cons}
use Rattle.std.specs.List.{AllByRecursion}

-- the first element is so with each later one
pub pairs_head : {X : Type 0} (R : X → X → Type 0) (x : X) (xs : List X) → AllPairs R (x ∷ xs) → AllByRecursion (R x) xs
pairs_head R x xs apart = recursion_from_All (R x) xs (All-from_get_or (R x) xs x (λ i within. apart 0 (suc i) x (omega arith) (omega arith)))

-- the later elements are so too
pub pairs_tail : {X : Type 0} (R : X → X → Type 0) (x : X) (xs : List X) → AllPairs R (x ∷ xs) → AllPairs R xs
pairs_tail R x xs apart = λ i j d lower below. apart (suc i) (suc j) d (omega arith) (omega arith)

-- the same of a list that is given by its first element and the rest
pub pairs_first : {X : Type 0} (R : X → X → Type 0) (xs rest : List X) (x : X) → xs ≡ x ∷ rest → AllPairs R xs → All (R x) rest
pairs_first {X} R xs rest x front apart =
    let P : List X → Type 0 = λ l. AllPairs R l in
    λ k d below. subst P front apart 0 (suc k) d (omega arith) (omega arith)

pub pairs_behind : {X : Type 0} (R : X → X → Type 0) (xs rest : List X) (x : X) → xs ≡ x ∷ rest → AllPairs R xs → AllPairs R rest
pairs_behind {X} R xs rest x front apart =
    let P : List X → Type 0 = λ l. AllPairs R l in
    pairs_tail R x rest (subst P front apart)

-- a first element that is so with each later one
pub pairs_in_front : {X : Type 0} (R : X → X → Type 0) (xs rest : List X) (x : X) → xs ≡ x ∷ rest → All (R x) rest → AllPairs R rest → AllPairs R xs
pairs_in_front {X} R xs rest x front first apart =
    let P : List X → Type 0 = λ l. AllPairs R l in
    subst P (sym front) (AllPairs-cons R x rest first apart)
