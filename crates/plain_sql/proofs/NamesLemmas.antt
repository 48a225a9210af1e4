-- Names that are alike, and names that are apart.
use Rattle.std.proofs.Common.{◌≡◌, ◌≢◌, ℕ, Bool, true, false, ◌||◌, List, ◌∷◌, nat_eq, AllPairs, sym, ap, ◌∙◌}
use Rattle.std.proofs.lemmas.Bool.{both_ways, false_from_ne_true}
use Rattle.std.proofs.lemmas.List.Folds.{Any-from_list_any, list_any_at}
use Rattle.std.specs.List.{list_any}
use Rattle.std.specs.Cmp.Lexicographic.{pointwise, bytes_decides}
use Rattle.common_laws.proofs.Pairs.{pairs_first, pairs_in_front}
use Rattle.sql_token.specs.Names.{folded}

-- whether two names are alike
abbrev pub is_alike : List ℕ → List ℕ → Bool
is_alike a b = pointwise nat_eq (folded a) (folded b)

-- two names are not alike
abbrev pub AreUnlike : List ℕ → List ℕ → Type 0
AreUnlike a b = folded a ≢ folded b

-- a first name that is alike decides
pub any_alike-here : (a b : List ℕ) (bs : List (List ℕ)) → folded a ≡ folded b → list_any (is_alike a) (b ∷ bs) ≡ true
any_alike-here a b bs same = ap (λ t. t || list_any (is_alike a) bs) ((bytes_decides (folded a) (folded b)).1 same)

-- a first name that is not alike is passed over
pub any_alike-further : (a b : List ℕ) (bs : List (List ℕ)) → AreUnlike a b → list_any (is_alike a) (b ∷ bs) ≡ list_any (is_alike a) bs
any_alike-further a b bs other =
    ap (λ t. t || list_any (is_alike a) bs) (false_from_ne_true (is_alike a b) (λ e. other ((bytes_decides (folded a) (folded b)).0 e)))

-- where one of the later names is alike the first one, not all are apart
pub alike_among : (xs rest : List (List ℕ)) (x : List ℕ) → xs ≡ x ∷ rest → list_any (is_alike x) rest ≡ true → AllPairs AreUnlike xs → ⊥
alike_among xs rest x front some apart =
    let (k, y, below, at, same) = Any-from_list_any (is_alike x) rest some in
    pairs_first AreUnlike xs rest x front apart k y below ((bytes_decides (folded x) (folded y)).0 same ∙ ap folded (sym at))

-- a first name that is not alike any later one
pub apart_in_front : (xs rest : List (List ℕ)) (x : List ℕ) → xs ≡ x ∷ rest → list_any (is_alike x) rest ≡ false → AllPairs AreUnlike rest → AllPairs AreUnlike xs
apart_in_front xs rest x front none apart =
    pairs_in_front AreUnlike xs rest x front
    (λ k d below same. both_ways _ none (list_any_at (is_alike x) rest k d below ((bytes_decides (folded x) (folded _)).1 same)))
    apart
