-- Whether two identities are one: each is spelled by a list of numbers.
use Rattle.std.specs.Prelude.{ℕ, Bool, List, [], ◌∷◌, Option, Some, None, nat_eq}
use Rattle.std.specs.Cmp.Lexicographic.{pointwise}
use Rattle.name_scope.specs.declared.identity.Identity.{Identity}
use Rattle.name_scope.specs.declared.identity.Identity.TheVariants.{Object, Column, Rowid, Source, Cte, Result, Fixed}

-- the numbers of an identity, or none
abbrev pub numbers_of : Option Identity → List ℕ
numbers_of None = []
numbers_of (Some (Object a)) = 0 ∷ a ∷ []
numbers_of (Some (Column a n)) = 1 ∷ a ∷ n ∷ []
numbers_of (Some (Rowid a)) = 2 ∷ a ∷ []
numbers_of (Some (Source a p)) = 3 ∷ a ∷ p
numbers_of (Some (Cte a p)) = 4 ∷ a ∷ p
numbers_of (Some (Result a p i m)) = 5 ∷ a ∷ i ∷ m ∷ p
numbers_of (Some (Fixed a None)) = 6 ∷ a ∷ []
numbers_of (Some (Fixed a (Some k))) = 7 ∷ a ∷ k ∷ []

-- two identities are one
abbrev pub is_same : Identity → Identity → Bool
is_same a b = pointwise nat_eq (numbers_of (Some a)) (numbers_of (Some b))
