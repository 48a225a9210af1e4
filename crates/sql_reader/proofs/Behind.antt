-- The tokens behind the next, and behind two.
use Rattle.std.proofs.Common.{◌≡◌, List, [], ◌∷◌, drop, refl}
use Rattle.sql_token.specs.declared.token.Token.{Token}
use Rattle.sql_reader.specs.Looks.{behind_next}

pub drop_none : (ts : List Token) → drop 0 ts ≡ ts
drop_none [] = refl
drop_none (t ∷ ts) = refl

pub drop_next : (ts : List Token) → drop 1 ts ≡ behind_next ts
drop_next [] = refl
drop_next (t ∷ []) = refl
drop_next (t ∷ u ∷ ts) = refl

pub drop_two : (ts : List Token) → drop 2 ts ≡ behind_next (behind_next ts)
drop_two [] = refl
drop_two (t ∷ []) = refl
drop_two (t ∷ u ∷ []) = refl
drop_two (t ∷ u ∷ v ∷ ts) = refl
