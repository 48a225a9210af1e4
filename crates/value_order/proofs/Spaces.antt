-- Texts without the spaces at their end.
use Rattle.std.proofs.Common.{◌≡◌, ℕ, Bool, true, false, cond, ◌&&◌, eqb, List, [], ◌∷◌, ◌++◌, length, refl, sym, ap, ap₂, ◌∙◌, arith}
use Rattle.std.proofs.lemmas.Bool.{cond-false, and_left, ne_eqb}
use Rattle.std.specs.List.{list_all}
use Rattle.value_order.specs.Collation.{without_end_spaces}

abbrev is_space : ℕ → Bool
is_space b = eqb b 32

all_spaces : (bytes : List ℕ) → list_all is_space (bytes ++ 32 ∷ []) ≡ list_all is_space bytes
all_spaces [] = refl
all_spaces (b ∷ bytes) = ap (λ t. is_space b && t) (all_spaces bytes)

and_no : (b : Bool) → (b && false) ≡ false
and_no true = refl
and_no false = refl

not_all : (bytes : List ℕ) (last : ℕ) → eqb last 32 ≡ false → list_all is_space (bytes ++ last ∷ []) ≡ false
not_all [] last other = and_left (eqb last 32) true other
not_all (b ∷ bytes) last other = ap (λ t. is_space b && t) (not_all bytes last other) ∙ and_no (is_space b)

-- what the definition says of a text with a first byte
opened : (b : ℕ) (bytes : List ℕ) → without_end_spaces (b ∷ bytes) ≡ cond (list_all is_space (b ∷ bytes)) [] (b ∷ without_end_spaces bytes)
unfolding without_end_spaces
opened b bytes = refl

-- one more space at the end
pub one_space : (bytes : List ℕ) → without_end_spaces (bytes ++ 32 ∷ []) ≡ without_end_spaces bytes
unfolding without_end_spaces
one_space [] = refl
one_space (b ∷ bytes) =
    opened b (bytes ++ 32 ∷ [])
    ∙ ap₂ (λ t l. cond t [] (b ∷ l)) (all_spaces (b ∷ bytes)) (one_space bytes)
    ∙ sym (opened b bytes)

-- a text that ends in another byte
pub no_space : (bytes : List ℕ) (last : ℕ) → eqb last 32 ≡ false → without_end_spaces (bytes ++ last ∷ []) ≡ bytes ++ last ∷ []
unfolding without_end_spaces
no_space [] last other = cond-false (eqb last 32 && true) [] (last ∷ []) (not_all [] last other)
no_space (b ∷ bytes) last other =
    opened b (bytes ++ last ∷ [])
    ∙ cond-false (list_all is_space (b ∷ bytes ++ last ∷ [])) [] (b ∷ without_end_spaces (bytes ++ last ∷ [])) (not_all (b ∷ bytes) last other)
    ∙ ap (λ l. b ∷ l) (no_space bytes last other)

-- the end of a text whose last byte is told
pub ends_otherwise : (text front : List ℕ) (last : ℕ) → text ≡ front ++ last ∷ [] → (last ≡ 32 → ⊥) → without_end_spaces text ≡ text
ends_otherwise text front last split other = ap without_end_spaces split ∙ no_space front last (ne_eqb last 32 other) ∙ sym split

pub no_bytes : (text : List ℕ) → length text ≡ 0 → without_end_spaces text ≡ text
unfolding without_end_spaces
no_bytes [] none = refl
no_bytes (b ∷ bytes) none = absurd (omega arith)
