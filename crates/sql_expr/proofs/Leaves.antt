-- Laws of leaves: one of some fixed words, and none of them.
use Rattle.std.proofs.Common.{◌≡◌, ◌+◌, ◌<◌, ℕ, suc, List, [], ◌∷◌, inl, inr, length, drop, get_or, sym, ap, subst, drop-cons, add-one}
use Rattle.sql_token.specs.declared.token.Token.{Token}
use Rattle.sql_token.specs.declared.keyword.Keyword.{Keyword}
use Rattle.sql_token.specs.Fixed.{IsFixed}
use Rattle.sql_expr.specs.Leaf.{IsOneOf, IsNoneOf}

pub none_from_one : (text : List ℕ) (words : List Keyword) (t : Token) → (IsOneOf text words t → ⊥) → IsNoneOf text words t
none_from_one text [] t not_one = tt
none_from_one text (word ∷ words) t not_one =
    (λ fixed. not_one (inl fixed), none_from_one text words t (λ later. not_one (inr later)))

pub one_not_none : (text : List ℕ) (words : List Keyword) (t : Token) → IsNoneOf text words t → IsOneOf text words t → ⊥
one_not_none text [] t none one = one
one_not_none text (word ∷ words) t none (inl fixed) = none.0 fixed
one_not_none text (word ∷ words) t none (inr later) = one_not_none text words t none.1 later

-- the words from a place on
pub words_at : (words : List Keyword) (i : ℕ) (word : Keyword) → i < length words → word ≡ get_or words i word
    → drop i words ≡ word ∷ drop (i + 1) words
words_at words i word less is = rw (add-one, drop-cons words i word) (ap (λ w. w ∷ drop (suc i) words) (sym is))

pub one_here : (text : List ℕ) (words : List Keyword) (t : Token) (i : ℕ) (word : Keyword) → i < length words
    → word ≡ get_or words i word → IsFixed text word t → IsOneOf text (drop i words) t
one_here text words t i word less is fixed = subst (λ ws. IsOneOf text ws t) (sym (words_at words i word less is)) (inl fixed)

pub one_before : (text : List ℕ) (words : List Keyword) (t : Token) (i : ℕ) (word : Keyword) → i < length words
    → word ≡ get_or words i word → IsOneOf text (drop (i + 1) words) t → IsOneOf text (drop i words) t
one_before text words t i word less is later = subst (λ ws. IsOneOf text ws t) (sym (words_at words i word less is)) (inr later)

first_or_later : (text : List ℕ) (word : Keyword) (words : List Keyword) (t : Token) → (IsFixed text word t → ⊥)
    → IsOneOf text (word ∷ words) t → IsOneOf text words t
first_or_later text word words t other (inl fixed) = absurd (other fixed)
first_or_later text word words t other (inr later) = later

pub one_later : (text : List ℕ) (words : List Keyword) (t : Token) (i : ℕ) (word : Keyword) → i < length words
    → word ≡ get_or words i word → (IsFixed text word t → ⊥) → IsOneOf text (drop i words) t → IsOneOf text (drop (i + 1) words) t
one_later text words t i word less is other one =
    first_or_later text word (drop (i + 1) words) t other (subst (λ ws. IsOneOf text ws t) (words_at words i word less is) one)
