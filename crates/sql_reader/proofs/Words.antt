-- The fixed word that letters spell.
use Rattle.std.proofs.Common.{◌≡◌, ℕ, zero, suc, ⊎_elim, Bool, true, List, [], ◌∷◌, Some, None, nat_eq, refl, sym, ap, ◌∙◌}
use Rattle.std.proofs.lemmas.Bool.{cond-true, cond-false, cases_Bool}
use Rattle.std.proofs.lemmas.Option.{same_Some}
use Rattle.std.specs.Cmp.Lexicographic.{pointwise, bytes_decides}
use Rattle.std.specs.List.{find, slice_get}
use Rattle.sql_token.specs.declared.keyword.Keyword.{Keyword}
use Rattle.sql_token.specs.Keyword.{spelling}
use Rattle.sql_token.proofs.Keywords.{spelling_apart}
use Rattle.sql_reader.specs.Sorts.{fixed_words, number_of_word, word_of}
use Rattle.sql_reader.proofs.Numbers.{word_at}

-- what is found passes the test
find_passes : {X : Type 0} (p : X → Bool) (xs : List X) (x : X) → find p xs ≡ Some x → p x ≡ true
find_passes p [] x e = absurd (cc)
find_passes p (y ∷ xs) x e =
    ⊎_elim
    (λ here. ap p (same_Some x y (sym e ∙ cond-true (p y) (Some y) (find p xs) here)) ∙ here)
    (λ other. find_passes p xs x (sym (cond-false (p y) (Some y) (find p xs) other) ∙ e))
    (cases_Bool (p y))

-- the only one that passes is found
find_only : {X : Type 0} (p : X → Bool) (xs : List X) (i : ℕ) (x : X) → slice_get xs i ≡ Some x → p x ≡ true → ((y : X) → p y ≡ true → y ≡ x)
    → find p xs ≡ Some x
find_only p [] i x is passes alone = absurd (cc)
find_only p (y ∷ xs) zero x is passes alone =
    let same = same_Some y x is in
    cond-true (p y) (Some y) (find p xs) (ap p same ∙ passes) ∙ ap (λ v. Some v) same
find_only p (y ∷ xs) (suc i) x is passes alone =
    ⊎_elim
    (λ here. cond-true (p y) (Some y) (find p xs) here ∙ ap (λ v. Some v) (alone y here))
    (λ other. cond-false (p y) (Some y) (find p xs) other ∙ find_only p xs i x is passes alone)
    (cases_Bool (p y))

-- nothing is found where none passes
find_none : {X : Type 0} (p : X → Bool) (xs : List X) → ((y : X) → p y ≡ true → ⊥) → find p xs ≡ None
find_none p [] none = refl
find_none p (y ∷ xs) none =
    ⊎_elim
    (λ here. absurd (none y here))
    (λ other. cond-false (p y) (Some y) (find p xs) other ∙ find_none p xs none)
    (cases_Bool (p y))

-- the letters of a fixed word are those of that word alone
pub word_of-spelled : (letters : List ℕ) (k : Keyword) → letters ≡ spelling k → word_of letters ≡ Some k
unfolding word_of
word_of-spelled letters k is =
    find_only (λ word. pointwise nat_eq (spelling word) letters) fixed_words (number_of_word k) k (word_at k)
    ((bytes_decides (spelling k) letters).1 (sym is))
    (λ word same. spelling_apart word k ((bytes_decides (spelling word) letters).0 same ∙ is))

pub spelled_by_word_of : (letters : List ℕ) (k : Keyword) → word_of letters ≡ Some k → letters ≡ spelling k
unfolding word_of
spelled_by_word_of letters k found =
    sym ((bytes_decides (spelling k) letters).0 (find_passes (λ word. pointwise nat_eq (spelling word) letters) fixed_words k found))

-- other letters are those of none
pub word_of-none : (letters : List ℕ) → ((k : Keyword) → letters ≡ spelling k → ⊥) → word_of letters ≡ None
unfolding word_of
word_of-none letters none =
    find_none (λ word. pointwise nat_eq (spelling word) letters) fixed_words
    (λ word same. none word (sym ((bytes_decides (spelling word) letters).0 same)))
