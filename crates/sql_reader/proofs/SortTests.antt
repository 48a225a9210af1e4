-- What the tests of a sort answer.
use Rattle.std.proofs.Common.{◌≡◌, ◌↔◌, ⊎_elim, Bool, false, sym, ap, ◌∙◌}
use Rattle.std.specs.Prelude.{IsTrue}
use Rattle.std.proofs.lemmas.Bool.{both_ways, false_from_ne_true, cases_Bool}
use Rattle.sql_token.specs.declared.keyword.Keyword.{Keyword}
use Rattle.sql_reader.specs.declared.sort.Sort.{Sort}
use Rattle.sql_reader.specs.declared.sort.Sort.TheVariants.{Fixed}
use Rattle.sql_reader.specs.Sorts.{same_sort}
use Rattle.sql_reader.proofs.Sorts.{same_sort-true, same_sort-self}

-- the test whether two words are one is the test of their sorts
pub same_word_tells : (b : Bool) (word keyword : Keyword) → (IsTrue b ↔ (word ≡ keyword)) → b ≡ same_sort (Fixed word) (Fixed keyword)
same_word_tells b word keyword tells =
    ⊎_elim
    (λ yes_so. yes_so ∙ sym (ap (λ k. same_sort (Fixed word) (Fixed k)) (sym (tells.0 yes_so)) ∙ same_sort-self (Fixed word)))
    (λ no_so. no_so ∙ sym (false_from_ne_true (same_sort (Fixed word) (Fixed keyword))
    (λ same.
    let joined : Fixed word ≡ Fixed keyword = same_sort-true (Fixed word) (Fixed keyword) same in
    let is : word ≡ keyword = cc in
    both_ways b no_so (tells.1 is))))
    (cases_Bool b)

-- a sort of no fixed word is not that of this one
pub no_word : (s : Sort) (keyword : Keyword) → ((word : Keyword) → s ≡ Fixed word → ⊥) → false ≡ same_sort s (Fixed keyword)
no_word s keyword none = sym (false_from_ne_true (same_sort s (Fixed keyword)) (λ same. none keyword (same_sort-true s (Fixed keyword) same)))
