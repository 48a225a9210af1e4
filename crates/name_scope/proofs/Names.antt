-- Names that are equal.
use Rattle.std.proofs.Common.{◌≡◌, ◌↔◌, ℕ, List, Bool, true, false, IsTrue, nat_eq, refl, sym}
use Rattle.std.proofs.lemmas.Bool.{false_from_ne_true, false≢true}
use Rattle.std.specs.Cmp.Lexicographic.{pointwise, bytes_decides}
use Rattle.sql_token.specs.Names.{folded}

-- what is true where two names are equal is the test of it
pub same_test : (r : Bool) (a b : List ℕ) → (IsTrue r ↔ (folded a ≡ folded b)) → r ≡ pointwise nat_eq (folded a) (folded b)
same_test true a b is = sym ((bytes_decides (folded a) (folded b)).1 (is.0 refl))
same_test false a b is = sym (false_from_ne_true (pointwise nat_eq (folded a) (folded b)) (λ e. false≢true (is.1 ((bytes_decides (folded a) (folded b)).0 e))))
