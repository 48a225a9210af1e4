-- What holds below a number.
use Rattle.std.proofs.Common.{◌≡◌, ◌<◌, ◌+◌, ℕ, nat_lt, Bool, true, false, refl, subst, arith}
use Rattle.std.proofs.lemmas.Bool.{ltb-false, ltb-true}

-- what holds of each number below n, and of n, holds of each number below n + 1
pub up_to : (P : ℕ → Type 0) (n : ℕ) → ((j : ℕ) → j < n → P j) → P n → (j : ℕ) → j < n + 1 → P j
up_to P n below last j is = by (nat_lt j n) refl
  where
    by : (b : Bool) → nat_lt j n ≡ b → P j
    by true less = below j (ltb-true j n less)
    by false more = let same : n ≡ j = omega (arith, is, ltb-false j n more) in subst P same last
