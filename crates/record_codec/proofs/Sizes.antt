-- How many bytes varints take, and the size of a header, which counts itself.
use Rattle.std.proofs.Common.{◌≡◌, ◌≢◌, ℕ, suc, ◌+◌, ◌^◌, ◌<◌, ◌≤◌, inl, inr, if◌then◌else◌, Bool, length, sym, ap, subst, ◌∙◌, arith}
use Rattle.std.proofs.Math.Nat.{pow-suc}
use Rattle.std.proofs.lemmas.Bool.{cases_eq, cases_lt, eq-eqb, ne_eqb}
use Rattle.alter_bytes.specs.Varint.{higher_septets, varint}
use Rattle.alter_bytes.proofs.VarintLemmas.{higher_septets-enough, higher_septets-least, higher_septets-many, length-varint, length-varint-le}
use Rattle.record_codec.specs.Written.{size_len}

-- a number of so many groups of seven bits takes no more bytes, and as many groups as bytes are enough
pub few_bytes : (v k : ℕ) → v < 128 ^ suc k → length (varint v) ≤ suc k
few_bytes v k small = omega (arith, length-varint v, higher_septets-least 8 k v small)

enough_bytes : (v : ℕ) → v < 128 ^ 9 → v < 128 ^ suc (higher_septets 8 v)
enough_bytes v small = higher_septets-enough 8 v small

-- a greater number takes no fewer
more_bytes : (v w : ℕ) → v ≤ w → w < 128 ^ 9 → length (varint v) ≤ length (varint w)
more_bytes v w less small =
    omega (arith, length-varint w, few_bytes v (higher_septets 8 w) (omega (arith, enough_bytes w small)))

-- the longest varints
nine_bytes : (v : ℕ) → 128 ^ 8 ≤ v → length (varint v) ≡ 9
nine_bytes v large = omega (arith, length-varint v, length-varint-le v, higher_septets-many 8 v large)

-- where the size takes one byte more than the other bytes alone ask for, one is enough
one_more : (n : ℕ) → length (varint (length (varint n) + n)) ≢ length (varint n)
    → length (varint (length (varint n) + 1 + n)) ≡ length (varint n) + 1
one_more n not = elim (cases_lt n (128 ^ 8)) [
  | inl small ↦
      let few : length (varint n) ≤ 8 = few_bytes n 7 small in
      let low = more_bytes n (length (varint n) + n) (omega arith) (omega arith) in
      let high = more_bytes (length (varint n) + n) (length (varint n) + 1 + n) (omega arith) (omega arith) in
      let within : n < 128 ^ length (varint n) =
      subst (λ k. n < 128 ^ k) (omega (arith, length-varint n)) (enough_bytes n (omega arith)) in
      let upper = few_bytes (length (varint n) + 1 + n) (length (varint n)) (bound n (length (varint n)) few within) in
      elim (cases_lt (length (varint n)) (length (varint (length (varint n) + n)))) [
        | inl above ↦ omega (arith, high, upper, above)
        | inr least ↦ absurd (not (omega (arith, low, least)))
      ]
  | inr large ↦ absurd (not (nine_bytes (length (varint n) + n) (omega arith) ∙ sym (nine_bytes n large)))
]
  where
    bound : (n a : ℕ) → a ≤ 8 → n < 128 ^ a → a + 1 + n < 128 ^ suc a
    bound n a few within = let power = pow-suc 128 a in omega (arith, power, within)

size_len-least : (n : ℕ) → length (varint (length (varint n) + n)) ≡ length (varint n) → size_len n ≡ length (varint n)
unfolding size_len
size_len-least n same =
    ap (λ (b : Bool). if b then length (varint n) else length (varint n) + 1) (eq-eqb (length (varint (length (varint n) + n))) (length (varint n)) same)

pub size_len-more : (n : ℕ) → length (varint (length (varint n) + n)) ≢ length (varint n) → size_len n ≡ length (varint n) + 1
unfolding size_len
size_len-more n not =
    ap (λ (b : Bool). if b then length (varint n) else length (varint n) + 1) (ne_eqb (length (varint (length (varint n) + n))) (length (varint n)) not)

-- the size takes as many bytes as it says
pub length-size : (n : ℕ) → length (varint (size_len n + n)) ≡ size_len n
length-size n = elim (cases_eq (length (varint (length (varint n) + n))) (length (varint n))) [
  | inl same ↦ subst (λ (k : ℕ). length (varint (k + n)) ≡ k) (sym (size_len-least n same)) same
  | inr not ↦ subst (λ (k : ℕ). length (varint (k + n)) ≡ k) (sym (size_len-more n not)) (one_more n not)
]

pub size_len-le : (n : ℕ) → size_len n ≤ 9
size_len-le n = omega (arith, length-size n, length-varint-le (size_len n + n))

-- a number takes no more bytes than a greater one, whatever its size
bytes_most : (v w : ℕ) → v ≤ w → length (varint v) ≤ length (varint w)
bytes_most v w less = elim (cases_lt w (128 ^ 9)) [
  | inl small ↦ more_bytes v w less small
  | inr large ↦ omega (arith, nine_bytes w (omega arith), length-varint-le v)
]

-- no size of a header with as many bytes of serial types or more takes fewer
pub size_len-least_of : (n k types : ℕ) → n ≤ types → length (varint (k + types)) ≤ k → size_len n ≤ k
size_len-least_of n k types less fits =
    let low = bytes_most n (k + n) (omega arith) in
    let high = bytes_most (k + n) (k + types) (omega arith) in
    elim (cases_eq (length (varint (length (varint n) + n))) (length (varint n))) [
      | inl same ↦ omega (arith, size_len-least n same, low, high, fits)
      | inr not ↦ elim (cases_eq (length (varint n)) k) [
        | inl is ↦
            let at : length (varint (length (varint n) + n)) ≤ length (varint n) =
            subst (λ (a : ℕ). length (varint (a + n)) ≤ a) (sym is) (omega (arith, high, fits)) in
            absurd (not (omega (arith, at, bytes_most n (length (varint n) + n) (omega arith))))
        | inr less ↦ omega (arith, size_len-more n not, low, high, fits, strictly (length (varint n)) k less (omega (arith, low, high, fits)))
      ]
    ]
  where
    strictly : (a k : ℕ) → (a ≡ k → ⊥) → a ≤ k → a + 1 ≤ k
    strictly a k not less = elim (cases_lt a k) [
      | inl below ↦ omega arith
      | inr past ↦ absurd (not (omega arith))
    ]
