-- Quotes: where one closes, and what the name in it is.
use Rattle.std.proofs.Common.{◌≡◌, ℕ, zero, suc, ◌+◌, ◌-◌, ◌<◌, Bool, true, false, eqb, List, [], ◌∷◌, Option, Some, None, length, drop, take, get_or, arith, refl, ap, ◌∙◌}
use Rattle.std.specs.Option.{option_map}
use Rattle.std.proofs.lemmas.Bool.{cond-true, cond-false, eq-eqb, ne_eqb}
use Rattle.std.proofs.lemmas.List.{drop_more, drop-drop, take_rest}
use Rattle.sql_token.specs.Byte.{begins}
use Rattle.sql_token.specs.Scan.{closing_len}

-- the length goes on behind a byte that is no sign
pub closing_len-other : (sign b : ℕ) (bytes : List ℕ) → (b ≡ sign → ⊥) → closing_len sign (b ∷ bytes) ≡ option_map (λ n. 1 + n) (closing_len sign bytes)
closing_len-other sign b [] apart = cond-false (eqb b sign) (Some 1) None (ne_eqb b sign apart)
closing_len-other sign b (c ∷ bytes) apart = cond-false (eqb b sign) _ _ (ne_eqb b sign apart)

-- the length goes on behind a doubled sign
pub closing_len-double : (sign b : ℕ) (bytes : List ℕ) → b ≡ sign → begins (λ c. eqb c sign) bytes ≡ true → closing_len sign (b ∷ bytes) ≡ option_map (λ n. 2 + n) (closing_len sign (drop 1 bytes))
closing_len-double sign b [] same next = absurd (cc)
closing_len-double sign b (c ∷ bytes) same next = cond-true (eqb b sign) _ _ (eq-eqb b sign same) ∙ cond-true (eqb c sign) _ _ next

-- a sign behind which none follows closes the quote
pub closing_len-single : (sign b : ℕ) (bytes : List ℕ) → b ≡ sign → begins (λ c. eqb c sign) bytes ≡ false → closing_len sign (b ∷ bytes) ≡ Some 1
closing_len-single sign b [] same next = cond-true (eqb b sign) _ _ (eq-eqb b sign same)
closing_len-single sign b (c ∷ bytes) same next = cond-true (eqb b sign) _ _ (eq-eqb b sign same) ∙ cond-false (eqb c sign) _ _ next

-- counting on from further behind
pub counted_on : (found : Option ℕ) (at k : ℕ) → option_map (λ n. at + n) (option_map (λ n. k + n) found) ≡ option_map (λ n. at + k + n) found
counted_on None at k = refl
counted_on (Some n) at k = let same : at + (k + n) ≡ at + k + n = omega arith in ap Some same

pub closing_at_other : (sign : ℕ) (bytes : List ℕ) (at : ℕ) → at < length bytes → (get_or bytes at 0 ≡ sign → ⊥) → option_map (λ n. at + n) (closing_len sign (drop at bytes)) ≡ option_map (λ n. at + 1 + n) (closing_len sign (drop (at + 1) bytes))
closing_at_other sign bytes at here apart =
    ap (λ l. option_map (λ n. at + n) (closing_len sign l)) (drop_more bytes at 0 here)
    ∙ ap (option_map (λ n. at + n)) (closing_len-other sign (get_or bytes at 0) (drop (at + 1) bytes) apart)
    ∙ counted_on (closing_len sign (drop (at + 1) bytes)) at 1

pub closing_at_double : (sign : ℕ) (bytes : List ℕ) (at : ℕ) → at < length bytes → get_or bytes at 0 ≡ sign → begins (λ c. eqb c sign) (drop (at + 1) bytes) ≡ true → option_map (λ n. at + n) (closing_len sign (drop at bytes)) ≡ option_map (λ n. at + 2 + n) (closing_len sign (drop (at + 2) bytes))
closing_at_double sign bytes at here same next =
    let again : at + 1 + 1 ≡ at + 2 = omega arith in
    ap (λ l. option_map (λ n. at + n) (closing_len sign l)) (drop_more bytes at 0 here)
    ∙ ap (option_map (λ n. at + n)) (closing_len-double sign (get_or bytes at 0) (drop (at + 1) bytes) same next)
    ∙ counted_on (closing_len sign (drop 1 (drop (at + 1) bytes))) at 2
    ∙ ap (λ l. option_map (λ n. at + 2 + n) (closing_len sign l)) (drop-drop 1 (at + 1) bytes ∙ ap (λ k. drop k bytes) again)

pub closing_at_single : (sign : ℕ) (bytes : List ℕ) (at : ℕ) → at < length bytes → get_or bytes at 0 ≡ sign → begins (λ c. eqb c sign) (drop (at + 1) bytes) ≡ false → option_map (λ n. at + n) (closing_len sign (drop at bytes)) ≡ Some (at + 1)
closing_at_single sign bytes at here same next =
    ap (λ l. option_map (λ n. at + n) (closing_len sign l)) (drop_more bytes at 0 here)
    ∙ ap (option_map (λ n. at + n)) (closing_len-single sign (get_or bytes at 0) (drop (at + 1) bytes) same next)

no_front : (p : ℕ → Bool) (at : ℕ) → begins p (drop at []) ≡ true → ⊥
no_front p zero found = cc
no_front p (suc at) found = cc

-- the next byte of a doubled sign is there
pub begins_within : (p : ℕ → Bool) (bytes : List ℕ) (at : ℕ) → begins p (drop at bytes) ≡ true → at < length bytes
begins_within p [] at found = absurd (no_front p at found)
begins_within p (b ∷ bytes) zero found = omega arith
begins_within p (b ∷ bytes) (suc at) found = omega (arith, begins_within p bytes at found)

-- a test of the slice from a place to the end
pub begins_slice : (p : ℕ → Bool) (bytes : List ℕ) (at : ℕ) → begins p (take (length bytes - at) (drop at bytes)) ≡ begins p (drop at bytes)
begins_slice p bytes at = ap (begins p) (take_rest bytes at)
