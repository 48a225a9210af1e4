-- The header of a database that is not refused is that of its whole pages.
use Rattle.std.proofs.Common.{◌≡◌, inl, inr, ◌≤◌, ℕ, ◌*◌, ◌/◌, ◌%◌, ◌^◌, ◌==◌, Bool, true, false, not, ◌&&◌, ◌||◌, if◌then◌else◌, nat_lt, List, [], ◌∷◌, Option, Some, None, find, refl, sym, ap, ap₂, ◌∙◌, arith}
use Rattle.std.proofs.Math.Nat.{mul-div_cancel, mul-le-mul_right, mul-mod_left}
use Rattle.std.proofs.lemmas.Bool.{cases_Bool, le-ltb, or_parts}
use Rattle.std.proofs.lemmas.Bool.Decides.{nat_tests}
use Rattle.std.specs.List.{AllByRecursion}
use Rattle.pager_core.specs.Header.{has_page_count, number_at, page_count, page_size}
use Rattle.pager_core.specs.Refusals.{first_refusal, holds, refusals}
use Rattle.pager_core.specs.declared.refusal.FileRefusal.TheVariants.{Size}
use Rattle.pager_core.proofs.Sound.{accepted_count, accepted_size, none_holds, page_large}

none_chosen : {X : Type 0} (b : Bool) (x : X) (o : Option X) → b ≡ false → o ≡ None → (if b then Some x else o) ≡ None
none_chosen b x o is none = rw is none

none_from : {X : Type 0} (test : X → Bool) (xs : List X) → AllByRecursion (λ x. test x ≡ false) xs → find test xs ≡ None
none_from test [] none = refl
none_from test (x ∷ xs) none = none_chosen (test x) x (find test xs) none.0 (none_from test xs none.1)

or_none : (a b : Bool) → a ≡ false → b ≡ false → (a || b) ≡ false
or_none a b p q = rw (p, q) refl

no_zero : (n : ℕ) → 1 ≤ n → (n == 0) ≡ false
no_zero n some = grind (arith, nat_tests)

module _ (header : List ℕ) (len : ℕ) (accepted : first_refusal header len ≡ None) where
  -- the bytes of the whole pages
  abbrev whole : ℕ
  whole = page_count header len * page_size header

  some_bytes : 512 ≤ whole
  some_bytes =
      let count = accepted_count header len accepted in
      let large = page_large (page_size header) (accepted_size header len accepted) in
      let one : 1 * page_size header ≤ whole = mul-le-mul_right (page_size header) count.0 in
      omega (arith, large, one)

  -- as many pages
  pub whole_count : page_count header whole ≡ page_count header len
  whole_count = elim (cases_Bool (has_page_count header)) [
    | inl is ↦ ap (λ (b : Bool). if b then number_at 4 28 header else whole / page_size header) is ∙ sym (ap (λ (b : Bool). if b then number_at 4 28 header else len / page_size header) is)
    | inr is ↦
        let large = page_large (page_size header) (accepted_size header len accepted) in
        ap (λ (b : Bool). if b then number_at 4 28 header else whole / page_size header) is ∙ mul-div_cancel (page_count header len) (omega (arith, large))
  ]

  right_size : holds header whole Size ≡ false
  right_size =
      let count = accepted_count header len accepted in
      let same : page_count header whole * page_size header ≡ whole = ap (λ (n : ℕ). n * page_size header) whole_count in
      or_none (page_count header whole == 0) (nat_lt whole (page_count header whole * page_size header) || not (has_page_count header) && not (whole % page_size header == 0))
      (no_zero (page_count header whole) (omega (arith, whole_count, count.0)))
      (or_none (nat_lt whole (page_count header whole * page_size header)) (not (has_page_count header) && not (whole % page_size header == 0))
      (le-ltb whole (page_count header whole * page_size header) (omega (arith, same)))
      (ap (λ (n : ℕ). not (has_page_count header) && not (n == 0)) (mul-mod_left (page_count header len) (page_size header)) ∙ none (not (has_page_count header))))
    where
      none : (b : Bool) → (b && false) ≡ false
      none true = refl
      none false = refl

  -- also of the whole pages it is not refused
  pub whole_accepted : first_refusal header whole ≡ None
  whole_accepted =
      let was = none_holds header len accepted in
      let pages : page_count header whole ≡ page_count header len = whole_count in
      let bytes : page_count header whole * page_size header ≡ whole = ap (λ (n : ℕ). n * page_size header) pages in
      none_from (holds header whole) refusals (
        no_zero whole (omega (arith, some_bytes)),
        (
          or_none (nat_lt whole 100) _ (le-ltb whole 100 (omega (arith, some_bytes))) (or_parts _ _ was.1.0).1,
          (
            was.1.1.0,
            (
              was.1.1.1.0,
              (
                was.1.1.1.1.0,
                (
                  was.1.1.1.1.1.0,
                  (
                    was.1.1.1.1.1.1.0,
                    (
                      right_size,
                      (
                        ap₂ (λ (n b : ℕ). nat_lt 65536 n || nat_lt (2 ^ 28) b) pages bytes ∙ was.1.1.1.1.1.1.1.1.0,
                        tt,
                      ),
                    ),
                  ),
                ),
              ),
            ),
          ),
        ),
      )
