-- What holds of a file that is not refused.
use Rattle.std.proofs.Common.{⊎_elim, eqb, sym, subst, ◌≡◌, ℕ, ◌*◌, ◌≤◌, Bool, true, false, cond, Option, Some, None, List, [], ◌∷◌, refl, ap, ap₂, ◌∙◌, ◌^◌, arith}
use Rattle.std.proofs.lemmas.Bool.{not-false, or_cases, or_parts, ltb-false, eqb-false, eqb-true}
use Rattle.std.specs.List.{AllByRecursion, find}
use Rattle.pager_core.specs.Header.{is_page_size, page_count, page_size, schema_format, usable_size}
use Rattle.pager_core.specs.Refusals.{first_refusal, holds, refusals}
use Rattle.pager_core.specs.Shape.{HasShape, IsShape}
use Rattle.pager_core.specs.declared.file_shape.FileShape.{FileShape}
use Rattle.pager_core.specs.declared.refusal.FileRefusal.TheVariants.{PageSize}

-- a list in which nothing is found
not_chosen : {X : Type 0} (b : Bool) (x : X) (o : Option X) → cond b (Some x) o ≡ None → (b ≡ false) × (o ≡ None)
not_chosen true x o e = absurd (cc)
not_chosen false x o e = (refl, e)

pub none_found : {X : Type 0} (test : X → Bool) (xs : List X) → find test xs ≡ None → AllByRecursion (λ x. test x ≡ false) xs
none_found test [] none = tt
none_found test (x ∷ xs) none = let e = not_chosen (test x) x (find test xs) none in (e.0, none_found test xs e.1)

-- what the test of the page size says
pub good_size : (header : List ℕ) → holds header 0 PageSize ≡ false → is_page_size (page_size header) ≡ true
good_size header fine = not-false (is_page_size (page_size header)) (or_parts _ _ fine).0

-- no refusal holds
pub none_holds : (header : List ℕ) (len : ℕ) → first_refusal header len ≡ None → AllByRecursion (λ refusal. holds header len refusal ≡ false) refusals
none_holds header len accepted = none_found (holds header len) refusals accepted

pub accepted_size : (header : List ℕ) (len : ℕ) → first_refusal header len ≡ None → is_page_size (page_size header) ≡ true
accepted_size header len accepted = good_size header (none_holds header len accepted).1.1.0

pub accepted_usable : (header : List ℕ) (len : ℕ) → first_refusal header len ≡ None → 480 ≤ usable_size header
accepted_usable header len accepted = ltb-false (usable_size header) 480 (or_parts _ _ (none_holds header len accepted).1.1.0).1

pub accepted_length : (header : List ℕ) (len : ℕ) → first_refusal header len ≡ None → 100 ≤ len
accepted_length header len accepted = ltb-false len 100 (or_parts _ _ (none_holds header len accepted).1.0).0

pub accepted_format : (header : List ℕ) (len : ℕ) → first_refusal header len ≡ None → schema_format header ≤ 4
accepted_format header len accepted = ltb-false 4 (schema_format header) (none_holds header len accepted).1.1.1.1.1.1.0

pub accepted_count : (header : List ℕ) (len : ℕ) → first_refusal header len ≡ None
    → (1 ≤ page_count header len) × (page_count header len ≤ 65536) × (page_count header len * page_size header ≤ 2 ^ 28)
accepted_count header len accepted =
    let fine = (none_holds header len accepted).1.1.1.1.1.1.1 in
    let some = eqb-false (page_count header len) 0 (or_parts _ _ fine.0).0 in
    let few = or_parts _ _ fine.1.0 in
    (omega arith, ltb-false 65536 (page_count header len) few.0, ltb-false (2 ^ 28) (page_count header len * page_size header) few.1)

-- the sizes of a file that is not refused can be held
pub is_shape : (header : List ℕ) (len : ℕ) (shape : FileShape) → first_refusal header len ≡ None → HasShape header len shape → IsShape shape
is_shape header len shape accepted has =
    let usable = accepted_usable header len accepted in
    let count = accepted_count header len accepted in
    let both : shape.count * shape.page ≡ page_count header len * page_size header = ap₂ (λ (n m : ℕ). n * m) has.count has.page in
    record {
      size = ap is_page_size has.page ∙ accepted_size header len accepted;
      least = omega (arith, has.usable, usable);
      usable = omega (arith, has.usable, has.page);
      some = omega (arith, has.count, count.0);
      few = omega (arith, has.count, count.1);
      small = omega (arith, both, count.2);
    }

-- what holds of each size of a page
pub page_cases : (P : ℕ → Type 0) (n : ℕ) → P 512 → P 1024 → P 2048 → P 4096 → P 8192 → P 16384 → P 32768 → P 65536 → is_page_size n ≡ true → P n
page_cases P n a b c d e f g h is =
    let at : (k : ℕ) → P k → eqb n k ≡ true → P n = λ k p same. subst P (sym (eqb-true n k same)) p in
    ⊎_elim (λ is7. ⊎_elim (λ is6. ⊎_elim (λ is5. ⊎_elim (λ is4. ⊎_elim (λ is3. ⊎_elim (λ is2. ⊎_elim (at 512 a) (at 1024 b)
    (or_cases _ _ is2)) (at 2048 c) (or_cases _ _ is3)) (at 4096 d) (or_cases _ _ is4)) (at 8192 e) (or_cases _ _ is5)) (at 16384 f) (or_cases _ _ is6)) (at 32768 g) (or_cases _ _ is7)) (at 65536 h) (or_cases _ _ is)

-- a page has at most 65536 bytes
pub page_small : (n : ℕ) → is_page_size n ≡ true → n ≤ 65536
page_small n is = page_cases (λ k. k ≤ 65536) n (omega arith) (omega arith) (omega arith) (omega arith) (omega arith) (omega arith) (omega arith) (omega arith) is

-- a page has the header whole
pub page_large : (n : ℕ) → is_page_size n ≡ true → 512 ≤ n
page_large n is = page_cases (λ k. 512 ≤ k) n (omega arith) (omega arith) (omega arith) (omega arith) (omega arith) (omega arith) (omega arith) (omega arith) is
