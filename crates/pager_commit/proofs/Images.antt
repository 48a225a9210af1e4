-- Bytes with the same pages have the same image.
use Rattle.std.proofs.Common.{◌≡◌, ℕ, zero, suc, ◌+◌, ◌-◌, ◌*◌, ◌/◌, ◌≤◌, ◌==◌, Bool, true, false, not, ◌&&◌, if◌then◌else◌, List, length, take, drop, nat_le, Option, Some, None, refl, sym, ap, ap₂, ◌∙◌, arith}
use Rattle.std.proofs.lemmas.Bool.{le-leb}
use Rattle.std.proofs.lemmas.List.{length-take-le, take-take}
use Rattle.std.proofs.Math.Nat.{mul-le-mul_right, mul-div_cancel}
use Rattle.alter_bytes.proofs.Fields.{same_number}
use Rattle.rollback_journal.specs.Playback.{file_page}
use Rattle.rollback_journal.proofs.FilePages.{page_end, part_of_front}
use Rattle.pager_core.specs.Header.{has_page_count, is_page_size, number_at, page_count, page_size}
use Rattle.pager_core.specs.Image.{all_upto, image_of, whole_page, with_last}
use Rattle.pager_core.specs.Pages.{page_bytes}
use Rattle.pager_commit.proofs.Replayed.{whole_page_bytes}

-- what the numbers have alike
pub all_alike : {X : Type 0} (a b : ℕ → Option X) (n : ℕ) → ((m : ℕ) → 1 ≤ m → m ≤ n → a m ≡ b m) → all_upto a n ≡ all_upto b n
all_alike a b zero same = refl
all_alike a b (suc n) same = ap₂ with_last (all_alike a b n (λ m from to. same m from (omega (arith, to)))) (same (suc n) (omega arith) (omega arith))

-- a page that stands wholly in the bytes
pub whole_is : (page n : ℕ) (db : List ℕ) → 1 ≤ n → n * page ≤ length db → whole_page page db n ≡ Some (file_page page db n)
whole_is page n db from within =
    let test : nat_le (n * page) (length db) ≡ true = le-leb (n * page) (length db) within in
    ap (λ (b : Bool). if b then Some (page_bytes page n db) else None) test ∙ ap Some (whole_page_bytes page n db from within)

-- the header's numbers stand in the first 512 bytes
pub numbers_alike : (n at : ℕ) (a b : List ℕ) → n + at ≤ 512 → take 512 a ≡ take 512 b → number_at n at a ≡ number_at n at b
numbers_alike n at a b within same =
    let part : (l : List ℕ) → take n (drop at (take 512 l)) ≡ take n (drop at l) = λ l. part_of_front l at n 512 (omega (arith, within)) in
    same_number n at a b (sym (part a) ∙ ap (λ l. take n (drop at l)) same ∙ part b)

pub size_alike : (a b : List ℕ) → take 512 a ≡ take 512 b → page_size a ≡ page_size b
size_alike a b same = ap (λ (k : ℕ). if k == 1 then 65536 else k) (numbers_alike 2 16 a b (omega arith) same)

pub counts_alike : (a b : List ℕ) → take 512 a ≡ take 512 b → has_page_count a ≡ has_page_count b
counts_alike a b same =
    let count = numbers_alike 4 28 a b (omega arith) same in
    let changes = numbers_alike 4 24 a b (omega arith) same in
    let valid = numbers_alike 4 92 a b (omega arith) same in
    ap₂ (λ (x y : Bool). not x && y) (ap (λ (k : ℕ). k == 0) count) (ap₂ (λ (x y : ℕ). x == y) changes valid)

-- an image by its page size, its page count and its pages
pub image_is : (db : List ℕ) (page count : ℕ) (has : ℕ → Option (List ℕ)) → is_page_size page ≡ true → page_size db ≡ page → page_count db (length db) ≡ count
    → ((n : ℕ) → 1 ≤ n → n ≤ count → whole_page page db n ≡ has n) → image_of db ≡ all_upto has count
unfolding image_of
image_is db page count has good size number same =
    let good_size : is_page_size (page_size db) ≡ true = ap is_page_size size ∙ good in
    ap (λ (b : Bool). if b then all_upto (whole_page (page_size db) db) (page_count db (length db)) else None) good_size
    ∙ ap₂ (λ (p k : ℕ). all_upto (whole_page p db) k) size number ∙ all_alike (whole_page page db) has count same

-- the front of a file that its pages take is the same image
pub front_image : (db : List ℕ) (page count : ℕ) → is_page_size page ≡ true → 512 ≤ page → 1 ≤ count → page_size db ≡ page → page_count db (length db) ≡ count → count * page ≤ length db
    → image_of (take (count * page) db) ≡ image_of db
front_image db page count good large some size number within =
    let front = take (count * page) db in
    let len : length front ≡ count * page = length-take-le (count * page) db within in
    let one : 1 * page ≤ count * page = mul-le-mul_right page some in
    let long : 512 ≤ count * page = omega (arith, one, large) in
    let header : take 512 front ≡ take 512 db = take-take 512 (count * page) db long in
    let same_size : page_size front ≡ page = size_alike front db header ∙ size in
    let same_count : page_count front (length front) ≡ count = by (has_page_count db) refl header len in
    let each : (n : ℕ) → 1 ≤ n → n ≤ count → whole_page page front n ≡ Some (file_page page db n) = λ n from to.
    let below : n * page ≤ count * page = mul-le-mul_right page to in
    let end = page_end n page from in
    whole_is page n front from (omega (arith, below, len)) ∙ ap Some (part_of_front db ((n - 1) * page) page (count * page) (omega (arith, end, below))) in
    let again : (n : ℕ) → 1 ≤ n → n ≤ count → whole_page page db n ≡ Some (file_page page db n) = λ n from to.
    let below : n * page ≤ count * page = mul-le-mul_right page to in
    whole_is page n db from (omega (arith, below, within)) in
    image_is front page count (λ n. Some (file_page page db n)) good same_size same_count each ∙ sym (image_is db page count (λ n. Some (file_page page db n)) good size number again)
  where
    by : (b : Bool) → has_page_count db ≡ b → take 512 (take (count * page) db) ≡ take 512 db → length (take (count * page) db) ≡ count * page → page_count (take (count * page) db) (length (take (count * page) db)) ≡ count
    by true is header len =
        let front = take (count * page) db in
        let now : has_page_count front ≡ true = counts_alike front db header ∙ is in
        let field : number_at 4 28 db ≡ count = sym (ap (λ (b : Bool). if b then number_at 4 28 db else length db / page_size db) is) ∙ number in
        ap (λ (b : Bool). if b then number_at 4 28 front else length front / page_size front) now ∙ numbers_alike 4 28 front db (omega arith) header ∙ field
    by false is header len =
        let front = take (count * page) db in
        let now : has_page_count front ≡ false = counts_alike front db header ∙ is in
        ap (λ (b : Bool). if b then number_at 4 28 front else length front / page_size front) now
        ∙ ap₂ (λ (x y : ℕ). x / y) len (size_alike front db header ∙ size) ∙ mul-div_cancel count (omega (arith, large))
