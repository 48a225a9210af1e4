-- What a committed change makes of a header.
use Rattle.std.proofs.Common.{◌≡◌, ◌<◌, ◌≤◌, ℕ, ◌+◌, ◌-◌, ◌*◌, ◌/◌, ◌^◌, ◌==◌, max, nat_eq, nat_lt, Bool, true, false, not, ◌&&◌, ◌||◌, inl, inr, if◌then◌else◌, List, [], ◌∷◌, length, take, drop, slice_index, Option, Some, None, refl, sym, ◌∙◌, ap, ap₂, arith}
use Rattle.std.proofs.lemmas.Bool.{and_from, cond-true, eq-eqb, ne_eqb, not_from_false}
use Rattle.std.proofs.lemmas.Bool.Decides.{nat_tests}
use Rattle.std.specs.Cmp.Lexicographic.{pointwise}
use Rattle.std.specs.List.{AllByRecursion, find}
use Rattle.std.proofs.lemmas.List.{length-take-le}
use Rattle.byteorder.specs.Endian.{big_bytes}
use Rattle.alter_bytes.proofs.Fields.{IsApart, big_number_inside, length-big_bytes, length-overlaid, number-overlaid, part-overlaid, same_byte, same_number}
use Rattle.pager_core.specs.declared.refusal.FileRefusal.TheVariants.{Size}
use Rattle.pager_core.specs.Header.{has_fixed_bytes, has_no_vacuum, has_page_count, has_rollback_journal, is_page_size, magic, number_at, page_count, page_size, usable_size}
use Rattle.pager_core.specs.Refusals.{first_refusal, holds, refusals}
use Rattle.pager_core.proofs.Sound.{accepted_count, accepted_format, none_holds}
use Rattle.plain_schema.specs.Header.{IsHeader, committed, next, put}

-- a number that is put into a header: how long that is, the number there, and what is apart from it
length-put : (n at v : ℕ) (header : List ℕ) → at + n ≤ length header → length (put n at v header) ≡ length header
length-put n at v header fits = length-overlaid header at (big_bytes n v) (omega (arith, length-big_bytes n v))

number_at-put : (n at v : ℕ) (header : List ℕ) → at ≤ length header → v < 256 ^ n → number_at n at (put n at v header) ≡ v
number_at-put n at v header within small =
    big_number_inside n v (take at header) (drop (at + length (big_bytes n v)) header) at small (length-take-le at header within)

-- the k bytes from m
abbrev piece : ℕ → ℕ → List ℕ → List ℕ
piece k m bytes = take k (drop m bytes)

piece-put : (at v k m : ℕ) (header : List ℕ) → IsApart at 4 k m → at ≤ length header → piece k m (put 4 at v header) ≡ piece k m header
piece-put at v k m header apart within = part-overlaid header at (big_bytes 4 v) k m apart within

number_at-apart : (at v n m : ℕ) (header : List ℕ) → IsApart at 4 n m → at ≤ length header
    → number_at n m (put 4 at v header) ≡ number_at n m header
number_at-apart at v n m header apart within = number-overlaid header at (big_bytes 4 v) n m apart within

-- the five fields with these numbers
abbrev five : ℕ → ℕ → ℕ → ℕ → List ℕ → List ℕ
five counter count cookie format header =
    put 4 92 counter (put 4 44 format (put 4 40 cookie (put 4 28 count (put 4 24 counter header))))

-- the k bytes from m are apart from each of the five fields
record IsUntouched (k m : ℕ) : Type 0 where
  counter : IsApart 24 4 k m
  count : IsApart 28 4 k m
  cookie : IsApart 40 4 k m
  format : IsApart 44 4 k m
  version : IsApart 92 4 k m

front : (k m : ℕ) → m + k ≤ 24 → IsUntouched k m
front k m h = record {
  counter = inl h;
  count = inl (omega arith);
  cookie = inl (omega arith);
  format = inl (omega arith);
  version = inl (omega arith);
}

middle : (k m : ℕ) → 32 ≤ m → m + k ≤ 40 → IsUntouched k m
middle k m low high = record {
  counter = inr (omega arith);
  count = inr low;
  cookie = inl high;
  format = inl (omega arith);
  version = inl (omega arith);
}

back : (k m : ℕ) → 48 ≤ m → m + k ≤ 92 → IsUntouched k m
back k m low high = record {
  counter = inr (omega arith);
  count = inr (omega arith);
  cookie = inr (omega arith);
  format = inr low;
  version = inl high;
}

-- how long the header is after each of the five
record Lengths (counter count cookie format : ℕ) (header : List ℕ) : Type 0 where
  one : length (put 4 24 counter header) ≡ 100
  two : length (put 4 28 count (put 4 24 counter header)) ≡ 100
  three : length (put 4 40 cookie (put 4 28 count (put 4 24 counter header))) ≡ 100
  four : length (put 4 44 format (put 4 40 cookie (put 4 28 count (put 4 24 counter header)))) ≡ 100
  five : length (five counter count cookie format header) ≡ 100

lengths : (counter count cookie format : ℕ) (header : List ℕ) → length header ≡ 100 → Lengths counter count cookie format header
lengths counter count cookie format header len =
    let h1 = put 4 24 counter header in
    let h2 = put 4 28 count h1 in
    let h3 = put 4 40 cookie h2 in
    let h4 = put 4 44 format h3 in
    let l1 : length h1 ≡ 100 = length-put 4 24 counter header (omega arith) ∙ len in
    let l2 : length h2 ≡ 100 = length-put 4 28 count h1 (omega arith) ∙ l1 in
    let l3 : length h3 ≡ 100 = length-put 4 40 cookie h2 (omega arith) ∙ l2 in
    let l4 : length h4 ≡ 100 = length-put 4 44 format h3 (omega arith) ∙ l3 in
    record {
      one = l1;
      two = l2;
      three = l3;
      four = l4;
      five = length-put 4 92 counter h4 (omega arith) ∙ l4;
    }

-- what is apart from the five fields stays
stays : (counter count cookie format k m : ℕ) (header : List ℕ) → length header ≡ 100 → IsUntouched k m
    → piece k m (five counter count cookie format header) ≡ piece k m header
stays counter count cookie format k m header len apart =
    let l = lengths counter count cookie format header len in
    let h1 = put 4 24 counter header in
    let h2 = put 4 28 count h1 in
    let h3 = put 4 40 cookie h2 in
    let h4 = put 4 44 format h3 in
    piece-put 92 counter k m h4 apart.version (omega (arith, l.four))
    ∙ piece-put 44 format k m h3 apart.format (omega (arith, l.three))
    ∙ piece-put 40 cookie k m h2 apart.cookie (omega (arith, l.two))
    ∙ piece-put 28 count k m h1 apart.count (omega (arith, l.one))
    ∙ piece-put 24 counter k m header apart.counter (omega arith)

-- the numbers of the five fields
record Numbers (counter count cookie format : ℕ) (header : List ℕ) : Type 0 where
  change : number_at 4 24 (five counter count cookie format header) ≡ counter
  pages : number_at 4 28 (five counter count cookie format header) ≡ count
  schema : number_at 4 40 (five counter count cookie format header) ≡ cookie
  schema_format : number_at 4 44 (five counter count cookie format header) ≡ format
  version : number_at 4 92 (five counter count cookie format header) ≡ counter

numbers : (counter count cookie format : ℕ) (header : List ℕ) → length header ≡ 100
    → counter < 2 ^ 32 → count < 2 ^ 32 → cookie < 2 ^ 32 → format < 2 ^ 32 → Numbers counter count cookie format header
numbers counter count cookie format header len counter_fits count_fits cookie_fits format_fits =
    let l = lengths counter count cookie format header len in
    let h1 = put 4 24 counter header in
    let h2 = put 4 28 count h1 in
    let h3 = put 4 40 cookie h2 in
    let h4 = put 4 44 format h3 in
    let w1 : 28 ≤ length h1 = omega (arith, l.one) in
    let w2 : 40 ≤ length h2 = omega (arith, l.two) in
    let w3 : 44 ≤ length h3 = omega (arith, l.three) in
    let w4 : 92 ≤ length h4 = omega (arith, l.four) in
    record {
      change =
          number_at-apart 92 counter 4 24 h4 (inl (omega arith)) w4
          ∙ number_at-apart 44 format 4 24 h3 (inl (omega arith)) w3
          ∙ number_at-apart 40 cookie 4 24 h2 (inl (omega arith)) w2
          ∙ number_at-apart 28 count 4 24 h1 (inl (omega arith)) w1
          ∙ number_at-put 4 24 counter header (omega arith) counter_fits;
      pages =
          number_at-apart 92 counter 4 28 h4 (inl (omega arith)) w4
          ∙ number_at-apart 44 format 4 28 h3 (inl (omega arith)) w3
          ∙ number_at-apart 40 cookie 4 28 h2 (inl (omega arith)) w2
          ∙ number_at-put 4 28 count h1 w1 count_fits;
      schema =
          number_at-apart 92 counter 4 40 h4 (inl (omega arith)) w4
          ∙ number_at-apart 44 format 4 40 h3 (inl (omega arith)) w3
          ∙ number_at-put 4 40 cookie h2 w2 cookie_fits;
      schema_format =
          number_at-apart 92 counter 4 44 h4 (inl (omega arith)) w4
          ∙ number_at-put 4 44 format h3 w3 format_fits;
      version = number_at-put 4 92 counter h4 w4 counter_fits;
    }

-- the committed header
next-lt : (n : ℕ) → next n < 2 ^ 32
next-lt n = omega arith

pub length-committed : (count : ℕ) (header : List ℕ) → length header ≡ 100 → length (committed count 3 header) ≡ 100
length-committed count header len =
    (lengths (next (number_at 4 24 header)) count (next (number_at 4 40 header)) (max (number_at 4 44 header) 3) header len).five

piece-committed : (count k m : ℕ) (header : List ℕ) → length header ≡ 100 → IsUntouched k m
    → piece k m (committed count 3 header) ≡ piece k m header
piece-committed count k m header len apart =
    stays (next (number_at 4 24 header)) count (next (number_at 4 40 header)) (max (number_at 4 44 header) 3) k m header len apart

number-committed : (count n m : ℕ) (header : List ℕ) → length header ≡ 100 → IsUntouched n m
    → number_at n m (committed count 3 header) ≡ number_at n m header
number-committed count n m header len apart =
    same_number n m (committed count 3 header) header (piece-committed count n m header len apart)

index-committed : (count m : ℕ) (header : List ℕ) → length header ≡ 100 → IsUntouched 1 m
    → slice_index (committed count 3 header) m ≡ slice_index header m
index-committed count m header len apart =
    same_byte m (committed count 3 header) header (piece-committed count 1 m header len apart)

pub page_size-committed : (count : ℕ) (header : List ℕ) → length header ≡ 100 → page_size (committed count 3 header) ≡ page_size header
page_size-committed count header len =
    ap (λ (n : ℕ). if n == 1 then 65536 else n) (number-committed count 2 16 header len (front 2 16 (omega arith)))

pub usable_size-committed : (count : ℕ) (header : List ℕ) → length header ≡ 100 → usable_size (committed count 3 header) ≡ usable_size header
usable_size-committed count header len =
    ap₂ (λ (p r : ℕ). p - r) (page_size-committed count header len) (index-committed count 20 header len (front 1 20 (omega arith)))

-- the field of the size in pages is up to date
is_current : (count : ℕ) (header : List ℕ) → number_at 4 28 header ≡ count → number_at 4 24 header ≡ number_at 4 92 header → 0 < count
    → has_page_count header ≡ true
is_current count header pages same some =
    and_from (not (number_at 4 28 header == 0)) (number_at 4 24 header == number_at 4 92 header)
    (not_from_false (number_at 4 28 header == 0) (ne_eqb (number_at 4 28 header) 0 (λ (none : number_at 4 28 header ≡ 0). omega arith)))
    (eq-eqb (number_at 4 24 header) (number_at 4 92 header) same)

-- the numbers of a committed header whose format is known
numbers-committed : (count : ℕ) (header : List ℕ) → length header ≡ 100 → number_at 4 44 header ≤ 4 → count < 2 ^ 32
    → Numbers (next (number_at 4 24 header)) count (next (number_at 4 40 header)) (max (number_at 4 44 header) 3) header
numbers-committed count header size format few =
    numbers (next (number_at 4 24 header)) count (next (number_at 4 40 header)) (max (number_at 4 44 header) 3) header size
    (next-lt (number_at 4 24 header)) few (next-lt (number_at 4 40 header)) (omega arith)

-- what a committed header says of the size in pages
pub record IsCurrent (count : ℕ) (header : List ℕ) : Type 0 where
  pub field : number_at 4 28 (committed count 3 header) ≡ count
  pub change : number_at 4 24 (committed count 3 header) ≡ number_at 4 92 (committed count 3 header)
  pub current : has_page_count (committed count 3 header) ≡ true

pub current-committed : (count : ℕ) (header : List ℕ) → length header ≡ 100 → number_at 4 44 header ≤ 4 → 0 < count → count < 2 ^ 32
    → IsCurrent count header
current-committed count header size format some few =
    let n = numbers-committed count header size format few in
    record {
      field = n.pages;
      change = n.change ∙ sym n.version;
      current = is_current count (committed count 3 header) n.pages (n.change ∙ sym n.version) some;
    }

pub page_count-committed_is : (count len : ℕ) (header : List ℕ) → length header ≡ 100 → number_at 4 44 header ≤ 4 → 0 < count → count < 2 ^ 32
    → page_count (committed count 3 header) len ≡ count
page_count-committed_is count len header size format some few =
    let is = current-committed count header size format some few in
    cond-true (has_page_count (committed count 3 header)) (number_at 4 28 (committed count 3 header)) (len / page_size (committed count 3 header)) is.current ∙ is.field

-- the format that a header gives is known
format_of : (header : List ℕ) (len : ℕ) → first_refusal header len ≡ None → number_at 4 44 header ≤ 4
format_of header len accepted = omega (arith, accepted_format header len accepted)

pub page_count-committed : (count len : ℕ) (header : List ℕ) → IsHeader header len → length header ≡ 100 → count ≡ page_count header len
    → page_count (committed count 3 header) len ≡ page_count header len
page_count-committed count len header is size same =
    let some = accepted_count header len is.accepted in
    page_count-committed_is count len header size (format_of header len is.accepted) (omega (arith, some.0)) (omega (arith, some.1)) ∙ same

-- a list in which no test holds
none_chosen : {X : Type 0} (b : Bool) (x : X) (o : Option X) → b ≡ false → o ≡ None → (if b then Some x else o) ≡ None
none_chosen b x o is none = rw is none

none_from : {X : Type 0} (test : X → Bool) (xs : List X) → AllByRecursion (λ x. test x ≡ false) xs → find test xs ≡ None
none_from test [] none = refl
none_from test (x ∷ xs) none = none_chosen (test x) x (find test xs) none.0 (none_from test xs none.1)

-- a test of one byte in front of the five fields stays
byte_test : (count m value : ℕ) (header : List ℕ) → length header ≡ 100 → m + 1 ≤ 24
    → (slice_index (committed count 3 header) m == value) ≡ (slice_index header m == value)
byte_test count m value header len low = ap (λ (b : ℕ). b == value) (index-committed count m header len (front 1 m low))

-- a test that a number apart from the five fields is 0 stays
zero_test : (count m : ℕ) (header : List ℕ) → length header ≡ 100 → IsUntouched 4 m
    → (number_at 4 m (committed count 3 header) == 0) ≡ (number_at 4 m header == 0)
zero_test count m header len apart = ap (λ (n : ℕ). n == 0) (number-committed count 4 m header len apart)

-- the bytes that are the same in every database stay
fixed : (count : ℕ) (header : List ℕ) → length header ≡ 100 → has_fixed_bytes (committed count 3 header) ≡ has_fixed_bytes header
fixed count header len =
    let opening : take 16 (committed count 3 header) ≡ take 16 header = piece-committed count 16 0 header len (front 16 0 (omega arith)) in
    let one = ap (λ (l : List ℕ). pointwise nat_eq magic l) opening in
    let all = λ (m value : ℕ) (low : m + 1 ≤ 24). byte_test count m value header len low in
    rw (one, all 21 64 (omega arith), all 22 32 (omega arith), all 23 32 (omega arith)) refl

versions : (count : ℕ) (header : List ℕ) → length header ≡ 100 → has_rollback_journal (committed count 3 header) ≡ has_rollback_journal header
versions count header len =
    ap₂ (λ (a b : Bool). a && b) (byte_test count 18 1 header len (omega arith)) (byte_test count 19 1 header len (omega arith))

vacuum : (count : ℕ) (header : List ℕ) → length header ≡ 100 → has_no_vacuum (committed count 3 header) ≡ has_no_vacuum header
vacuum count header len =
    ap₂ (λ (a b : Bool). a && b) (zero_test count 52 header len (back 4 52 (omega arith) (omega arith)))
    (zero_test count 64 header len (back 4 64 (omega arith) (omega arith)))

-- a format that is known stays known
known_format : (n k : ℕ) → k ≡ max n 3 → n ≤ 4 → nat_lt 4 (max k 1) ≡ false
known_format n k is small = ltb-from (4) (max k 1) (omega arith)
  where
    ltb-from : (a b : ℕ) → b ≤ a → nat_lt a b ≡ false
    ltb-from a b h = grind (arith, nat_tests)

-- the length that was right is right
right_length : (header new : List ℕ) (len : ℕ) → page_count new len * page_size new ≡ page_count header len * page_size header → has_page_count new ≡ true
    → (page_count new len ≡ 0 → ⊥) → len ≡ page_count header len * page_size header → holds new len Size ≡ false
right_length header new len bytes current some exact =
    let long : nat_lt len (page_count new len * page_size new) ≡ false = short _ _ (exact ∙ sym bytes) in
    let none : (page_count new len == 0) ≡ false = ne_eqb (page_count new len) 0 some in
    rw (none, long, current) refl
  where
    short : (a b : ℕ) → a ≡ b → nat_lt a b ≡ false
    short a b h = grind (arith, nat_tests)

-- none of the refusals holds of a committed header
none_committed : (count len : ℕ) (header : List ℕ) → IsHeader header len → length header ≡ 100 → count ≡ page_count header len
    → AllByRecursion (λ refusal. holds (committed count 3 header) len refusal ≡ false) refusals
none_committed count len header is size same =
    let new = committed count 3 header in
    let none = none_holds header len is.accepted in
    let some = accepted_count header len is.accepted in
    let format = format_of header len is.accepted in
    let page = page_size-committed count header size in
    let usable = usable_size-committed count header size in
    let pages = page_count-committed count len header is size same in
    let bytes : page_count new len * page_size new ≡ page_count header len * page_size header = ap₂ (λ (a b : ℕ). a * b) pages page in
    let numbers = numbers-committed count header size format (omega (arith, some.1)) in
    let current = current-committed count header size format (omega (arith, some.0)) (omega (arith, some.1)) in
    let database = ap (λ (b : Bool). nat_lt len 100 || not b) (fixed count header size) ∙ none.1.0 in
    let sizes = ap₂ (λ (p u : ℕ). not (is_page_size p) || nat_lt u 480) page usable ∙ none.1.1.0 in
    let wal = ap not (versions count header size) ∙ none.1.1.1.0 in
    let vacuums = ap not (vacuum count header size) ∙ none.1.1.1.1.0 in
    let encoding = ap (λ (n : ℕ). nat_lt 1 n) (number-committed count 4 56 header size (back 4 56 (omega arith) (omega arith))) ∙ none.1.1.1.1.1.0 in
    let known = known_format (number_at 4 44 header) (number_at 4 44 new) numbers.schema_format format in
    let long = right_length header new len bytes current.current (λ zero. omega (arith, zero, pages, some.0)) is.exact in
    let large = ap₂ (λ (n b : ℕ). nat_lt 65536 n || nat_lt (2 ^ 28) b) pages bytes ∙ none.1.1.1.1.1.1.1.1.0 in
    (none.0, (database, (sizes, (wal, (vacuums, (encoding, (known, (long, (large, tt)))))))))

-- a header that is served stays one
pub committed-is : (count len : ℕ) (header : List ℕ) → IsHeader header len → length header ≡ 100 → count ≡ page_count header len
    → IsHeader (committed count 3 header) len
committed-is count len header is size same = record {
  accepted = none_from (holds (committed count 3 header) len) refusals (none_committed count len header is size same);
  exact = is.exact ∙ sym (ap₂ (λ (x y : ℕ). x * y) (page_count-committed count len header is size same) (page_size-committed count header size));
  first_trunk = number-committed count 4 32 header size (middle 4 32 (omega arith) (omega arith)) ∙ is.first_trunk;
  free_pages = number-committed count 4 36 header size (middle 4 36 (omega arith) (omega arith)) ∙ is.free_pages;
}
