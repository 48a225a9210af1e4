-- The bytes of a journal that is made here: how many there are, and that the last ones name no super-journal.
use Rattle.std.proofs.Common.{◌≡◌, ⊎_elim, ℕ, zero, suc, ◌+◌, ◌-◌, ◌*◌, ◌/◌, ◌%◌, ◌^◌, ◌<◌, ◌≤◌, Bool, true, false, if◌then◌else◌, List, [], ◌∷◌, ◌++◌, length, length-append, length-drop, take, drop, get_or, replicate, refl, sym, ap, ◌∙◌, subst, append-nil, append_assoc, arith}
use Rattle.std.proofs.lemmas.Bool.{cases_Bool}
use Rattle.std.proofs.lemmas.List.{drop-append-le, get_or-take, get_or_at, replicate-append-replicate}
use Rattle.std.proofs.Math.Nat.{mul-le-mul_right}
use Rattle.std.specs.Cmp.Lexicographic.{bytes_decides}
use Rattle.std.specs.List.{AllByRecursion, flat_map}
use Rattle.byteorder.specs.Endian.{big_bytes}
use Rattle.alter_bytes.proofs.Fields.{length-big_bytes}
use Rattle.rollback_journal.specs.declared.header.Header.{Header}
use Rattle.rollback_journal.specs.Checksum.{checksum_of}
use Rattle.rollback_journal.specs.Header.{bytes_of, has_magic, magic}
use Rattle.rollback_journal.specs.Records.{Entry}
use Rattle.pager_commit.specs.Plan.{numbers_upto, record_of}
use Rattle.pager_commit.specs.Records.{IsSmallEntry}

-- the bytes of a header
pub length-bytes_of : (h : Header) → length (bytes_of h true) ≡ 28
length-bytes_of h =
    let c = big_bytes 4 h.count in
    let n = big_bytes 4 h.nonce in
    let s = big_bytes 4 h.size in
    let k = big_bytes 4 h.sector in
    let p = big_bytes 4 h.page in
    let four : (v : ℕ) → length (big_bytes 4 v) ≡ 4 = λ v. length-big_bytes 4 v in
    let a = length-append magic c in
    let b = length-append (magic ++ c) n in
    let d = length-append (magic ++ c ++ n) s in
    let e = length-append (magic ++ c ++ n ++ s) k in
    let f = length-append (magic ++ c ++ n ++ s ++ k) p in
    omega (arith, a, b, d, e, f, four h.count, four h.nonce, four h.size, four h.sector, four h.page)

-- the bytes of a record
pub length-record : (page : ℕ) (entry : Entry) → length entry.bytes ≡ page → length (record_of entry) ≡ page + 8
length-record page entry extent =
    let a = big_bytes 4 entry.page in
    let z = big_bytes 4 (checksum_of 0 entry.bytes) in
    omega (arith, length-append (a ++ entry.bytes) z, length-append a entry.bytes, length-big_bytes 4 entry.page, length-big_bytes 4 (checksum_of 0 entry.bytes), extent)

pub length-records : (page : ℕ) (entries : List Entry) → AllByRecursion (IsSmallEntry page) entries → length (flat_map record_of entries) ≡ length entries * (page + 8)
length-records page [] small = omega arith
length-records page (entry ∷ entries) small =
    let rest = length-records page entries small.1 in
    let one = length-record page entry small.0.extent in
    let e : suc (length entries) * (page + 8) ≡ length entries * (page + 8) + (page + 8) = omega arith in
    length-append (record_of entry) (flat_map record_of entries) ∙ omega (arith, rest, one, e)

-- of the first n numbers no more than n
pub few_numbers : (test : ℕ → Bool) (n : ℕ) → length (numbers_upto test n) ≤ n
few_numbers test zero = omega arith
few_numbers test (suc n) = by (test (suc n)) (few_numbers test n)
  where
    by : (b : Bool) → length (numbers_upto test n) ≤ n → length (if b then numbers_upto test n ++ suc n ∷ [] else numbers_upto test n) ≤ suc n
    by true few = omega (arith, length-append (numbers_upto test n) (suc n ∷ []))
    by false few = omega arith

-- as many records as pages have room in a journal
pub journal_small : (records count page : ℕ) → records ≤ count → count ≤ 2 ^ 18 → count * page ≤ 2 ^ 29 → 512 + records * (page + 8) ≤ 2 ^ 30
journal_small records count page few most small =
    let a : records * page ≤ count * page = mul-le-mul_right page few in
    let e : records * (page + 8) ≡ records * page + records * 8 = omega arith in
    omega arith

-- four bytes of which the first is zero, behind others, do not end in the magic
pub not_super : (x t : List ℕ) → 4 ≤ length x → length t ≡ 3 → has_magic (drop (length (x ++ 0 ∷ t) - 8) (x ++ 0 ∷ t)) ≡ false
not_super x t long three = ⊎_elim (λ is. absurd (wrong is)) (λ no_. no_) (cases_Bool (has_magic (drop (length (x ++ 0 ∷ t) - 8) (x ++ 0 ∷ t))))
  where
    same : drop (length (x ++ 0 ∷ t) - 8) (x ++ 0 ∷ t) ≡ drop (length x - 4) x ++ 0 ∷ t
    same =
        let place : length (x ++ 0 ∷ t) - 8 ≡ length x - 4 = omega (arith, length-append x (0 ∷ t), three) in
        ap (λ k. drop k (x ++ 0 ∷ t)) place ∙ drop-append-le (length x - 4) x (0 ∷ t) (omega arith)

    wrong : has_magic (drop (length (x ++ 0 ∷ t) - 8) (x ++ 0 ∷ t)) ≡ true → ⊥
    wrong is =
        let l = drop (length x - 4) x ++ 0 ∷ t in
        let begins : take 8 l ≡ magic = (bytes_decides (take 8 l) magic).0 (ap has_magic (sym same) ∙ is) in
        let fifth : get_or (take 8 l) 4 1 ≡ 0 = get_or-take 8 l 4 1 (omega arith) ∙ get_or_at (drop (length x - 4) x) 0 t 1 4 (omega (arith, length-drop (length x - 4) x)) in
        let other : ◌≡◌ {A = ℕ} 0 0x20 = sym fifth ∙ ap (λ (b : List ℕ). get_or b 4 1) begins in
        absurd (omega (arith, other))

-- a small number begins with a zero
pub first_zero : (s : ℕ) → s < 2 ^ 24 → big_bytes 4 s ≡ 0 ∷ big_bytes 3 s
first_zero s small = let e : s / 16777216 % 256 ≡ 0 = omega arith in ap (λ (k : ℕ). k ∷ big_bytes 3 s) e

-- records end in such a number
pub record EndsSmall (bytes : List ℕ) : Type 0 where
  pub front : List ℕ
  pub back : List ℕ
  pub long : 4 ≤ length front
  pub three : length back ≡ 3
  pub split : bytes ≡ front ++ 0 ∷ back

pub ends_behind : (front bytes : List ℕ) → EndsSmall bytes → EndsSmall (front ++ bytes)
ends_behind front bytes ends = record {
  front = front ++ ends.front;
  back = ends.back;
  long = omega (arith, length-append front ends.front, ends.long);
  three = ends.three;
  split = ap (λ l. front ++ l) ends.split ∙ sym (append_assoc front ends.front (0 ∷ ends.back));
}

record_ends : (entry : Entry) → checksum_of 0 entry.bytes < 2 ^ 24 → EndsSmall (record_of entry)
record_ends entry small = record {
  front = big_bytes 4 entry.page ++ entry.bytes;
  back = big_bytes 3 (checksum_of 0 entry.bytes);
  long = omega (arith, length-append (big_bytes 4 entry.page) entry.bytes, length-big_bytes 4 entry.page);
  three = length-big_bytes 3 (checksum_of 0 entry.bytes);
  split = ap (λ l. big_bytes 4 entry.page ++ entry.bytes ++ l) (first_zero (checksum_of 0 entry.bytes) small);
}

records_end : (page : ℕ) (entry : Entry) (entries : List Entry) → AllByRecursion (IsSmallEntry page) (entry ∷ entries) → EndsSmall (flat_map record_of (entry ∷ entries))
records_end page entry [] small = subst EndsSmall (sym (append-nil (record_of entry))) (record_ends entry small.0.sum)
records_end page entry (next ∷ entries) small = ends_behind (record_of entry) (flat_map record_of (next ∷ entries)) (records_end page next entries small.1)

-- the header's padding ends so too
pub front_ends : (h : Header) → EndsSmall (bytes_of h true ++ replicate 484 0)
front_ends h = record {
  front = bytes_of h true ++ replicate 480 0;
  back = 0 ∷ 0 ∷ 0 ∷ [];
  long = omega (arith, length-append (bytes_of h true) (replicate 480 0), length-bytes_of h);
  three = refl;
  split = ap (λ l. bytes_of h true ++ l) (sym (replicate-append-replicate 480 4 0)) ∙ sym (append_assoc (bytes_of h true) (replicate 480 0) (0 ∷ 0 ∷ 0 ∷ 0 ∷ []));
}

pub journal_ends : (page : ℕ) (front : List ℕ) (entries : List Entry) → EndsSmall front → AllByRecursion (IsSmallEntry page) entries → EndsSmall (front ++ flat_map record_of entries)
journal_ends page front [] ends small = subst EndsSmall (sym (append-nil front)) ends
journal_ends page front (entry ∷ entries) ends small = ends_behind front (flat_map record_of (entry ∷ entries)) (records_end page entry entries small)

pub own : (bytes : List ℕ) → EndsSmall bytes → has_magic (drop (length bytes - 8) bytes) ≡ false
own bytes ends = let P : List ℕ → Type 0 = λ l. has_magic (drop (length l - 8) l) ≡ false in subst P (sym ends.split) (not_super ends.front ends.back ends.long ends.three)
