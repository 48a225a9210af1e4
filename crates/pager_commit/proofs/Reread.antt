-- A journal as it is made here is hot, and reads back to its records.
use Rattle.std.proofs.Common.{◌≡◌, ℕ, zero, suc, ◌+◌, ◌-◌, ◌/◌, ◌^◌, ◌<◌, ◌≤◌, ◌==◌, Bool, true, false, ◌&&◌, if◌then◌else◌, List, [], ◌∷◌, ◌++◌, length, length-append, take, drop, replicate, nat_lt, nat_le, not, Option, Some, None, refl, sym, ap, ap₂, ◌∙◌, subst, append-nil, append_assoc, arith}
use Rattle.std.proofs.lemmas.Bool.{and_from, and_right, le-leb, le-ltb, ne_eqb}
use Rattle.std.proofs.lemmas.List.{drop_all, drop_at, length-replicate, take_at}
use lib.Count.{ones}
use Rattle.std.specs.List.{AllByRecursion, flat_map}
use Rattle.byteorder.specs.Endian.{big_bytes, big_number}
use Rattle.alter_bytes.proofs.Fields.{big_number_inside, big_number-big_bytes, big_number-append, length-big_bytes}
use Rattle.common_laws.proofs.Lists.{take_mid}
use Rattle.rollback_journal.specs.declared.header.Header.{Header}
use Rattle.rollback_journal.specs.declared.heat.Heat.TheVariants.{Hot}
use Rattle.rollback_journal.specs.Checksum.{checksum_of, sum_back}
use Rattle.rollback_journal.specs.Header.{bytes_of, fields_of, has_magic, header_of, is_allowed, is_size, magic, number_at}
use Rattle.rollback_journal.specs.Heat.{has_records, heat_of, heat_with, names_super}
use Rattle.rollback_journal.specs.Records.{Entry, entries_from, entries_of, is_segment, next_sector, record_len, records_in}
use Rattle.rollback_journal.proofs.Written.{IsRecordOf, record_read}
use Rattle.pager_commit.specs.Plan.{journal_of, record_of}
use Rattle.pager_commit.proofs.Own.{length-bytes_of, length-record}

-- an entry whose record is taken
pub record IsTaken (h : Header) (entry : Entry) : Type 0 where
  pub some : 1 ≤ entry.page
  pub within : entry.page ≤ h.size
  pub extent : length entry.bytes ≡ h.page

-- a header and entries of a journal that is read back
pub record IsReadable (h : Header) (entries : List Entry) : Type 0 where
  pub count : h.count ≡ length entries
  pub nonce : h.nonce ≡ 0
  pub sector : h.sector ≡ 512
  pub page : is_size 512 h.page ≡ true
  pub few : h.size ≤ 2 ^ 18
  pub small : h.page ≤ 65536
  pub enough : length entries ≤ 2 ^ 18
  pub some : 1 ≤ length entries
  pub all : AllByRecursion (IsTaken h) entries

-- a checksum without a nonce is a number of four bytes
pub sum_fits : (page : List ℕ) (places : ℕ) → sum_back 0 page places < 2 ^ 32
sum_fits page zero = omega arith
sum_fits page (suc places) = omega arith

-- the bytes of its record
pub is_record : (h : Header) (entry : Entry) → IsTaken h entry → h.size ≤ 2 ^ 18 → IsRecordOf h entry (record_of entry)
is_record h entry taken few =
    let number = big_bytes 4 entry.page in
    let sum = big_bytes 4 (checksum_of 0 entry.bytes) in
    let front = number ++ entry.bytes in
    let len : length front ≡ h.page + 4 = omega (arith, length-append number entry.bytes, length-big_bytes 4 entry.page, taken.extent) in
    record {
      whole = length-record h.page entry taken.extent;
      number = ap (big_number 4) (append_assoc number entry.bytes sum) ∙ big_number-append 4 number (entry.bytes ++ sum) (omega (arith, length-big_bytes 4 entry.page))
          ∙ big_number-big_bytes 4 entry.page (omega (arith, taken.within, few));
      some = taken.some;
      within = taken.within;
      page = take_mid number entry.bytes sum 4 h.page (length-big_bytes 4 entry.page) taken.extent;
      sum = ap (big_number 4) (drop_at front sum (h.page + 4) len) ∙ big_number-big_bytes 4 (checksum_of 0 entry.bytes) (sum_fits entry.bytes (length entry.bytes / 200));
    }

-- behind the last record there is no header
no_header : (bytes : List ℕ) (rest : List Entry) → bytes ≡ [] → ◌≡◌ {A = List Entry} (elim (is_segment bytes) [ true ↦ rest | false ↦ [] ]) []
no_header bytes rest none = let no_more : is_segment bytes ≡ false = ap is_segment none in rw no_more refl

behind_sector : (sector at : ℕ) → sector ≡ 512 → at ≤ next_sector sector at
behind_sector sector at is = let P : ℕ → Type 0 = λ s. at ≤ next_sector s at in let here : P 512 = omega arith in subst P (sym is) here

-- all records are read
pub read_all : (h : Header) (fuel at : ℕ) (front : List ℕ) (entries : List Entry) → h.sector ≡ 512 → h.size ≤ 2 ^ 18 → length entries < fuel → length front ≡ at → AllByRecursion (IsTaken h) entries
    → entries_from fuel (front ++ flat_map record_of entries) h 0 (length entries) at ≡ entries
unfolding entries_from
read_all h zero at front entries sector few enough len all = absurd (omega (arith, enough))
read_all h (suc fuel) at front [] sector few enough len all =
    let bound = behind_sector h.sector at sector in
    let none : drop (next_sector h.sector at) (front ++ []) ≡ [] = drop_all (next_sector h.sector at) (front ++ []) (omega (arith, bound, len, length-append front [])) in
    no_header (take 28 (drop (next_sector h.sector at) (front ++ []))) _ (ap (take 28) none)
read_all h (suc fuel) at front (entry ∷ entries) sector few enough len all =
    let one = record_of entry in
    let behind = flat_map record_of entries in
    let journal = front ++ (one ++ behind) in
    let size : length one ≡ record_len h = length-record h.page entry all.0.extent in
    let bytes : take (record_len h) (drop at journal) ≡ one = ap (take (record_len h)) (drop_at front (one ++ behind) at len) ∙ take_at one behind (record_len h) size in
    let next : length (front ++ one) ≡ at + record_len h = omega (arith, length-append front one, len, size) in
    let later : entries_from fuel ((front ++ one) ++ behind) h 0 (length entries) (at + record_len h) ≡ entries = read_all h fuel (at + record_len h) (front ++ one) entries sector few (omega (arith, enough)) next all.1 in
    let rest : entries_from fuel journal h 0 (length entries) (at + record_len h) ≡ entries = ap (λ j. entries_from fuel j h 0 (length entries) (at + record_len h)) (sym (append_assoc front one behind)) ∙ later in
    record_read h fuel (length entries) at journal entry (subst (IsRecordOf h entry) (sym bytes) (is_record h entry all.0 few)) ∙ ap (λ es. entry ∷ es) rest

-- the numbers of a header are read back
abbrev made : ℕ → ℕ → ℕ → ℕ → ℕ → Header
made count nonce size sector page = record { count = count; nonce = nonce; size = size; sector = sector; page = page }

same_made : (a b c d e v w x y z : ℕ) → a ≡ v → b ≡ w → c ≡ x → d ≡ y → e ≡ z → made a b c d e ≡ made v w x y z
same_made a b c d e v w x y z p q r s t = ap (λ k. made k b c d e) p ∙ ap (λ k. made v k c d e) q ∙ ap (λ k. made v w k d e) r ∙ ap (λ k. made v w x k e) s ∙ ap (λ k. made v w x y k) t

pub fields_back : (h : Header) → h.count < 2 ^ 32 → h.nonce < 2 ^ 32 → h.size < 2 ^ 32 → h.sector < 2 ^ 32 → h.page < 2 ^ 32 → fields_of (bytes_of h true) ≡ h
fields_back h count_fits nonce_fits size_fits sector_fits page_fits =
    let c = big_bytes 4 h.count in
    let n = big_bytes 4 h.nonce in
    let s = big_bytes 4 h.size in
    let k = big_bytes 4 h.sector in
    let p = big_bytes 4 h.page in
    let four : (v : ℕ) → length (big_bytes 4 v) ≡ 4 = λ v. length-big_bytes 4 v in
    let a12 : length (magic ++ c) ≡ 12 = omega (arith, length-append magic c, four h.count) in
    let a16 : length (magic ++ c ++ n) ≡ 16 = omega (arith, length-append (magic ++ c) n, a12, four h.nonce) in
    let a20 : length (magic ++ c ++ n ++ s) ≡ 20 = omega (arith, length-append (magic ++ c ++ n) s, a16, four h.size) in
    let a24 : length (magic ++ c ++ n ++ s ++ k) ≡ 24 = omega (arith, length-append (magic ++ c ++ n ++ s) k, a20, four h.sector) in
    let b : List ℕ = bytes_of h true in
    let cut : (x y : List ℕ) (v at : ℕ) → v < 2 ^ 32 → length x ≡ at → b ≡ x ++ big_bytes 4 v ++ y → number_at b at ≡ v =
    λ x y v at fits len is. ap (λ l. big_number 4 (drop at l)) is ∙ big_number_inside 4 v x y at fits len in
    let e4 : b ≡ (magic ++ c ++ n ++ s) ++ k ++ p = refl in
    let e3 : b ≡ (magic ++ c ++ n) ++ s ++ (k ++ p) = append_assoc (magic ++ c ++ n ++ s) k p in
    let e2 : b ≡ (magic ++ c) ++ n ++ (s ++ (k ++ p)) = e3 ∙ append_assoc (magic ++ c ++ n) s (k ++ p) in
    let e1 : b ≡ magic ++ c ++ (n ++ (s ++ (k ++ p))) = e2 ∙ append_assoc (magic ++ c) n (s ++ (k ++ p)) in
    let e5 : b ≡ (magic ++ c ++ n ++ s ++ k) ++ p ++ [] = sym (append-nil b) in
    same_made _ _ _ _ _ h.count h.nonce h.size h.sector h.page
    (cut magic (n ++ (s ++ (k ++ p))) h.count 8 count_fits refl e1)
    (cut (magic ++ c) (s ++ (k ++ p)) h.nonce 12 nonce_fits a12 e2)
    (cut (magic ++ c ++ n) (k ++ p) h.size 16 size_fits a16 e3)
    (cut (magic ++ c ++ n ++ s) p h.sector 20 sector_fits a20 e4)
    (cut (magic ++ c ++ n ++ s ++ k) [] h.page 24 page_fits a24 e5)

-- a record has a byte at least
more_bytes : (h : Header) (entries : List Entry) → AllByRecursion (IsTaken h) entries → length entries ≤ length (flat_map record_of entries)
more_bytes h [] all = omega arith
more_bytes h (entry ∷ entries) all =
    omega (arith, more_bytes h entries all.1, length-append (record_of entry) (flat_map record_of entries), length-record h.page entry all.0.extent)

module _ (h : Header) (entries : List Entry) (is : IsReadable h entries) where
  sector_long : length (bytes_of h true ++ replicate (h.sector - 28) 0) ≡ h.sector
  sector_long = omega (arith, length-append (bytes_of h true) (replicate (h.sector - 28) 0), length-bytes_of h, length-replicate {A = ℕ} (h.sector - 28) 0, is.sector)

  journal_long : length (journal_of h entries) ≡ 512 + length (flat_map record_of entries)
  journal_long = omega (arith, length-append (bytes_of h true ++ replicate (h.sector - 28) 0) (flat_map record_of entries), sector_long, is.sector)

  -- the entries of the journal are these
  pub reread : entries_of (journal_of h entries) h ≡ entries
  reread =
      let journal = journal_of h entries in
      let few : h.count ≡ 2 ^ 32 - 1 → ⊥ = λ e. omega (arith, e, is.count, is.enough) in
      let counted : records_in (length journal) h.count ≡ length entries = ap (λ (b : Bool). if b then length journal else h.count) (ne_eqb h.count (2 ^ 32 - 1) few) ∙ is.count in
      ap₂ (λ (nonce left : ℕ). entries_from (length journal) journal h nonce left h.sector) is.nonce counted
      ∙ read_all h (length journal) h.sector (bytes_of h true ++ replicate (h.sector - 28) 0) entries is.sector is.few (omega (arith, more_bytes h entries is.all, journal_long)) sector_long is.all

  front_there : take 28 (journal_of h entries) ≡ bytes_of h true
  front_there =
      let pad : List ℕ = replicate (h.sector - 28) 0 in
      ap (take 28) (append_assoc (bytes_of h true) pad (flat_map record_of entries)) ∙ take_at (bytes_of h true) (pad ++ flat_map record_of entries) 28 (length-bytes_of h)

  allowed : is_allowed h ≡ true
  unfolding ones
  allowed = let sizes : is_size 32 h.sector ≡ true = ap (is_size 32) is.sector in and_from (is_size 32 h.sector) (is_size 512 h.page) sizes is.page

  header_there : header_of (bytes_of h true) ≡ Some h
  header_there =
      let fields = fields_back h (omega (arith, is.count, is.enough)) (omega (arith, is.nonce)) (omega (arith, is.few)) (omega (arith, is.sector)) (omega (arith, is.small)) in
      let passes : (has_magic (bytes_of h true) && is_allowed (fields_of (bytes_of h true))) ≡ true = ap is_allowed fields ∙ allowed in
      ap (λ (b : Bool). if b then Some (fields_of (bytes_of h true)) else None) passes ∙ ap Some fields

  first_record : h.page + 8 ≤ length (flat_map record_of entries)
  first_record = first entries is.some is.all
    where
      first : (es : List Entry) → 1 ≤ length es → AllByRecursion (IsTaken h) es → h.page + 8 ≤ length (flat_map record_of es)
      first [] some all = absurd (omega (arith, some))
      first (entry ∷ es) some all = omega (arith, length-append (record_of entry) (flat_map record_of es), length-record h.page entry all.0.extent)

  -- the journal is hot
  pub is_hot : has_magic (drop (length (journal_of h entries) - 8) (journal_of h entries)) ≡ false → heat_of (journal_of h entries) ≡ Hot h
  is_hot own =
      let journal = journal_of h entries in
      let long : nat_lt (length journal) 28 ≡ false = le-ltb (length journal) 28 (omega (arith, journal_long)) in
      let header : header_of (take 28 journal) ≡ Some h = ap header_of front_there ∙ header_there in
      let counted : h.count ≡ 0 → ⊥ = λ e. omega (arith, e, is.count, is.some) in
      let some : (h.count == 0) ≡ false = ne_eqb h.count 0 counted in
      let room : nat_le (h.sector + h.page + 8) (length journal) ≡ true = le-leb (h.sector + h.page + 8) (length journal) (omega (arith, journal_long, first_record, is.sector)) in
      let records : has_records (length journal) h ≡ true = and_from (not (h.count == 0)) (nat_le (h.sector + h.page + 8) (length journal)) (ap not some) room in
      let named : names_super (length journal) (drop (length journal - 8) journal) ≡ false = and_right (nat_le (length journal) (2 ^ 30)) (has_magic (drop (length journal - 8) journal)) own in
      ap₂ heat_with (live (nat_lt (length journal) 28) (header_of (take 28 journal)) (length journal) h long header records) named
    where
      live : (short : Bool) (o : Option Header) (len : ℕ) (g : Header) → short ≡ false → o ≡ Some g → has_records len g ≡ true
          → ◌≡◌ {A = Option Header} (if short then None else elim o [ None ↦ None | Some k ↦ if has_records len k then Some k else None ]) (Some g)
      live short o len g a b c =
          ap (λ (s : Bool). if s then None else elim o [ None ↦ None | Some k ↦ if has_records len k then Some k else None ]) a
          ∙ ap (λ (p : Option Header). elim p [ None ↦ None | Some k ↦ if has_records len k then Some k else None ]) b
          ∙ ap (λ (r : Bool). if r then Some g else None) c
