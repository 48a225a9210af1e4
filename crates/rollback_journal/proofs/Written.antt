-- A record that is right is read as its entry.
use Rattle.std.proofs.Common.{◌≡◌, ℕ, suc, ◌+◌, ◌≤◌, ◌==◌, true, false, List, ◌∷◌, length, take, drop, nat_lt, sym, ap, ap₂, ◌∙◌, arith}
use Rattle.std.proofs.lemmas.Bool.{eq-eqb, le-ltb, ne_eqb}
use Rattle.rollback_journal.specs.declared.header.Header.{Header}
use Rattle.rollback_journal.specs.Checksum.{checksum_of}
use Rattle.rollback_journal.specs.Header.{number_at}
use Rattle.rollback_journal.specs.Records.{Entry, entries_from, page_in, record_len, verdict_of}

-- the bytes are a record of this entry
pub record IsRecordOf (h : Header) (entry : Entry) (bytes : List ℕ) : Type 0 where
  pub whole : length bytes ≡ record_len h
  pub number : number_at bytes 0 ≡ entry.page
  pub some : 1 ≤ entry.page
  pub within : entry.page ≤ h.size
  pub page : page_in h bytes ≡ entry.bytes
  pub sum : number_at bytes (h.page + 4) ≡ checksum_of 0 entry.bytes

-- it is read, and then the records behind it
pub record_read : (h : Header) (fuel left at : ℕ) (journal : List ℕ) (entry : Entry) → IsRecordOf h entry (take (record_len h) (drop at journal))
    → entries_from (suc fuel) journal h 0 (suc left) at ≡ entry ∷ entries_from fuel journal h 0 left (at + record_len h)
unfolding entries_from verdict_of
record_read h fuel left at journal entry is =
    let bytes = take (record_len h) (drop at journal) in
    let other : entry.page ≡ 0 → ⊥ = λ e. omega (arith, e, is.some) in
    let whole : nat_lt (length bytes) (record_len h) ≡ false = le-ltb (length bytes) (record_len h) (omega (arith, is.whole)) in
    let some : (number_at bytes 0 == 0) ≡ false = ap (λ (k : ℕ). k == 0) is.number ∙ ne_eqb entry.page 0 other in
    let within : nat_lt h.size (number_at bytes 0) ≡ false = ap (nat_lt h.size) is.number ∙ le-ltb h.size entry.page is.within in
    let sum : (checksum_of 0 (page_in h bytes) == number_at bytes (h.page + 4)) ≡ true =
    eq-eqb (checksum_of 0 (page_in h bytes)) (number_at bytes (h.page + 4)) (ap (checksum_of 0) is.page ∙ sym is.sum) in
    rw (whole, verdict_of, entries_from) (rw (some, verdict_of, entries_from) (rw (within, verdict_of, entries_from) (rw (sum, verdict_of, entries_from)
    (ap₂ (λ (k : ℕ) (b : List ℕ). (let e : Entry = record { page = k; bytes = b } in e) ∷ entries_from fuel journal h 0 left (at + record_len h)) is.number is.page))))
