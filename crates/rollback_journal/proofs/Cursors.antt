-- The entries from a place of a journal on, step by step.
use Rattle.std.proofs.Common.{◌≡◌, ℕ, zero, suc, ◌+◌, ◌-◌, ◌<◌, ◌≤◌, Bool, true, false, List, [], ◌∷◌, ◌++◌, length, take, drop, nat_lt, nat_le, ◌==◌, if◌then◌else◌, refl, sym, ap, ◌∙◌, arith, append-nil, length-take, length-drop}
use Rattle.std.proofs.lemmas.Bool.{lt-ltb, lt-leb, eqb-false, ltb-false, and_left}
use Rattle.std.proofs.lemmas.List.{drop_all}
use Rattle.std.proofs.Math.Seq.{take-nil}
use Rattle.alter_disk.specs.Changes.{ReadsAt}
use Rattle.rollback_journal.specs.declared.header.Header.{Header}
use Rattle.rollback_journal.specs.Cursor.{Passes, IsPage, page_of}
use Rattle.rollback_journal.specs.declared.record.Verdict.{Verdict}
use Rattle.rollback_journal.specs.declared.record.Verdict.TheVariants.{End, Skip, Take}
use Rattle.rollback_journal.specs.Header.{has_magic, number_at}
use Rattle.rollback_journal.specs.Checksum.{checksum_of}
use Rattle.rollback_journal.specs.Records.{Entry, record_len, page_in, verdict_of, records_in, next_sector, is_segment, entries_from}

-- the next header stands at the place or behind it, by less than a sector
pub sector_behind : (sector at : ℕ) → 1 ≤ sector → (at ≤ next_sector sector at) × (next_sector sector at < at + sector)
sector_behind sector at some = (omega arith, omega arith)

-- a record that is not wholly there is the end
pub verdict_short : (h : Header) (nonce : ℕ) (bytes : List ℕ) → length bytes < record_len h → verdict_of h nonce bytes ≡ End
unfolding verdict_of
verdict_short h nonce bytes short = let test = lt-ltb (length bytes) (record_len h) short in rw test refl

-- a record that is taken has a page's number and is wholly there
pub verdict_taken : (h : Header) (nonce : ℕ) (bytes : List ℕ) (n : ℕ) → verdict_of h nonce bytes ≡ Take n → (1 ≤ n) × (n ≤ h.size)
unfolding verdict_of
verdict_taken h nonce bytes n taken =
    by (nat_lt (length bytes) (record_len h)) (number_at bytes 0 == 0) (nat_lt h.size (number_at bytes 0)) (checksum_of nonce (page_in h bytes) == number_at bytes (h.page + 4)) refl refl taken
  where
    by : (short none past right : Bool) → number_at bytes 0 == 0 ≡ none → nat_lt h.size (number_at bytes 0) ≡ past
        → (if short then End else (if none then End else (if past then Skip else (if right then Take (number_at bytes 0) else End)))) ≡ Take n → (1 ≤ n) × (n ≤ h.size)
    by true none past right is_none is_past e = absurd (cc)
    by false true past right is_none is_past e = absurd (cc)
    by false false true right is_none is_past e = absurd (cc)
    by false false false false is_none is_past e = absurd (cc)
    by false false false true is_none is_past e =
        let same : number_at bytes 0 ≡ n = cc in
        let some : number_at bytes 0 ≡ 0 → ⊥ = eqb-false (number_at bytes 0) 0 is_none in
        let within : number_at bytes 0 ≤ h.size = ltb-false h.size (number_at bytes 0) is_past in
        (omega arith, omega arith)

-- what playback does where a header stands, or a record, given the later entries
abbrev pub segment_step : List ℕ → List Entry → List Entry
segment_step bytes later = elim (is_segment bytes) [ true ↦ later | false ↦ [] ]

abbrev pub record_step : Header → Verdict → List ℕ → List Entry → List Entry
record_step h verdict bytes later = elim verdict [ End ↦ [] | Skip ↦ later | Take n ↦ record { page = n; bytes = page_in h bytes } ∷ later ]

-- behind the journal's end there is no entry
past_end : (fuel : ℕ) (journal : List ℕ) (h : Header) (nonce left at : ℕ) → 1 ≤ h.sector → length journal ≤ at → entries_from fuel journal h nonce left at ≡ []
unfolding entries_from
past_end zero journal h nonce left at some past = refl
past_end (suc fuel) journal h nonce zero at some past =
    let head = next_sector h.sector at in
    let none : drop head journal ≡ [] = drop_all head journal (omega (arith, past, (sector_behind h.sector at some).0)) in
    ap (λ (bytes : List ℕ). segment_step (take 28 bytes) (entries_from fuel journal h (number_at (take 28 bytes) 12) (records_in (length journal) (number_at (take 28 bytes) 8)) (head + h.sector))) none
past_end (suc fuel) journal h nonce (suc left) at some past =
    let bytes : List ℕ = take (record_len h) (drop at journal) in
    let none : bytes ≡ [] = ap (take (record_len h)) (drop_all at journal past) ∙ take-nil (record_len h) in
    let short : length bytes < record_len h = omega (arith, ap length none) in
    ap (λ verdict. record_step h verdict bytes (entries_from fuel journal h nonce left (at + record_len h))) (verdict_short h nonce bytes short)

-- more fuel than the journal has bytes behind the place changes nothing
pub same_fuel : (f g : ℕ) (journal : List ℕ) (h : Header) (nonce left at : ℕ) → 1 ≤ h.sector → length journal ≤ at + f → length journal ≤ at + g
    → entries_from f journal h nonce left at ≡ entries_from g journal h nonce left at
unfolding entries_from
same_fuel zero g journal h nonce left at some few enough = sym (past_end g journal h nonce left at some (omega arith))
same_fuel (suc f) zero journal h nonce left at some enough few = past_end (suc f) journal h nonce left at some (omega arith)
same_fuel (suc f) (suc g) journal h nonce zero at some enough enough' =
    let head = next_sector h.sector at in
    let bytes : List ℕ = take 28 (drop head journal) in
    let behind = (sector_behind h.sector at some).0 in
    ap (segment_step bytes) (same_fuel f g journal h (number_at bytes 12) (records_in (length journal) (number_at bytes 8)) (head + h.sector) some (omega arith) (omega arith))
same_fuel (suc f) (suc g) journal h nonce (suc left) at some enough enough' =
    let bytes : List ℕ = take (record_len h) (drop at journal) in
    ap (record_step h (verdict_of h nonce bytes) bytes) (same_fuel f g journal h nonce left (at + record_len h) some (omega arith) (omega arith))

module _ (journal : List ℕ) (h : Header) (some : 1 ≤ h.sector) where
  -- one step of playback with the journal's length as fuel
  pub at_segment : (nonce at : ℕ) → entries_from (length journal) journal h nonce 0 at
      ≡ segment_step (take 28 (drop (next_sector h.sector at) journal)) (entries_from (length journal) journal h (number_at (take 28 (drop (next_sector h.sector at) journal)) 12)
      (records_in (length journal) (number_at (take 28 (drop (next_sector h.sector at) journal)) 8)) (next_sector h.sector at + h.sector))
  unfolding entries_from
  at_segment nonce at = same_fuel (length journal) (suc (length journal)) journal h nonce zero at some (omega arith) (omega arith)

  pub at_record : (nonce left at : ℕ) → 1 ≤ left → entries_from (length journal) journal h nonce left at
      ≡ record_step h (verdict_of h nonce (take (record_len h) (drop at journal))) (take (record_len h) (drop at journal)) (entries_from (length journal) journal h nonce (left - 1) (at + record_len h))
  unfolding entries_from
  at_record nonce zero at none = absurd (omega arith)
  at_record nonce (suc left) at one =
      let less : left ≡ suc left - 1 = omega arith in
      same_fuel (length journal) (suc (length journal)) journal h nonce (suc left) at some (omega arith) (omega arith)
      ∙ ap (λ k. record_step h (verdict_of h nonce (take (record_len h) (drop at journal))) (take (record_len h) (drop at journal)) (entries_from (length journal) journal h nonce k (at + record_len h))) less

-- what is read of bytes that are all there
pub read_whole : (bytes : List ℕ) (at n : ℕ) (before after : List ℕ) → ReadsAt bytes at n before after → at + length before ≤ length bytes → after ≡ take (length before) (drop at bytes)
read_whole bytes at n before after reads there =
    let all : length before ≤ n = omega (arith, reads.count) in
    reads.buffer ∙ ap (λ rest. take (length before) (drop at bytes) ++ rest) (drop_all n before all) ∙ append-nil (take (length before) (drop at bytes))

-- too few bytes for a header
pub no_segment : (journal : List ℕ) (head : ℕ) → length journal < head + 28 → is_segment (take 28 (drop head journal)) ≡ false
no_segment journal head short =
    let few : length (take 28 (drop head journal)) < 28 = omega (arith, length-take 28 (drop head journal), length-drop head journal) in
    and_left (nat_le 28 (length (take 28 (drop head journal)))) (has_magic (take 28 (drop head journal))) (lt-leb 28 (length (take 28 (drop head journal))) few)

-- no other segment, for want of bytes or of the magic
pub segment_none : (journal : List ℕ) (h : Header) (nonce left at : ℕ) → 1 ≤ h.sector → left ≡ 0 → is_segment (take 28 (drop (next_sector h.sector at) journal)) ≡ false
    → entries_from (length journal) journal h nonce left at ≡ []
segment_none journal h nonce left at some none is =
    let later = entries_from (length journal) journal h (number_at (take 28 (drop (next_sector h.sector at) journal)) 12)
    (records_in (length journal) (number_at (take 28 (drop (next_sector h.sector at) journal)) 8)) (next_sector h.sector at + h.sector) in
    ap (λ k. entries_from (length journal) journal h nonce k at) none ∙ at_segment journal h some nonce at ∙ ap (λ (there : Bool). elim there [ true ↦ later | false ↦ [] ]) is

-- another segment, whose header has these bytes
pub segment_some : (journal : List ℕ) (h : Header) (nonce left at : ℕ) (bytes : List ℕ) → 1 ≤ h.sector → left ≡ 0 → bytes ≡ take 28 (drop (next_sector h.sector at) journal) → is_segment bytes ≡ true
    → entries_from (length journal) journal h nonce left at
    ≡ entries_from (length journal) journal h (number_at bytes 12) (records_in (length journal) (number_at bytes 8)) (next_sector h.sector at + h.sector)
segment_some journal h nonce left at bytes some none read is =
    let later = λ (bytes : List ℕ). entries_from (length journal) journal h (number_at bytes 12) (records_in (length journal) (number_at bytes 8)) (next_sector h.sector at + h.sector) in
    ap (λ k. entries_from (length journal) journal h nonce k at) none ∙ at_segment journal h some nonce at ∙ ap (λ bytes. segment_step bytes (later bytes)) (sym read)
    ∙ ap (λ (there : Bool). elim there [ true ↦ later bytes | false ↦ [] ]) is

-- the end, for want of a record's bytes
pub record_none : (journal : List ℕ) (h : Header) (nonce left at : ℕ) → 1 ≤ h.sector → 1 ≤ left → length journal < at + record_len h → entries_from (length journal) journal h nonce left at ≡ []
record_none journal h nonce left at some one short =
    let bytes : List ℕ = take (record_len h) (drop at journal) in
    let few : length bytes < record_len h = omega (arith, length-take (record_len h) (drop at journal), length-drop at journal) in
    at_record journal h some nonce left at one
    ∙ ap (λ verdict. record_step h verdict bytes (entries_from (length journal) journal h nonce (left - 1) (at + record_len h))) (verdict_short h nonce bytes few)

-- a record that is there, whose bytes were read
pub record_some : (journal : List ℕ) (h : Header) (nonce left at : ℕ) (bytes : List ℕ) (verdict : Verdict) → 1 ≤ h.sector → 1 ≤ left → bytes ≡ take (record_len h) (drop at journal)
    → verdict ≡ verdict_of h nonce bytes
    → entries_from (length journal) journal h nonce left at ≡ record_step h verdict bytes (entries_from (length journal) journal h nonce (left - 1) (at + record_len h))
record_some journal h nonce left at bytes verdict some one read judged =
    let later = entries_from (length journal) journal h nonce (left - 1) (at + record_len h) in
    at_record journal h some nonce left at one ∙ ap (λ bytes. record_step h (verdict_of h nonce bytes) bytes later) (sym read)
    ∙ ap (λ v. record_step h v bytes later) (sym judged)

-- what a step makes of the entries that were left
pub step_passes : (h : Header) (bytes : List ℕ) (before after : List Entry) (verdict : Verdict) → before ≡ record_step h verdict bytes after → Passes before after (page_in h bytes) verdict
step_passes h bytes before after End is = is
step_passes h bytes before after Skip is = is
step_passes h bytes before after (Take n) is = is

-- the page that a record names is one of the database
pub names_page : (h : Header) (nonce : ℕ) (bytes : List ℕ) (verdict : Verdict) → verdict ≡ verdict_of h nonce bytes → IsPage h (page_of verdict)
names_page h nonce bytes End judged = tt
names_page h nonce bytes Skip judged = tt
names_page h nonce bytes (Take n) judged = verdict_taken h nonce bytes n (sym judged)
