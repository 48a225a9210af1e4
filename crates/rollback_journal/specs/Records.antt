-- The records of a journal that playback takes (fileformat2.html, "The Rollback Journal").
use Rattle.std.specs.Prelude.{ℕ, zero, suc, ◌+◌, ◌-◌, ◌*◌, ◌/◌, ◌^◌, ◌==◌, nat_lt, nat_le, Bool, true, false, ◌&&◌, if◌then◌else◌, List, [], ◌∷◌, length, take, drop}
use Rattle.rollback_journal.specs.declared.header.Header.{Header}
use Rattle.rollback_journal.specs.declared.record.Verdict.{Verdict}
use Rattle.rollback_journal.specs.declared.record.Verdict.TheVariants.{End, Skip, Take}
use Rattle.rollback_journal.specs.Header.{has_magic, number_at}
use Rattle.rollback_journal.specs.Checksum.{checksum_of}

-- a page's number, from 1, and the page's bytes before the change
pub record Entry : Type 0 where
  pub page : ℕ
  pub bytes : List ℕ

-- a record has the page's number, its bytes and their checksum
abbrev pub record_len : Header → ℕ
record_len h = h.page + 8

-- the page in a record
abbrev pub page_in : Header → List ℕ → List ℕ
page_in h bytes = take h.page (drop 4 bytes)

-- what playback does with a record, by its bytes as far as the journal has them: it ends where they are not all there, at
-- the number 0 and at a wrong checksum; a page past the database's size is skipped, whatever its checksum
unfoldable pub verdict_of : Header → ℕ → List ℕ → Verdict
verdict_of h nonce bytes =
    if nat_lt (length bytes) (record_len h) then End
    else (if number_at bytes 0 == 0 then End
    else (if nat_lt h.size (number_at bytes 0) then Skip
    else (if checksum_of nonce (page_in h bytes) == number_at bytes (h.page + 4) then Take (number_at bytes 0) else End)))

-- how many records a count stands for: the greatest for as many as the journal holds
abbrev pub records_in : ℕ → ℕ → ℕ
records_in len count = if count == 2 ^ 32 - 1 then len else count

-- the multiple of the sector size at a place, or the next one behind it
abbrev pub next_sector : ℕ → ℕ → ℕ
next_sector sector at = (at + (sector - 1)) / sector * sector

-- whether these bytes, of which a header has 28, begin a later segment: of its fields only magic, count and nonce count
abbrev pub is_segment : List ℕ → Bool
is_segment bytes = nat_le 28 (length bytes) && has_magic bytes

-- The entries that playback takes, from a place of the journal on: of this segment so many records are left, with this nonce.
-- Where none is left, the next segment's header is looked for at the next multiple of the sector size, and its records follow
-- one sector behind it. Each step goes on by a byte at least, so that the journal's length is fuel enough.
unfoldable pub entries_from : ℕ → List ℕ → Header → (nonce left at : ℕ) → List Entry
entries_from zero journal h nonce left at = []
entries_from (suc fuel) journal h nonce zero at =
    let head = next_sector h.sector at in
    let bytes = take 28 (drop head journal) in
    elim (is_segment bytes) [
      | true ↦ entries_from fuel journal h (number_at bytes 12) (records_in (length journal) (number_at bytes 8)) (head + h.sector)
      | false ↦ []
    ]
entries_from (suc fuel) journal h nonce (suc left) at =
    let bytes = take (record_len h) (drop at journal) in
    elim (verdict_of h nonce bytes) [
      | End ↦ []
      | Skip ↦ entries_from fuel journal h nonce left (at + record_len h)
      | Take n ↦ record { page = n; bytes = page_in h bytes } ∷ entries_from fuel journal h nonce left (at + record_len h)
    ]

-- the entries that playback takes of a journal with this first header, in the order in which they are played
abbrev pub entries_of : List ℕ → Header → List Entry
entries_of journal h = entries_from (length journal) journal h h.nonce (records_in (length journal) h.count) h.sector
