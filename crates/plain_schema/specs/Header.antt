-- The first 100 bytes of a database that is served, and what a change makes of them (fileformat2.html, "The Database Header").
use Rattle.std.specs.Prelude.{◌≡◌, ℕ, ◌+◌, ◌*◌, ◌%◌, ◌^◌, max, List, None}
use Rattle.byteorder.specs.Endian.{big_bytes}
use Rattle.alter_bytes.specs.Field.{overlaid}
use Rattle.pager_core.specs.Header.{number_at, page_count, page_size}
use Rattle.pager_core.specs.Refusals.{first_refusal}

-- the header of whole pages of this length in all that are served: they are not refused, and there is no freelist
pub record IsHeader (header : List ℕ) (file_length : ℕ) : Type 0 where
  pub accepted : first_refusal header file_length ≡ None
  pub exact : file_length ≡ page_count header file_length * page_size header
  pub first_trunk : number_at 4 32 header ≡ 0
  pub free_pages : number_at 4 36 header ≡ 0

-- the header with a number of n bytes put at this offset
abbrev pub put : ℕ → ℕ → ℕ → List ℕ → List ℕ
put n at number header = overlaid header at (big_bytes n number)

-- one more, wrapping at 2^32
abbrev pub next : ℕ → ℕ
next number = (number + 1) % 2 ^ 32

-- What a command that is done makes of the header: the change counter and the schema cookie are one more,
-- version-valid-for is the new counter, the size in pages is this count, and the schema format is at least this one.
abbrev pub committed : ℕ → ℕ → List ℕ → List ℕ
committed count format header =
    put 4 92 (next (number_at 4 24 header)) (put 4 44 (max (number_at 4 44 header) format)
    (put 4 40 (next (number_at 4 40 header)) (put 4 28 count (put 4 24 (next (number_at 4 24 header)) header))))
