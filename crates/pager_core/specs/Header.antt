-- The first 100 bytes of a database file (fileformat2.html, "The Database Header").
use Rattle.std.specs.Prelude.{ℕ, ◌-◌, ◌/◌, ◌==◌, Bool, not, ◌&&◌, ◌||◌, max, List, [], ◌∷◌, ◌++◌, drop, slice_index, codes, nat_eq, if◌then◌else◌}
use Rattle.std.specs.List.{starts_with}
use Rattle.byteorder.specs.Endian.{big_number}

-- the big-endian number of n bytes at this offset
abbrev pub number_at : ℕ → ℕ → List ℕ → ℕ
number_at n at header = big_number n (drop at header)

-- `SQLite format 3` and a zero byte
abbrev pub magic : List ℕ
magic = codes "SQLite format 3" ++ 0 ∷ []

-- the page size in bytes; 1 stands for 65536
abbrev pub page_size : List ℕ → ℕ
page_size header = if number_at 2 16 header == 1 then 65536 else number_at 2 16 header

-- a power of two from 512 to 65536
abbrev pub is_page_size : ℕ → Bool
is_page_size size =
    size == 512 || size == 1024 || size == 2048 || size == 4096 || size == 8192 || size == 16384 || size == 32768 || size == 65536

-- the bytes of a page that are not reserved
abbrev pub usable_size : List ℕ → ℕ
usable_size header = page_size header - slice_index header 20

-- the field of the size in pages is up to date: it is not 0, and version-valid-for is the change counter
abbrev pub has_page_count : List ℕ → Bool
has_page_count header = not (number_at 4 28 header == 0) && number_at 4 24 header == number_at 4 92 header

-- the size in pages: the field where it is up to date, else by the file's length
abbrev pub page_count : List ℕ → ℕ → ℕ
page_count header file_length = if has_page_count header then number_at 4 28 header else file_length / page_size header

-- the schema format; 0 stands for 1
abbrev pub schema_format : List ℕ → ℕ
schema_format header = max (number_at 4 44 header) 1

-- the number of the text encoding
abbrev pub text_encoding : List ℕ → ℕ
text_encoding header = number_at 4 56 header

-- the bytes that are the same in every database: the opening and the payload fractions
abbrev pub has_fixed_bytes : List ℕ → Bool
has_fixed_bytes header =
    starts_with nat_eq header magic && slice_index header 21 == 64 && slice_index header 22 == 32 && slice_index header 23 == 32

-- both versions are those of a file with a rollback journal
abbrev pub has_rollback_journal : List ℕ → Bool
has_rollback_journal header = slice_index header 18 == 1 && slice_index header 19 == 1

-- both fields of a file without auto-vacuum are 0
abbrev pub has_no_vacuum : List ℕ → Bool
has_no_vacuum header = number_at 4 52 header == 0 && number_at 4 64 header == 0
