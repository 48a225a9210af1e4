-- Why a database file is refused before its pages are looked at.
use Rattle.std.specs.Prelude.{ℕ, ◌*◌, ◌%◌, ◌^◌, ◌==◌, nat_lt, Bool, false, not, ◌&&◌, ◌||◌, List, [], ◌∷◌, Option}
use Rattle.std.specs.List.{find}
use Rattle.pager_core.specs.declared.refusal.FileRefusal.{FileRefusal}
use Rattle.pager_core.specs.declared.refusal.FileRefusal.TheVariants.{Empty, NotDatabase, PageSize, Wal, AutoVacuum, Encoding, SchemaFormat, Size, TooLarge, Corrupt}
use Rattle.pager_core.specs.Header.{has_fixed_bytes, has_no_vacuum, has_page_count, has_rollback_journal, is_page_size, page_count, page_size, schema_format, text_encoding, usable_size}

-- the file is shorter than its pages, or its length decides how many they are and is no multiple of their size
abbrev pub has_other_length : List ℕ → ℕ → Bool
has_other_length header file_length =
    nat_lt file_length (page_count header file_length * page_size header)
    || not (has_page_count header) && not (file_length % page_size header == 0)

-- the file has more pages, or more bytes in them, than one that is opened
abbrev pub is_too_large : List ℕ → ℕ → Bool
is_too_large header file_length =
    nat_lt 65536 (page_count header file_length) || nat_lt (2 ^ 28) (page_count header file_length * page_size header)

-- whether the refusal holds of a file of this length, which begins with this header
abbrev pub holds : List ℕ → ℕ → FileRefusal → Bool
holds header file_length Empty = file_length == 0
holds header file_length NotDatabase = nat_lt file_length 100 || not (has_fixed_bytes header)
holds header file_length PageSize = not (is_page_size (page_size header)) || nat_lt (usable_size header) 480
holds header file_length Wal = not (has_rollback_journal header)
holds header file_length AutoVacuum = not (has_no_vacuum header)
holds header file_length Encoding = nat_lt 1 (text_encoding header)
holds header file_length SchemaFormat = nat_lt 4 (schema_format header)
holds header file_length Size = page_count header file_length == 0 || has_other_length header file_length
holds header file_length TooLarge = is_too_large header file_length
holds header file_length (Corrupt page) = false

-- the refusals, in the order in which they are looked for
abbrev pub refusals : List FileRefusal
refusals = Empty ∷ NotDatabase ∷ PageSize ∷ Wal ∷ AutoVacuum ∷ Encoding ∷ SchemaFormat ∷ Size ∷ TooLarge ∷ []

-- the first refusal that holds, if one does
abbrev pub first_refusal : List ℕ → ℕ → Option FileRefusal
first_refusal header file_length = find (holds header file_length) refusals
