-- The header of a rollback journal (fileformat2.html, "The Rollback Journal").
use Rattle.std.specs.Prelude.{ℕ, nat_le, Bool, ◌&&◌, if◌then◌else◌, List, [], ◌∷◌, ◌++◌, take, drop, nat_eq, Option, Some, None}
use Rattle.std.specs.Cmp.Lexicographic.{pointwise}
use Rattle.std.specs.Int.{is_power_of_two}
use Rattle.byteorder.specs.Endian.{big_number, big_bytes}
use Rattle.rollback_journal.specs.declared.header.Header.{Header}

-- the eight bytes with which a header begins
abbrev pub magic : List ℕ
magic = 0xd9 ∷ 0xd5 ∷ 0x05 ∷ 0xf9 ∷ 0x20 ∷ 0xa1 ∷ 0x63 ∷ 0xd7 ∷ []

-- eight zeros, which stand in its place until a journal counts, and after it
abbrev pub no_magic : List ℕ
no_magic = 0 ∷ 0 ∷ 0 ∷ 0 ∷ 0 ∷ 0 ∷ 0 ∷ 0 ∷ []

-- whether these bytes begin with the magic
abbrev pub has_magic : List ℕ → Bool
has_magic bytes = pointwise nat_eq (take 8 bytes) magic

-- the number of four bytes at a place
abbrev pub number_at : List ℕ → ℕ → ℕ
number_at bytes at = big_number 4 (drop at bytes)

-- whether a size is a power of two from `least` to 65536
abbrev pub is_size : ℕ → ℕ → Bool
is_size least n = nat_le least n && nat_le n 65536 && is_power_of_two n

-- the fields of a header's 28 bytes
abbrev pub fields_of : List ℕ → Header
fields_of bytes = record {
  count = number_at bytes 8;
  nonce = number_at bytes 12;
  size = number_at bytes 16;
  sector = number_at bytes 20;
  page = number_at bytes 24;
}

-- whether a header's sizes are allowed
abbrev pub is_allowed : Header → Bool
is_allowed h = is_size 32 h.sector && is_size 512 h.page

-- the header in these 28 bytes, where they begin with the magic and its sizes are allowed
abbrev pub header_of : List ℕ → Option Header
header_of bytes = if has_magic bytes && is_allowed (fields_of bytes) then Some (fields_of bytes) else None

-- the 28 bytes of a header, with the magic or with zeros in its place
abbrev pub bytes_of : Header → Bool → List ℕ
bytes_of h opened =
    (if opened then magic else no_magic) ++ big_bytes 4 h.count ++ big_bytes 4 h.nonce ++ big_bytes 4 h.size ++ big_bytes 4 h.sector ++ big_bytes 4 h.page
