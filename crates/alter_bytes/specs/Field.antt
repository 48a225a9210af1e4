-- Big-endian numbers in a list of bytes, and bytes that are written over others.
use Rattle.std.specs.Prelude.{◌+◌, ℕ, nat_le, if◌then◌else◌, List, ◌++◌, length, take, drop, Option, Some, None}
use Rattle.byteorder.specs.Endian.{big_number}

-- the big-endian number in the n bytes from `at`, where they are there
abbrev pub field_at : ℕ → List ℕ → ℕ → Option ℕ
field_at n bytes at = if nat_le (at + n) (length bytes) then Some (big_number n (drop at bytes)) else None

-- the bytes with `piece` in place of those from `at` on
abbrev pub overlaid : List ℕ → ℕ → List ℕ → List ℕ
overlaid bytes at piece = take at bytes ++ piece ++ drop (at + length piece) bytes
