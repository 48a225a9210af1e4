-- The record that is written: each value under its shortest serial type, and the header in its shortest form.
use Rattle.std.specs.Prelude.{◌≡◌, ℕ, ◌<◌, ◌≤◌, ◌+◌, ◌⊎◌, ◌*◌, ◌^◌, ◌==◌, ◌&&◌, nat_lt, if◌then◌else◌, ℤ, pos, negsuc, List, [], ◌++◌, length}
use Rattle.std.specs.Int.{w64}
use Rattle.std.specs.List.{All, AllByRecursion, flat_map}
use Rattle.byteorder.specs.Endian.{big_bytes, low_bytes}
use Rattle.alter_bytes.specs.Varint.{varint}
use Rattle.record_codec.specs.declared.value.Value.{Value}
use Rattle.record_codec.specs.declared.value.Value.TheVariants.{Null, Int, Real, Text, Blob}
use Rattle.record_codec.specs.Serial.{IsBody, body_size}
use Rattle.record_codec.specs.Record.{IsRecord}

-- the serial type of an integer with a body of the fewest bytes; n is the integer, or -1 less a negative one
unfoldable pub sized_serial : ℕ → ℕ
sized_serial n =
    if nat_lt n (2 ^ 7) then 1 else if nat_lt n (2 ^ 15) then 2 else if nat_lt n (2 ^ 23) then 3
    else if nat_lt n (2 ^ 31) then 4 else if nat_lt n (2 ^ 47) then 5 else 6

-- the serial type of an integer; schema format 4 alone has those of the integers 0 and 1
unfoldable pub integer_serial : ℕ → ℤ → ℕ
integer_serial format (pos n) = if (format == 4) && nat_lt n 2 then 8 + n else sized_serial n
integer_serial format (negsuc n) = sized_serial n

-- the serial type of a value under a schema format
unfoldable pub serial_of : ℕ → Value → ℕ
serial_of format Null = 0
serial_of format (Int z) = integer_serial format z
serial_of format (Real bytes) = 7
serial_of format (Text bytes) = 13 + 2 * length bytes
serial_of format (Blob bytes) = 12 + 2 * length bytes

-- an integer in so many bytes
abbrev pub integer_bytes : ℕ → ℤ → List ℕ
integer_bytes n z = big_bytes n (low_bytes w64 n z)

-- the body of a value under a schema format
unfoldable pub body_of : ℕ → Value → List ℕ
body_of format Null = []
body_of format (Int z) = integer_bytes (body_size (integer_serial format z)) z
body_of format (Real bytes) = bytes
body_of format (Text bytes) = bytes
body_of format (Blob bytes) = bytes

-- the fewest bytes of a header's size, where the serial types take n bytes
unfoldable pub size_len : ℕ → ℕ
size_len n = let least = length (varint n) in if length (varint (least + n)) == least then least else least + 1

-- the serial types, and the bodies
abbrev pub types_of : ℕ → List Value → List ℕ
types_of format values = flat_map (λ v. varint (serial_of format v)) values

abbrev pub bodies_of : ℕ → List Value → List ℕ
bodies_of format values = flat_map (body_of format) values

-- the record
unfoldable pub record_of : ℕ → List Value → List ℕ
record_of format values =
    let types = types_of format values in
    varint (size_len (length types) + length types) ++ types ++ bodies_of format values

-- the value has a serial type that fits a varint, and its body is one of that type
pub record IsWritable (format : ℕ) (value : Value) : Type 0 where
  pub fits : serial_of format value < 2 ^ 64
  pub body : IsBody (serial_of format value) value (body_of format value)

-- the serial types of the integers 0 and 1 are among these in schema format 4 alone
abbrev pub AreOfFormat : ℕ → List ℕ → Type 0
AreOfFormat format serials = AllByRecursion (λ serial. (serial ≡ 8) ⊎ (serial ≡ 9) → format ≡ 4) serials

-- no record of these values whose serial types the schema format has is shorter
abbrev pub IsShortest : ℕ → List ℕ → List Value → Type 0
IsShortest format bytes values =
    (other : List ℕ) (r : IsRecord other values) → All (λ b. b < 256) other → AreOfFormat format r.serials → length bytes ≤ length other
