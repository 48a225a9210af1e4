-- Serial types: which there are, how many bytes a value's body takes, and what it means (fileformat2.html, "Record Format").
use Rattle.std.specs.Prelude.{◌≡◌, ◌≢◌, ℕ, ◌-◌, ◌/◌, ◌%◌, ◌==◌, nat_lt, if◌then◌else◌, pos, List, length}
use Rattle.byteorder.specs.Endian.{big_number, twos_complement}
use Rattle.record_codec.specs.declared.value.Value.{Value}
use Rattle.record_codec.specs.declared.value.Value.TheVariants.{Null, Int, Real, Text, Blob}

-- each number but the reserved 10 and 11
abbrev pub IsSerial : ℕ → Type 0
IsSerial serial = (serial ≢ 10) × (serial ≢ 11)

-- the bytes of a body: none of NULL, 1, 2, 3, 4, 6 and 8 of an integer, 8 of a real, none of the integers 0 and 1, and
-- then one more for every second serial type
unfoldable pub body_size : ℕ → ℕ
body_size serial =
    if nat_lt serial 5 then serial else if serial == 5 then 6 else if nat_lt serial 8 then 8 else if nat_lt serial 12 then 0 else (serial - 12) / 2

-- the value of a body: NULL, a big-endian integer with its sign, a real, the integers 0 and 1, a blob or a text
unfoldable pub value_of : ℕ → List ℕ → Value
value_of serial body =
    if serial == 0 then Null
    else if nat_lt serial 7 then Int (twos_complement (length body) (big_number (length body) body))
    else if serial == 7 then Real body
    else if serial == 8 then Int (pos 0)
    else if serial == 9 then Int (pos 1)
    else if serial % 2 == 0 then Blob body else Text body

-- under the serial type the bytes are a body of the value
pub record IsBody (serial : ℕ) (value : Value) (body : List ℕ) : Type 0 where
  pub known : IsSerial serial
  pub size : length body ≡ body_size serial
  pub meaning : value ≡ value_of serial body
