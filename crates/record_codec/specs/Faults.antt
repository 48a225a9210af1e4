-- Where bytes are no record: the first field that does not fit, or the first byte behind the last one.
use Rattle.std.specs.Prelude.{◌≡◌, ◌<◌, ◌≤◌, ℕ, ◌+◌, ◌⊎◌, List, ◌∷◌, ◌++◌, length}
use Rattle.alter_bytes.specs.Varint.{IsVarint}
use Rattle.record_codec.specs.declared.value.Value.{Value}
use Rattle.record_codec.specs.declared.error.RecordError.{RecordError}
use Rattle.record_codec.specs.declared.error.RecordError.TheVariants.{Memory, Bad}
use Rattle.record_codec.specs.Serial.{IsSerial, body_size}
use Rattle.record_codec.specs.Record.{AreBodies, AreSerials, HasHeader}

-- no size of a header stands in front that is its own length at least and fits into the bytes
abbrev pub HasNoHeader : List ℕ → Type 0
HasNoHeader bytes = (types bodies : List ℕ) → HasHeader bytes types bodies → ⊥

-- the bytes begin with no serial type
abbrev pub BeginsNoSerial : List ℕ → Type 0
BeginsNoSerial bytes = (first others : List ℕ) (serial : ℕ) → bytes ≡ first ++ others → IsVarint first serial → IsSerial serial → ⊥

-- from `rest` on, behind some serial types, the header goes on with no serial type
pub record IsBadSerial (types rest : List ℕ) : Type 0 where
  pub before : List ℕ
  pub serials : List ℕ
  pub whole : types ≡ before ++ rest
  pub so_far : AreSerials serials before
  pub more : 1 ≤ length rest
  pub no_serial : BeginsNoSerial rest

-- from `rest` on, behind some bodies, there are fewer bytes than the next serial type asks for
pub record IsShortBody (types bodies rest : List ℕ) : Type 0 where
  pub before : List ℕ
  pub serials : List ℕ
  pub serial : ℕ
  pub others : List ℕ
  pub values : List Value
  pub types_are : AreSerials (serials ++ serial ∷ others) types
  pub whole : bodies ≡ before ++ rest
  pub so_far : AreBodies serials values before
  pub short : length rest < body_size serial

-- `rest` stands behind the last body
pub record IsSurplus (types bodies rest : List ℕ) : Type 0 where
  pub before : List ℕ
  pub serials : List ℕ
  pub values : List Value
  pub types_are : AreSerials serials types
  pub whole : bodies ≡ before ++ rest
  pub so_far : AreBodies serials values before
  pub more : 1 ≤ length rest

-- the size of the header at 0, or a serial type at the place, is the first field that does not fit
abbrev pub IsHeaderFault : List ℕ → ℕ → Type 0
IsHeaderFault bytes at =
    (HasNoHeader bytes × (at ≡ 0))
    ⊎ ((types : List ℕ) × (bodies : List ℕ) × (rest : List ℕ) × HasHeader bytes types bodies × IsBadSerial types rest
    × (at + length rest + length bodies ≡ length bytes))

-- the body at the place is the first field that does not fit, or the byte there is the first one behind the last body
abbrev pub IsBodyFault : List ℕ → ℕ → Type 0
IsBodyFault bytes at =
    (types : List ℕ) × (bodies : List ℕ) × (rest : List ℕ) × HasHeader bytes types bodies
    × (IsShortBody types bodies rest ⊎ IsSurplus types bodies rest) × (at + length rest ≡ length bytes)

-- The first fault of the bytes is at this place. All serial types come before all bodies.
abbrev pub FirstBad : List ℕ → ℕ → Type 0
FirstBad bytes at = IsHeaderFault bytes at ⊎ IsBodyFault bytes at

-- the error is want of memory, or the fact holds of the place that it says
abbrev pub OnBad : (ℕ → Type 0) → RecordError → Type 0
OnBad P (Memory fault) = Unit {0}
OnBad P (Bad at) = P at

-- the error is want of memory
abbrev pub IsMemory : RecordError → Type 0
IsMemory (Memory fault) = Unit {0}
IsMemory (Bad at) = ⊥
