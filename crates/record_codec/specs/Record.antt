-- Records (fileformat2.html, "Record Format").
use Rattle.std.specs.Prelude.{◌≡◌, ℕ, ◌+◌, List, [], ◌∷◌, ◌++◌, length}
use Rattle.alter_bytes.specs.Varint.{IsVarint}
use Rattle.record_codec.specs.declared.value.Value.{Value}
use Rattle.record_codec.specs.Serial.{IsBody, IsSerial}

-- varints of these serial types, one after the other
abbrev pub AreSerials : List ℕ → List ℕ → Type 0
AreSerials [] bytes = bytes ≡ []
AreSerials (serial ∷ serials) bytes =
    (first : List ℕ) × (others : List ℕ) × (bytes ≡ first ++ others) × IsVarint first serial × IsSerial serial × AreSerials serials others

-- bodies of these values under these serial types, one after the other
abbrev pub AreBodies : List ℕ → List Value → List ℕ → Type 0
AreBodies [] [] bytes = bytes ≡ []
AreBodies (serial ∷ serials) (value ∷ values) bytes =
    (first : List ℕ) × (others : List ℕ) × (bytes ≡ first ++ others) × IsBody serial value first × AreBodies serials values others
AreBodies [] (value ∷ values) bytes = ⊥
AreBodies (serial ∷ serials) [] bytes = ⊥

-- the values of these serial types and bodies
abbrev pub AreValues : List ℕ → List ℕ → List Value → Type 0
AreValues types bodies values = (serials : List ℕ) × AreSerials serials types × AreBodies serials values bodies

abbrev pub HaveValues : List ℕ → List ℕ → Type 0
HaveValues types bodies = (values : List Value) × AreValues types bodies values

-- the first of these values is this one, and the serial types and the bodies behind it are those of the others
pub record IsFront (types bodies : List ℕ) (value : Value) (others behind : List ℕ) : Type 0 where
  pub more : HaveValues others behind
  pub there : (values : List Value) → AreValues others behind values → AreValues types bodies (value ∷ values)
  pub only : (first : Value) (values : List Value) → AreValues types bodies (first ∷ values) → (first ≡ value) × AreValues others behind values

-- the header, which begins with its size, itself included; then its serial types, and behind it the bodies
pub record HasHeader (bytes types bodies : List ℕ) : Type 0 where
  pub size_field : List ℕ
  pub whole : bytes ≡ size_field ++ types ++ bodies
  pub size : IsVarint size_field (length size_field + length types)

-- a record of these values; an integer may take more bytes than it needs, and so may a varint
pub record IsRecord (bytes : List ℕ) (values : List Value) : Type 0 where
  pub types : List ℕ
  pub bodies : List ℕ
  pub serials : List ℕ
  pub header : HasHeader bytes types bodies
  pub types_are : AreSerials serials types
  pub bodies_are : AreBodies serials values bodies
