-- What becomes of a value under an affinity (datatype3.html, "Type Affinity").
use Rattle.std.specs.Prelude.{◌≡◌, ℕ, ◌⊎◌, ℤ, List, Result, Ok, Err}
use Rattle.std.specs.Fmt.{signed_decimal}
use Rattle.record_codec.specs.declared.value.Value.{Value}
use Rattle.record_codec.specs.declared.value.Value.TheVariants.{Null, Int, Real, Text, Blob}
use Rattle.value_order.specs.declared.affinity.Affinity.{Affinity}
use Rattle.value_order.specs.declared.affinity.Affinity.TheVariants.{Blob as ToBlob, Text as ToText, Numeric, Integer, Real as ToReal}
use Rattle.value_order.specs.declared.conversion.ApplyError.{ApplyError}
use Rattle.value_order.specs.declared.conversion.ApplyError.TheVariants.{Memory, NeedsReal}
use Rattle.value_order.specs.declared.number.Form.{Form}
use Rattle.value_order.specs.declared.number.Form.TheVariants.{Integer as IntegerForm, Number, Other}
use Rattle.value_order.specs.Number.{Fits, IsInteger, IsNumber}

-- the text is an integer of 64 signed bits
pub record IsFitting (text : List ℕ) (z : ℤ) : Type 0 where
  pub integer : IsInteger text z
  pub fits : Fits z

-- what is found out about a text
abbrev pub IsForm : Form → List ℕ → Type 0
IsForm (IntegerForm z) text = IsFitting text z
IsForm Number text = IsNumber text × ((z : ℤ) → IsFitting text z → ⊥)
IsForm Other text = IsNumber text → ⊥

-- the value is converted by a number that a real is, or to one
abbrev pub AsksReal : Affinity → Affinity → Value → Type 0
AsksReal from to Null = ⊥
AsksReal from to (Blob bytes) = ⊥
AsksReal from ToReal (Int z) = from ≡ ToReal → ⊥
AsksReal from to (Int z) = from ≡ ToReal
AsksReal from ToBlob (Real bytes) = ⊥
AsksReal from ToText (Real bytes) = Unit {0}
AsksReal from ToReal (Real bytes) = ⊥
AsksReal from to (Real bytes) = (from ≡ Integer) ⊎ (from ≡ Numeric) → ⊥
AsksReal from ToBlob (Text text) = ⊥
AsksReal from ToText (Text text) = ⊥
AsksReal from ToReal (Text text) = IsNumber text
AsksReal from to (Text text) = IsNumber text × ((z : ℤ) → IsFitting text z → ⊥)

-- a text becomes the integer of 64 signed bits that it is; where it is no number it stays
abbrev pub BecomesNumber : List ℕ → Value → Type 0
BecomesNumber text after = ((z : ℤ) × IsFitting text z × (after ≡ Int z)) ⊎ ((IsNumber text → ⊥) × (after ≡ Text text))

-- what the value becomes where no real is asked for
abbrev pub Becomes : Affinity → Value → Value → Type 0
Becomes ToText (Int z) after = after ≡ Text (signed_decimal z)
Becomes Integer (Text text) after = BecomesNumber text after
Becomes Numeric (Text text) after = BecomesNumber text after
Becomes to v after = after ≡ v

-- an integer is to become a text, which takes memory
abbrev pub IsWritten : Affinity → Value → Type 0
IsWritten ToText (Int z) = Unit {0}
IsWritten to v = ⊥

-- The forms are told apart: a text is one integer at most, and an integer is a number.
pub record AreForms : Type 0 where
  pub one_integer : (text : List ℕ) (x y : ℤ) → IsInteger text x → IsInteger text y → x ≡ y
  pub integer_is_number : (text : List ℕ) (z : ℤ) → IsInteger text z → IsNumber text

-- the error is want of memory
abbrev pub IsMemory : ApplyError → Type 0
IsMemory (Memory fault) = Unit {0}
IsMemory NeedsReal = ⊥

-- the conversion's result: `NeedsReal` exactly where a real is asked for; want of memory only where an integer is to become
-- a text without one
abbrev pub Applied : Affinity → Affinity → Value → Result Value ApplyError → Type 0
Applied from to v (Ok after) = (AsksReal from to v → ⊥) × Becomes to v after
Applied from to v (Err NeedsReal) = AsksReal from to v
Applied from to v (Err (Memory fault)) = (AsksReal from to v → ⊥) × IsWritten to v
