-- The bytes that make up a token of each kind, whatever stands around them (lang_expr.html, "Literal Values (Constants)").
use Rattle.std.specs.Prelude.{◌≡◌, ◌<◌, ℕ, ◌+◌, ◌%◌, Bool, not, ◌⊎◌, if◌then◌else◌, List, [], ◌∷◌, ◌++◌, length, codes, ◌==◌, nat_eq, IsTrue}
use Rattle.std.specs.Char.{is_ascii_digit, is_ascii_hexdigit}
use Rattle.std.specs.List.{flat_map, list_all, list_any}
use Rattle.std.specs.Cmp.Lexicographic.{pointwise}
use Rattle.sql_token.specs.declared.token.TokenKind.{TokenKind}
use Rattle.sql_token.specs.declared.token.TokenKind.TheVariants.{Word, Quoted, Str, Blob, Int, Hex, Float, Op}
use Rattle.sql_token.specs.Byte.{starts_word, in_word, is_x, is_e, is_plus_or_minus}

-- a letter, `_` or byte from 128, and then letters, digits, `_`, `$` and bytes from 128
abbrev pub IsWord : List ℕ → Type 0
IsWord [] = ⊥
IsWord (b ∷ bytes) = IsTrue (starts_word b) × IsTrue (list_all in_word bytes)

-- each `sign` of the name is written twice
abbrev pub doubled : ℕ → List ℕ → List ℕ
doubled sign name = flat_map (λ b. if b == sign then b ∷ b ∷ [] else b ∷ []) name

-- the name between two signs, with its own signs doubled
abbrev pub quoted : ℕ → List ℕ → List ℕ
quoted sign name = sign ∷ (doubled sign name ++ sign ∷ [])

-- the name between `[` and `]`
abbrev pub bracketed : List ℕ → List ℕ
bracketed name = 91 ∷ (name ++ 93 ∷ [])

-- a name between brackets, which has no `]`
pub record IsBracketed (bytes name : List ℕ) : Type 0 where
  pub spelled : bytes ≡ bracketed name
  pub unclosed : IsTrue (list_all (λ b. not (b == 93)) name)

-- the bytes of a Quoted that spells the name: between `"`, between `` ` `` or between brackets
abbrev pub IsQuotedName : List ℕ → List ℕ → Type 0
IsQuotedName bytes name = (bytes ≡ quoted 34 name) ⊎ (bytes ≡ quoted 96 name) ⊎ IsBracketed bytes name

-- one or more bytes that pass the test
abbrev pub IsRun : (ℕ → Bool) → List ℕ → Type 0
IsRun p bytes = (0 < length bytes) × IsTrue (list_all p bytes)

-- `x` or `X`, a quote, an even number of hexadecimal digits, a quote
pub record IsBlob (bytes : List ℕ) : Type 0 where
  pub x : ℕ
  pub digits : List ℕ
  pub spelled : bytes ≡ x ∷ 39 ∷ (digits ++ 39 ∷ [])
  pub marked : IsTrue (is_x x)
  pub hexadecimal : IsTrue (list_all is_ascii_hexdigit digits)
  pub even : length digits % 2 ≡ 0

-- `0x` or `0X` and one or more hexadecimal digits
pub record IsHex (bytes : List ℕ) : Type 0 where
  pub x : ℕ
  pub digits : List ℕ
  pub spelled : bytes ≡ 48 ∷ x ∷ digits
  pub marked : IsTrue (is_x x)
  pub hexadecimal : IsRun is_ascii_hexdigit digits

-- digits with a point among them, before or behind which a digit stands
pub record IsPointed (bytes : List ℕ) : Type 0 where
  pub whole : List ℕ
  pub fraction : List ℕ
  pub spelled : bytes ≡ whole ++ 46 ∷ fraction
  pub whole_digits : IsTrue (list_all is_ascii_digit whole)
  pub fraction_digits : IsTrue (list_all is_ascii_digit fraction)
  pub some_digit : 0 < length whole + length fraction

-- the bytes without a sign in front
abbrev pub unsigned : List ℕ → List ℕ
unsigned [] = []
unsigned (b ∷ bytes) = if is_plus_or_minus b then bytes else b ∷ bytes

-- `e` or `E`, a sign or none, one or more digits
abbrev pub IsExponent : List ℕ → Type 0
IsExponent [] = ⊥
IsExponent (b ∷ bytes) = IsTrue (is_e b) × IsRun is_ascii_digit (unsigned bytes)

-- digits with a fraction, an exponent or both
pub record IsFloat (bytes : List ℕ) : Type 0 where
  pub mantissa : List ℕ
  pub exponent : List ℕ
  pub spelled : bytes ≡ mantissa ++ exponent
  pub parts : (IsPointed mantissa × ((exponent ≡ []) ⊎ IsExponent exponent)) ⊎ (IsRun is_ascii_digit mantissa × IsExponent exponent)

-- the operators and the signs of punctuation
abbrev pub operators : List (List ℕ)
operators = codes "(" ∷ codes ")" ∷ codes "," ∷ codes ";" ∷ codes "." ∷ codes "+" ∷ codes "-" ∷ codes "*" ∷ codes "/" ∷ codes "%"
    ∷ codes "=" ∷ codes "==" ∷ codes "<" ∷ codes "<=" ∷ codes "<>" ∷ codes "<<" ∷ codes ">" ∷ codes ">=" ∷ codes ">>" ∷ codes "!="
    ∷ codes "&" ∷ codes "~" ∷ codes "->" ∷ codes "->>" ∷ codes "|" ∷ codes "||" ∷ []

-- the bytes are one of the operators
abbrev pub is_operator : List ℕ → Bool
is_operator bytes = list_any (λ operator. pointwise nat_eq operator bytes) operators

-- the bytes have the form of the kind
abbrev pub IsForm : TokenKind → List ℕ → Type 0
IsForm Word bytes = IsWord bytes
IsForm Quoted bytes = (name : List ℕ) × IsQuotedName bytes name
IsForm Str bytes = (name : List ℕ) × (bytes ≡ quoted 39 name)
IsForm Blob bytes = IsBlob bytes
IsForm Int bytes = IsRun is_ascii_digit bytes
IsForm Hex bytes = IsHex bytes
IsForm Float bytes = IsFloat bytes
IsForm Op bytes = IsTrue (is_operator bytes)

-- the kind is a number's: an Int, a Hex or a Float
abbrev pub IsNumberKind : TokenKind → Type 0
IsNumberKind Int = Unit {0}
IsNumberKind Hex = Unit {0}
IsNumberKind Float = Unit {0}
IsNumberKind _ = ⊥
