-- Texts that are numbers (datatype3.html, "Type Conversions Prior To Comparison" and "Type Affinity").
use Rattle.std.specs.Prelude.{◌≡◌, ℕ, ◌+◌, ◌-◌, ◌*◌, ◌^◌, ◌<◌, ◌≤◌, ◌⊎◌, ◌==◌, nat_le, ◌&&◌, ◌||◌, Bool, false, IsTrue, if◌then◌else◌, ℤ, pos, negsuc, neg_ℤ, List, [], ◌∷◌, ◌++◌, length}
use Rattle.std.specs.List.{list_all}

-- space, tab, line feed, vertical tab, form feed, carriage return
abbrev pub is_blank : ℕ → Bool
is_blank b = (b == 32) || (nat_le 9 b && nat_le b 13)

abbrev pub is_digit : ℕ → Bool
is_digit b = nat_le 48 b && nat_le b 57

abbrev pub AreBlanks : List ℕ → Type 0
AreBlanks bytes = IsTrue (list_all is_blank bytes)

abbrev pub AreDigits : List ℕ → Type 0
AreDigits bytes = IsTrue (list_all is_digit bytes)

-- an optional sign
abbrev pub IsSign : List ℕ → Type 0
IsSign sign = (sign ≡ []) ⊎ (sign ≡ 43 ∷ []) ⊎ (sign ≡ 45 ∷ [])

-- the number of decimal digits that stand behind those of `n`
abbrev pub number_after : ℕ → List ℕ → ℕ
number_after n [] = n
number_after n (digit ∷ digits) = number_after (n * 10 + (digit - 48)) digits

abbrev pub begins_minus : List ℕ → Bool
begins_minus [] = false
begins_minus (b ∷ bytes) = b == 45

-- the integer of digits behind a minus, or behind none
abbrev pub signed_number : Bool → List ℕ → ℤ
signed_number minus digits = if minus then neg_ℤ (pos (number_after 0 digits)) else pos (number_after 0 digits)

-- the integer is one of 64 signed bits; -1 - n is `negsuc n`
abbrev pub Fits : ℤ → Type 0
Fits (pos n) = n < 2 ^ 63
Fits (negsuc n) = n < 2 ^ 63

-- an optional sign, digits, blanks; the integer of the sign and the digits
pub record IsSigned (text : List ℕ) (z : ℤ) : Type 0 where
  pub sign : List ℕ
  pub digits : List ℕ
  pub back : List ℕ
  pub whole : text ≡ sign ++ (digits ++ back)
  pub signed : IsSign sign
  pub some : 1 ≤ length digits
  pub are_digits : AreDigits digits
  pub are_blanks : AreBlanks back
  pub value : z ≡ signed_number (begins_minus sign) digits

-- the text has the integer form, and it is this integer: blanks, an optional sign, digits, blanks
pub record IsInteger (text : List ℕ) (z : ℤ) : Type 0 where
  pub front : List ℕ
  pub number : List ℕ
  pub whole : text ≡ front ++ number
  pub are_blanks : AreBlanks front
  pub signed : IsSigned number z

-- nothing, or a point and digits, if any
abbrev pub IsFraction : List ℕ → List ℕ → Type 0
IsFraction fraction digits = ((fraction ≡ []) × (digits ≡ [])) ⊎ ((fraction ≡ 46 ∷ digits) × AreDigits digits)

-- an optional exponent and blanks: `e` or `E`, an optional sign, digits
abbrev pub IsNumberEnd : List ℕ → Type 0
IsNumberEnd bytes = AreBlanks bytes ⊎ ((e : ℕ) × (exponent : List ℕ) × (z : ℤ) × (bytes ≡ e ∷ exponent) × ((e ≡ 101) ⊎ (e ≡ 69)) × IsSigned exponent z)

-- one digit or more with at most one point before, between or behind them, an optional exponent, blanks
pub record IsUnsigned (text : List ℕ) : Type 0 where
  pub digits : List ℕ
  pub fraction : List ℕ
  pub more_digits : List ℕ
  pub back : List ℕ
  pub whole : text ≡ digits ++ (fraction ++ back)
  pub are_digits : AreDigits digits
  pub fraction_is : IsFraction fraction more_digits
  pub some : 1 ≤ length digits + length more_digits
  pub ends : IsNumberEnd back

-- the text is a number of some form: blanks, an optional sign, digits and a point, an optional exponent, blanks
pub record IsNumber (text : List ℕ) : Type 0 where
  pub front : List ℕ
  pub sign : List ℕ
  pub number : List ℕ
  pub whole : text ≡ front ++ (sign ++ number)
  pub are_blanks : AreBlanks front
  pub signed : IsSign sign
  pub unsigned : IsUnsigned number
