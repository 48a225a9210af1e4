-- How the bytes of a text are read from the front on, as the private functions of `number` read them. What a number is, `Number` says.
use Rattle.std.specs.Prelude.{ℕ, ◌==◌, nat_lt, ◌&&◌, ◌||◌, Bool, false, if◌then◌else◌, List, [], ◌∷◌, length}
use Rattle.value_order.specs.Number.{is_blank, is_digit}

-- the bytes from the front on that pass
abbrev pub front : (ℕ → Bool) → List ℕ → List ℕ
front p [] = []
front p (b ∷ bytes) = if p b then b ∷ front p bytes else []

-- what is behind them
abbrev pub past : (ℕ → Bool) → List ℕ → List ℕ
past p [] = []
past p (b ∷ bytes) = if p b then past p bytes else b ∷ bytes

abbrev pub is_sign : ℕ → Bool
is_sign b = (b == 43) || (b == 45)

abbrev pub past_sign : List ℕ → List ℕ
past_sign [] = []
past_sign (b ∷ bytes) = if is_sign b then bytes else b ∷ bytes

abbrev pub past_point : List ℕ → List ℕ
past_point [] = []
past_point (b ∷ bytes) = if b == 46 then bytes else b ∷ bytes

-- some byte stands between, where the second is an end of the first
abbrev pub is_shorter : List ℕ → List ℕ → Bool
is_shorter back text = nat_lt (length back) (length text)

abbrev pub all_blanks : List ℕ → Bool
all_blanks text = length (past is_blank text) == 0

abbrev pub reads_signed : List ℕ → Bool
reads_signed text = let digits = past_sign text in let back = past is_digit digits in is_shorter back digits && all_blanks back

abbrev pub reads_exponent : List ℕ → Bool
reads_exponent [] = false
reads_exponent (b ∷ bytes) = ((b == 101) || (b == 69)) && reads_signed bytes

abbrev pub reads_end : List ℕ → Bool
reads_end text = all_blanks text || reads_exponent text

abbrev pub reads_unsigned : List ℕ → Bool
reads_unsigned text =
    let whole = past is_digit text in
    let fraction = past_point whole in
    let back = past is_digit fraction in
    (is_shorter whole text || is_shorter back fraction) && reads_end back
