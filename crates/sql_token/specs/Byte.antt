-- Classes of bytes.
use Rattle.std.specs.Prelude.{ℕ, Bool, false, ◌||◌, List, [], ◌∷◌, nat_le, ◌==◌}
use Rattle.std.specs.Char.{is_ascii_alphabetic, is_ascii_alphanumeric}

-- space, tab, line feed, form feed or carriage return
abbrev pub is_blank : ℕ → Bool
is_blank b = b == 32 || b == 9 || b == 10 || b == 12 || b == 13

-- the byte may begin a Word: a letter, `_` or a byte from 128
abbrev pub starts_word : ℕ → Bool
starts_word b = is_ascii_alphabetic b || b == 95 || nat_le 128 b

-- the byte may stand in a Word: a letter, a digit, `_`, `$` or a byte from 128
abbrev pub in_word : ℕ → Bool
in_word b = is_ascii_alphanumeric b || b == 95 || b == 36 || nat_le 128 b

-- `x` or `X`
abbrev pub is_x : ℕ → Bool
is_x b = b == 120 || b == 88

-- `e` or `E`
abbrev pub is_e : ℕ → Bool
is_e b = b == 101 || b == 69

-- `+` or `-`
abbrev pub is_plus_or_minus : ℕ → Bool
is_plus_or_minus b = b == 43 || b == 45

-- there is a first byte, and it passes the test
abbrev pub begins : (ℕ → Bool) → List ℕ → Bool
begins p [] = false
begins p (b ∷ bytes) = p b
