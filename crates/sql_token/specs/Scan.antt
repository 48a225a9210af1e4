-- What the private functions return.
use Rattle.std.specs.Prelude.{ℕ, ◌+◌, ◌%◌, Bool, not, ◌&&◌, ◌||◌, if◌then◌else◌, List, [], ◌∷◌, take, drop, length, Option, Some, None, ◌==◌, nat_eq, nat_lt, nat_le}
use Rattle.std.specs.Char.{is_ascii_digit, is_ascii_hexdigit}
use Rattle.std.specs.Cmp.Lexicographic.{pointwise}
use Rattle.std.specs.List.{prefix_len}
use Rattle.std.specs.Option.{option_map}
use Rattle.sql_token.specs.declared.keyword.Keyword.{Keyword}
use Rattle.sql_token.specs.declared.keyword.Role.{Role}
use Rattle.sql_token.specs.declared.keyword.Role.TheVariants.{Name, JoinWord, Reserved}
use Rattle.sql_token.specs.declared.class.Class.{Class}
use Rattle.sql_token.specs.declared.class.Class.TheVariants.{Letter, Digit, Point, Apostrophe, Sign, Bracket, Other}
use Rattle.sql_token.specs.declared.token.TokenKind.{TokenKind}
use Rattle.sql_token.specs.declared.token.TokenKind.TheVariants as kind
use Rattle.sql_token.specs.Byte.{starts_word, in_word, is_x, is_e, is_plus_or_minus, begins}
use Rattle.sql_token.specs.Form.{unsigned, is_operator}
use Rattle.sql_token.specs.Keyword.{spelling, is_reserved, is_join_word}
use Rattle.sql_token.specs.Names.{folded}

-- the first of the keywords with this spelling
abbrev pub first_spelled : List ℕ → List Keyword → Option Keyword
first_spelled word [] = None
first_spelled word (keyword ∷ keywords) =
    if pointwise nat_eq (folded (spelling keyword)) word then Some keyword else first_spelled word keywords

-- what the keyword may be besides a fixed word
abbrev pub role_of : Keyword → Role
role_of keyword = if is_reserved keyword then Reserved else (if is_join_word keyword then JoinWord else Name)

-- what may begin with the byte
abbrev pub class_of : ℕ → Class
class_of b =
    if starts_word b then Letter
    else (if is_ascii_digit b then Digit
    else (if b == 46 then Point
    else (if b == 39 then Apostrophe
    else (if b == 34 || b == 96 then Sign
    else (if b == 91 then Bracket
    else Other)))))

-- how many digits are in front
abbrev pub digits : List ℕ → ℕ
digits bytes = prefix_len is_ascii_digit bytes

-- the length of digits behind a mark, or 0 where there are none
abbrev pub marked : ℕ → ℕ → ℕ
marked mark count = if count == 0 then 0 else mark + count

-- the length of the point in front and the digits behind it
abbrev pub fraction_len : List ℕ → ℕ
fraction_len [] = 0
fraction_len (b ∷ bytes) = if b == 46 then 1 + digits bytes else 0

-- the length of a sign in front
abbrev pub sign_len : List ℕ → ℕ
sign_len [] = 0
sign_len (b ∷ bytes) = if is_plus_or_minus b then 1 else 0

-- the length of the exponent in front
abbrev pub exponent_len : List ℕ → ℕ
exponent_len [] = 0
exponent_len (b ∷ bytes) = if is_e b then marked (1 + sign_len bytes) (digits (unsigned bytes)) else 0

-- the length of the hexadecimal number in front
abbrev pub hex_len : List ℕ → ℕ
hex_len [] = 0
hex_len (z ∷ []) = 0
hex_len (z ∷ x ∷ bytes) = if z == 48 && is_x x then marked 2 (prefix_len is_ascii_hexdigit bytes) else 0

-- the length of the fraction and the exponent behind so many digits
abbrev pub tail_len : ℕ → List ℕ → ℕ
tail_len whole bytes =
    fraction_len (drop whole bytes) + exponent_len (drop (fraction_len (drop whole bytes)) (drop whole bytes))

-- the decimal number in front
abbrev pub decimal : List ℕ → TokenKind × ℕ
decimal bytes = let tail = tail_len (digits bytes) bytes in (if tail == 0 then kind.Int else kind.Float, digits bytes + tail)

-- the number in front
abbrev pub number : List ℕ → TokenKind × ℕ
number bytes = if hex_len bytes == 0 then decimal bytes else (kind.Hex, hex_len bytes)

-- the number in front, where no byte of a Word stands behind it
unfoldable pub whole_number : List ℕ → Option (TokenKind × ℕ)
whole_number bytes = let found = number bytes in if begins in_word (drop found.1 bytes) then None else Some found

-- a token of the kind, where it has a length
abbrev pub of_kind : TokenKind → Option ℕ → Option (TokenKind × ℕ)
of_kind kind None = None
of_kind kind (Some length) = Some (kind, length)

-- the length up to and with the sign that closes a quote; a doubled one does not
abbrev pub closing_len : ℕ → List ℕ → Option ℕ
closing_len sign [] = None
closing_len sign (b ∷ []) = if b == sign then Some 1 else None
closing_len sign (b ∷ c ∷ bytes) =
    if b == sign then (if c == sign then option_map (λ n. 2 + n) (closing_len sign bytes) else Some 1)
    else option_map (λ n. 1 + n) (closing_len sign (c ∷ bytes))

-- the length of a quote whose first sign stands before the bytes
abbrev pub quote_len : ℕ → List ℕ → Option ℕ
quote_len sign bytes = option_map (λ n. 1 + n) (closing_len sign bytes)

-- the length up to and with the first `]`, with the `[` before the bytes
abbrev pub bracket_len : List ℕ → Option ℕ
bracket_len bytes =
    let name = prefix_len (λ b. not (b == 93)) bytes in
    if nat_lt name (length bytes) then Some (2 + name) else None

-- the length of a blob, whose first two bytes stand before the bytes
abbrev pub blob_len : List ℕ → Option ℕ
blob_len bytes =
    let count = prefix_len is_ascii_hexdigit bytes in
    if begins (λ b. b == 39) (drop count bytes) && count % 2 == 0 then Some (3 + count) else None

-- an operator of so many bytes is in front
abbrev pub has_operator : ℕ → List ℕ → Bool
has_operator len bytes = nat_le len (length bytes) && is_operator (take len bytes)

-- the length of the longest operator in front
abbrev pub operator_len : List ℕ → Option ℕ
operator_len bytes =
    if has_operator 3 bytes then Some 3
    else (if has_operator 2 bytes then Some 2
    else (if has_operator 1 bytes then Some 1
    else None))

-- a blob, or a Word, whose first byte stands before the bytes
unfoldable pub word_or_blob : ℕ → List ℕ → Option (TokenKind × ℕ)
word_or_blob b bytes =
    if is_x b && begins (λ c. c == 39) bytes then of_kind kind.Blob (blob_len (drop 1 bytes))
    else Some (kind.Word, 1 + prefix_len in_word bytes)

-- the token in front, by the class of its first byte, which stands before the bytes
abbrev pub front_by : Class → ℕ → List ℕ → Option (TokenKind × ℕ)
front_by Letter b bytes = word_or_blob b bytes
front_by Digit b bytes = whole_number (b ∷ bytes)
front_by Point b bytes = if begins is_ascii_digit bytes then whole_number (b ∷ bytes) else of_kind kind.Op (operator_len (b ∷ bytes))
front_by Apostrophe b bytes = of_kind kind.Str (quote_len b bytes)
front_by Sign b bytes = of_kind kind.Quoted (quote_len b bytes)
front_by Bracket b bytes = of_kind kind.Quoted (bracket_len bytes)
front_by Other b bytes = of_kind kind.Op (operator_len (b ∷ bytes))

-- the kind and the length of the token in front
unfoldable pub front : List ℕ → Option (TokenKind × ℕ)
front [] = None
front (b ∷ bytes) = front_by (class_of b) b bytes

-- the bytes with one sign for each two
abbrev pub undoubled : ℕ → List ℕ → List ℕ
undoubled sign [] = []
undoubled sign (b ∷ []) = b ∷ []
undoubled sign (b ∷ c ∷ bytes) = b ∷ (if b == sign && c == sign then undoubled sign bytes else undoubled sign (c ∷ bytes))
