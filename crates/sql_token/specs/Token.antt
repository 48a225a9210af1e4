-- The tokens of a text (lang_expr.html, lang_keywords.html): each is the longest at its place.
use Rattle.std.specs.Prelude.{◌≡◌, ◌<◌, ◌≤◌, ℕ, Bool, false, not, ◌&&◌, List, [], ◌∷◌, length, drop, slice_range, ◌==◌, IsFalse}
use Rattle.sql_token.specs.declared.token.TokenKind.{TokenKind}
use Rattle.sql_token.specs.declared.token.TokenKind.TheVariants.{Word, Quoted, Str, Blob, Int, Hex, Float, Op}
use Rattle.sql_token.specs.declared.token.Token.{Token}
use Rattle.sql_token.specs.declared.token.TokenError.{TokenError}
use Rattle.sql_token.specs.declared.token.TokenError.TheVariants.{Memory, Bad}
use Rattle.sql_token.specs.Byte.{in_word, is_x, begins}
pub use Rattle.sql_token.specs.Form.{IsForm, doubled}
pub use Rattle.sql_token.specs.Filler.{BeginsComment, IsBlankAt, IsComment, IsFiller}

-- the token's bytes
abbrev pub span : List ℕ → Token → List ℕ
span text t = slice_range text t.start t.end

-- What stands behind a token spoils it: a byte of a Word behind a number, the same sign again behind a
-- quote, which is then not closed, and a quote behind `x`, which then begins a blob that is not formed.
abbrev pub is_spoiled : TokenKind → List ℕ → List ℕ → Bool
is_spoiled Int bytes rest = begins in_word rest
is_spoiled Hex bytes rest = begins in_word rest
is_spoiled Float bytes rest = begins in_word rest
is_spoiled Str bytes rest = begins (λ b. b == 39) rest
is_spoiled Quoted [] rest = false
is_spoiled Quoted (sign ∷ bytes) rest = not (sign == 91) && begins (λ b. b == sign) rest
is_spoiled Word (b ∷ []) rest = is_x b && begins (λ b. b == 39) rest
is_spoiled Word _ rest = false
is_spoiled Blob bytes rest = false
is_spoiled Op bytes rest = false

-- The token stands in the text: its bytes have its form and no longer bytes at its place have any, no
-- comment begins there, and what stands behind it does not spoil it.
pub record IsTokenAt (text : List ℕ) (t : Token) : Type 0 where
  pub ascends : t.start < t.end
  pub within : t.end ≤ length text
  pub form : IsForm t.kind (span text t)
  pub longest : (kind : TokenKind) (end : ℕ) → t.end < end → end ≤ length text → IsForm kind (slice_range text t.start end) → ⊥
  pub free_of_comment : BeginsComment text t.start → ⊥
  pub closed : IsFalse (is_spoiled t.kind (span text t) (drop t.end text))

-- the tokens of the bytes from..to, with blanks and comments before, between and behind them
abbrev pub AreTokensIn : List ℕ → ℕ → ℕ → List Token → Type 0
AreTokensIn text from to [] = IsFiller text from to
AreTokensIn text from to (t ∷ ts) = IsFiller text from t.start × IsTokenAt text t × AreTokensIn text t.end to ts

-- the tokens of the text
abbrev pub AreTokens : List ℕ → List Token → Type 0
AreTokens text list = AreTokensIn text 0 (length text) list

-- the first place that is in no token, blank or comment, and at which no token begins
pub record FirstBad (text : List ℕ) (at : ℕ) : Type 0 where
  pub within : at < length text
  pub before : List Token
  pub tokens : AreTokensIn text 0 at before
  pub not_blank : IsBlankAt text at → ⊥
  pub free_of_comment : BeginsComment text at → ⊥
  pub no_token : (t : Token) → t.start ≡ at → IsTokenAt text t → ⊥

-- the error is want of memory, or the fact holds of the place that it says
abbrev pub OnBad : (ℕ → Type 0) → TokenError → Type 0
OnBad P (Memory fault) = Unit {0}
OnBad P (Bad at) = P at

-- the error is want of memory
abbrev pub IsMemory : TokenError → Type 0
IsMemory error = OnBad (λ at. ⊥) error
