-- Names: how two are compared, and which name a token spells (lang_keywords.html).
use Rattle.std.specs.Prelude.{◌≡◌, ℕ, List, map}
use Rattle.std.specs.Char.{to_ascii_lowercase}
use Rattle.sql_token.specs.declared.token.TokenKind.{TokenKind}
use Rattle.sql_token.specs.declared.token.TokenKind.TheVariants.{Word, Quoted, Str}
use Rattle.sql_token.specs.declared.token.Token.{Token}
use Rattle.sql_token.specs.Form.{quoted, IsQuotedName}
use Rattle.sql_token.specs.Token.{span}

-- an ASCII letter in lower case, and any other byte as it is
abbrev pub fold : ℕ → ℕ
fold b = to_ascii_lowercase b

-- the name as it is compared
abbrev pub folded : List ℕ → List ℕ
folded name = map fold name

-- a token of the kind spells a name
abbrev pub IsNameKind : TokenKind → Type 0
IsNameKind Word = Unit {0}
IsNameKind Quoted = Unit {0}
IsNameKind Str = Unit {0}
IsNameKind _ = ⊥

-- bytes of the kind spell the name
abbrev pub Spells : TokenKind → List ℕ → List ℕ → Type 0
Spells Word bytes name = name ≡ bytes
Spells Quoted bytes name = IsQuotedName bytes name
Spells Str bytes name = bytes ≡ quoted 39 name
Spells _ bytes name = ⊥

-- the token spells the name
abbrev pub SpellsName : List ℕ → Token → List ℕ → Type 0
SpellsName text t name = Spells t.kind (span text t) name
