-- Tokens that a rule names: fixed words, signs and names.
use Rattle.std.specs.Prelude.{◌≡◌, ℕ, List, IsTrue}
use Rattle.sql_token.specs.declared.token.Token.{Token}
use Rattle.sql_token.specs.declared.token.TokenKind.TheVariants.{Word, Op}
use Rattle.sql_token.specs.declared.keyword.Keyword.{Keyword}
use Rattle.sql_token.specs.Token.{span}
use Rattle.sql_token.specs.Names.{folded, IsNameKind}
use Rattle.sql_token.specs.Keyword.{spelling, is_reserved}

-- the token is this fixed word
pub record IsFixed (text : List ℕ) (word : Keyword) (token : Token) : Type 0 where
  pub kind : token.kind ≡ Word
  pub spelled : folded (span text token) ≡ spelling word

-- the token is this sign
pub record IsSign (text sign : List ℕ) (token : Token) : Type 0 where
  pub kind : token.kind ≡ Op
  pub spelled : span text token ≡ sign

-- the token is a name: a Word that is not reserved, a Quoted or a Str
pub record IsName (text : List ℕ) (token : Token) : Type 0 where
  pub kind : IsNameKind token.kind
  pub free : (keyword : Keyword) → IsTrue (is_reserved keyword) → IsFixed text keyword token → ⊥
