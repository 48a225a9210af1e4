-- The tokens of the texts and scripts that are served so far.
use Rattle.std.specs.Prelude.{◌≡◌, ◌≢◌, ℕ, List}
use Rattle.sql_token.specs.declared.token.Token.{Token}
use Rattle.sql_token.specs.declared.token.TokenKind.TheVariants.{Word}
use Rattle.sql_token.specs.declared.keyword.Keyword.{Keyword}
use Rattle.sql_token.specs.Token.{span}
use Rattle.sql_token.specs.Form.{IsWord}
use Rattle.sql_token.specs.Names.{folded}
use Rattle.sql_token.specs.Keyword.{spelling}

-- the token is a word that is none of SQL's, and the name that it spells
pub record IsPlainName (text : List ℕ) (token : Token) (name : List ℕ) : Type 0 where
  pub kind : token.kind ≡ Word
  pub free : (word : Keyword) → folded (span text token) ≢ spelling word
  pub spelled : name ≡ span text token

-- the bytes are a word and none of SQL's
pub record IsPlainWord (name : List ℕ) : Type 0 where
  pub word : IsWord name
  pub free : (word : Keyword) → folded name ≢ spelling word

-- the token is a word that is none of SQL's
abbrev pub IsPlain : List ℕ → Token → Type 0
IsPlain text token = (name : List ℕ) × IsPlainName text token name
