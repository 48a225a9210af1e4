-- The tokens that were read.
use Rattle.std.proofs.Common.{◌≡◌, ℕ, List, Option, Some, Vec, sym, subst, ◌∙◌, IfSome}
use Rattle.std.specs.Option.{IsSomeAnd}
use Rattle.std.specs.declared.alloc.Global.{Global}
use Rattle.common_laws.proofs.Options.{if_some, read_some}
use Rattle.sql_token.specs.declared.token.Token.{Token}
use Rattle.sql_token.specs.Token.{AreTokens}

-- what was read of the tokens
pub read_only : (text : List ℕ) (o : Option (Vec Token Global)) (list : Vec Token Global) (read : List Token) → o ≡ Some list → read ≡ list.items
    → ((tokens : List Token) → AreTokens text tokens → IsSomeAnd o (λ v. v.items ≡ tokens)) → (tokens : List Token) → AreTokens text tokens → read ≡ tokens
read_only text o list read is same only tokens are = same ∙ read_some (λ v. v.items ≡ tokens) o list is (only tokens are)

-- the tokens that were read are those of the text
pub tokens_read : (text : List ℕ) (o : Option (Vec Token Global)) (list : Vec Token Global) (read : List Token) → o ≡ Some list → read ≡ list.items
    → IfSome o (λ v. AreTokens text v.items) → AreTokens text read
tokens_read text o list read is same are = subst (AreTokens text) (sym same) (if_some (λ v. AreTokens text v.items) o list is are)
