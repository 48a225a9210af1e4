-- How deep the parentheses and the CASEs of a list of tokens are nested.
use Rattle.std.specs.Prelude.{◌≡◌, ◌<◌, ◌≤◌, ℕ, Bool, List, [], ◌∷◌, ◌++◌, length, codes, nat_eq, if◌then◌else◌, Option, Some, None, Result, Ok, Err}
use Rattle.std.specs.Cmp.Lexicographic.{pointwise}
use Rattle.std.specs.List.{fold}
use Rattle.std.specs.declared.alloc.AllocError.{AllocError}
use Rattle.sql_token.specs.declared.token.Token.{Token}
use Rattle.sql_token.specs.declared.token.TokenKind.{TokenKind}
use Rattle.sql_token.specs.declared.token.TokenKind.TheVariants.{Word, Op}
use Rattle.sql_token.specs.declared.keyword.Keyword.TheVariants as keyword
use Rattle.sql_token.specs.Keyword.{spelling}
use Rattle.sql_token.specs.Names.{folded}
use Rattle.sql_token.specs.Token.{span}
use Rattle.sql_tree.specs.declared.nesting.Opening.{Opening}
use Rattle.sql_tree.specs.declared.nesting.Opening.TheVariants.{Parenthesis, Case}
use Rattle.sql_tree.specs.declared.nesting.Effect.{Effect}
use Rattle.sql_tree.specs.declared.nesting.Effect.TheVariants.{Opens, Closes, Ends, Keeps}

-- the bytes are the same
abbrev pub same_bytes : List ℕ → List ℕ → Bool
same_bytes bytes others = pointwise nat_eq bytes others

-- what an operator does: `(` opens a level, `)` closes down to and with a parenthesis
abbrev pub effect_of_sign : List ℕ → Effect
effect_of_sign sign =
    if same_bytes sign (codes "(") then Opens Parenthesis
    else (if same_bytes sign (codes ")") then Closes
    else Keeps)

-- what a word does: CASE opens a level, END ends a CASE
abbrev pub effect_of_word : List ℕ → Effect
effect_of_word word =
    if same_bytes (folded word) (spelling keyword.Case) then Opens Case
    else (if same_bytes (folded word) (spelling keyword.End) then Ends
    else Keeps)

-- what a token of the kind with these bytes does
abbrev pub effect_by : TokenKind → List ℕ → Effect
effect_by Op bytes = effect_of_sign bytes
effect_by Word bytes = effect_of_word bytes
effect_by _ bytes = Keeps

-- what the token does
unfoldable pub effect_of : List ℕ → Token → Effect
effect_of text token = effect_by token.kind (span text token)

-- the levels around the innermost parenthesis, if one is open
abbrev pub around : List Opening → Option (List Opening)
around [] = None
around (Parenthesis ∷ levels) = Some levels
around (Case ∷ levels) = around levels

-- the levels, or the others if there are some
abbrev pub others_or : List Opening → Option (List Opening) → List Opening
others_or levels None = levels
others_or levels (Some others) = others

-- without the levels down to and with the innermost parenthesis, where one is open
abbrev pub closed : List Opening → List Opening
closed levels = others_or levels (around levels)

-- without the innermost level, where a CASE opened it
abbrev pub ended : List Opening → List Opening
ended (Case ∷ levels) = levels
ended levels = levels

-- the open levels behind a token that does this, innermost first
abbrev pub turned : Effect → List Opening → List Opening
turned (Opens opening) levels = opening ∷ levels
turned Closes levels = closed levels
turned Ends levels = ended levels
turned Keeps levels = levels

-- the open levels behind the token
abbrev pub behind : List ℕ → List Opening → Token → List Opening
behind text levels token = turned (effect_of text token) levels

-- the open levels behind the tokens, innermost first, each by what opened it
abbrev pub levels : List ℕ → List Token → List Opening
levels text tokens = fold (behind text) [] tokens

-- how many levels are open behind the tokens
abbrev pub depth : List ℕ → List Token → ℕ
depth text tokens = length (levels text tokens)

-- the place is the start of the first token behind which more than 100 levels are open
pub record FirstTooDeep (text : List ℕ) (tokens : List Token) (at : ℕ) : Type 0 where
  pub before : List Token
  pub token : Token
  pub rest : List Token
  pub whole : tokens ≡ before ++ token ∷ rest
  pub place : at ≡ token.start
  pub deep : 100 < depth text (before ++ token ∷ [])
  pub shallow : (front back : List Token) → before ≡ front ++ back → depth text front ≤ 100

-- that place is what was found, unless memory ran out
abbrev pub IsFoundAt : ℕ → Result (Option ℕ) AllocError → Type 0
IsFoundAt at (Ok found) = found ≡ Some at
IsFoundAt at (Err fault) = Unit {0}
