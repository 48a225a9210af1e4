-- What the answers of the calls that read a whole text say.
use Rattle.std.specs.Prelude.{◌≡◌, ℕ, List, [], Option, Some, Result, Ok, Err}
use Rattle.sql_token.specs.declared.token.Token.{Token}
use Rattle.sql_reader.specs.Reading.{Read}
use Rattle.sql_reader.specs.declared.error.ReadError.{ReadError}
use Rattle.sql_reader.specs.declared.error.ReadError.TheVariants as Read'
use Rattle.sql_tree.specs.Nesting.{FirstTooDeep}
use Rattle.query_parse.specs.declared.error.ParseError.{ParseError}
use Rattle.query_parse.specs.declared.error.ParseError.TheVariants.{Memory, Depth, Syntax}

-- no token is nested too deep
abbrev pub NoneTooDeep : List ℕ → List Token → Type 0
NoneTooDeep text tokens = (at : ℕ) → FirstTooDeep text tokens at → ⊥

-- the answer tells whether the tokens are nested too deep, and where first, unless memory ran out
abbrev pub TellsDepth : {A : Type 0} → List ℕ → List Token → Result A ParseError → Type 0
TellsDepth text tokens (Ok x) = NoneTooDeep text tokens
TellsDepth text tokens (Err (Memory fault)) = Unit {0}
TellsDepth text tokens (Err (Depth at)) = FirstTooDeep text tokens at
TellsDepth text tokens (Err Syntax) = NoneTooDeep text tokens

-- where the answer is `Syntax`, this holds
abbrev pub OnSyntax : {A : Type 0} → Result A ParseError → Type 0 → Type 0
OnSyntax (Ok x) holds = Unit {0}
OnSyntax (Err (Memory fault)) holds = Unit {0}
OnSyntax (Err (Depth at)) holds = Unit {0}
OnSyntax (Err Syntax) holds = holds

-- the fault that a reading function answers, as one of a whole text
abbrev pub fault_of : ReadError → ParseError
fault_of (Read'.Memory fault) = Memory fault
fault_of Read'.Syntax = Syntax

-- what is read of all tokens, or `Syntax` where nothing is, unless memory ran out
abbrev pub ReadsAll : {A : Type 0} → Read A → List Token → Result A ReadError → Type 0
ReadsAll read tokens (Ok x) = read tokens ≡ Some (x, [])
ReadsAll read tokens (Err (Read'.Memory fault)) = Unit {0}
ReadsAll {A} read tokens (Err Read'.Syntax) = (x : A) → read tokens ≡ Some (x, []) → ⊥
