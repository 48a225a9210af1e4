-- Scripts: pieces between `;`, each empty or a command; and why a text is none.
use Rattle.std.specs.Prelude.{◌≡◌, ◌<◌, ◌≤◌, ℕ, Bool, if◌then◌else◌, List, [], ◌∷◌, ◌++◌, length}
use Rattle.std.specs.List.{AllByRecursion}
use Rattle.sql_token.specs.declared.token.Token.{Token}
use Rattle.sql_token.specs.Token.{AreTokens, FirstBad}
use Rattle.sql_reader.specs.declared.sort.Mark.TheVariants.{Semicolon}
use Rattle.sql_reader.specs.Looks.{sign}
use Rattle.sql_reader.specs.Sorts.{sort_of}
use Rattle.sql_tree.specs.Nesting.{FirstTooDeep}
use Rattle.sql_tree.specs.declared.command.Command.{Command}
use Rattle.script_parse.specs.Command.{IsCommand}
use Rattle.script_parse.specs.declared.error.Cause.{Cause}
use Rattle.script_parse.specs.declared.error.Cause.TheVariants.{TooLong, BadToken, Depth, TooMany, Syntax}
use Rattle.script_parse.specs.declared.error.ScriptError.{ScriptError}
use Rattle.script_parse.specs.declared.error.ScriptError.TheVariants.{Memory, At}

-- the token is a `;`
abbrev pub is_end : List ℕ → Token → Bool
is_end text token = sign Semicolon (sort_of text token)

-- the tokens before the first `;`
abbrev pub first_piece : List ℕ → List Token → List Token
first_piece text [] = []
first_piece text (token ∷ tokens) = if is_end text token then [] else token ∷ first_piece text tokens

-- the tokens behind the first `;`
abbrev pub behind_first : List ℕ → List Token → List Token
behind_first text [] = []
behind_first text (token ∷ tokens) = if is_end text token then tokens else behind_first text tokens

-- the piece behind each `;`, up to the next or the end
abbrev pub later_pieces : List ℕ → List Token → List (List Token)
later_pieces text [] = []
later_pieces text (token ∷ tokens) =
    if is_end text token then first_piece text tokens ∷ later_pieces text tokens else later_pieces text tokens

-- the pieces without the empty ones
abbrev pub filled : List (List Token) → List (List Token)
filled [] = []
filled ([] ∷ pieces) = filled pieces
filled ((token ∷ tokens) ∷ pieces) = (token ∷ tokens) ∷ filled pieces

-- the pieces between the script's start, its `;` and its end that are not empty, in order
abbrev pub pieces_of : List ℕ → List Token → List (List Token)
pieces_of text tokens = filled (first_piece text tokens ∷ later_pieces text tokens)

-- each piece is the command at its place
abbrev pub AreCommands : List ℕ → List (List Token) → List Command → Type 0
AreCommands text [] [] = Unit {0}
AreCommands text (piece ∷ pieces) (command ∷ commands) = IsCommand text piece command × AreCommands text pieces commands
AreCommands text pieces commands = ⊥

-- no token is nested too deep
abbrev pub IsShallow : List ℕ → List Token → Type 0
IsShallow text list = (at : ℕ) → FirstTooDeep text list at → ⊥

-- these are the tokens of a text that is neither too long nor nested too deep
pub record IsReadable (text : List ℕ) (list : List Token) : Type 0 where
  pub short : length text ≤ 1048576
  pub tokens : AreTokens text list
  pub shallow : IsShallow text list

-- the text is a script of these commands
pub record IsScript (text : List ℕ) (commands : List Command) : Type 0 where
  pub list : List Token
  pub readable : IsReadable text list
  pub spelled : AreCommands text (pieces_of text list) commands
  pub few : length commands ≤ 10000

-- the piece is a command
abbrev pub IsSpelled : List ℕ → List Token → Type 0
IsSpelled text piece = (command : Command) × IsCommand text piece command

-- the piece begins at the place
abbrev pub BeginsAt : ℕ → List Token → Type 0
BeginsAt at [] = ⊥
BeginsAt at (token ∷ tokens) = at ≡ token.start

-- the place is the start of piece 10,001, and the 10,000 before it are commands
pub record IsTooMany (text : List ℕ) (pieces : List (List Token)) (at : ℕ) : Type 0 where
  pub before : List (List Token)
  pub piece : List Token
  pub behind : List (List Token)
  pub whole : pieces ≡ before ++ piece ∷ behind
  pub spelled : AllByRecursion (IsSpelled text) before
  pub count : length before ≡ 10000
  pub place : BeginsAt at piece

-- the place is the start of the first piece that is no command
pub record IsUnspelled (text : List ℕ) (pieces : List (List Token)) (at : ℕ) : Type 0 where
  pub before : List (List Token)
  pub piece : List Token
  pub behind : List (List Token)
  pub whole : pieces ≡ before ++ piece ∷ behind
  pub spelled : AllByRecursion (IsSpelled text) before
  pub fault : IsSpelled text piece → ⊥
  pub place : BeginsAt at piece

-- the cause holds of the text at the place, whatever else does
abbrev pub Holds : List ℕ → ℕ → Cause → Type 0
Holds text at TooLong = (1048576 < length text) × (at ≡ 1048576)
Holds text at BadToken = FirstBad text at
Holds text at Depth = (list : List Token) × AreTokens text list × FirstTooDeep text list at
Holds text at TooMany = (list : List Token) × AreTokens text list × IsTooMany text (pieces_of text list) at
Holds text at Syntax = (list : List Token) × AreTokens text list × IsUnspelled text (pieces_of text list) at

-- the causes that come before it
abbrev pub earlier : Cause → List Cause
earlier TooLong = []
earlier BadToken = TooLong ∷ []
earlier Depth = TooLong ∷ BadToken ∷ []
earlier TooMany = TooLong ∷ BadToken ∷ Depth ∷ []
earlier Syntax = TooLong ∷ BadToken ∷ Depth ∷ TooMany ∷ []

-- the cause holds of the text nowhere
abbrev pub NeverHolds : List ℕ → Cause → Type 0
NeverHolds text cause = (at : ℕ) → Holds text at cause → ⊥

-- it is the first cause that holds of the text, and it holds at the place
pub record IsFirstCause (text : List ℕ) (at : ℕ) (cause : Cause) : Type 0 where
  pub holds : Holds text at cause
  pub first : AllByRecursion (NeverHolds text) (earlier cause)

-- the error is want of memory, or the fact holds of its place and cause
abbrev pub OnRefused : (ℕ → Cause → Type 0) → ScriptError → Type 0
OnRefused P (Memory fault) = Unit {0}
OnRefused P (At at cause) = P at cause

-- the error is want of memory
abbrev pub IsMemory : ScriptError → Type 0
IsMemory error = OnRefused (λ at cause. ⊥) error

-- the cause, at the place, why a text's tokens spell no list of at most 10,000 commands
abbrev pub IsListFault : List ℕ → List Token → ℕ → Cause → Type 0
IsListFault text list at TooMany = IsTooMany text (pieces_of text list) at
IsListFault text list at Syntax =
    IsUnspelled text (pieces_of text list) at × ((place : ℕ) → IsTooMany text (pieces_of text list) place → ⊥)
IsListFault text list at cause = ⊥

-- behind the old commands, less than 10,000, comes the one that the piece is; or the piece is empty and they are all
abbrev pub IsTaken : List ℕ → List Token → List Command → List Command → Type 0
IsTaken text [] old new = new ≡ old
IsTaken text (token ∷ tokens) old new =
    (command : Command) × IsCommand text (token ∷ tokens) command
    × ((other : Command) → IsCommand text (token ∷ tokens) other → command ≡ other)
    × (new ≡ old ++ command ∷ []) × (length old < 10000)

-- the cause, at the piece's start, why it gives no further command
abbrev pub IsPieceFault : List ℕ → List Token → List Command → ℕ → Cause → Type 0
IsPieceFault text (token ∷ tokens) old at TooMany = (at ≡ token.start) × (length old ≡ 10000)
IsPieceFault text (token ∷ tokens) old at Syntax = (at ≡ token.start) × (length old < 10000) × (IsSpelled text (token ∷ tokens) → ⊥)
IsPieceFault text piece old at cause = ⊥
