-- What a function gives whose trees inside nest less deep than a bound.
use Rattle.std.specs.Prelude.{◌≡◌, List, Result, Ok, Err, ℕ}
use Rattle.sql_token.specs.declared.token.Token.{Token}
use Rattle.sql_reader.specs.Cursor.{Gives}
use Rattle.sql_reader.specs.Input.{Input}
use Rattle.sql_reader.specs.Reading.{Read}
use Rattle.sql_reader.specs.declared.error.ReadError.{ReadError}
use Rattle.sql_reader.specs.declared.error.ReadError.TheVariants.{Memory, Syntax}
use Rattle.sql_reader.specs.declared.sort.Sort.{Sort}
use Rattle.query_reading.specs.Exprs.{Inner}
use Rattle.query_reading.specs.Levels.{read_at}
use Rattle.table_reading.specs.Handed.{Outer, over}

-- the reading function gives this result at the cursor, where the trees inside nest less deep than the bound
abbrev pub GivesAt : {A : Type 0} → ℕ → ((Token → Sort) → Inner → Read A) → Result A ReadError → Input → Input → Type 0
GivesAt levels read result old new = Gives (λ sort. read sort (read_at sort levels)) result old new

-- the same of a reading function that makes keys of expressions
abbrev pub GivesKeys : {A : Type 0} → ℕ → ((Token → Sort) → ℕ → Inner → Read A) → Result A ReadError → Input → Input → Type 0
GivesKeys levels read result old new = Gives (λ sort. read sort levels (read_at sort levels)) result old new

-- the same of a reading function that looks at words of the text
abbrev pub GivesOver : {A : Type 0} → List ℕ → ℕ → ((Token → Sort) → Outer → Read A) → Result A ReadError → Input → Input → Type 0
GivesOver text levels read result old new = Gives (λ sort. read sort (over text levels (read_at sort levels))) result old new

-- the answer is this tree, unless memory ran out
abbrev pub IsReadAs : {A : Type 0} → A → Result A ReadError → Type 0
IsReadAs tree (Ok x) = x ≡ tree
IsReadAs tree (Err (Memory fault)) = Unit {0}
IsReadAs tree (Err Syntax) = ⊥
