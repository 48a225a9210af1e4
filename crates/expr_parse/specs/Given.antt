-- What a function gives that reads the trees inside a tree by functions that are handed in.
use Rattle.std.specs.Prelude.{Result, ℕ}
use denote.Ref.{MutBor}
use Rattle.std.specs.declared.alloc.Global.{Global}
use Rattle.sql_token.specs.declared.token.Token.{Token}
use Rattle.sql_reader.specs.Cursor.{Gives}
use Rattle.sql_reader.specs.Input.{Input}
use Rattle.sql_reader.specs.Reading.{Read}
use Rattle.sql_reader.specs.declared.error.ReadError.{ReadError}
use Rattle.sql_reader.specs.declared.sort.Sort.{Sort}
use Rattle.query_reading.specs.Exprs.{Inner}
use Rattle.query_reading.specs.Levels.{read_at}

-- the reading function gives this result at the cursor, where the trees inside are those that nest less deep than the bound
abbrev pub GivesAt : {A : Type 0} → ℕ → ((Token → Sort) → Inner → Read A) → Result A ReadError → Input → Input → Type 0
GivesAt left read result old new = Gives (λ sort. read sort (read_at sort left)) result old new

-- a function that is handed in may be called with the bound, and gives what the reading function gives
pub record ReadsAt {A : Type 0} (left : ℕ) (read : (Token → Sort) → Inner → Read A) (pre : Global → MutBor Input → ℕ → Type 0)
    (post : Global → MutBor Input → ℕ → Result A ReadError → MutBor Input → Type 0) : Type 0 where
  pub callable : (alloc : Global) (old : MutBor Input) → pre alloc old left
  pub gives : (alloc : Global) (old new : MutBor Input) (result : Result A ReadError) → post alloc old left result new
      → GivesAt left read result old.now new.now
