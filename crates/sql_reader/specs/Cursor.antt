-- A cursor over the tokens of a text, and what a function that reads gives there.
use Rattle.std.specs.Prelude.{◌≡◌, Some, None, Result, Ok, Err}
use Rattle.sql_token.specs.declared.token.Token.{Token}
use Rattle.sql_reader.specs.declared.error.ReadError.{ReadError}
use Rattle.sql_reader.specs.declared.error.ReadError.TheVariants.{Memory, Syntax}
use Rattle.sql_reader.specs.declared.sort.Sort.{Sort}
use Rattle.sql_reader.specs.Sorts.{sort_of}
use Rattle.sql_reader.specs.Reading.{Read}
pub use Rattle.sql_reader.specs.Input.{Input}

-- A reading function at the cursor gives this result: what it reads and the tokens behind it, or `Syntax` where it reads
-- nothing, unless memory runs out.
abbrev pub Gives : {A : Type 0} → ((Token → Sort) → Read A) → Result A ReadError → Input → Input → Type 0
Gives read (Ok x) old new = (read (sort_of old.text) old.left ≡ Some (x, new.left)) × (new.text ≡ old.text)
Gives read (Err (Memory fault)) old new = Unit {0}
Gives read (Err Syntax) old new = read (sort_of old.text) old.left ≡ None

-- A call that takes no memory finds this: what the reading function reads and the tokens behind it, or `Syntax` where it
-- reads nothing. It never wants memory.
abbrev pub Finds : {A : Type 0} → ((Token → Sort) → Read A) → Result A ReadError → Input → Input → Type 0
Finds read (Ok x) old new = (read (sort_of old.text) old.left ≡ Some (x, new.left)) × (new.text ≡ old.text)
Finds read (Err (Memory fault)) old new = ⊥
Finds read (Err Syntax) old new = read (sort_of old.text) old.left ≡ None
