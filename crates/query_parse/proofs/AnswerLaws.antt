-- What the fault of a reading function says as that of a whole text.
use Rattle.std.specs.Prelude.{◌≡◌, List, [], Some, Err}
use Rattle.sql_token.specs.declared.token.Token.{Token}
use Rattle.sql_reader.specs.Reading.{Read}
use Rattle.sql_reader.specs.declared.error.ReadError.{ReadError}
use Rattle.sql_reader.specs.declared.error.ReadError.TheVariants.{Memory, Syntax}
use Rattle.query_parse.specs.Answers.{OnSyntax, ReadsAll, fault_of}

-- it is `Syntax` only where nothing is read of all tokens
pub unread : {A : Type 0} (B : Type 0) (read : Read A) (tokens : List Token) (fault : ReadError) (holds : Type 0)
    → (((x : A) → read tokens ≡ Some (x, []) → ⊥) → holds) → ReadsAll read tokens (Err fault) → OnSyntax {A = B} (Err (fault_of fault)) holds
unread B read tokens (Memory fault) holds so told = tt
unread B read tokens Syntax holds so told = so told
