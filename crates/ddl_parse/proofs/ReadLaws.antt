-- What is known of the answer of a function that reads all tokens.
use Rattle.std.proofs.Common.{◌≡◌, List, [], Some, Result, Ok, Err, IfOk}
use Rattle.sql_token.specs.declared.token.Token.{Token}
use Rattle.sql_reader.specs.Reading.{Read}
use Rattle.sql_reader.specs.declared.error.ReadError.{ReadError}
use Rattle.sql_reader.specs.declared.error.ReadError.TheVariants.{Memory, Syntax}
use Rattle.query_parse.specs.Answers.{ReadsAll}
use Rattle.ddl_parse.specs.Given.{IsReadAs}

-- what holds of each tree that is read of all tokens holds of the answer
pub read_holds : {A : Type 0} (read : Read A) (tokens : List Token) (holds : A → Type 0) (result : Result A ReadError)
    → ((x : A) → read tokens ≡ Some (x, []) → holds x) → ReadsAll read tokens result → IfOk result holds
read_holds read tokens holds (Ok x) so all = so x all
read_holds read tokens holds (Err fault) so all = tt

-- where this tree is read of all tokens and no other is, the answer is this tree
pub read_only : {A : Type 0} (read : Read A) (tokens : List Token) (tree : A) (result : Result A ReadError)
    → ((x : A) → read tokens ≡ Some (x, []) → x ≡ tree) → read tokens ≡ Some (tree, []) → ReadsAll read tokens result → IsReadAs tree result
read_only read tokens tree (Ok x) one read_so all = one x all
read_only read tokens tree (Err (Memory fault)) one read_so all = tt
read_only read tokens tree (Err Syntax) one read_so all = all tree read_so
