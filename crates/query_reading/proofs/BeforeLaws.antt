-- A leaf that is taken where the test of its sort and of the sort behind it says so.
use Rattle.std.proofs.Common.{◌≡◌, Bool, not, ◌&&◌, if◌then◌else◌, List, [], ◌∷◌, Some, None, refl, sym, ap, ◌∙◌}
use Rattle.std.specs.Prelude.{Result, Ok, Err}
use Rattle.sql_token.specs.declared.token.Token.{Token}
use Rattle.sql_reader.specs.declared.error.ReadError.{ReadError}
use Rattle.sql_reader.specs.declared.error.ReadError.TheVariants.{Memory, Syntax}
use Rattle.sql_reader.specs.declared.sort.Sort.{Sort}
use Rattle.sql_reader.specs.Cursor.{Finds}
use Rattle.sql_reader.specs.Input.{Input, first_sort, second_sort}
use Rattle.sql_reader.specs.Looks.{Set, next_sort, behind_next}
use Rattle.sql_reader.specs.Reading.{read_leaf, read_leaf_before}
use Rattle.sql_reader.specs.Sorts.{sort_of}

same_leaf : (sort : Token → Sort) (set other : Set) (fits : Bool) (ts : List Token)
    → fits ≡ (set (next_sort sort ts) && not (other (next_sort sort (behind_next ts))))
    → read_leaf sort (λ _. fits) ts ≡ read_leaf_before sort set other ts
same_leaf sort set other fits [] is = refl
same_leaf sort set other fits (t ∷ ts) is = ap (λ b. if b then Some (t, ts) else None) is

-- where the test says what the sets do, the leaf is found
pub before_finds : (set other : Set) (fits : Bool) (r : Result Token ReadError) (old new : Input)
    → fits ≡ (set (first_sort old) && not (other (second_sort old)))
    → Finds (λ sort. read_leaf sort (λ _. fits)) r old new → Finds (λ sort. read_leaf_before sort set other) r old new
before_finds set other fits (Ok x) old new is found =
    (sym (same_leaf (sort_of old.text) set other fits old.left is) ∙ found.0, found.1)
before_finds set other fits (Err (Memory fault)) old new is found = found
before_finds set other fits (Err Syntax) old new is found =
    sym (same_leaf (sort_of old.text) set other fits old.left is) ∙ found
