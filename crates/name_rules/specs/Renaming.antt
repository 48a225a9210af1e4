-- A renaming as it is met at one use, and what it makes of binders, spellings and answers.
use Rattle.std.specs.Prelude.{ℕ, Bool, cond, IsTrue, List, Option, Some, None}
use Rattle.name_scope.specs.declared.identity.Identity.{Identity}
use Rattle.name_scope.specs.Rank.{Seen}
use Rattle.name_scope.specs.Sees.{is_named}
use Rattle.name_rules.specs.Meaning.{IsAmong}
use Rattle.name_rules.specs.Part.{Part, part_of, with_name, with_part}

-- A renaming: the part of a use that it replaces, the two names, and which binders move, by their sources and what they stand for.
pub record Renaming : Type 0 where
  pub part : Part
  pub old : List ℕ
  pub new : List ℕ
  pub moves : Option Identity → Identity → Bool

abbrev pub is_moved : Renaming → Seen → Bool
is_moved r s = r.moves s.1.source s.1.binder.what

-- each binder that moves has the old name
abbrev pub HasOldNames : Renaming → List Seen → Type 0
HasOldNames r binders = (s : Seen) → IsAmong binders s → IsTrue (is_moved r s) → IsTrue (is_named r.old (part_of r.part s.1))

-- a binder behind the renaming: one that moves has the new name
abbrev pub renamed : Renaming → Seen → Seen
renamed r s = (s.0, cond (is_moved r s) (with_name r.part r.new s.1) s.1)

-- a spelling behind the renaming: where the answer moves, its part is the new name
abbrev pub respelled : Renaming → List (List ℕ) → Option Seen → List (List ℕ)
respelled r spelling (Some t) = cond (is_moved r t) (with_part r.part r.new spelling) spelling
respelled r spelling None = spelling
