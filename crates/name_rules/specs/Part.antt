-- The part of a use that a renaming replaces: the name that is asked for, or the qualifier before it.
use Rattle.std.specs.Prelude.{ℕ, List, [], ◌∷◌, Option, Some, None}
use Rattle.name_scope.specs.declared.level.Sight.{Sight}

-- the name that is asked for, or its qualifier
pub data Part : Type 0 where
  Name : Part
  Qualifier : Part

-- the part of a spelling; a name alone has no qualifier
abbrev pub part_in : Part → List (List ℕ) → Option (List ℕ)
part_in Name (name ∷ []) = Some name
part_in Name (source ∷ name ∷ []) = Some name
part_in Name (database ∷ source ∷ name ∷ []) = Some name
part_in Qualifier (source ∷ name ∷ []) = Some source
part_in Qualifier (database ∷ source ∷ name ∷ []) = Some source
part_in _ _ = None

-- the spelling with another name in the part, where it has the part
abbrev pub with_part : Part → List ℕ → List (List ℕ) → List (List ℕ)
with_part Name new (name ∷ []) = new ∷ []
with_part Name new (source ∷ name ∷ []) = source ∷ new ∷ []
with_part Name new (database ∷ source ∷ name ∷ []) = database ∷ source ∷ new ∷ []
with_part Qualifier new (source ∷ name ∷ []) = new ∷ name ∷ []
with_part Qualifier new (database ∷ source ∷ name ∷ []) = database ∷ new ∷ name ∷ []
with_part _ new spelling = spelling

-- the name of a binder, or of its source
abbrev pub part_of : Part → Sight → Option (List ℕ)
part_of Name s = s.binder.name
part_of Qualifier s = s.qualifier

-- the binder with another name, or of a source with another name
abbrev pub with_name : Part → List ℕ → Sight → Sight
with_name Name new s = record s { binder = record s.binder { name = Some new } }
with_name Qualifier new s = record s { qualifier = Some new }
