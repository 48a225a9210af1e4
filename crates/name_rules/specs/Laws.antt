-- What a renaming without a clash keeps, and what a clash changes.
use Rattle.std.specs.Prelude.{◌≡◌, ℕ, List, map, Option, option_map}
use Rattle.std.specs.List.{AllByRecursion}
use Rattle.name_scope.specs.Rank.{Seen}
use Rattle.name_rules.specs.Added.{AddedCaptures, AreAdded}
use Rattle.name_rules.specs.Asked.{AreNamed, Asked, AskedClashes, IsRight, Met, asked_behind}
use Rattle.name_rules.specs.Clash.{Clashes}
use Rattle.name_rules.specs.Meaning.{IsAnswer, Means}
use Rattle.name_rules.specs.Renaming.{HasOldNames, Renaming, renamed, respelled}

-- a use means one binder at most
abbrev pub OneIsMeant : Type 0
OneIsMeant = (binders : List Seen) (spelling : List (List ℕ)) (s t : Seen) → Means binders spelling s → Means binders spelling t → s ≡ t

-- where a use does not clash, it has behind the renaming the counterpart of its answer
abbrev pub UsesStay : Type 0
UsesStay = (r : Renaming) (binders : List Seen) (spelling : List (List ℕ)) (answer : Option Seen) → HasOldNames r binders
    → IsAnswer binders spelling answer → ¬ Clashes r binders spelling answer
    → IsAnswer (map (renamed r) binders) (respelled r spelling answer) (option_map (renamed r) answer)

-- where it clashes, it has another answer behind the renaming, or none
abbrev pub ClashesTell : Type 0
ClashesTell = (r : Renaming) (binders : List Seen) (spelling : List (List ℕ)) (answer : Option Seen) → HasOldNames r binders
    → IsAnswer binders spelling answer → Clashes r binders spelling answer
    → ¬ IsAnswer (map (renamed r) binders) (respelled r spelling answer) (option_map (renamed r) answer)

-- where no use of a schema clashes, each has behind the renaming the counterpart of its answer
abbrev pub SchemaStays : Type 0
SchemaStays = (met : Met) (uses : List Asked) → AllByRecursion (λ a. AreNamed (met a.question) a) uses → AllByRecursion IsRight uses
    → AllByRecursion (λ a. ¬ AskedClashes (met a.question) a) uses → AllByRecursion (λ a. IsRight (asked_behind (met a.question) a)) uses

-- where one clashes, not every one has
abbrev pub SchemaTells : Type 0
SchemaTells = (met : Met) (uses : List Asked) → AllByRecursion (λ a. AreNamed (met a.question) a) uses → AllByRecursion IsRight uses
    → AllByRecursion (λ a. IsRight (asked_behind (met a.question) a)) uses → AllByRecursion (λ a. ¬ AskedClashes (met a.question) a) uses

-- where no new binder captures a use, it keeps its answer behind the addition
abbrev pub AddedStays : Type 0
AddedStays = (before new after : List Seen) (spelling : List (List ℕ)) (answer : Option Seen) → AreAdded before new after
    → IsAnswer before spelling answer → ¬ AddedCaptures new spelling answer → IsAnswer after spelling answer

-- where one does, it does not
abbrev pub AddedTells : Type 0
AddedTells = (before new after : List Seen) (spelling : List (List ℕ)) (answer : Option Seen) → AreAdded before new after
    → IsAnswer before spelling answer → AddedCaptures new spelling answer → ¬ IsAnswer after spelling answer
