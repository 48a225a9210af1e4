-- The answer to which of the binders that are seen a use denotes.
use Rattle.std.specs.Prelude.{◌≡◌, ◌≢◌, ℕ, List, []}
use Rattle.name_scope.specs.declared.rank.Denoted.{Denoted}
use Rattle.name_scope.specs.declared.rank.Denoted.TheVariants.{One, Unknown, Ambiguous}
use Rattle.name_scope.specs.Rank.{Seen, Denotes}

-- two at the least rank denote nothing, and neither does none
abbrev pub IsFound : List Seen → Denoted → Type 0
IsFound seen (One place) = Denotes seen place
IsFound seen Unknown = seen ≡ []
IsFound seen Ambiguous = (seen ≢ []) × ((place : ℕ) → ¬ Denotes seen place)
