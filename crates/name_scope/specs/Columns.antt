-- The columns of an object by their names.
use Rattle.std.specs.Prelude.{ℕ, nat_eq, Bool, false, List, Option}
use Rattle.std.specs.Option.{option_map_or}
use Rattle.std.specs.List.{position_from}
use Rattle.std.specs.Cmp.Lexicographic.{pointwise}
use Rattle.sql_token.specs.Names.{folded}
use Rattle.name_scope.specs.declared.level.Binder.{Binder}

-- a column has this name, which is folded
abbrev pub has_folded_name : List ℕ → Binder → Bool
has_folded_name name column = option_map_or (λ own. pointwise nat_eq (folded own) name) column.name false

-- the place of the first column whose folded name this is
abbrev pub ordinal_in : List Binder → List ℕ → Option ℕ
ordinal_in columns name = position_from (has_folded_name name) 0 columns
