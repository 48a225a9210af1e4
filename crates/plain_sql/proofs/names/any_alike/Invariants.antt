use Rattle.std.proofs.Common.{◌≡◌, drop, nat_eq}
use Rattle.std.specs.List.{list_any}
use Rattle.std.specs.Cmp.Lexicographic.{pointwise}
use Rattle.sql_token.specs.Names.{folded}
use Rattle.plain_sql.proofs.names.any_alike.Given as goal

-- the names that are left decide
abbrev pub invariant-loop-other : goal.invariant-loop-other
invariant-loop-other l =
    list_any (λ c. pointwise nat_eq (folded l.name) (folded c)) (drop l.other-index l.names)
    ≡ list_any (λ c. pointwise nat_eq (folded l.name) (folded c)) l.names
