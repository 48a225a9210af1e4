use Rattle.std.proofs.Common.{◌≢◌, ◌↔◌, length, AllPairs}
use Rattle.sql_token.specs.Names.{folded}
use Rattle.plain_sql.proofs.names.Names.are_apart.Given as goal

-- the names that are left decide
abbrev pub invariant-loop-rest : goal.invariant-loop-rest
invariant-loop-rest l = AllPairs (λ a b. folded a ≢ folded b) l.rest ↔ AllPairs (λ a b. folded a ≢ folded b) l.self

abbrev pub decreases-loop-rest : goal.decreases-loop-rest
decreases-loop-rest l = length l.rest
