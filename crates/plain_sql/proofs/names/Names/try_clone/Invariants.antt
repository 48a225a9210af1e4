use Rattle.std.proofs.Common.{◌≡◌, ◌++◌, drop}
use Rattle.plain_sql.proofs.names.Names.try_clone.Given as goal

-- the names that are copied, and then the others, are all
abbrev pub invariant-loop-name : goal.invariant-loop-name
invariant-loop-name l = l.names.items ++ drop l.name-index l.self ≡ l.self
