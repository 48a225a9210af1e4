use Rattle.std.proofs.Common.{◌≡◌, ◌++◌, drop}
use Rattle.sql_token.specs.Names.{folded}
use Rattle.name_scope.proofs.columns.folded_copy.Given as goal

-- what is copied, and then the rest, is all
abbrev pub invariant-loop-byte : goal.invariant-loop-byte
invariant-loop-byte l = l.copy.items ++ folded (drop l.byte-index l.byte-items) ≡ folded l.name
