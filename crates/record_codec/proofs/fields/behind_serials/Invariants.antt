use Rattle.std.proofs.Common.{◌≡◌, ℕ, List, ◌++◌, length}
use Rattle.record_codec.specs.Record.{AreSerials}
use Rattle.record_codec.proofs.fields.behind_serials.Given as goal

-- some serial types stand in front of the rest
abbrev pub invariant-loop-behind : goal.invariant-loop-behind
invariant-loop-behind l = (front : List ℕ) × (serials : List ℕ) × (l.types ≡ front ++ l.rest) × AreSerials serials front

abbrev pub decreases-loop-behind : goal.decreases-loop-behind
decreases-loop-behind l = length l.rest
