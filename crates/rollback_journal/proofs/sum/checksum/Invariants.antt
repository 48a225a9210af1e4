use Rattle.std.proofs.Common.{◌≡◌, ◌≤◌, ◌+◌, ◌*◌}
use Rattle.rollback_journal.specs.Checksum.{sum_back}
use Rattle.rollback_journal.proofs.sum.checksum.Given as goal

-- the sum over the places so far, each of which adds a byte at most
abbrev pub invariant-loop-places : goal.invariant-loop-places
invariant-loop-places l = (l.sum ≡ sum_back l.fn.nonce l.page l.places) × (l.sum ≤ l.fn.nonce + 255 * l.places)
