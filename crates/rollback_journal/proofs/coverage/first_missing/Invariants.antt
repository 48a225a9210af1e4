use Rattle.std.proofs.Common.{◌≡◌, ℕ, List, length, None}
use Rattle.rollback_journal.specs.Records.{Entry}
use Rattle.rollback_journal.specs.Playback.{first_missing}
use Rattle.rollback_journal.specs.Recovery.{IsMarked}
use Rattle.rollback_journal.proofs.coverage.first_missing.Given as goal

-- no page so far is missing
abbrev pub invariant-loop-index : goal.invariant-loop-index
invariant-loop-index l = (entries : List Entry) (db : List ℕ) → IsMarked entries l.marks → l.len ≡ length db → first_missing l.page l.index entries db ≡ None
