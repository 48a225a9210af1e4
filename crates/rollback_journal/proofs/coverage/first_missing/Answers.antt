use Rattle.std.proofs.Common.{inl, inr, refl, sym, arith}
use Rattle.rollback_journal.specs.Playback.{first_missing}
use Rattle.rollback_journal.proofs.Marked.{not_missing, is_missing}
use Rattle.rollback_journal.proofs.coverage.first_missing.Goals as goal
use Rattle.rollback_journal.proofs.coverage.first_missing.Goals.{else-not-marked-via-then-not-marked+else-len-number, else-not-marked-via-else-not-marked}

pub loop-index-init : goal.loop-index-init
unfolding first_missing
loop-index-init c = λ entries db marked long. refl

pub returns-then-len-number : goal.returns-then-len-number
returns-then-len-number c = λ entries db marked long.
    sym (is_missing c.args.page c.args.len c.loop-index.index c.args.marks.now entries db marked c.loop-index-test.true long (c.loop-index.invariant entries db marked long) c.if-not-marked.true c.if-len-number.true)

pub loop-index-preserved : goal.loop-index-preserved
loop-index-preserved c = λ entries db marked long.
    not_missing c.args.page c.args.len c.loop-index.index c.args.marks.now entries db marked (omega arith) long (c.loop-index.invariant entries db marked long)
    (elim c.else-not-marked.branch [
      | else-not-marked-via-then-not-marked+else-len-number w ↦ inr w.if-len-number.false
      | else-not-marked-via-else-not-marked w ↦ inl w.if-not-marked.false
    ])
