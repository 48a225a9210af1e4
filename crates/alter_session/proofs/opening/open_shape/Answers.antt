use Rattle.std.proofs.Common.{◌≡◌, ap, is_some, ◌∙◌, subst, sym}
use Rattle.std.proofs.lemmas.Result.{IfOk-weaker, MatchResult-weaker}
use Rattle.alter_disk.proofs.Moments.{goes_far, reads_on}
use Rattle.rollback_journal.specs.Recovery.{recovered}
use Rattle.rollback_journal.specs.Standing.{standing}
use Rattle.rollback_journal.proofs.Closing.{rests_stay}
use Rattle.alter_session.specs.Opening.{IsUnshaped, ShapesBytes}
use Rattle.alter_session.proofs.Recoveries.{behind_durable, came_back, keeps_durable, keeps_read, recovered_stops, unshaped}
use Rattle.alter_session.proofs.opening.open_shape.Goals as goal

pub recover-requires-clause-settled : goal.recover-requires-clause-settled
recover-requires-clause-settled g c = λ f told. c.in_ok-make_durable.ensures.rests f (sym c.make_durable.ensures.files ∙ told)

pub returns-clause-shaped : goal.returns-clause-shaped
returns-clause-shaped g c = IfOk-weaker c.read_shape.result _ _ (λ shape so f told.
    let told_mid = c.make_durable.ensures.files ∙ told in
    let back = came_back g.D.Disk f _ _ (c.recover.ensures.stays.telling ∙ ap is_some told_mid) (c.in_ok-recover.ensures.recovered f told_mid) in
    record {
      bytes = back.bytes;
      stood = back.stood;
      shapes = subst (λ b. ShapesBytes b shape) back.db (so (recovered f) back.told);
      rests = rests_stay g.D.Disk (recovered f) _ _ back.rests c.read_shape.ensures.reads;
    }) c.read_shape.ensures.shaped

pub returns-clause-refused : goal.returns-clause-refused
returns-clause-refused g c = MatchResult-weaker c.read_shape.result c.read_shape.ensures.refused (λ shape so. so) (λ cause so f told.
    let told_mid = c.make_durable.ensures.files ∙ told in
    let back = came_back g.D.Disk f _ _ (c.recover.ensures.stays.telling ∙ ap is_some told_mid) (c.in_ok-recover.ensures.recovered f told_mid) in
    unshaped g.D.Disk f back.bytes cause _ back.stood (rests_stay g.D.Disk (recovered f) _ _ back.rests c.read_shape.ensures.reads)
    (subst (λ b. IsUnshaped b cause) back.db (so (recovered f) back.told)))

pub returns-in_err-make_durable-clause-kept : goal.returns-in_err-make_durable-clause-kept
returns-in_err-make_durable-clause-kept g c = λ f told cold. keeps_durable g.D.Disk f _ _ told c.make_durable.ensures.files c.make_durable.ensures.stops

pub returns-in_err-recover-clause-kept : goal.returns-in_err-recover-clause-kept
returns-in_err-recover-clause-kept g c = λ f told cold.
    keeps_read g.D.Disk f _ _ _ (keeps_durable g.D.Disk f _ _ told c.make_durable.ensures.files c.make_durable.ensures.stops) (c.in_ok-make_durable.ensures.rests f told)
    (c.recover.ensures.kept f (c.make_durable.ensures.files ∙ told) cold)

pub returns-clause-kept : goal.returns-clause-kept
returns-clause-kept g c = λ f told cold.
    keeps_read g.D.Disk f _ _ _ (keeps_durable g.D.Disk f _ _ told c.make_durable.ensures.files c.make_durable.ensures.stops) (c.in_ok-make_durable.ensures.rests f told)
    (reads_on g.D.Disk _ _ _ (c.recover.ensures.kept f (c.make_durable.ensures.files ∙ told) cold) c.read_shape.ensures.reads)

pub returns-clause-stops : goal.returns-clause-stops
returns-clause-stops g c = λ f told.
    let told_mid = c.make_durable.ensures.files ∙ told in
    let back = came_back g.D.Disk f _ _ (c.recover.ensures.stays.telling ∙ ap is_some told_mid) (c.in_ok-recover.ensures.recovered f told_mid) in
    goes_far g.D.Disk _ _ _ (λ c. standing c ≡ standing f) (behind_durable g.D.Disk _ _ _ _ c.make_durable.ensures.stops (c.recover.ensures.stops f told_mid))
    (recovered_stops g.D.Disk f _ _ back.rests c.read_shape.ensures.reads)
