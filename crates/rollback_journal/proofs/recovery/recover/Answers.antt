use Rattle.std.proofs.Common.{◌≡◌, sym, ◌∙◌}
use Rattle.alter_disk.proofs.Moments.{goes_far, reads_on}
use Rattle.rollback_journal.specs.Standing.{standing}
use Rattle.rollback_journal.proofs.Closing.{rests_stay, rest_stops, cold_recovered, played_changes}
use Rattle.rollback_journal.proofs.recovery.recover.Goals as goal

pub returns-in-Cold-clause-recovered : goal.returns-in-Cold-clause-recovered
returns-in-Cold-clause-recovered g c = λ f told.
    cold_recovered g.D.Disk f _ _ (c.requires.settled f told) c.hot.ensures.reads (sym (c.in-Ok.ensures.heat f told) ∙ c.in-Cold.is)

pub returns-in-Super-clause-stops : goal.returns-in-Super-clause-stops
returns-in-Super-clause-stops g c = λ f told. rest_stops g.D.Disk f _ _ (c.requires.settled f told) c.hot.ensures.reads

pub returns-in_err-replay-in-Hot-clause-stops : goal.returns-in_err-replay-in-Hot-clause-stops
returns-in_err-replay-in-Hot-clause-stops g c = λ f told.
    rest_stops g.D.Disk f _ _ (c.requires.settled f told) (reads_on g.D.Disk _ _ _ c.hot.ensures.reads c.prepare.ensures.reads)

pub returns-in_err-restore-in-Hot-clause-stops : goal.returns-in_err-restore-in-Hot-clause-stops
returns-in_err-restore-in-Hot-clause-stops g c = λ f told.
    let rests = c.requires.settled f told in
    let quiet = reads_on g.D.Disk _ _ _ c.hot.ensures.reads c.prepare.ensures.reads in
    let ready = c.in_ok-replay-in-Hot.ensures.ready f (c.hot.ensures.reads.only.files ∙ told) (sym (c.in-Ok.ensures.heat f told) ∙ c.in-Hot.is) in
    goes_far g.D.Disk _ _ _ (λ c. standing c ≡ standing f) (rest_stops g.D.Disk f _ _ rests quiet)
    (c.restore.ensures.stops f (quiet.only.files ∙ told) ready (rests_stay g.D.Disk f _ _ rests quiet))

pub returns-in_ok-restore-in-Hot-clause-stops : goal.returns-in_ok-restore-in-Hot-clause-stops
returns-in_ok-restore-in-Hot-clause-stops g c = λ f told.
    let rests = c.requires.settled f told in
    let quiet = reads_on g.D.Disk _ _ _ c.hot.ensures.reads c.prepare.ensures.reads in
    let ready = c.in_ok-replay-in-Hot.ensures.ready f (c.hot.ensures.reads.only.files ∙ told) (sym (c.in-Ok.ensures.heat f told) ∙ c.in-Hot.is) in
    goes_far g.D.Disk _ _ _ (λ c. standing c ≡ standing f) (rest_stops g.D.Disk f _ _ rests quiet)
    (c.restore.ensures.stops f (quiet.only.files ∙ told) ready (rests_stay g.D.Disk f _ _ rests quiet))

pub returns-in_ok-restore-in-Hot-clause-recovered : goal.returns-in_ok-restore-in-Hot-clause-recovered
returns-in_ok-restore-in-Hot-clause-recovered g c = λ f told.
    let rests = c.requires.settled f told in
    let quiet = reads_on g.D.Disk _ _ _ c.hot.ensures.reads c.prepare.ensures.reads in
    let ready = c.in_ok-replay-in-Hot.ensures.ready f (c.hot.ensures.reads.only.files ∙ told) (sym (c.in-Ok.ensures.heat f told) ∙ c.in-Hot.is) in
    c.in_ok-restore-in-Hot.ensures.recovered f (quiet.only.files ∙ told) ready (rests_stay g.D.Disk f _ _ rests quiet)

pub returns-in_err-restore-in-Hot-clause-kept : goal.returns-in_err-restore-in-Hot-clause-kept
returns-in_err-restore-in-Hot-clause-kept g c = λ f told same.
    let ready = c.in_ok-replay-in-Hot.ensures.ready f (c.hot.ensures.reads.only.files ∙ told) (sym (c.in-Ok.ensures.heat f told) ∙ c.in-Hot.is) in
    absurd (played_changes f _ ready.playable same)

pub returns-in_ok-restore-in-Hot-clause-kept : goal.returns-in_ok-restore-in-Hot-clause-kept
returns-in_ok-restore-in-Hot-clause-kept g c = λ f told same.
    let ready = c.in_ok-replay-in-Hot.ensures.ready f (c.hot.ensures.reads.only.files ∙ told) (sym (c.in-Ok.ensures.heat f told) ∙ c.in-Hot.is) in
    absurd (played_changes f _ ready.playable same)
