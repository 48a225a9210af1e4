use Rattle.std.proofs.Common.{◌≡◌}
use Rattle.alter_disk.proofs.Moments.{goes_far}
use Rattle.rollback_journal.specs.Standing.{standing}
use Rattle.rollback_journal.proofs.Closing.{trimmed, trim_stops, closed, close_stops}
use Rattle.rollback_journal.proofs.replay.Replay.restore.Goals as goal

pub returns-in_err-shorten-clause-stops : goal.returns-in_err-shorten-clause-stops
returns-in_err-shorten-clause-stops g c = λ f told ready rests.
    goes_far g.D.Disk _ _ _ (λ c. standing c ≡ standing f) (c.play.ensures.stops f told ready rests)
    (trim_stops g.D.Disk f c.args.self.now.header ready.playable _ _ (c.in_ok-play.ensures.played f told ready rests) c.shorten.ensures.changes)

pub returns-in_default-clause-stops : goal.returns-in_default-clause-stops
returns-in_default-clause-stops g c = λ f told ready rests.
    let h = c.args.self.now.header in
    let was = c.in_ok-play.ensures.played f told ready rests in
    let cut = trimmed g.D.Disk f h ready.playable _ _ was c.in_ok-shorten.ensures.shortened c.shorten.ensures.changes in
    goes_far g.D.Disk _ _ _ (λ c. standing c ≡ standing f)
    (goes_far g.D.Disk _ _ _ (λ c. standing c ≡ standing f) (c.play.ensures.stops f told ready rests) (trim_stops g.D.Disk f h ready.playable _ _ was c.shorten.ensures.changes))
    (close_stops g.D.Disk f h ready.playable _ _ cut c.write_and_sync.ensures.changes)

pub returns-clause-stops : goal.returns-clause-stops
returns-clause-stops g c = λ f told ready rests.
    let h = c.args.self.now.header in
    let was = c.in_ok-play.ensures.played f told ready rests in
    let cut = trimmed g.D.Disk f h ready.playable _ _ was c.in_ok-shorten.ensures.shortened c.shorten.ensures.changes in
    goes_far g.D.Disk _ _ _ (λ c. standing c ≡ standing f)
    (goes_far g.D.Disk _ _ _ (λ c. standing c ≡ standing f) (c.play.ensures.stops f told ready rests) (trim_stops g.D.Disk f h ready.playable _ _ was c.shorten.ensures.changes))
    (close_stops g.D.Disk f h ready.playable _ _ cut c.write_and_sync.ensures.changes)

pub returns-clause-recovered : goal.returns-clause-recovered
returns-clause-recovered g c = λ f told ready rests.
    let h = c.args.self.now.header in
    let was = c.in_ok-play.ensures.played f told ready rests in
    let cut = trimmed g.D.Disk f h ready.playable _ _ was c.in_ok-shorten.ensures.shortened c.shorten.ensures.changes in
    closed g.D.Disk f h ready.playable _ _ cut c.in-Ok.ensures.written c.write_and_sync.ensures.changes
