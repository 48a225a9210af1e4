use Rattle.std.proofs.Common.{◌≡◌, refl, sym, subst, ◌∙◌, arith}
use Rattle.alter_disk.proofs.Moments.{started, goes_far, stays_on, stays_none, stays_read}
use Rattle.rollback_journal.specs.Standing.{standing}
use Rattle.rollback_journal.specs.Cursor.{entries_left}
use Rattle.rollback_journal.specs.Replay.{Playing}
use Rattle.rollback_journal.proofs.Playing.{starts, reads_stop, found, found_none}
use Rattle.rollback_journal.proofs.playback.play.Goals as goal

pub loop-next-init : goal.loop-next-init
loop-next-init g c = record {
  header = c.new-cursor.ensures.header;
  len = c.new-cursor.ensures.len;
  room = refl;
  stays = stays_none g.D.Disk c.args.disk.now;
  read = refl;
  written = refl;
  playing = λ f told ready rests.
      subst (λ l. Playing g.D.Disk f c.args.header.now l c.args.disk.now) (sym (c.new-cursor.ensures.entries f.journal ready.long)) (starts g.D.Disk f c.args.header.now c.args.disk.now ready.playable told rests);
  stops = λ f told ready rests. started g.D.Disk c.args.disk.now (λ c. standing c ≡ standing f);
}

pub returns-in_default-clause-stops : goal.returns-in_default-clause-stops
returns-in_default-clause-stops g c = λ f told ready rests.
    goes_far g.D.Disk _ _ _ (λ c. standing c ≡ standing f) (c.loop-next.invariant.stops f told ready rests)
    (reads_stop g.D.Disk f c.args.header.now _ _ _ ready.playable (c.loop-next.invariant.playing f told ready rests) c.next.ensures.reads)

pub returns-in_default-next-clause-stops : goal.returns-in_default-next-clause-stops
returns-in_default-next-clause-stops g c = λ f told ready rests.
    goes_far g.D.Disk _ _ _ (λ c. standing c ≡ standing f) (c.loop-next.invariant.stops f told ready rests)
    (reads_stop g.D.Disk f c.args.header.now _ _ _ ready.playable (c.loop-next.invariant.playing f told ready rests) c.next.ensures.reads)

pub returns-in_default-next-clause-played : goal.returns-in_default-next-clause-played
returns-in_default-next-clause-played g c = λ f told ready rests.
    let playing = c.loop-next.invariant.playing f told ready rests in
    let gives = c.in-Ok.ensures.gives (record f { db = playing.now }) playing.files (c.loop-next.invariant.len ∙ ready.long) in
    found_none g.D.Disk f c.args.header.now _ _ _ c.in-Ok.next _ _ gives c.in_default-next.is playing c.next.ensures.reads

pub loop-next-preserved : goal.loop-next-preserved
loop-next-preserved g c = record {
  header = c.next.ensures.on.header ∙ c.loop-next.invariant.header;
  len = c.next.ensures.on.len ∙ c.loop-next.invariant.len;
  room = omega arith;
  stays = stays_on g.D.Disk _ _ _ (stays_on g.D.Disk _ _ _ c.loop-next.invariant.stays (stays_read g.D.Disk _ _ c.next.ensures.reads)) c.write_page.ensures.stays;
  read = c.write_page.ensures.other ∙ c.in-Ok.ensures.cause.only ∙ c.loop-next.invariant.read;
  written = c.in-Ok-write_page.ensures.cause.only ∙ c.next.ensures.reads.only.writes_stay ∙ c.loop-next.invariant.written;
  playing = λ f told ready rests.
      let playing = c.loop-next.invariant.playing f told ready rests in
      let gives = c.in-Ok.ensures.gives (record f { db = playing.now }) playing.files (c.loop-next.invariant.len ∙ ready.long) in
      c.in-Ok-write_page.ensures.played f (entries_left f.journal c.next.new.self)
      (found g.D.Disk f c.args.header.now _ _ c.in-Some.number c.next.new.buf c.in-Ok.next _ _ _ c.loop-next.invariant.header gives c.in-Some.is playing c.next.ensures.reads);
  stops = λ f told ready rests.
      let playing = c.loop-next.invariant.playing f told ready rests in
      let gives = c.in-Ok.ensures.gives (record f { db = playing.now }) playing.files (c.loop-next.invariant.len ∙ ready.long) in
      goes_far g.D.Disk _ _ _ (λ c. standing c ≡ standing f)
      (goes_far g.D.Disk _ _ _ (λ c. standing c ≡ standing f) (c.loop-next.invariant.stops f told ready rests)
      (reads_stop g.D.Disk f c.args.header.now _ _ _ ready.playable playing c.next.ensures.reads))
      (c.write_page.ensures.stops f (entries_left f.journal c.next.new.self) ready.playable
      (found g.D.Disk f c.args.header.now _ _ c.in-Some.number c.next.new.buf c.in-Ok.next _ _ _ c.loop-next.invariant.header gives c.in-Some.is playing c.next.ensures.reads));
}

pub returns-in_default-write_page-clause-stops : goal.returns-in_default-write_page-clause-stops
returns-in_default-write_page-clause-stops g c = λ f told ready rests.
    let playing = c.loop-next.invariant.playing f told ready rests in
    let gives = c.in-Ok.ensures.gives (record f { db = playing.now }) playing.files (c.loop-next.invariant.len ∙ ready.long) in
    goes_far g.D.Disk _ _ _ (λ c. standing c ≡ standing f)
    (goes_far g.D.Disk _ _ _ (λ c. standing c ≡ standing f) (c.loop-next.invariant.stops f told ready rests)
    (reads_stop g.D.Disk f c.args.header.now _ _ _ ready.playable playing c.next.ensures.reads))
    (c.write_page.ensures.stops f (entries_left f.journal c.next.new.self) ready.playable
    (found g.D.Disk f c.args.header.now _ _ c.in-Some.number c.next.new.buf c.in-Ok.next _ _ _ c.loop-next.invariant.header gives c.in-Some.is playing c.next.ensures.reads))
