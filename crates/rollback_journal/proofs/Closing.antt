-- The end of a recovery: the database is cut to its size, and the journal's magic is zeroed.
use Rattle.std.proofs.Common.{◌≡◌, ⊎_elim, if◌then◌else◌, ℕ, ◌*◌, true, false, List, take, Option, Some, IfSome, refl, sym, ap, ap₂, ◌∙◌, subst}
use Rattle.alter_disk.specs.declared.disk.Disk.{Ghosts}
use Rattle.alter_disk.specs.declared.which.Which.TheVariants.{Db, Journal}
use Rattle.alter_disk.specs.Files.{Files}
use Rattle.alter_disk.specs.Changes.{Torn, CutShort, ChangesOne, overwritten}
use Rattle.alter_disk.specs.Crash.{After}
use Rattle.alter_disk.specs.Moments.{AtRest, Leaves, Reads, ReadsQuietly, Rests, ChangesFile}
use Rattle.alter_disk.proofs.Moments.{weaker}
use Rattle.alter_disk.proofs.Pending.{cut_whole}
use Rattle.rollback_journal.specs.declared.header.Header.{Header}
use Rattle.rollback_journal.specs.declared.heat.Heat.TheVariants.{Cold, Hot}
use Rattle.rollback_journal.specs.Header.{no_magic}
use Rattle.rollback_journal.specs.Heat.{heat_of}
use Rattle.rollback_journal.specs.Records.{entries_of}
use Rattle.rollback_journal.specs.Playback.{played, KeepsUnjournaled}
use Rattle.rollback_journal.specs.Standing.{Stands, standing}
use Rattle.rollback_journal.specs.Recovery.{IsPlayable, Recovered, is_hot, recovered, recovered_as, shut}
use Rattle.rollback_journal.specs.Replay.{WasPlayed}
use Rattle.rollback_journal.proofs.Unjournaled.{keeps_on, keeps_cut}
use Rattle.rollback_journal.proofs.Shut.{cold_without_magic, stands_played, stands_kept, stands_cold, torn_magic}
use Rattle.rollback_journal.proofs.Playing.{kept_stands}

-- eight zeros at its start make a journal cold
pub cold_shut : (journal : List ℕ) → heat_of (shut journal) ≡ Cold
cold_shut journal = cold_without_magic (shut journal) refl

-- a journal that can be played does not stay as it is
pub played_changes : (f : Files) (h : Header) → IsPlayable f h → recovered f ≡ f → ⊥
played_changes f h playable same =
    let bytes = played h.page h.size (entries_of f.journal h) f.db in
    let one : recovered f ≡ record { db = bytes; journal = shut f.journal } = ap (λ s. recovered_as s f) (stands_played f h playable)
    ∙ ap (λ heat. record { db = bytes; journal = if is_hot heat then shut f.journal else f.journal }) playable.hot in
    not_cold (sym (cold_shut f.journal) ∙ ap (λ (g : Files). heat_of g.journal) (sym one ∙ same) ∙ playable.hot)
  where
    not_cold : Cold ≡ Hot h → ⊥
    not_cold e = cc

-- what holds of a told value
told_so : {A : Type 0} (P : A → Type 0) (o : Option A) (a : A) → o ≡ Some a → P a → IfSome o P
told_so {A} P o a is so = let Q : Option A → Type 0 = λ v. IfSome v P in subst Q (sym is) so

-- the database is cut, and nothing is pending
pub record Trimmed {D : Type 0} (disk : Ghosts D) (f : Files) (h : Header) (d : D) : Type 0 where
  pub db : Rests disk Db (played h.page h.size (entries_of f.journal h) f.db) d
  pub journal : Rests disk Journal f.journal d
  pub keeps : KeepsUnjournaled h.page h.size (entries_of f.journal h) f.db (played h.page h.size (entries_of f.journal h) f.db)

module _ {D : Type 0} (disk : Ghosts D) (f : Files) (h : Header) (playable : IsPlayable f h) (old new : D) where
  pub trimmed : WasPlayed disk f h old → ((b : List ℕ) → Reads disk Db b old → Rests disk Db (take (h.size * h.page) b) new) → ChangesFile disk Db (CutShort (h.size * h.page)) old new
      → Trimmed disk f h new
  trimmed was shortened changes = record {
    db = subst (λ bytes. Rests disk Db bytes new) was.front (shortened was.now (told_so (λ (f : Files). f.db ≡ was.now) (disk.files old) _ was.files refl));
    journal = changes.other f.journal (record {
      reads = told_so (λ (g : Files). g.journal ≡ f.journal) (disk.files old) _ was.files refl;
      crash = λ c may. (was.crash c may).journal;
    });
    keeps = subst (λ bytes. KeepsUnjournaled h.page h.size (entries_of f.journal h) f.db bytes) was.front
        (keeps_on h.page h.size (entries_of f.journal h) f.db was.now (take (h.size * h.page) was.now) was.keeps
        (keeps_cut h.page h.size (entries_of f.journal h) was.now (take (h.size * h.page) was.now) (cut_whole (h.size * h.page) was.now)));
  }

  pub trim_stops : WasPlayed disk f h old → ChangesFile disk Db (CutShort (h.size * h.page)) old new → Leaves disk old new (λ c. standing c ≡ standing f)
  trim_stops was changes = weaker disk old new (After (ChangesOne Db (CutShort (h.size * h.page))) (disk.may_leave old)) (λ c. standing c ≡ standing f) same changes.stops
    where
      same : (c : Files) → After (ChangesOne Db (CutShort (h.size * h.page))) (disk.may_leave old) c → standing c ≡ standing f
      same c after =
          let (d, may, step) = after in
          let kept = was.crash d may in
          kept_stands f h c playable (record {
            journal = step.other ∙ kept.journal;
            db = keeps_on h.page h.size (entries_of f.journal h) f.db d.db c.db kept.db (keeps_cut h.page h.size (entries_of f.journal h) d.db c.db step.one);
          })

  -- the magic is zeroed, and nothing is pending
  pub closed : Trimmed disk f h old → ((b : List ℕ) → Reads disk Journal b old → Rests disk Journal (overwritten b 0 no_magic) new) → ChangesFile disk Journal (Torn 0 8) old new
      → Recovered disk f true new
  closed was written changes = record {
    bytes = played h.page h.size (entries_of f.journal h) f.db;
    stood = stands_played f h playable;
    hot = ap is_hot playable.hot;
    rests = record {
      db = changes.other (played h.page h.size (entries_of f.journal h) f.db) was.db;
      journal = written f.journal was.journal.reads;
    };
    cold = cold_shut f.journal;
  }

  pub close_stops : Trimmed disk f h old → ChangesFile disk Journal (Torn 0 8) old new → Leaves disk old new (λ c. standing c ≡ standing f)
  close_stops was changes = weaker disk old new (After (ChangesOne Journal (Torn 0 8)) (disk.may_leave old)) (λ c. standing c ≡ standing f) same changes.stops
    where
      same : (c : Files) → After (ChangesOne Journal (Torn 0 8)) (disk.may_leave old) c → standing c ≡ standing f
      same c after =
          let (d, may, step) = after in
          let db : c.db ≡ played h.page h.size (entries_of f.journal h) f.db = step.other ∙ was.db.crash d may in
          let torn : Torn 0 8 f.journal c.journal = subst (λ j. Torn 0 8 j c.journal) (was.journal.crash d may) step.one in
          ⊎_elim
          (λ whole. stands_kept f c h playable whole (subst (λ bytes. KeepsUnjournaled h.page h.size (entries_of f.journal h) f.db bytes) (sym db) was.keeps))
          (λ cold. stands_cold c cold ∙ ap Stands db ∙ sym (stands_played f h playable))
          (torn_magic f.journal c.journal h playable.hot torn)

module _ {D : Type 0} (disk : Ghosts D) (f : Files) (old new : D) (rests : AtRest disk f old) (quiet : ReadsQuietly disk old new) where
  -- after calls that only read, nothing is pending if nothing was, and a crash left the same files
  pub rests_stay : AtRest disk f new
  rests_stay = record {
    db = record { reads = subst (λ told. IfSome told (λ (g : Files). g.db ≡ f.db)) (sym quiet.only.files) rests.db.reads; crash = λ c may. rests.db.crash c (quiet.crash c may) };
    journal = record { reads = subst (λ told. IfSome told (λ (g : Files). g.journal ≡ f.journal)) (sym quiet.only.files) rests.journal.reads; crash = λ c may. rests.journal.crash c (quiet.crash c may) };
  }

  pub rest_stops : Leaves disk old new (λ c. standing c ≡ standing f)
  rest_stops = weaker disk old new (disk.may_leave old) (λ c. standing c ≡ standing f)
      (λ c may. ap₂ (λ (db journal : List ℕ). standing (record { db = db; journal = journal })) (rests.db.crash c may) (rests.journal.crash c may)) quiet.stops

  -- a cold journal is left as it is
  pub cold_recovered : heat_of f.journal ≡ Cold → Recovered disk f false new
  cold_recovered cold = record { bytes = f.db; stood = stands_cold f cold; hot = ap is_hot cold; rests = rests_stay; cold = cold }
