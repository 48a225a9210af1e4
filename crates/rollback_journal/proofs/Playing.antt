-- Playing entries into a database one after the other, and what a crash may leave meanwhile.
use Rattle.std.proofs.Common.{◌≡◌, ℕ, ◌-◌, ◌*◌, ◌≤◌, List, [], ◌∷◌, length, Option, Some, None, option_map, refl, sym, ap, ◌∙◌, subst}
use Rattle.alter_disk.specs.declared.disk.Disk.{Ghosts}
use Rattle.alter_disk.specs.declared.which.Which.TheVariants.{Db}
use Rattle.alter_disk.specs.Files.{Files, file, with_file}
use Rattle.alter_disk.specs.Changes.{Torn, ChangesOne, Written, overwritten}
use Rattle.alter_disk.specs.Crash.{After, Elapses}
use Rattle.alter_disk.specs.Moments.{AtRest, Leaves, ReadsQuietly}
use Rattle.alter_disk.proofs.Moments.{weaker, called}
use Rattle.alter_disk.proofs.Pending.{torn_whole}
use Rattle.rollback_journal.specs.declared.header.Header.{Header}
use Rattle.rollback_journal.specs.Records.{Entry, page_in, entries_of}
use Rattle.rollback_journal.specs.Cursor.{Gives}
use Rattle.rollback_journal.specs.Playback.{last_entry, played, first_missing, KeepsUnjournaled}
use Rattle.rollback_journal.specs.Standing.{standing}
use Rattle.rollback_journal.specs.Recovery.{IsPlayable}
use Rattle.rollback_journal.specs.Replay.{IsKept, Playing, WasPlayed}
use Rattle.rollback_journal.proofs.Unjournaled.{keeps_all, keeps_on, keeps_torn, last_later, last_first, played_one, played_all}
use Rattle.rollback_journal.proofs.Shut.{stands_kept}

-- a page has no entry where it has none among more
none_later : (entry : Entry) (later : List Entry) (n : ℕ) → last_entry (entry ∷ later) n ≡ None → last_entry later n ≡ None
none_later entry later n none = by (last_entry later n) refl
  where
    by : (last : Option (List ℕ)) → last_entry later n ≡ last → last_entry later n ≡ None
    by None is = is
    by (Some bytes) is = absurd (some_none bytes (sym (last_later entry later n bytes is) ∙ none))
      where
        some_none : (bytes : List ℕ) → ◌≡◌ {A = Option (List ℕ)} (Some bytes) None → ⊥
        some_none bytes e = cc

-- the page of an entry has one
has_one : (entry : Entry) (later : List Entry) → last_entry (entry ∷ later) entry.page ≡ None → ⊥
has_one entry later none = some_none entry.bytes (sym (last_first entry later entry.page (none_later entry later entry.page none) refl) ∙ none)
  where
    some_none : (bytes : List ℕ) → ◌≡◌ {A = Option (List ℕ)} (Some bytes) None → ⊥
    some_none bytes e = cc

-- files that are kept stand for the same
pub kept_stands : (f : Files) (h : Header) (c : Files) → IsPlayable f h → IsKept f h c → standing c ≡ standing f
kept_stands f h c playable kept = stands_kept f c h playable kept.journal kept.db

module _ {D : Type 0} (disk : Ghosts D) (f : Files) (h : Header) where
  -- before the first entry
  pub starts : (d : D) → IsPlayable f h → disk.files d ≡ Some f → AtRest disk f d → Playing disk f h (entries_of f.journal h) d
  starts d playable told rests = record {
    now = f.db;
    files = told;
    complete = playable.complete;
    same = refl;
    among = λ n none. none;
    keeps = keeps_all h.page h.size (entries_of f.journal h) f.db;
    crash = λ c left. record {
      journal = rests.journal.crash c left;
      db = subst (λ db. KeepsUnjournaled h.page h.size (entries_of f.journal h) f.db db) (sym (rests.db.crash c left)) (keeps_all h.page h.size (entries_of f.journal h) f.db);
    };
  }

  -- calls that only read
  pub reads_stay : (left : List Entry) (old new : D) → Playing disk f h left old → ReadsQuietly disk old new → Playing disk f h left new
  reads_stay left old new playing reads = record {
    now = playing.now;
    files = reads.only.files ∙ playing.files;
    complete = playing.complete;
    same = playing.same;
    among = playing.among;
    keeps = playing.keeps;
    crash = λ c may. playing.crash c (reads.crash c may);
  }

  pub reads_stop : (left : List Entry) (old new : D) → IsPlayable f h → Playing disk f h left old → ReadsQuietly disk old new → Leaves disk old new (λ c. standing c ≡ standing f)
  reads_stop left old new playable playing reads =
      weaker disk old new (disk.may_leave old) (λ c. standing c ≡ standing f) (λ c may. kept_stands f h c playable (playing.crash c may)) reads.stops

  module _ (entry : Entry) (later : List Entry) (old new : D) (from : 1 ≤ entry.page) (len : length entry.bytes ≡ h.page) (playing : Playing disk f h (entry ∷ later) old)
      (crash : (c : Files) → disk.may_leave new c → After (ChangesOne Db (Torn ((entry.page - 1) * h.page) (length entry.bytes))) (disk.may_leave old) c) where
    journaled : entry.page ≤ h.size → last_entry (entries_of f.journal h) entry.page ≡ None → ⊥
    journaled to none = has_one entry later (playing.among entry.page none)

    torn_page : (a b : List ℕ) → Torn ((entry.page - 1) * h.page) (length entry.bytes) a b → KeepsUnjournaled h.page h.size (entries_of f.journal h) a b
    torn_page a b torn = keeps_torn h.page h.size (entries_of f.journal h) entry.page a b from journaled (subst (λ n. Torn ((entry.page - 1) * h.page) n a b) len torn)

    -- what a crash may leave once the first entry's page is written, also in part
    pub write_kept : (c : Files) → disk.may_leave new c → IsKept f h c
    write_kept c may =
        let (d, before, step) = crash c may in
        let kept = playing.crash d before in
        record {
          journal = step.other ∙ kept.journal;
          db = keeps_on h.page h.size (entries_of f.journal h) f.db d.db c.db kept.db (torn_page d.db c.db step.one);
        }

    pub write_stops : IsPlayable f h → Elapses (disk.moment old) (disk.moment new) (disk.left_since old) (disk.left_since new) (disk.may_leave new) → Leaves disk old new (λ c. standing c ≡ standing f)
    write_stops playable time = called disk old new (λ c. standing c ≡ standing f) time (λ c may. kept_stands f h c playable (write_kept c may))

    -- the first entry is played
    pub written : Written Db ((entry.page - 1) * h.page) entry.bytes (disk.files old) (disk.files new) → Playing disk f h later new
    written wrote =
        let at = (entry.page - 1) * h.page in
        let (complete, same) = played_one h.page h.size entry later playing.now from len playing.complete in
        record {
          now = overwritten playing.now at entry.bytes;
          files = wrote ∙ ap (option_map (λ (f : Files). with_file Db (overwritten (file Db f) at entry.bytes) f)) playing.files;
          complete = complete;
          same = same ∙ playing.same;
          among = λ n none. none_later entry later n (playing.among n none);
          keeps = keeps_on h.page h.size (entries_of f.journal h) f.db playing.now (overwritten playing.now at entry.bytes) playing.keeps
              (torn_page playing.now (overwritten playing.now at entry.bytes) (torn_whole at entry.bytes playing.now));
          crash = write_kept;
        }

  -- behind the last entry
  pub all_played : (left : List Entry) (d : D) → left ≡ [] → Playing disk f h left d → WasPlayed disk f h d
  all_played left d none playing = record {
    now = playing.now;
    files = playing.files;
    front = sym (played_all h.page h.size playing.now (ap (λ l. first_missing h.page h.size l playing.now) (sym none) ∙ playing.complete))
        ∙ ap (λ l. played h.page h.size l playing.now) (sym none) ∙ playing.same;
    keeps = playing.keeps;
    crash = playing.crash;
  }

  -- the next entry was read
  pub found : (left later : List Entry) (n : ℕ) (buf : List ℕ) (o : Option ℕ) (same : Header) (old new : D) → same ≡ h → Gives left later (page_in same buf) o → o ≡ Some n
      → Playing disk f h left old → ReadsQuietly disk old new → Playing disk f h (record { page = n; bytes = page_in h buf } ∷ later) new
  found left later n buf o same old new e gives is playing reads =
      let first : left ≡ record { page = n; bytes = page_in same buf } ∷ later = subst (λ o. Gives left later (page_in same buf) o) is gives in
      subst (λ l. Playing disk f h l new) (first ∙ ap (λ h. record { page = n; bytes = page_in h buf } ∷ later) e) (reads_stay left old new playing reads)

  -- no entry was found
  pub found_none : (left later : List Entry) (bytes : List ℕ) (o : Option ℕ) (old new : D) → Gives left later bytes o → o ≡ None → Playing disk f h left old → ReadsQuietly disk old new
      → WasPlayed disk f h new
  found_none left later bytes o old new gives is playing reads =
      let none : left ≡ [] = subst (λ o. Gives left later bytes o) is gives in
      all_played left new none (reads_stay left old new playing reads)

  -- the same of a write of bytes that are those of the entry
  pub written_piece : (entry : Entry) (later : List Entry) (piece : List ℕ) (old new : D) → entry.bytes ≡ piece → 1 ≤ entry.page → length entry.bytes ≡ h.page → Playing disk f h (entry ∷ later) old
      → ((c : Files) → disk.may_leave new c → After (ChangesOne Db (Torn ((entry.page - 1) * h.page) (length piece))) (disk.may_leave old) c)
      → Written Db ((entry.page - 1) * h.page) piece (disk.files old) (disk.files new) → Playing disk f h later new
  written_piece entry later piece old new is from len playing =
      subst (λ (p : List ℕ). ((c : Files) → disk.may_leave new c → After (ChangesOne Db (Torn ((entry.page - 1) * h.page) (length p))) (disk.may_leave old) c)
      → Written Db ((entry.page - 1) * h.page) p (disk.files old) (disk.files new) → Playing disk f h later new) is
      (λ crash wrote. written entry later old new from len playing crash wrote)

  pub piece_stops : (entry : Entry) (later : List Entry) (piece : List ℕ) (old new : D) → entry.bytes ≡ piece → 1 ≤ entry.page → length entry.bytes ≡ h.page → Playing disk f h (entry ∷ later) old
      → IsPlayable f h → Elapses (disk.moment old) (disk.moment new) (disk.left_since old) (disk.left_since new) (disk.may_leave new)
      → ((c : Files) → disk.may_leave new c → After (ChangesOne Db (Torn ((entry.page - 1) * h.page) (length piece))) (disk.may_leave old) c)
      → Leaves disk old new (λ c. standing c ≡ standing f)
  piece_stops entry later piece old new is from len playing playable time =
      subst (λ (p : List ℕ). ((c : Files) → disk.may_leave new c → After (ChangesOne Db (Torn ((entry.page - 1) * h.page) (length p))) (disk.may_leave old) c)
      → Leaves disk old new (λ c. standing c ≡ standing f)) is
      (λ crash. write_stops entry later old new from len playing crash playable time)
