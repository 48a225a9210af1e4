-- A journal that is being played into its database.
use Rattle.std.specs.Prelude.{◌≡◌, ℕ, ◌*◌, List, length, take, Some, None}
use Rattle.alter_disk.specs.declared.disk.Disk.{Ghosts}
use Rattle.alter_disk.specs.Files.{Files}
use Rattle.rollback_journal.specs.declared.header.Header.{Header}
use Rattle.rollback_journal.specs.Records.{Entry, entries_of}
use Rattle.rollback_journal.specs.Playback.{last_entry, played, first_missing, KeepsUnjournaled}
use Rattle.rollback_journal.specs.Recovery.{IsPlayable}

-- these files have a journal of this header and length that can be played
pub record IsReady (f : Files) (h : Header) (len : ℕ) : Type 0 where
  pub playable : IsPlayable f h
  pub long : len ≡ length f.journal

-- files as they are while the journal is played: the journal is the same, and of the database what has no entry
pub record IsKept (f : Files) (h : Header) (c : Files) : Type 0 where
  pub journal : c.journal ≡ f.journal
  pub db : KeepsUnjournaled h.page h.size (entries_of f.journal h) f.db c.db

-- some entries are played, and these are left: to play them over what is there leaves what playback leaves
pub record Playing {D : Type 0} (disk : Ghosts D) (f : Files) (h : Header) (left : List Entry) (d : D) : Type 0 where
  pub now : List ℕ
  pub files : disk.files d ≡ Some (record f { db = now })
  pub complete : first_missing h.page h.size left now ≡ None
  pub same : played h.page h.size left now ≡ played h.page h.size (entries_of f.journal h) f.db
  pub among : (n : ℕ) → last_entry (entries_of f.journal h) n ≡ None → last_entry left n ≡ None
  pub keeps : KeepsUnjournaled h.page h.size (entries_of f.journal h) f.db now
  pub crash : (c : Files) → disk.may_leave d c → IsKept f h c

-- all entries are played, and only the cut is left
pub record WasPlayed {D : Type 0} (disk : Ghosts D) (f : Files) (h : Header) (d : D) : Type 0 where
  pub now : List ℕ
  pub files : disk.files d ≡ Some (record f { db = now })
  pub front : take (h.size * h.page) now ≡ played h.page h.size (entries_of f.journal h) f.db
  pub keeps : KeepsUnjournaled h.page h.size (entries_of f.journal h) f.db now
  pub crash : (c : Files) → disk.may_leave d c → IsKept f h c
