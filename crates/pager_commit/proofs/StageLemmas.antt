-- What a crash may leave while the journal changes, and what both files are after it.
use Rattle.std.proofs.Common.{◌≡◌, ℕ, List, [], ◌++◌, drop, subst, ◌∙◌}
use Rattle.alter_disk.specs.declared.disk.Disk.{Ghosts}
use Rattle.alter_disk.specs.declared.which.Which.TheVariants.{Journal}
use Rattle.alter_disk.specs.Changes.{ChangesOne, CutShort, Torn}
use Rattle.alter_disk.specs.Crash.{After}
use Rattle.alter_disk.specs.Files.{Files}
use Rattle.alter_disk.specs.Moments.{ChangesFile, Leaves, Rests}
use Rattle.alter_disk.proofs.Moments.{goes_far, weaker}
use Rattle.rollback_journal.specs.declared.heat.Heat.TheVariants.{Cold}
use Rattle.rollback_journal.specs.Header.{magic, no_magic}
use Rattle.rollback_journal.specs.Heat.{heat_of}
use Rattle.pager_commit.specs.Stages.{ColdBeside, ColdOr, RestBoth}
use Rattle.pager_commit.proofs.Cold.{cold_cut, cold_fill, cold_or_open, cold_start}

module _ {D : Type 0} (disk : Ghosts D) where
  -- where the journal changed, the database rests as it did
  pub rest_on : (Step : List ℕ → List ℕ → Type 0) (old new : D) (db journal after : List ℕ) → ChangesFile disk Journal Step old new → RestBoth disk db journal old
      → Rests disk Journal after new → RestBoth disk db after new
  rest_on Step old new db journal after changes rests now = record { db = changes.other db rests.db; journal = now }

  -- a change of the journal leaves the database, and a journal that was changed so
  pub journal_leaves : (Step : List ℕ → List ℕ → Type 0) (P : Files → Type 0) (old new : D) (db journal : List ℕ) → ChangesFile disk Journal Step old new → RestBoth disk db journal old
      → ((c : Files) → c.db ≡ db → Step journal c.journal → P c) → Leaves disk old new P
  journal_leaves Step P old new db journal changes rests so = weaker disk old new (After (ChangesOne Journal Step) (disk.may_leave old)) P
      (λ c (d, left, one). so c (one.other ∙ rests.db.crash d left) (subst (λ j. Step j c.journal) (rests.journal.crash d left) one.one)) changes.stops

  pub cut_leaves : (old new : D) (db journal : List ℕ) → ChangesFile disk Journal (CutShort 0) old new → RestBoth disk db journal old → heat_of journal ≡ Cold
      → Leaves disk old new (ColdBeside db)
  cut_leaves old new db journal changes rests cold =
      journal_leaves (CutShort 0) (ColdBeside db) old new db journal changes rests (λ c same cut. record { db = same; cold = cold_cut 0 journal c.journal cold cut })

  pub start_leaves : (old new : D) (db : List ℕ) → ChangesFile disk Journal (Torn 0 8) old new → RestBoth disk db [] old → Leaves disk old new (ColdBeside db)
  start_leaves old new db changes rests = journal_leaves (Torn 0 8) (ColdBeside db) old new db [] changes rests (λ c same torn. record { db = same; cold = cold_start c.journal torn })

  pub fill_leaves : (n : ℕ) (old new : D) (db : List ℕ) → ChangesFile disk Journal (Torn 8 n) old new → RestBoth disk db no_magic old → Leaves disk old new (ColdBeside db)
  fill_leaves n old new db changes rests = journal_leaves (Torn 8 n) (ColdBeside db) old new db no_magic changes rests (λ c same torn. record { db = same; cold = cold_fill n c.journal torn })

  pub gate_leaves : (n : ℕ) (old new : D) (db journal : List ℕ) → n ≡ 8 → ChangesFile disk Journal (Torn 0 n) old new → RestBoth disk db journal old
      → Leaves disk old new (ColdOr db (magic ++ drop 8 journal))
  gate_leaves n old new db journal eight changes rests =
      journal_leaves (Torn 0 n) (ColdOr db (magic ++ drop 8 journal)) old new db journal changes rests (λ c same torn.
      record { db = same; journal = cold_or_open journal c.journal (subst (λ k. Torn 0 k journal c.journal) eight torn) })

  -- both in a row: a cut, and eight zeros
  pub shut_leaves : (old mid new : D) (db journal : List ℕ) → ChangesFile disk Journal (CutShort 0) old mid → ChangesFile disk Journal (Torn 0 8) mid new → RestBoth disk db journal old
      → Rests disk Journal [] mid → heat_of journal ≡ Cold → Leaves disk old new (ColdBeside db)
  shut_leaves old mid new db journal cut start rests emptied cold = goes_far disk old mid new (ColdBeside db) (cut_leaves old mid db journal cut rests cold)
      (start_leaves mid new db start (rest_on (CutShort 0) old mid db journal [] cut rests emptied))
