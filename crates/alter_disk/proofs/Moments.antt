-- How a run of calls goes on, by what a crash may leave at each moment of it.
use Rattle.std.proofs.Common.{inl, inr, ⊎_elim, refl, ap, is_some, ◌∙◌, arith}
use Rattle.alter_disk.specs.declared.disk.Disk.{Ghosts}
use Rattle.alter_disk.specs.Files.{Files}
use Rattle.alter_disk.specs.Crash.{Elapses}
use Rattle.alter_disk.specs.Moments.{Leaves, ReadsQuietly, Stays}

module _ {D : Type 0} (disk : Ghosts D) where
  -- before the first call
  pub started : (old : D) (P : Files → Type 0) → Leaves disk old old P
  started old P = record { later = omega arith; before = λ t c le left. inl left }

  -- one run and then another
  pub goes_far : (old mid new : D) (P : Files → Type 0) → Leaves disk old mid P → Leaves disk mid new P → Leaves disk old new P
  goes_far old mid new P first then_ = record {
    later = omega (arith, first.later, then_.later);
    before = λ t c le left. ⊎_elim (first.before t c le) inr (then_.before t c (omega (arith, le, first.later)) left);
  }

  -- a fact that follows
  pub weaker : (old new : D) (P Q : Files → Type 0) → ((c : Files) → P c → Q c) → Leaves disk old new P → Leaves disk old new Q
  weaker old new P Q follows run = record {
    later = run.later;
    before = λ t c le left. ⊎_elim inl (λ p. inr (follows c p)) (run.before t c le left);
  }

  -- one call, after which a crash leaves what has P
  pub called : (old new : D) (P : Files → Type 0) → Elapses (disk.moment old) (disk.moment new) (disk.left_since old) (disk.left_since new) (disk.may_leave new)
      → ((c : Files) → disk.may_leave new c → P c) → Leaves disk old new P
  called old new P time has = record {
    later = time.later;
    before = λ t c le left. ⊎_elim inl (λ now. inr (has c now)) (time.nothing_else t c le left);
  }

  -- one run of reading calls and then another
  pub reads_on : (old mid new : D) → ReadsQuietly disk old mid → ReadsQuietly disk mid new → ReadsQuietly disk old new
  reads_on old mid new first then_ = record {
    only = record {
      files = then_.only.files ∙ first.only.files;
      label = then_.only.label ∙ first.only.label;
      called = then_.only.called ∙ first.only.called;
      later = omega (arith, first.only.later, then_.only.later);
      writes_stay = then_.only.writes_stay ∙ first.only.writes_stay;
    };
    crash = λ c left. first.crash c (then_.crash c left);
    stops = goes_far old mid new (disk.may_leave old) first.stops (weaker mid new (disk.may_leave mid) (disk.may_leave old) first.crash then_.stops);
  }

  -- no call is a run of reading calls
  pub reads_none : (d : D) → ReadsQuietly disk d d
  reads_none d = record {
    only = record { files = refl; label = refl; called = refl; later = omega arith; writes_stay = refl };
    crash = λ c left. left;
    stops = started d (disk.may_leave d);
  }

  -- calls of any kind, and then others
  pub stays_on : (old mid new : D) → Stays disk old mid → Stays disk mid new → Stays disk old new
  stays_on old mid new first then_ = record {
    label = then_.label ∙ first.label;
    called = then_.called ∙ first.called;
    telling = then_.telling ∙ first.telling;
    reads = omega (arith, first.reads, then_.reads);
    writes = omega (arith, first.writes, then_.writes);
  }

  -- no call, and calls that only read
  pub stays_none : (d : D) → Stays disk d d
  stays_none d = record { label = refl; called = refl; telling = refl; reads = omega arith; writes = omega arith }

  pub stays_read : (old new : D) → ReadsQuietly disk old new → Stays disk old new
  stays_read old new quiet = record {
    label = quiet.only.label;
    called = quiet.only.called;
    telling = ap is_some quiet.only.files;
    reads = quiet.only.later;
    writes = omega (arith, quiet.only.writes_stay);
  }
