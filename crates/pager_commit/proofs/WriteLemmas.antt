-- The changed pages are written, while no other page is lost.
use Rattle.std.proofs.Common.{◌≡◌, inl, inr, ℕ, ◌+◌, ◌-◌, ◌*◌, ◌≤◌, Bool, true, List, length, is_some, refl, sym, ap, ◌∙◌, subst, add-one, arith}
use Rattle.std.proofs.lemmas.Bool.{cases_lt, true≢false}
use Rattle.alter_disk.specs.declared.disk.Disk.{Ghosts}
use Rattle.alter_disk.specs.declared.which.Which.TheVariants.{Db}
use Rattle.alter_disk.specs.Changes.{ChangesOne, Torn}
use Rattle.alter_disk.specs.Crash.{After}
use Rattle.alter_disk.specs.Files.{Files}
use Rattle.alter_disk.specs.Moments.{ChangesFile, Leaves, Reads}
use Rattle.alter_disk.specs.Rest.{KeepsRest}
use Rattle.alter_disk.proofs.Moments.{goes_far, started, weaker}
use Rattle.rollback_journal.proofs.FilePages.{page_beside}
use Rattle.pager_core.specs.declared.pages.Pages.{Pages}
use Rattle.pager_core.specs.Pages.{bytes_of, disk_of, is_changed, shape_of, with_disk}
use Rattle.pager_commit.specs.Stages.{HasExtents, KeepsUnchanged, LosesNone, Unchanged, WritesPages, written_one, written_upto}

module _ (changed : ℕ → Bool) (page : ℕ) where
  pub keeps_all : (old : List ℕ) → KeepsUnchanged changed page old old
  keeps_all old = record { each = λ n from same within. (within, refl) }

  pub keeps_on : (old mid new : List ℕ) → KeepsUnchanged changed page old mid → KeepsUnchanged changed page mid new → KeepsUnchanged changed page old new
  keeps_on old mid new first then_ = record {
    each = λ n from same within.
        let (stood, as_before) = first.each n from same within in
        let (stands, again) = then_.each n from same stood in
        (stands, again ∙ as_before);
  }

  -- a write of a page that is to be changed, cut short or not
  pub keeps_torn : (m : ℕ) (old new : List ℕ) → 1 ≤ m → changed m ≡ true → Torn ((m - 1) * page) page old new → KeepsUnchanged changed page old new
  keeps_torn m old new m_from is torn = record {
    each = λ n from same within.
        let other : n ≡ m → ⊥ = λ here. true≢false (sym is ∙ ap changed (sym here) ∙ same) in
        (omega (arith, torn.no_shorter), page_beside page m n old new m_from from other within torn);
  }

written_none : (changed : ℕ → Bool) (bytes : ℕ → List ℕ) (page : ℕ) (base : List ℕ) → written_upto changed bytes page 0 base ≡ base
unfolding written_upto
written_none changed bytes page base = refl

written_more : (changed : ℕ → Bool) (bytes : ℕ → List ℕ) (page n : ℕ) (base : List ℕ)
    → written_upto changed bytes page (n + 1) base ≡ written_one changed bytes page (n + 1) (written_upto changed bytes page n base)
unfolding written_upto
written_more changed bytes page n base =
    let P : ℕ → Type 0 = λ k. written_upto changed bytes page k base ≡ written_one changed bytes page k (written_upto changed bytes page n base) in subst P (sym (add-one n)) refl

module _ {D : Type 0} (disk : Ghosts D) where
  -- a change of one kind is one of a wider kind
  pub changes_so : (Step Wider : List ℕ → List ℕ → Type 0) (old new : D) → ((x y : List ℕ) → Step x y → Wider x y) → ChangesFile disk Db Step old new → ChangesFile disk Db Wider old new
  changes_so Step Wider old new wider changes = record {
    other = changes.other;
    follows = λ c left. wider_one c (changes.follows c left);
    stops = weaker disk old new (After (ChangesOne Db Step) (disk.may_leave old)) (After (ChangesOne Db Wider) (disk.may_leave old)) wider_one changes.stops;
  }
    where
      wider_one : (c : Files) → After (ChangesOne Db Step) (disk.may_leave old) c → After (ChangesOne Db Wider) (disk.may_leave old) c
      wider_one c (d, left, one) = (d, left, record { one = wider d.db c.db one.one; other = one.other })

  -- what was written so far
  pub record SoFar (n : ℕ) (old now : Pages D) : Type 0 where
    pub pages : now ≡ with_disk old (disk_of now)
    pub writes : WritesPages disk old n (disk_of now)
    pub rest : KeepsRest disk.label disk.called disk.opened disk.read_faults (disk_of old) (disk_of now)
    pub telling : is_some (disk.files (disk_of now)) ≡ is_some (disk.files (disk_of old))
    pub faults : disk.write_faults (disk_of now) ≡ disk.write_faults (disk_of old)
    pub extents : HasExtents n old

  -- a page more may be torn
  more_lost : (changed : ℕ → Bool) (page : ℕ) (base log : List ℕ) (old mid new : D) → Leaves disk old mid (Unchanged changed page base log) → ((c : Files) → disk.may_leave mid c → Unchanged changed page base log c)
      → ChangesFile disk Db (KeepsUnchanged changed page) mid new → ((c : Files) → disk.may_leave new c → Unchanged changed page base log c) × Leaves disk old new (Unchanged changed page base log)
  more_lost changed page base log old mid new stops crash changes =
      let more : (c : Files) → After (ChangesOne Db (KeepsUnchanged changed page)) (disk.may_leave mid) c → Unchanged changed page base log c =
      λ c (d, left, one). let was = crash d left in record { db = keeps_on changed page base d.db c.db was.db one.one; journal = one.other ∙ was.journal } in (
        (λ c left. more c (changes.follows c left)),
        goes_far disk old mid new (Unchanged changed page base log) stops (weaker disk mid new (After (ChangesOne Db (KeepsUnchanged changed page)) (disk.may_leave mid)) (Unchanged changed page base log) more changes.stops),
      )

  pub nothing_written : (old : Pages D) → SoFar 0 old old
  nothing_written old = record {
    pages = refl;
    writes = λ base log rests. record {
      reads = let P : List ℕ → Type 0 = λ b. Reads disk Db b (disk_of old) in subst P (sym (written_none (is_changed old) (bytes_of old) (shape_of old).page base)) rests.db.reads;
      journal = rests.journal;
      crash = λ c left. record {
        db = subst (λ b. KeepsUnchanged (is_changed old) (shape_of old).page base b) (sym (rests.db.crash c left)) (keeps_all (is_changed old) (shape_of old).page base);
        journal = rests.journal.crash c left;
      };
      stops = started disk (disk_of old) (Unchanged (is_changed old) (shape_of old).page base log);
    };
    rest = record { label = refl; called = refl; opened = refl; other = refl };
    telling = refl;
    faults = refl;
    extents = λ m from to is. absurd (omega (arith, from, to));
  }

  -- what the write of page n does
  pub record WritesPage (n : ℕ) (mid new : Pages D) : Type 0 where
    pub written : (base : List ℕ) → Reads disk Db base (disk_of mid) → Reads disk Db (written_one (is_changed mid) (bytes_of mid) (shape_of mid).page n base) (disk_of new)
    pub changes : ChangesFile disk Db (KeepsUnchanged (is_changed mid) (shape_of mid).page) (disk_of mid) (disk_of new)
    pub kept : new ≡ with_disk mid (disk_of new)
    pub rest : KeepsRest disk.label disk.called disk.opened disk.read_faults (disk_of mid) (disk_of new)
    pub telling : is_some (disk.files (disk_of new)) ≡ is_some (disk.files (disk_of mid))

  pub page_written : (n : ℕ) (old mid new : Pages D) → SoFar n old mid → WritesPage (n + 1) mid new → disk.write_faults (disk_of new) ≡ disk.write_faults (disk_of mid)
      → (is_changed mid (n + 1) ≡ true → length (bytes_of mid (n + 1)) ≡ (shape_of mid).page) → SoFar (n + 1) old new
  page_written n old mid new so page faults extent =
      let Written : Pages D → Type 0 = λ p. (base : List ℕ) → Reads disk Db base (disk_of mid) → Reads disk Db (written_one (is_changed p) (bytes_of p) (shape_of p).page (n + 1) base) (disk_of new) in
      let Changes : Pages D → Type 0 = λ p. ChangesFile disk Db (KeepsUnchanged (is_changed p) (shape_of p).page) (disk_of mid) (disk_of new) in
      let written : Written (with_disk old (disk_of mid)) = subst Written so.pages page.written in
      let changes : Changes (with_disk old (disk_of mid)) = subst Changes so.pages page.changes in
      record {
        pages = page.kept ∙ ap (λ (p : Pages D). with_disk p (disk_of new)) so.pages;
        writes = λ base log rests.
            let before = so.writes base log rests in
            let more = more_lost (is_changed old) (shape_of old).page base log (disk_of old) (disk_of mid) (disk_of new) before.stops before.crash changes in
            let Now : List ℕ → Type 0 = λ b. Reads disk Db b (disk_of new) in
            record {
              reads = subst Now (sym (written_more (is_changed old) (bytes_of old) (shape_of old).page n base)) (written (written_upto (is_changed old) (bytes_of old) (shape_of old).page n base) before.reads);
              journal = changes.other log before.journal;
              crash = more.0;
              stops = more.1;
            };
        rest = record {
          label = page.rest.label ∙ so.rest.label;
          called = page.rest.called ∙ so.rest.called;
          opened = page.rest.opened ∙ so.rest.opened;
          other = page.rest.other ∙ so.rest.other;
        };
        telling = page.telling ∙ so.telling;
        faults = faults ∙ so.faults;
        extents = let Fits : Pages D → Type 0 = λ p. is_changed p (n + 1) ≡ true → length (bytes_of p (n + 1)) ≡ (shape_of p).page in
            let fits : Fits (with_disk old (disk_of mid)) = subst Fits so.pages extent in
            λ m from to is. elim (cases_lt n m) [
              | inl past ↦ let here : m ≡ n + 1 = omega (arith, past, to) in
                  let Here : ℕ → Type 0 = λ k. is_changed old k ≡ true → length (bytes_of old k) ≡ (shape_of old).page in subst Here (sym here) fits is
              | inr before ↦ so.extents m from before is
            ];
      }

  -- where the write of a page fails, no other page is lost
  pub page_lost : (n : ℕ) (old mid new : Pages D) → SoFar n old mid → ChangesFile disk Db (KeepsUnchanged (is_changed mid) (shape_of mid).page) (disk_of mid) (disk_of new) → LosesNone disk old (disk_of new)
  page_lost n old mid new so page_changes =
      let Changes : Pages D → Type 0 = λ p. ChangesFile disk Db (KeepsUnchanged (is_changed p) (shape_of p).page) (disk_of mid) (disk_of new) in
      let changes : Changes (with_disk old (disk_of mid)) = subst Changes so.pages page_changes in
      λ base log rests.
      let before = so.writes base log rests in
      (more_lost (is_changed old) (shape_of old).page base log (disk_of old) (disk_of mid) (disk_of new) before.stops before.crash changes).1
