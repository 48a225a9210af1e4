-- What both files stand for while the journal of the changed pages is whole: the pages before the changes.
use Rattle.std.proofs.Common.{◌≡◌, ⊎_elim, ℕ, zero, suc, ◌-◌, ◌*◌, ◌^◌, ◌≤◌, Bool, true, false, if◌then◌else◌, List, [], ◌∷◌, ◌++◌, length, length-append, map, drop, nat_lt, ◌||◌, Some, refl, sym, ap, ◌∙◌, subst, arith}
use Rattle.std.proofs.lemmas.Bool.{le-ltb}
use Rattle.std.proofs.lemmas.List.{length-map, map-append}
use Rattle.std.proofs.Math.Nat.{mul-le-mul_right}
use Rattle.std.specs.List.{AllByRecursion}
use Rattle.alter_disk.specs.Files.{Files}
use Rattle.rollback_journal.specs.declared.header.Header.{Header}
use Rattle.rollback_journal.specs.Header.{has_magic, is_size}
use Rattle.rollback_journal.specs.Heat.{heat_of}
use Rattle.rollback_journal.specs.Records.{Entry, entries_of}
use Rattle.rollback_journal.specs.Playback.{KeepsUnjournaled, first_missing, played}
use Rattle.rollback_journal.specs.Standing.{standing}
use Rattle.rollback_journal.specs.Recovery.{IsPlayable}
use Rattle.rollback_journal.proofs.Shut.{stands_cold, stands_kept, stands_played}
use Rattle.pager_core.specs.declared.pages.Pages.{Pages}
use Rattle.pager_core.specs.Header.{is_page_size, page_count, page_size}
use Rattle.pager_core.specs.Image.{image_of}
use Rattle.pager_core.specs.Pages.{before_of, is_changed, shape_of}
use Rattle.pager_core.specs.Shape.{IsShape}
use Rattle.pager_core.proofs.Sound.{page_cases, page_large, page_small}
use Rattle.pager_core.proofs.WriteLemmas.{length-page}
use Rattle.pager_commit.specs.Opens.{Opens, image_by}
use Rattle.pager_commit.specs.Plan.{IsPlanOf, entry_at, header_for, journaled, numbers_upto, originals}
use Rattle.pager_commit.specs.Stages.{ColdOr, KeepsUnchanged, Unchanged}
use Rattle.pager_commit.proofs.Images.{front_image}
use Rattle.pager_commit.proofs.Own.{few_numbers}
use Rattle.pager_commit.proofs.WriteLemmas.{keeps_all}
use Rattle.pager_commit.proofs.Replayed.{all_restored, keeps_unjournaled}
use Rattle.pager_commit.proofs.Reread.{IsReadable, IsTaken, is_hot, reread}
use lib.Count.{ones}

-- a page's size is one of a journal
size_allowed : (n : ℕ) → is_page_size n ≡ true → is_size 512 n ≡ true
unfolding ones
size_allowed n is = page_cases (λ k. is_size 512 k ≡ true) n refl refl refl refl refl refl refl refl is

or_from : (a b : Bool) → a ≡ false → b ≡ false → (a || b) ≡ false
or_from a b p q = rw (p, q) refl

-- page 1 is among the numbers
some_number : (test : ℕ → Bool) (n : ℕ) → 1 ≤ n → test 1 ≡ true → 1 ≤ length (numbers_upto test n)
some_number test zero some first = absurd (omega (arith, some))
some_number test (suc zero) some first = let P : Bool → Type 0 = λ b. 1 ≤ length {A = ℕ} (if b then [] ++ 1 ∷ [] else []) in let one : P true = omega arith in subst P (sym first) one
some_number test (suc (suc n)) some first = by (test (suc (suc n))) (some_number test (suc n) (omega arith) first)
  where
    by : (b : Bool) → 1 ≤ length (numbers_upto test (suc n)) → 1 ≤ length (if b then numbers_upto test (suc n) ++ suc (suc n) ∷ [] else numbers_upto test (suc n))
    by true before = omega (arith, length-append (numbers_upto test (suc n)) (suc (suc n) ∷ []))
    by false before = before

-- each entry has a page up to the size
taken_more : (h : Header) (es : List Entry) (e : Entry) → AllByRecursion (IsTaken h) es → IsTaken h e → AllByRecursion (IsTaken h) (es ++ e ∷ [])
taken_more h [] e all one = (one, tt)
taken_more h (x ∷ es) e all one = (all.0, taken_more h es e all.1 one)

all_taken : (h : Header) (page : ℕ) (db : List ℕ) (test : ℕ → Bool) (n : ℕ) → h.page ≡ page → n ≤ h.size → AllByRecursion (IsTaken h) (map (entry_at page db) (numbers_upto test n))
all_taken h page db test zero same within = tt
all_taken h page db test (suc n) same within = by (test (suc n)) (all_taken h page db test n same (omega (arith, within)))
  where
    one : IsTaken h (entry_at page db (suc n))
    one = record { some = omega arith; within = within; extent = length-page page (suc n) db ∙ sym same }

    by : (b : Bool) → AllByRecursion (IsTaken h) (map (entry_at page db) (numbers_upto test n)) → AllByRecursion (IsTaken h) (map (entry_at page db) (if b then numbers_upto test n ++ suc n ∷ [] else numbers_upto test n))
    by true before = subst (AllByRecursion (IsTaken h)) (sym (map-append (entry_at page db) (numbers_upto test n) (suc n ∷ []))) (taken_more h (map (entry_at page db) (numbers_upto test n)) (entry_at page db (suc n)) before one)
    by false before = before

-- what is asked of the pages, the database and the plan
pub record IsOver {D : Type 0} (pages : Pages D) (db log : List ℕ) : Type 0 where
  pub sound : IsShape (shape_of pages)
  pub some : 1 ≤ before_of pages
  pub within : before_of pages ≤ (shape_of pages).count
  pub first : is_changed pages 1 ≡ true
  pub plan : IsPlanOf pages db log
  pub room : length log ≤ 2 ^ 30
  pub size : page_size db ≡ (shape_of pages).page
  pub count : page_count db (length db) ≡ before_of pages
  pub whole : before_of pages * (shape_of pages).page ≤ length db

module _ {D : Type 0} (pages : Pages D) (db plan : List ℕ) (over : IsOver pages db plan) where
  readable : IsReadable (header_for pages) (originals pages db)
  readable =
      let numbers = length-map (journaled pages) (entry_at (shape_of pages).page db) in
      let few = few_numbers (is_changed pages) (before_of pages) in
      record {
        count = sym numbers;
        nonce = refl;
        sector = refl;
        page = size_allowed (shape_of pages).page over.sound.size;
        few = omega (arith, over.within, over.sound.few);
        small = page_small (shape_of pages).page over.sound.size;
        enough = omega (arith, numbers, few, over.within, over.sound.few);
        some = omega (arith, numbers, some_number (is_changed pages) (before_of pages) over.some over.first);
        all = all_taken (header_for pages) (shape_of pages).page db (is_changed pages) (before_of pages) refl (omega arith);
      }

  -- the plan is played
  playable : IsPlayable (record { db = db; journal = plan }) (header_for pages)
  playable =
      let h = header_for pages in
      let entries : entries_of plan h ≡ originals pages db = ap (λ j. entries_of j h) over.plan.journal ∙ reread h (originals pages db) readable in
      let bytes : before_of pages * (shape_of pages).page ≤ (shape_of pages).count * (shape_of pages).page = mul-le-mul_right (shape_of pages).page over.within in
      record {
        hot = ap heat_of over.plan.journal ∙ is_hot h (originals pages db) readable (subst (λ j. has_magic (drop (length j - 8) j) ≡ false) over.plan.journal over.plan.own);
        within = or_from (nat_lt (2 ^ 30) (length plan) || nat_lt (2 ^ 18) h.size) (nat_lt (2 ^ 29) (h.size * h.page))
            (or_from (nat_lt (2 ^ 30) (length plan)) (nat_lt (2 ^ 18) h.size) (le-ltb (2 ^ 30) (length plan) over.room) (le-ltb (2 ^ 18) h.size (omega (arith, over.within, over.sound.few))))
            (le-ltb (2 ^ 29) (h.size * h.page) (omega (arith, bytes, over.sound.small)));
        complete = ap (λ es. first_missing h.page h.size es db) entries ∙ (all_restored (shape_of pages).page db (journaled pages) (before_of pages) over.whole).0;
      }

  -- beside it the database stands for its pages
  pub stands_before : image_by (standing (record { db = db; journal = plan })) ≡ image_of db
  stands_before =
      let h = header_for pages in
      let page = (shape_of pages).page in
      let entries : entries_of plan h ≡ originals pages db = ap (λ j. entries_of j h) over.plan.journal ∙ reread h (originals pages db) readable in
      ap image_by (stands_played (record { db = db; journal = plan }) h playable)
      ∙ ap (λ es. image_of (played page (before_of pages) es db)) entries
      ∙ ap image_of (all_restored page db (journaled pages) (before_of pages) over.whole).1
      ∙ front_image db page (before_of pages) over.sound.size (page_large page over.sound.size) over.some over.size over.count over.whole

  -- also where changed pages were written
  pub unchanged_opens : (image : List (List ℕ)) → image_of db ≡ Some image → (c : Files) → Unchanged (is_changed pages) (shape_of pages).page db plan c → Opens image c
  unchanged_opens image is c same =
      let h = header_for pages in
      let page = (shape_of pages).page in
      let entries : entries_of plan h ≡ originals pages db = ap (λ j. entries_of j h) over.plan.journal ∙ reread h (originals pages db) readable in
      let keeps = keeps_unjournaled page db (is_changed pages) (before_of pages) c.db same.db in
      ap image_by (stands_kept (record { db = db; journal = plan }) c h playable same.journal (subst (λ es. KeepsUnjournaled page (before_of pages) es db c.db) (sym entries) keeps)) ∙ stands_before ∙ is

  -- and beside it or a cold journal
  pub cold_or_opens : (image : List (List ℕ)) → image_of db ≡ Some image → (c : Files) → ColdOr db plan c → Opens image c
  cold_or_opens image is c one = ⊎_elim
      (λ whole. unchanged_opens image is c (record { db = subst (KeepsUnchanged (is_changed pages) (shape_of pages).page db) (sym one.db) (keeps_all (is_changed pages) (shape_of pages).page db); journal = whole }))
      (λ cold. ap image_by (stands_cold c cold) ∙ ap image_of one.db ∙ is) one.journal
