-- A new page 1 over a database, before its commit and after.
use Rattle.std.proofs.Common.{◌≡◌, ◌≢◌, ◌⊎◌, inl, ℕ, zero, suc, ◌+◌, ◌≤◌, List, [], ◌∷◌, ◌++◌, length, drop, Option, Some, None, is_some, option_map, unwrap_or, refl, sym, ap, ap₂, ◌∙◌, subst, arith, length-append}
use Rattle.std.proofs.lemmas.List.{append-nil, drop_all}
use Rattle.std.proofs.lemmas.Option.{same_Some}
use Rattle.std.specs.Option.{option_or}
use Rattle.alter_bytes.specs.Field.{overlaid}
use Rattle.alter_disk.specs.declared.disk.Disk.{Ghosts}
use Rattle.alter_disk.specs.Files.{Files}
use Rattle.alter_disk.specs.Moments.{Leaves, ReadsQuietly}
use Rattle.alter_disk.proofs.Moments.{goes_far, weaker}
use Rattle.rollback_journal.specs.Heat.{heat_of}
use Rattle.rollback_journal.proofs.Shut.{stands_cold}
use Rattle.pager_core.specs.declared.file_shape.FileShape.{FileShape}
use Rattle.pager_core.specs.declared.pages.Pages.{Pages}
use Rattle.pager_core.specs.Header.{number_at, page_size}
use Rattle.pager_core.specs.Image.{all_upto, image_of, known_image, with_last}
use Rattle.pager_core.specs.Pages.{ChangesPage, FitsDatabase, ForgetsChanges, SettlesChanges, bytes_of, disk_of, known, page_bytes, shape_of, shown, with_disk}
use Rattle.pager_core.specs.Shape.{IsShape}
use Rattle.pager_core.proofs.Fits.{unchanged_known}
use Rattle.pager_core.proofs.WriteLemmas.{length-page}
use Rattle.pager_commit.specs.Opens.{Opens, image_by}
use Rattle.pager_commit.specs.Plan.{IsPlanOf}
use Rattle.pager_commit.specs.Ready.{EachStands, HasFirstPage, IsCommitted, IsOpened, IsReady, StopsBetween}
use Rattle.pager_commit.proofs.CommitLemmas.{each_stands}
use Rattle.pager_commit.proofs.Opened.{Commits, opened_again, opened_change, opened_forget, opened_read, opened_same, same_upto}
use Rattle.alter_session.specs.Committing.{GivesSizes, IsClean, IsStaged, with_first}

-- the list of what numbers have, without its last
pub upto_parts : {X : Type 0} (has : ℕ → Option X) (n : ℕ) (xs : List X) → all_upto has (suc n) ≡ Some xs
    → (ys : List X) × (x : X) × (all_upto has n ≡ Some ys) × (has (suc n) ≡ Some x) × (xs ≡ ys ++ x ∷ [])
upto_parts {X} has n xs is = by (all_upto has n) (has (suc n)) is
  where
    by : (front : Option (List X)) (last : Option X) → with_last front last ≡ Some xs → (ys : List X) × (x : X) × (front ≡ Some ys) × (last ≡ Some x) × (xs ≡ ys ++ x ∷ [])
    by (Some ys) (Some x) e = (ys, x, refl, refl, sym (same_Some (ys ++ x ∷ []) xs e))
    by (Some ys) None e = absurd (cc)
    by None last e = absurd (cc)

-- so many
pub length_upto : {X : Type 0} (has : ℕ → Option X) (n : ℕ) (xs : List X) → all_upto has n ≡ Some xs → length xs ≡ n
length_upto has zero xs is = ap length (sym (same_Some [] xs is))
length_upto has (suc n) xs is =
    let (ys, x, front, last, whole) = upto_parts has n xs is in
    omega (arith, ap length whole, length-append ys (x ∷ []), length_upto has n ys front)

-- the list with another first
pub first_other : {X : Type 0} (a b : ℕ → Option X) (n : ℕ) (xs : List X) (y : X) → 1 ≤ n → all_upto a n ≡ Some xs → b 1 ≡ Some y
    → ((m : ℕ) → 2 ≤ m → m ≤ n → b m ≡ a m) → all_upto b n ≡ Some (y ∷ drop 1 xs)
first_other a b zero xs y some is first others = absurd (omega (arith, some))
first_other {X} a b (suc zero) xs y some is first others =
    let (ys, x, front, last, whole) = upto_parts a zero xs is in
    let none : drop 1 xs ≡ [] = ap (drop 1) (whole ∙ ap (λ (l : List X). l ++ x ∷ []) (sym (same_Some [] ys front))) in
    ap (with_last (Some [])) first ∙ ap (λ (l : List X). Some (y ∷ l)) (sym none)
first_other {X} a b (suc (suc n)) xs y some is first others =
    let (ys, x, front, last, whole) = upto_parts a (suc n) xs is in
    let before = first_other a b (suc n) ys y (omega arith) front first (λ m from to. others m from (omega (arith, to))) in
    ap₂ with_last before (others (suc (suc n)) (omega arith) (omega arith) ∙ last)
    ∙ ap (λ (l : List X). Some (y ∷ l)) (behind ys x (length_upto a (suc n) ys front) ∙ ap (drop 1) (sym whole))
  where
    behind : (ys : List X) (x : X) → length ys ≡ suc n → drop 1 ys ++ x ∷ [] ≡ drop 1 (ys ++ x ∷ [])
    behind [] x e = absurd (omega (arith, e))
    behind (y ∷ ys) x e = refl

-- a page that is put over a whole one
put_over : (old page : List ℕ) → length old ≡ length page → overlaid old 0 page ≡ page
put_over old page same = ap (λ (l : List ℕ). page ++ l) (drop_all (0 + length page) old (omega (arith, same))) ∙ append-nil page

module _ {D : Type 0} (disk : Ghosts D) where
  -- what a crash leaves of a database that is over its pages
  pub opened_crash : (image : List (List ℕ)) (pages : Pages D) (base log : List ℕ) → IsOpened disk pages base log → image_of base ≡ Some image
      → (c : Files) → disk.may_leave (disk_of pages) c → Opens image c
  opened_crash image pages base log opened is c may =
      ap image_by (stands_cold c (ap heat_of (opened.rests.journal.crash c may) ∙ opened.cold)) ∙ ap image_of (opened.rests.db.crash c may) ∙ is

  -- calls that only read
  pub quiet_stops : (image : List (List ℕ)) (pages : Pages D) (d : D) → IsClean disk image pages → ReadsQuietly disk (disk_of pages) d → Leaves disk (disk_of pages) d (Opens image)
  quiet_stops image pages d clean quiet = weaker disk (disk_of pages) d (disk.may_leave (disk_of pages)) (Opens image) (opened_crash image pages clean.base clean.log clean.opened clean.image_is) quiet.stops

  -- the same pages over a disk from which more was read
  known_read : (mid new : Pages D) → new ≡ with_disk mid (disk_of new) → ReadsQuietly disk (disk_of mid) (disk_of new) → (n : ℕ) → known disk new n ≡ known disk mid n
  known_read mid new kept reads n =
      ap (λ (p : Pages D). known disk p n) kept
      ∙ ap (λ (o : Option Files). option_or (shown mid n) (option_map (λ (f : Files). page_bytes (shape_of mid).page n f.db) o)) reads.only.files

  module _ (image : List (List ℕ)) (page : List ℕ) (old mid new : Pages D) (change : ChangesPage disk 1 0 page old mid) (kept : new ≡ with_disk mid (disk_of new))
      (reads : ReadsQuietly disk (disk_of mid) (disk_of new)) (clean : IsClean disk image old) where
    opened_new : IsOpened disk new clean.base clean.log
    opened_new = opened_read disk mid new clean.base clean.log kept reads (opened_change disk old mid 1 0 page clean.base clean.log change clean.opened)

    -- a commit that was prepared
    module _ (plan : List ℕ) (planned : IsPlanOf mid clean.base plan) (extent : length page ≡ (shape_of old).page) (gives : GivesSizes (shape_of old) page) where
      sound : IsShape (shape_of old)
      sound = subst IsShape change.shape planned.sound

      planned_new : IsPlanOf new clean.base plan
      planned_new =
          let again : IsPlanOf (with_disk mid (disk_of new)) clean.base plan = record { sound = planned.sound; some = planned.some; within = planned.within; added = planned.added; journal = planned.journal; own = planned.own } in
          subst (λ (p : Pages D). IsPlanOf p clean.base plan) (sym kept) again

      shown_first : shown mid 1 ≡ Some page
      shown_first =
          let was = unchanged_known disk old 1 (clean.unchanged 1) ∙ clean.opened.over.fits.originals 1 (omega arith) (omega (arith, clean.count, sound.some)) in
          change.bytes _ was ∙ ap Some (put_over (page_bytes (shape_of old).page 1 clean.base) page (length-page (shape_of old).page 1 clean.base ∙ sym extent))

      first_new : HasFirstPage new
      first_new =
          let bytes : bytes_of mid 1 ≡ page = ap (λ (o : Option (List ℕ)). unwrap_or o []) shown_first in
          let again : HasFirstPage (with_disk mid (disk_of new)) = record {
            changed = change.changed;
            size = ap page_size bytes ∙ gives.size ∙ ap (λ (s : FileShape). s.page) (sym change.shape);
            count = ap (number_at 4 28) bytes ∙ gives.count ∙ ap (λ (s : FileShape). s.count) (sym change.shape);
            current = ap (number_at 4 24) bytes ∙ gives.current ∙ ap (number_at 4 92) (sym bytes);
          } in
          subst HasFirstPage (sym kept) again

      known_old : known_image disk old ≡ Some image
      known_old = opened_same disk old clean.base clean.log clean.opened sound clean.count (λ n from to. clean.unchanged n) ∙ clean.image_is

      known_new : known_image disk new ≡ Some (with_first page image)
      unfolding known_image
      known_new =
          let n = (shape_of old).count in
          let all : all_upto (known disk old) n ≡ Some image = known_old in
          let each = (same_upto (known disk old) (known disk old) n n image all all).1 in
          let count : (shape_of new).count ≡ n = ap (λ (p : Pages D). (shape_of p).count) kept ∙ ap (λ (s : FileShape). s.count) change.shape in
          let first : known disk new 1 ≡ Some page = known_read mid new kept reads 1 ∙ ap (λ (o : Option (List ℕ)). option_or o (option_map (λ (f : Files). page_bytes (shape_of mid).page 1 f.db) (disk.files (disk_of mid)))) shown_first in
          ap (all_upto (known disk new)) count
          ∙ first_other (known disk old) (known disk new) n image page sound.some all first (λ m from to.
          let (bytes, is, again) = each m (omega (arith, from)) to in
          known_read mid new kept reads m ∙ (change.others m (other m from)).known bytes is ∙ sym is)
        where
          other : (m : ℕ) → 2 ≤ m → m ≢ 1
          other m from same = omega (arith, from, same)

      pub staged : IsStaged disk image page plan new
      staged = record {
        base = clean.base;
        log = clean.log;
        opened = opened_new;
        ready = record { rests = opened_new.rests; cold = opened_new.cold; planned = planned_new; first = first_new };
        before = clean.image_is;
        after = known_new;
      }

    -- or was not, so that it is forgotten
    pub unstaged : (late : Pages D) → ForgetsChanges disk new late → IsClean disk image late
    unstaged late forgets = record {
      base = clean.base;
      log = clean.log;
      opened = opened_forget disk new late clean.base clean.log forgets opened_new;
      image_is = clean.image_is;
      count = forgets.before ∙ ap (λ (s : FileShape). s.count) (sym forgets.shape);
      unchanged = forgets.changed;
    }

  module _ (image : List (List ℕ)) (page plan : List ℕ) (old new : Pages D) (is : IsStaged disk image page plan old) where
    -- after the commit
    pub committed : ((base log : List ℕ) (after : List (List ℕ)) → IsReady disk old base log plan → EachStands disk old base → known_image disk old ≡ Some after → IsCommitted disk after (disk_of new))
        → SettlesChanges disk (with_disk old (disk_of new)) new → is_some (disk.files (disk_of new)) ≡ is_some (disk.files (disk_of old)) → IsClean disk (with_first page image) new
    committed done settled telling =
        let after = with_first page image in
        let ended = done is.base is.log after is.ready (each_stands disk old is.base is.log plan is.ready is.opened.over.fits) is.after in
        let commits : Commits disk old new after = record {
          sound = is.ready.planned.sound;
          first = is.ready.first;
          known = is.after;
          done = ended;
          settled = settled;
          told = ap is_some is.opened.told;
          telling = telling;
        } in
        record {
          base = ended.base;
          log = ended.log;
          opened = opened_again disk old new after commits;
          image_is = ended.pages;
          count = settled.before ∙ ap (λ (s : FileShape). s.count) (sym settled.shape);
          unchanged = settled.changed;
        }

    -- at each moment of it
    pub commit_stops : ((base log : List ℕ) (before after : List (List ℕ)) → IsReady disk old base log plan → FitsDatabase disk old base → image_of base ≡ Some before → known_image disk old ≡ Some after → StopsBetween disk before after base plan (disk_of old) (disk_of new))
        → Leaves disk (disk_of old) (disk_of new) (λ c. Opens image c ⊎ Opens (with_first page image) c)
    commit_stops stops =
        let between = stops is.base is.log image (with_first page image) is.ready is.opened.over.fits is.before is.after in
        goes_far disk (disk_of old) between.mid (disk_of new) (λ c. Opens image c ⊎ Opens (with_first page image) c)
        (weaker disk (disk_of old) between.mid (Opens image) (λ c. Opens image c ⊎ Opens (with_first page image) c) (λ c same. inl same) between.first) between.then_

    -- and of the reading calls before it
    pub page_stops : (first : Pages D) → Leaves disk (disk_of first) (disk_of old) (Opens image)
        → ((base log : List ℕ) (before after : List (List ℕ)) → IsReady disk old base log plan → FitsDatabase disk old base → image_of base ≡ Some before → known_image disk old ≡ Some after → StopsBetween disk before after base plan (disk_of old) (disk_of new))
        → Leaves disk (disk_of first) (disk_of new) (λ c. Opens image c ⊎ Opens (with_first page image) c)
    page_stops first quiet stops =
        goes_far disk (disk_of first) (disk_of old) (disk_of new) (λ c. Opens image c ⊎ Opens (with_first page image) c)
        (weaker disk (disk_of first) (disk_of old) (Opens image) (λ c. Opens image c ⊎ Opens (with_first page image) c) (λ c same. inl same) quiet) (commit_stops stops)
