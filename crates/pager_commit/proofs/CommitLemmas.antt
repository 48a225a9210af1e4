-- A commit leaves the image before or the one after.
use Rattle.std.proofs.Common.{◌≡◌, ◌⊎◌, inl, inr, ⊎_elim, ℕ, ◌*◌, ◌^◌, ◌≤◌, List, length, Some, sym, ap, ◌∙◌, subst, arith}
use Rattle.std.proofs.lemmas.Bool.{cases_Bool, cases_lt}
use Rattle.std.proofs.Math.Nat.{mul-le-mul_right}
use Rattle.alter_disk.specs.declared.disk.Disk.{Ghosts}
use Rattle.alter_disk.specs.Files.{Files}
use Rattle.alter_disk.proofs.Moments.{weaker}
use Rattle.rollback_journal.specs.declared.heat.Heat.TheVariants.{Cold}
use Rattle.rollback_journal.specs.Heat.{heat_of}
use Rattle.rollback_journal.proofs.Shut.{stands_cold}
use Rattle.pager_core.specs.declared.pages.Pages.{Pages}
use Rattle.pager_core.specs.Image.{image_of, known_image}
use Rattle.pager_core.specs.Pages.{FitsDatabase, before_of, bytes_of, disk_of, is_changed, shape_of}
use Rattle.pager_core.proofs.Fits.{unchanged_known}
use Rattle.pager_commit.specs.Opens.{Opens, image_by}
use Rattle.pager_commit.specs.Ready.{EachStands, IsCommitted, IsReady, StopsBetween}
use Rattle.pager_commit.specs.Stages.{ColdOr, GoesThrough, HasExtents, IsEnded, KeepsUnchanged, written_whole}
use Rattle.pager_commit.proofs.After.{after_image, written_keeps}
use Rattle.pager_commit.proofs.Standings.{IsOver, cold_or_opens, unchanged_opens}

module _ {D : Type 0} (disk : Ghosts D) (pages : Pages D) (base log plan : List ℕ) (ready : IsReady disk pages base log plan) where
  -- after Ok
  pub committed : HasExtents (shape_of pages).count pages → EachStands disk pages base → (after : List (List ℕ)) → known_image disk pages ≡ Some after
      → (new : D) → IsEnded disk (written_whole pages base) new → IsCommitted disk after new
  committed extents stands after is new ended =
      let image : image_of (written_whole pages base) ≡ Some after = after_image disk pages base ready.planned.sound extents ready.first stands ∙ is in
      record {
        base = written_whole pages base;
        log = ended.log;
        rests = ended.rests;
        cold = ended.cold;
        pages = image;
        opens = λ c left. ap image_by (stands_cold c (subst (λ j. heat_of j ≡ Cold) (sym (ended.rests.journal.crash c left)) ended.cold)) ∙ ap image_of (ended.rests.db.crash c left) ∙ image;
      }

  -- over the database from which the pages were read each page is changed or stands there
  pub each_stands : FitsDatabase disk pages base → EachStands disk pages base
  each_stands fits = record {
    each = λ n from to. elim (cases_Bool (is_changed pages n)) [
      | inl is ↦ inl is
      | inr same ↦ elim (cases_lt (before_of pages) n) [
        | inl past ↦ inl (ready.planned.added n past to)
        | inr within ↦ inr (record {
          whole = let below : n * (shape_of pages).page ≤ before_of pages * (shape_of pages).page = mul-le-mul_right (shape_of pages).page within in omega (arith, below, fits.whole);
          known = unchanged_known disk pages n same ∙ fits.originals n from within;
        })
      ]
    ];
  }

  module _ (fits : FitsDatabase disk pages base) (room : length plan ≤ 2 ^ 30) (before after : List (List ℕ)) (is_before : image_of base ≡ Some before)
      (is_after : known_image disk pages ≡ Some after) where
    is_over : IsOver pages base plan
    is_over = record {
      sound = ready.planned.sound;
      some = ready.planned.some;
      within = ready.planned.within;
      first = ready.first.changed;
      plan = ready.planned;
      room = room;
      size = fits.size;
      count = fits.count;
      whole = fits.whole;
    }

    ended_opens : HasExtents (shape_of pages).count pages → (c : Files) → ColdOr (written_whole pages base) plan c → Opens before c ⊎ Opens after c
    ended_opens extents c one =
        let keeps = written_keeps (is_changed pages) (bytes_of pages) (shape_of pages).page base (shape_of pages).count extents in
        ⊎_elim
        (λ whole. inl (unchanged_opens pages base plan is_over before is_before c
        (record { db = subst (KeepsUnchanged (is_changed pages) (shape_of pages).page base) (sym one.db) keeps; journal = whole })))
        (λ cold. inr (ap image_by (stands_cold c cold) ∙ ap image_of one.db ∙ after_image disk pages base ready.planned.sound extents ready.first (each_stands fits) ∙ is_after))
        one.journal

    pub stops_between : (new : D) → GoesThrough disk pages base plan new → StopsBetween disk before after base plan (disk_of pages) new
    stops_between new through = record {
      mid = through.mid;
      whole = through.whole;
      first = weaker disk (disk_of pages) through.mid (ColdOr base plan) (Opens before) (cold_or_opens pages base plan is_over before is_before) through.before;
      then_ = weaker disk through.mid new _ (λ c. Opens before c ⊎ Opens after c)
          (λ c one. ⊎_elim (λ same. inl (unchanged_opens pages base plan is_over before is_before c same)) (λ ended. ended_opens ended.0 c ended.1) one) through.behind;
    }
