-- The stages in a row.
use Rattle.std.proofs.Common.{◌≡◌, ◌⊎◌, inl, inr, ℕ, ◌-◌, List, ◌++◌, length, take, drop, sym, ap, ◌∙◌, subst}
use Rattle.std.proofs.lemmas.List.{take-append-drop, take_rest}
use Rattle.alter_disk.specs.declared.disk.Disk.{Ghosts}
use Rattle.alter_disk.specs.Moments.{Leaves}
use Rattle.alter_disk.proofs.Moments.{goes_far, weaker}
use Rattle.rollback_journal.specs.Header.{magic}
use Rattle.pager_core.specs.declared.pages.Pages.{Pages}
use Rattle.pager_core.specs.Pages.{is_changed, shape_of}
use Rattle.pager_commit.specs.Stages.{ColdBeside, ColdOr, HasExtents, Unchanged, written_whole}

-- a journal is its first eight bytes and the rest
pub whole_again : (log : List ℕ) → take 8 log ++ take (length log - 8) (drop 8 log) ≡ log
whole_again log = ap (λ (l : List ℕ). take 8 log ++ l) (take_rest log 8) ∙ take-append-drop 8 log

pub whole_opened : (log : List ℕ) → take 8 log ≡ magic → magic ++ take (length log - 8) (drop 8 log) ≡ log
whole_opened log begins = ap (λ (l : List ℕ). l ++ take (length log - 8) (drop 8 log)) (sym begins) ∙ whole_again log

pub whole_behind : (log : List ℕ) → take 8 log ≡ magic → magic ++ drop 8 log ≡ log
whole_behind log begins = ap (λ (l : List ℕ). l ++ drop 8 log) (sym begins) ∙ take-append-drop 8 log

module _ {D : Type 0} (disk : Ghosts D) where
  -- while the journal is not whole it is cold
  pub cold_or : (base log : List ℕ) (old new : D) → Leaves disk old new (ColdBeside base) → Leaves disk old new (ColdOr base log)
  cold_or base log old new leaves = weaker disk old new (ColdBeside base) (ColdOr base log) (λ c cold. record { db = cold.db; journal = inr cold.cold }) leaves

  pub two_cold : (base log : List ℕ) (old mid new : D) → Leaves disk old mid (ColdBeside base) → Leaves disk mid new (ColdBeside base) → Leaves disk old new (ColdOr base log)
  two_cold base log old mid new first then_ = cold_or base log old new (goes_far disk old mid new (ColdBeside base) first then_)

  pub opened : (base log rest : List ℕ) (old mid late new : D) → Leaves disk old mid (ColdBeside base) → Leaves disk mid late (ColdBeside base)
      → magic ++ rest ≡ log → Leaves disk late new (ColdOr base (magic ++ rest)) → Leaves disk old new (ColdOr base log)
  opened base log rest old mid late new first then_ whole last =
      let P : List ℕ → Type 0 = λ l. Leaves disk late new (ColdOr base l) in
      goes_far disk old late new (ColdOr base log) (two_cold base log old mid late first then_) (subst P whole last)

  module _ (pages : Pages D) (base log : List ℕ) where
    -- the pages are written beside the whole journal
    pub written_behind : (mid late : D) → Leaves disk mid late (Unchanged (is_changed pages) (shape_of pages).page base log)
        → Leaves disk mid late (λ c. Unchanged (is_changed pages) (shape_of pages).page base log c ⊎ (HasExtents (shape_of pages).count pages × ColdOr (written_whole pages base) log c))
    written_behind mid late leaves = weaker disk mid late _ _ (λ c one. inl one) leaves

    -- and then the journal is ended
    pub ended_behind : (mid late new : D) → Leaves disk mid late (Unchanged (is_changed pages) (shape_of pages).page base log)
        → HasExtents (shape_of pages).count pages → take 8 log ≡ magic → Leaves disk late new (ColdOr (written_whole pages base) (magic ++ drop 8 log))
        → Leaves disk mid new (λ c. Unchanged (is_changed pages) (shape_of pages).page base log c ⊎ (HasExtents (shape_of pages).count pages × ColdOr (written_whole pages base) log c))
    ended_behind mid late new leaves extents begins last =
        let P : List ℕ → Type 0 = λ l. Leaves disk late new (ColdOr (written_whole pages base) l) in
        goes_far disk mid late new _ (written_behind mid late leaves) (weaker disk late new _ _ (λ c one. inr (extents, one)) (subst P (whole_behind log begins) last))
