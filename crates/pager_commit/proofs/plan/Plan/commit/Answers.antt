use Rattle.std.proofs.Common.{ℕ, ◌^◌, ◌≤◌, List, ◌++◌, ◌∙◌, length, drop, refl, sym, subst}
use Rattle.rollback_journal.specs.Header.{no_magic}
use Rattle.rollback_journal.proofs.Shut.{cold_without_magic}
use Rattle.pager_core.specs.Pages.{disk_of}
use Rattle.pager_commit.specs.Stages.{GoesThrough, RestBoth, written_whole}
use Rattle.pager_commit.proofs.CommitLemmas.{committed, stops_between}
use Rattle.pager_commit.proofs.plan.Plan.commit.Goals as goal

pub returns-clause-done : goal.returns-clause-done
returns-clause-done g c = λ base log after ready stands is.
    let ended = no_magic ++ drop 8 c.as_slice.result.now in
    committed g.D.Disk c.args.pages.now base log c.args.self ready c.in_ok-write_all.ensures.extents stands after is _ (record {
      log = ended;
      rests = subst (RestBoth g.D.Disk (written_whole c.args.pages.now base) ended) (sym c.settle.ensures.stays) (c.in_ok-write_all.ensures.done base log ready.rests);
      cold = cold_without_magic ended refl;
    })

pub returns-in_err-write_all-clause-stops : goal.returns-in_err-write_all-clause-stops
returns-in_err-write_all-clause-stops g c = λ base log before after ready fits is_before is_after.
    let pages = c.args.pages.now in
    let through = subst (λ l. GoesThrough g.D.Disk pages base l (disk_of c.write_all.new.pages)) (c.as_slice.ensures.value ∙ c.self.view_is) (c.write_all.ensures.stops base log ready.rests ready.cold) in
    let Room : List ℕ → Type 0 = λ l. length l ≤ 2 ^ 30 in
    stops_between g.D.Disk pages base log c.args.self ready fits (subst Room c.self.view_is c.self.invariant.2) before after is_before is_after _ through

pub returns-clause-stops : goal.returns-clause-stops
returns-clause-stops g c = λ base log before after ready fits is_before is_after.
    let pages = c.args.pages.now in
    let through = subst (λ l. GoesThrough g.D.Disk pages base l (disk_of c.write_all.new.pages)) (c.as_slice.ensures.value ∙ c.self.view_is) (c.write_all.ensures.stops base log ready.rests ready.cold) in
    let Room : List ℕ → Type 0 = λ l. length l ≤ 2 ^ 30 in
    stops_between g.D.Disk pages base log c.args.self ready fits (subst Room c.self.view_is c.self.invariant.2) before after is_before is_after _
    (subst (GoesThrough g.D.Disk pages base c.args.self) (sym c.settle.ensures.stays) through)
