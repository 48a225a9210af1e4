use Rattle.std.proofs.Common.{inr, sym, subst}
use Rattle.std.proofs.lemmas.Result.{on_ok_weaker}
use Rattle.alter_disk.specs.Moments.{Leaves}
use Rattle.pager_core.specs.Pages.{is_changed, shape_of}
use Rattle.pager_commit.specs.Stages.{ColdOr, RestBoth, Unchanged, written_whole}
use Rattle.pager_commit.proofs.ThroughLemmas.{ended_behind, written_behind}
use Rattle.pager_commit.proofs.commit.write_all.Goals as goal

pub returns-in_err-write_pages-clause-stops : goal.returns-in_err-write_pages-clause-stops
returns-in_err-write_pages-clause-stops g c = λ base log rests cold.
    let journal = c.args.journal.now in
    let lent = subst (RestBoth g.D.Disk base log) (sym c.disk.ensures.disk) rests in
    let whole = c.in_ok-open_journal.ensures.done base log lent in
    record {
      mid = c.open_journal.new.disk;
      whole = inr whole;
      before = subst (λ d. Leaves g.D.Disk d c.open_journal.new.disk (ColdOr base journal)) c.disk.ensures.disk (c.open_journal.ensures.stops base log lent cold);
      behind = written_behind g.D.Disk c.args.pages.now base journal _ _ (c.write_pages.ensures.stops base journal whole);
    }

pub returns-clause-done : goal.returns-clause-done
returns-clause-done g c = on_ok_weaker c.gate.result (λ done base log rests.
    let journal = c.args.journal.now in
    let lent = subst (RestBoth g.D.Disk base log) (sym c.disk.ensures.disk) rests in
    let written = c.in_ok-write_pages.ensures.done base journal (c.in_ok-open_journal.ensures.done base log lent) in
    done (written_whole c.args.pages.now base) journal (subst (RestBoth g.D.Disk (written_whole c.args.pages.now base) journal) (sym c.disk-2.ensures.disk) written)) c.gate.ensures.done

pub returns-clause-stops : goal.returns-clause-stops
returns-clause-stops g c = λ base log rests cold.
    let journal = c.args.journal.now in
    let after = written_whole c.args.pages.now base in
    let lent = subst (RestBoth g.D.Disk base log) (sym c.disk.ensures.disk) rests in
    let whole = c.in_ok-open_journal.ensures.done base log lent in
    let written = c.in_ok-write_pages.ensures.done base journal whole in
    let ended = c.gate.ensures.stops after journal (subst (RestBoth g.D.Disk after journal) (sym c.disk-2.ensures.disk) written) in
    record {
      mid = c.open_journal.new.disk;
      whole = inr whole;
      before = subst (λ d. Leaves g.D.Disk d c.open_journal.new.disk (ColdOr base journal)) c.disk.ensures.disk (c.open_journal.ensures.stops base log lent cold);
      behind = ended_behind g.D.Disk c.args.pages.now base journal _ c.disk-2.result.now _
          (subst (λ d. Leaves g.D.Disk c.open_journal.new.disk d (Unchanged (is_changed c.args.pages.now) (shape_of c.args.pages.now).page base journal)) (sym c.disk-2.ensures.disk) (c.write_pages.ensures.stops base journal whole)) c.in_ok-write_pages.ensures.extents c.requires.begins ended;
    }
