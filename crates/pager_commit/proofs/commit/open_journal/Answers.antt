use Rattle.std.proofs.Common.{subst}
use Rattle.std.proofs.lemmas.Result.{on_ok_weaker}
use Rattle.pager_commit.specs.Stages.{RestBoth}
use Rattle.pager_commit.proofs.ThroughLemmas.{opened, two_cold, whole_again, whole_opened}
use Rattle.pager_commit.proofs.commit.open_journal.Goals as goal

pub returns-in_err-fill-clause-stops : goal.returns-in_err-fill-clause-stops
returns-in_err-fill-clause-stops g c = λ base log rests cold.
    two_cold g.D.Disk base c.args.journal.now _ _ _ (c.shut.ensures.stops base log rests cold) (c.fill.ensures.stops base (c.in_ok-shut.ensures.done base log rests))

pub returns-clause-done : goal.returns-clause-done
returns-clause-done g c = on_ok_weaker c.gate.result (λ done base log rests.
    subst (λ l. RestBoth g.D.Disk base l c.gate.new.disk) (whole_again c.args.journal.now) (done base _ (c.in_ok-fill.ensures.done base (c.in_ok-shut.ensures.done base log rests)))) c.gate.ensures.done

pub returns-clause-stops : goal.returns-clause-stops
returns-clause-stops g c = λ base log rests cold.
    let shut = c.in_ok-shut.ensures.done base log rests in
    opened g.D.Disk base c.args.journal.now _ _ _ _ _ (c.shut.ensures.stops base log rests cold) (c.fill.ensures.stops base shut)
    (whole_opened c.args.journal.now c.requires.begins) (c.gate.ensures.stops base _ (c.in_ok-fill.ensures.done base shut))
