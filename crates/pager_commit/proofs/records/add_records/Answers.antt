use Rattle.std.proofs.Common.{◌∙◌, ap, is_ok, true≢false}
use Rattle.pager_commit.proofs.RecordLemmas.{page_added}
use Rattle.pager_commit.proofs.records.add_records.Goals as goal

pub loop-n-preserved : goal.loop-n-preserved
loop-n-preserved g c = (
  page_added g.D.Disk c.loop-n.n c.args.pages.now c.loop-n.pages c.add_changed.new.pages c.args.journal.now.items c.loop-n.journal.items c.add_changed.new.journal.items c.loop-n.invariant.0
      c.in_ok-add_changed.ensures.added c.add_changed.ensures.kept c.add_changed.ensures.reads,
  c.loop-n.invariant.1,
  c.in_ok-add_changed.ensures.cause.only (λ is. true≢false (ap is_ok is)) ∙ c.loop-n.invariant.2,
)
