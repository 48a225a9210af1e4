use Rattle.std.proofs.Common.{◌≡◌, ℕ, subst, arith}
use Rattle.pager_core.specs.Pages.{disk_of, shape_of}
use Rattle.pager_commit.specs.Stages.{HasExtents, WritesPages}
use Rattle.pager_commit.proofs.WriteLemmas.{nothing_written, page_lost, page_written}
use Rattle.pager_commit.proofs.write.write_changed.Goals as goal

pub loop-n-init : goal.loop-n-init
loop-n-init g c = (nothing_written g.D.Disk c.args.pages.now, c.count-n-end.ensures)

pub returns-in_err-write_page-clause-stops : goal.returns-in_err-write_page-clause-stops
returns-in_err-write_page-clause-stops g c = page_lost g.D.Disk c.loop-n.n c.args.pages.now c.loop-n.pages c.write_page.new.pages c.loop-n.invariant.0 c.write_page.ensures.changes

pub loop-n-preserved : goal.loop-n-preserved
loop-n-preserved g c = (
  page_written g.D.Disk c.loop-n.n c.args.pages.now c.loop-n.pages c.write_page.new.pages c.loop-n.invariant.0
      (record { written = c.in_ok-write_page.ensures.written; changes = c.write_page.ensures.changes; kept = c.write_page.ensures.kept; rest = c.write_page.ensures.rest; telling = c.write_page.ensures.telling })
      c.in_ok-write_page.ensures.cause.only c.write_page.ensures.extent,
  c.loop-n.invariant.1,
)

pub returns-clause-written : goal.returns-clause-written
returns-clause-written g c =
    let all : c.loop-n.n ≡ (shape_of c.args.pages.now).count = omega (arith, c.loop-n.invariant.1) in
    let P : ℕ → Type 0 = λ n. WritesPages g.D.Disk c.args.pages.now n (disk_of c.loop-n.pages) in
    subst P all c.loop-n.invariant.0.writes

pub returns-clause-extents : goal.returns-clause-extents
returns-clause-extents g c =
    let all : c.loop-n.n ≡ (shape_of c.args.pages.now).count = omega (arith, c.loop-n.invariant.1) in
    let P : ℕ → Type 0 = λ n. HasExtents n c.args.pages.now in
    subst P all c.loop-n.invariant.0.extents

pub returns-clause-stops : goal.returns-clause-stops
returns-clause-stops g c = λ base log rests. (c.loop-n.invariant.0.writes base log rests).stops
