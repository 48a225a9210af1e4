use Rattle.std.proofs.Common.{◌∙◌, refl}
use Rattle.std.proofs.lemmas.Result.{err_from_is_err_and}
use Rattle.tree_read.specs.Walk.{Leaf, leaf_cells}
use Rattle.tree_read.proofs.Read.{nodes_before, reads_quiet, stay_none, stay_on}
use Rattle.tree_read.proofs.Runs.{answers_same, answers_step, goes_on_step}
use Rattle.tree_read.proofs.Visits.{leaf-none, leaf_goes_on, leaf_stops, links_more}
use Rattle.pager_core.specs.Pages.{shape_of}
use Rattle.tree_read.proofs.visit.walk_leaf.Goals as goal

pub returns-in_err-settle-clause-walk : goal.returns-in_err-settle-clause-walk
returns-in_err-settle-clause-walk g c = λ nodes has.
    let p = err_from_is_err_and c.from_residual.result c.from_residual.ensures.1 in
    rw (p.1, p.2) (answers_step c.in_err-settle.field-0.0 c.args.walk.now (Leaf c.args.page c.args.level) (leaf_cells nodes c.args.kind c.args.page 0 c.args.cells.now) c.in_err-settle.ensures.walk)

pub returns-in_err-settle-clause-reads : goal.returns-in_err-settle-clause-reads
returns-in_err-settle-clause-reads g c =
    let p = err_from_is_err_and c.from_residual.result c.from_residual.ensures.1 in
    let pages = c.args.pages.now in
    rw (p.1, p.2) (reads_quiet g.D.Disk pages pages _ (stay_none g.D.Disk pages) refl c.in_err-settle.ensures.quiet)

pub loop-i-init : goal.loop-i-init
loop-i-init g c = record {
  links = c.requires.links;
  stay = stay_none g.D.Disk c.args.pages.now;
  faultless = refl;
  walk = λ nodes has. goes_on_step c.args.walk.now c.settle.new.self (Leaf c.args.page c.args.level) (leaf_cells nodes c.args.kind c.args.page 0 c.args.cells.now) c.in_ok-settle.ensures.walk;
}

pub returns-in_err-walk_cell-clause-walk : goal.returns-in_err-walk_cell-clause-walk
returns-in_err-walk_cell-clause-walk g c = λ nodes has.
    let p = err_from_is_err_and c.from_residual-in_err-walk_cell.result c.from_residual-in_err-walk_cell.ensures.1 in
    let e = c.in_err-walk_cell.field-0.0 in
    let before = nodes_before g.D.Disk c.loop-i.pages c.walk_cell.new.pages nodes c.in_err-walk_cell.ensures.reads.stay has in
    rw (p.1, p.2) (answers_same e _ _ (c.loop-i.invariant.walk nodes before)
    (leaf_stops nodes c.args.kind c.args.page c.loop-i.i c.args.cells.now _ c.loop-i.walk e c.loop-i-test.true (c.in_err-walk_cell.ensures.walk nodes has)))

pub loop-i-preserved : goal.loop-i-preserved
loop-i-preserved g c =
    let reads = c.in_ok-walk_cell.ensures.reads in
    record {
      links = links_more (shape_of c.args.pages.now).count c.loop-i.i c.args.cells.now c.loop-i.invariant.links;
      stay = stay_on g.D.Disk c.args.pages.now c.loop-i.pages c.walk_cell.new.pages c.loop-i.invariant.stay reads.stay;
      faultless = reads.cause.only (λ is. cc) ∙ c.loop-i.invariant.faultless;
      walk = λ nodes has.
          let before = nodes_before g.D.Disk c.loop-i.pages c.walk_cell.new.pages nodes reads.stay has in
          c.loop-i.invariant.walk nodes before
          ∙ leaf_goes_on nodes c.args.kind c.args.page c.loop-i.i c.args.cells.now _ c.loop-i.walk c.walk_cell.new.walk c.loop-i-test.true (c.in_ok-walk_cell.ensures.walk nodes has);
    }

pub returns-clause-walk : goal.returns-clause-walk
returns-clause-walk g c = λ nodes has.
    c.loop-i.invariant.walk nodes has ∙ leaf-none nodes c.args.kind c.args.page c.loop-i.i c.args.cells.now c.loop-i.walk c.loop-i-test.false
