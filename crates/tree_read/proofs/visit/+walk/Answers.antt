use Rattle.std.proofs.Common.{◌≡◌, ◌≤◌, ℕ, ◌-◌, true, List, ◌∷◌, refl, sym, ap, ap₂, ◌∙◌, arith, rules}
use Rattle.page_cells.specs.declared.cell.Cell.{Cell}
use Rattle.std.proofs.lemmas.Result.{err_from_is_err_and}
use Rattle.pager_core.specs.Pages.{shape_of}
use Rattle.tree_read.specs.Node.{are_links, may_stand}
use Rattle.tree_read.specs.Walk.{Leaf, children, leaf_cells, run, trace}
use Rattle.tree_read.proofs.Read.{nodes_before, reads_quiet, stay_none, stay_on}
use Rattle.tree_read.proofs.Runs.{answers_same, meets_same}
use Rattle.tree_read.proofs.Visits.{child-none, children-none, children_go_on, children_stop, left_of_index, left_of_table, left_stops, links_more, no_cells_stop, page_stops, stands_inner, stands_leaf, stands_links, stands_not, stands_right, too_deep}
use Rattle.tree_read.proofs.visit.+walk.Goals as goal

pub walk_inner-returns-in_err-walk_left-clause-walk : goal.walk_inner-returns-in_err-walk_left-clause-walk
walk_inner-returns-in_err-walk_left-clause-walk g t c = λ nodes has.
    let p = err_from_is_err_and c.from_residual.result c.from_residual.ensures.1 in
    let e = c.in_err-walk_left.field-0.0 in
    let before = nodes_before g.D.Disk c.loop-i.pages c.walk_left.new.pages nodes c.in_err-walk_left.ensures.reads.stay has in
    rw (p.1, p.2) (answers_same e _ _ (c.loop-i.invariant.walk nodes before)
    (children_stop nodes (trace nodes c.args.table c.args.levels) c.args.table c.args.page c.loop-i.i c.loop-i.low c.args.limits.high c.args.cells.now c.args.right _ c.loop-i.walk e c.loop-i-test.true
    (c.in_err-walk_left.ensures.walk nodes has)))

pub walk_inner-loop-i-preserved : goal.walk_inner-loop-i-preserved
walk_inner-loop-i-preserved g t c =
    let reads = c.in_ok-walk_left.ensures.reads in
    record {
      links = links_more (shape_of c.args.pages.now).count c.loop-i.i c.args.cells.now c.loop-i.invariant.links;
      stay = stay_on g.D.Disk c.args.pages.now c.loop-i.pages c.walk_left.new.pages c.loop-i.invariant.stay reads.stay;
      faultless = reads.cause.only (λ is. cc) ∙ c.loop-i.invariant.faultless;
      walk = λ nodes has.
          let before = nodes_before g.D.Disk c.loop-i.pages c.walk_left.new.pages nodes reads.stay has in
          c.loop-i.invariant.walk nodes before
          ∙ children_go_on nodes (trace nodes c.args.table c.args.levels) c.args.table c.args.page c.loop-i.i c.loop-i.low c.args.limits.high c.args.cells.now c.args.right _ c.loop-i.walk c.walk_left.new.walk
          c.loop-i-test.true (c.in_ok-walk_left.ensures.walk nodes has);
    }

pub walk_inner-returns-clause-walk : goal.walk_inner-returns-clause-walk
walk_inner-returns-clause-walk g t c = λ nodes has.
    let before = nodes_before g.D.Disk c.loop-i.pages c.walk_page.new.pages nodes c.walk_page.ensures.reads.stay has in
    meets_same c.walk_page.result c.walk_page.new.walk _ _ (c.loop-i.invariant.walk nodes before
    ∙ ap (run c.loop-i.walk) (children-none nodes (trace nodes c.args.table c.args.levels) c.args.table c.args.page c.loop-i.i c.loop-i.low c.args.limits.high c.args.cells.now c.args.right c.loop-i-test.false))
    (c.walk_page.ensures.walk nodes has)

pub walk_left-returns-in_err-walk_child-clause-walk : goal.walk_left-returns-in_err-walk_child-clause-walk
walk_left-returns-in_err-walk_child-clause-walk g t c = λ nodes has.
    let p = err_from_is_err_and c.from_residual.result c.from_residual.ensures.1 in
    rw (p.1, p.2) (left_stops nodes c.args.table c.args.levels c.args.low c.args.place c.args.cell.now c.args.walk.now c.in_err-walk_child.field-0.0 (c.in_err-walk_child.ensures.walk nodes has))

pub walk_left-returns-then-table-clause-walk : goal.walk_left-returns-then-table-clause-walk
walk_left-returns-then-table-clause-walk g t c = λ nodes has.
    left_of_table nodes c.args.table c.args.levels c.args.low c.args.place c.args.cell.now c.args.walk.now c.walk_child.new.walk c.if-table.true (c.in_ok-walk_child.ensures.walk nodes has)

pub walk_left-returns-else-table-clause-walk : goal.walk_left-returns-else-table-clause-walk
walk_left-returns-else-table-clause-walk g t c = λ nodes has.
    let before = nodes_before g.D.Disk c.walk_child.new.pages c.walk_cell.new.pages nodes c.walk_cell.ensures.reads.stay has in
    left_of_index c.walk_cell.result nodes c.args.table c.args.levels c.args.low c.args.place c.args.cell.now c.args.walk.now c.walk_child.new.walk c.walk_cell.new.walk c.if-table.false
    (c.in_ok-walk_child.ensures.walk nodes before) (c.walk_cell.ensures.walk nodes has)

pub walk_child-returns-in-None-clause-walk : goal.walk_child-returns-in-None-clause-walk
walk_child-returns-in-None-clause-walk g t c = λ nodes has. child-none nodes c.args.table c.args.levels c.args.low c.args.cell.now c.args.walk.now c.in-None.is

pub walk_page-returns-then-levels-eq0-clause-walk : goal.walk_page-returns-then-levels-eq0-clause-walk
walk_page-returns-then-levels-eq0-clause-walk g t c = λ nodes has. too_deep nodes c.args.table c.args.levels c.args.limits c.args.page c.args.walk.now (omega (arith, c.if-levels-eq0.true))

pub walk_page-returns-in_err-find-clause-walk : goal.walk_page-returns-in_err-find-clause-walk
walk_page-returns-in_err-find-clause-walk g t c = λ nodes has.
    let p = err_from_is_err_and c.from_residual.result c.from_residual.ensures.1 in
    rw (p.1, p.2) (page_stops nodes c.args.table c.args.levels c.args.limits c.args.page c.args.walk.now (omega (arith, c.if-levels-eq0.false)) c.in_err-find.field-0.0 c.in_err-find.ensures.walk)

pub walk_page-returns-in_err-find-clause-reads : goal.walk_page-returns-in_err-find-clause-reads
walk_page-returns-in_err-find-clause-reads g t c =
    let p = err_from_is_err_and c.from_residual.result c.from_residual.ensures.1 in
    let pages = c.args.pages.now in
    rw (p.1, p.2) (reads_quiet g.D.Disk pages pages _ (stay_none g.D.Disk pages) refl c.in_err-find.ensures.quiet)

pub walk_page-returns-in_err-node-clause-walk : goal.walk_page-returns-in_err-node-clause-walk
walk_page-returns-in_err-node-clause-walk g t c = λ nodes has.
    let p = err_from_is_err_and c.from_residual-in_err-node.result c.from_residual-in_err-node.ensures.1 in
    rw (p.1, p.2) (no_cells_stop nodes c.args.table c.args.levels c.args.limits c.args.page c.args.walk.now (omega (arith, c.if-levels-eq0.false)) c.find.new.self c.in_err-node.field-0.0
    c.in_ok-find.ensures.walk (c.in_err-node.ensures.node nodes has))

pub walk_page-returns-then-not-may_stand-clause-walk : goal.walk_page-returns-then-not-may_stand-clause-walk
walk_page-returns-then-not-may_stand-clause-walk g t c = λ nodes has.
    let node = c.in_ok-node.node in
    let count = has.count ∙ sym c.count.ensures in
    stands_not nodes c.args.table c.args.levels c.args.limits c.args.page c.args.walk.now (omega (arith, c.if-levels-eq0.false)) c.find.new.self node c.in_ok-find.ensures.walk (c.in_ok-node.ensures.node nodes has)
    (ap (λ (n : ℕ). may_stand n c.args.table c.args.limits c.args.page node) count ∙ sym c.may_stand.ensures ∙ c.if-not-may_stand.true)

pub walk_page-returns-in-None-clause-walk : goal.walk_page-returns-in-None-clause-walk
walk_page-returns-in-None-clause-walk g t c = λ nodes has.
    let node = c.in_ok-node.node in
    let before = nodes_before g.D.Disk c.read_node.new.pages c.walk_leaf.new.pages nodes c.walk_leaf.ensures.reads.stay has in
    let count = before.count ∙ sym c.count.ensures in
    meets_same c.walk_leaf.result c.walk_leaf.new.walk _ _
    (stands_leaf nodes c.args.table c.args.levels c.args.limits c.args.page c.args.walk.now (omega (arith, c.if-levels-eq0.false)) c.find.new.self node c.in_ok-find.ensures.walk (c.in_ok-node.ensures.node nodes before)
    (ap (λ (n : ℕ). may_stand n c.args.table c.args.limits c.args.page node) count ∙ sym c.may_stand.ensures ∙ c.if-not-may_stand.false) c.in-None.is
    ∙ ap (λ (cells : List Cell). run c.find.new.self (Leaf c.args.page (c.args.levels - 1) ∷ leaf_cells nodes node.kind c.args.page 0 cells)) (sym c.as_slice-cells.ensures))
    (c.walk_leaf.ensures.walk nodes has)

pub walk_page-walk_inner-requires : goal.walk_page-walk_inner-requires
walk_page-walk_inner-requires g t c =
    let node = c.in_ok-node.node in
    let stands : may_stand c.count.result c.args.table c.args.limits c.args.page node ≡ true = sym c.may_stand.ensures ∙ c.if-not-may_stand.false in
    let at = stands_links c.count.result c.args.table c.args.limits c.args.page node stands in
    let links : are_links (shape_of c.read_node.new.pages).count c.as_slice-cells.result.now ≡ true =
    ap₂ are_links (sym c.count.ensures) c.as_slice-cells.ensures ∙ at in
    let right = stands_right c.count.result c.args.table c.args.limits c.args.page node stands c.in-Some.right c.in-Some.is in
    let low : 1 ≤ c.in-Some.right = right.0 in
    let high : c.in-Some.right ≤ (shape_of c.read_node.new.pages).count = omega (arith, right.1, c.count.ensures) in
    search rules

pub walk_page-returns-clause-walk : goal.walk_page-returns-clause-walk
walk_page-returns-clause-walk g t c = λ nodes has.
    let node = c.in_ok-node.node in
    let before = nodes_before g.D.Disk c.read_node.new.pages c.walk_inner.new.pages nodes c.walk_inner.ensures.reads.stay has in
    let count = before.count ∙ sym c.count.ensures in
    meets_same c.walk_inner.result c.walk_inner.new.walk _ _
    (stands_inner nodes c.args.table c.args.levels c.args.limits c.args.page c.args.walk.now (omega (arith, c.if-levels-eq0.false)) c.find.new.self node c.in_ok-find.ensures.walk (c.in_ok-node.ensures.node nodes before) c.in-Some.right
    (ap (λ (n : ℕ). may_stand n c.args.table c.args.limits c.args.page node) count ∙ sym c.may_stand.ensures ∙ c.if-not-may_stand.false) c.in-Some.is
    ∙ ap (λ (cells : List Cell). run c.find.new.self (children nodes c.args.table (c.args.levels - 1) c.args.limits c.args.page cells c.in-Some.right)) (sym c.as_slice-cells.ensures))
    (c.walk_inner.ensures.walk nodes has)
