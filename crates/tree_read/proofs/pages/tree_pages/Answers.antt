use Rattle.std.proofs.Common.{Bool, sym, ap, ap₂, ◌∙◌, arith}
use Rattle.std.proofs.lemmas.Result.{err_from_is_err_and}
use Rattle.pager_core.specs.declared.file_shape.FileShape.{FileShape}
use Rattle.tree_read.specs.Walk.{Walked, walk_tree}
use Rattle.tree_read.proofs.Read.{nodes_before}
use Rattle.tree_read.proofs.Runs.{answers_same}
use Rattle.tree_read.proofs.Visits.{no_root, walk_of_root}
use Rattle.tree_read.proofs.pages.tree_pages.Goals as goal

pub returns-in_err-node-clause-walk : goal.returns-in_err-node-clause-walk
returns-in_err-node-clause-walk g c = λ nodes has.
    let p = err_from_is_err_and c.from_residual.result c.from_residual.ensures.1 in
    let count = has.count ∙ ap (λ (s : FileShape). s.count) c.in_err-node.ensures.reads.stay.shape in
    rw (p.1, p.2) (no_root nodes c.args.root c.in_err-node.field-0.0 c.requires.root.0 (omega (arith, count, c.requires.root.1)) (c.in_err-node.ensures.node nodes has))

pub returns-in_err-tree-clause-walk : goal.returns-in_err-tree-clause-walk
returns-in_err-tree-clause-walk g c = λ nodes has.
    let p = err_from_is_err_and c.from_residual-in_err-tree.result c.from_residual-in_err-tree.ensures.1 in
    let before = nodes_before g.D.Disk c.read_node.new.pages c.tree.new.pages nodes c.in_err-tree.ensures.reads.stay has in
    let same = walk_of_root nodes c.args.root c.count.result c.in_ok-node.node (before.count ∙ sym c.count.ensures) (c.in_ok-node.ensures.node nodes before) in
    let args = ap₂ (λ (table : Bool) (walk : Walked). walk_tree nodes table c.args.root walk) c.is_table.ensures c.in_ok-walk.ensures in
    rw (p.1, p.2) (answers_same c.in_err-tree.field-0.0 _ _ (same ∙ sym args) (c.in_err-tree.ensures.walk nodes has))

pub returns-clause-walk : goal.returns-clause-walk
returns-clause-walk g c = λ nodes has.
    let before = nodes_before g.D.Disk c.read_node.new.pages c.tree.new.pages nodes c.in_ok-tree.ensures.reads.stay has in
    let same = walk_of_root nodes c.args.root c.count.result c.in_ok-node.node (before.count ∙ sym c.count.ensures) (c.in_ok-node.ensures.node nodes before) in
    let args = ap₂ (λ (table : Bool) (walk : Walked). walk_tree nodes table c.args.root walk) c.is_table.ensures c.in_ok-walk.ensures in
    (c.tree.new.self, same ∙ sym args ∙ c.in_ok-tree.ensures.walk nodes has, c.into_found.ensures)
