use Rattle.std.proofs.Common.{◌≡◌, drop}
use Rattle.tree_read.specs.Node.{are_links}
use Rattle.tree_read.proofs.node.are_links.Given as goal

-- the links of all cells are those of the cells that are left
abbrev pub invariant-loop-cell : goal.invariant-loop-cell
invariant-loop-cell l = are_links l.count l.cells ≡ are_links l.count (drop l.cell-index l.cells)
