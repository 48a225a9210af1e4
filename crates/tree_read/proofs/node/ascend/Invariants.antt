use Rattle.std.proofs.Common.{◌≡◌, drop}
use Rattle.tree_read.specs.Node.{ascend}
use Rattle.tree_read.proofs.node.ascend.Given as goal

-- all rowids ascend where those that are left do, from the last one on
abbrev pub invariant-loop-cell : goal.invariant-loop-cell
invariant-loop-cell l = ascend l.limits.low l.limits.high l.cells ≡ ascend l.low l.limits.high (drop l.cell-index l.cells)
