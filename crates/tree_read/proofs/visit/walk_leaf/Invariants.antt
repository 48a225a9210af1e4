use Rattle.std.proofs.Common.{◌≡◌, ◌∷◌, true, drop}
use Rattle.pager_core.specs.Pages.{StayAll, disk_of, shape_of}
use Rattle.tree_read.specs.Node.{are_links}
use Rattle.tree_read.specs.Nodes.{HasNodes, Nodes}
use Rattle.tree_read.specs.Walk.{Leaf, leaf_cells, run}
use Rattle.tree_read.proofs.visit.walk_leaf.Given as goal

-- the walk goes on with the cells that are left, and no read failed
abbrev pub invariant-loop-i : goal.invariant-loop-i
invariant-loop-i g l = record {
  links : are_links (shape_of l.fn.pages).count (drop l.i l.cells) ≡ true;
  stay : StayAll g.D.Disk l.fn.pages l.pages;
  faultless : g.D.Disk.read_faults (disk_of l.pages) ≡ g.D.Disk.read_faults (disk_of l.fn.pages);
  walk : (nodes : Nodes) → HasNodes nodes l.pages → run l.fn.walk (Leaf l.page l.level ∷ leaf_cells nodes l.kind l.page 0 l.cells) ≡ run l.walk (leaf_cells nodes l.kind l.page l.i (drop l.i l.cells));
}
