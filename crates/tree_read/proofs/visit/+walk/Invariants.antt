use Rattle.std.proofs.Common.{◌≡◌, ◌+◌, ◌*◌, true, drop}
use Rattle.pager_core.specs.Pages.{StayAll, disk_of, shape_of}
use Rattle.tree_read.specs.Node.{are_links}
use Rattle.tree_read.specs.Nodes.{HasNodes, Nodes}
use Rattle.tree_read.specs.Walk.{children, children_by, run, trace}
use Rattle.tree_read.proofs.visit.+walk.Given as goal

abbrev pub decreases-walk_page : goal.decreases-walk_page
decreases-walk_page g l = 4 * l.levels

abbrev pub decreases-walk_child : goal.decreases-walk_child
decreases-walk_child g l = 4 * l.levels + 1

abbrev pub decreases-walk_left : goal.decreases-walk_left
decreases-walk_left g l = 4 * l.levels + 2

abbrev pub decreases-walk_inner : goal.decreases-walk_inner
decreases-walk_inner g l = 4 * l.levels + 3

-- the walk goes on with the children that are left, and no read failed
abbrev pub invariant-walk_inner-loop-i : goal.invariant-walk_inner-loop-i
invariant-walk_inner-loop-i g l = record {
  links : are_links (shape_of l.fn.pages).count (drop l.i l.cells) ≡ true;
  stay : StayAll g.D.Disk l.fn.pages l.pages;
  faultless : g.D.Disk.read_faults (disk_of l.pages) ≡ g.D.Disk.read_faults (disk_of l.fn.pages);
  walk : (nodes : Nodes) → HasNodes nodes l.pages → run l.fn.walk (children nodes l.table l.levels l.limits l.page l.cells l.right)
      ≡ run l.walk (children_by nodes (trace nodes l.table l.levels) l.table l.page l.i l.low l.limits.high (drop l.i l.cells) l.right);
}
