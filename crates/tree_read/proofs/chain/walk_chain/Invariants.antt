use Rattle.std.proofs.Common.{◌≡◌, ◌<◌}
use Rattle.pager_core.specs.Pages.{IsPage, StayAll, disk_of}
use Rattle.tree_read.specs.Nodes.{HasNodes, Nodes}
use Rattle.tree_read.specs.Walk.{chain, run}
use Rattle.tree_read.proofs.chain.walk_chain.Given as goal

-- the walk goes on with the chain that is left, and no read failed
abbrev pub invariant-loop-left : goal.invariant-loop-left
invariant-loop-left g l = record {
  page : 0 < l.left → IsPage l.pages l.page;
  stay : StayAll g.D.Disk l.fn.pages l.pages;
  faultless : g.D.Disk.read_faults (disk_of l.pages) ≡ g.D.Disk.read_faults (disk_of l.fn.pages);
  walk : (nodes : Nodes) → HasNodes nodes l.pages → run l.fn.walk (chain nodes l.len l.first) ≡ run l.walk (chain nodes l.left l.page);
}

abbrev pub decreases-loop-left : goal.decreases-loop-left
decreases-loop-left g l = l.left
