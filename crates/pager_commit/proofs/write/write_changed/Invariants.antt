use Rattle.std.proofs.Common.{◌≡◌}
use Rattle.pager_core.specs.Pages.{shape_of}
use Rattle.pager_commit.proofs.WriteLemmas.{SoFar}
use Rattle.pager_commit.proofs.write.write_changed.Given as goal

-- the changed pages up to n were written
abbrev pub invariant-loop-n : goal.invariant-loop-n
invariant-loop-n g l = SoFar g.D.Disk l.n l.fn.pages l.pages × (l.n-end ≡ (shape_of l.fn.pages).count)
