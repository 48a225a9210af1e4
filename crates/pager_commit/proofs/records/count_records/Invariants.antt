use Rattle.std.proofs.Common.{◌≡◌, ◌≤◌, length}
use Rattle.pager_core.specs.Pages.{before_of, is_changed}
use Rattle.pager_commit.specs.Plan.{numbers_upto}
use Rattle.pager_commit.proofs.records.count_records.Given as goal

-- as many of the first n pages are changed
abbrev pub invariant-loop-n : goal.invariant-loop-n
invariant-loop-n g l = (l.count ≡ length (numbers_upto (is_changed l.pages) l.n)) × (l.count ≤ l.n) × (l.n-end ≡ before_of l.pages)
