use Rattle.std.proofs.Common.{rules}
use Rattle.pager_core.proofs.Sound.{good_size}
use Rattle.pager_core.proofs.refusal.first_refusal.Goals as goal

pub has_bad_size-requires-clause-size : goal.has_bad_size-requires-clause-size
has_bad_size-requires-clause-size c = good_size c.args.first.now (search rules)

pub is_too_large-requires-clause-size : goal.is_too_large-requires-clause-size
is_too_large-requires-clause-size c = good_size c.args.first.now (search rules)
