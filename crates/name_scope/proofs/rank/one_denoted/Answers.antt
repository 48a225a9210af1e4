use Rattle.name_scope.proofs.Ranks.{one_place}
use Rattle.name_scope.proofs.rank.one_denoted.Goals as goal

pub returns : goal.returns
returns c = one_place
