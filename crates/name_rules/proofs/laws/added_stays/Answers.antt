use Rattle.name_rules.proofs.Schema.{added_stays}
use Rattle.name_rules.proofs.laws.added_stays.Goals as goal

pub returns : goal.returns
returns c = added_stays
