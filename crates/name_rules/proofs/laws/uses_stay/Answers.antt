use Rattle.name_rules.proofs.Stay.{uses_stay}
use Rattle.name_rules.proofs.laws.uses_stay.Goals as goal

pub returns : goal.returns
returns c = uses_stay
