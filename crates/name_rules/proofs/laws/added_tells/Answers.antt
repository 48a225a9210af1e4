use Rattle.name_rules.proofs.Schema.{added_tells}
use Rattle.name_rules.proofs.laws.added_tells.Goals as goal

pub returns : goal.returns
returns c = added_tells
