use Rattle.name_rules.proofs.Stay.{clashes_tell}
use Rattle.name_rules.proofs.laws.clash_tells.Goals as goal

pub returns : goal.returns
returns c = clashes_tell
