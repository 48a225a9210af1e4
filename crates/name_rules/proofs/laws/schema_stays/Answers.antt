use Rattle.name_rules.proofs.Schema.{schema_stays}
use Rattle.name_rules.proofs.laws.schema_stays.Goals as goal

pub returns : goal.returns
returns c = schema_stays
