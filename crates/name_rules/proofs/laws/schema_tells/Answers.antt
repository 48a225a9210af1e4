use Rattle.name_rules.proofs.Schema.{schema_tells}
use Rattle.name_rules.proofs.laws.schema_tells.Goals as goal

pub returns : goal.returns
returns c = schema_tells
