use Rattle.name_scope.proofs.Names.{same_test}
use Rattle.name_scope.proofs.seen.same_names.Goals as goal

pub returns : goal.returns
returns c = same_test c.same_name.result c.args.a.now c.args.b.now c.same_name.ensures
