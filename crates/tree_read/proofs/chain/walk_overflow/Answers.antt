use Rattle.tree_read.proofs.Chains.{overflow-none}
use Rattle.tree_read.proofs.chain.walk_overflow.Goals as goal

pub returns-in-None-clause-walk : goal.returns-in-None-clause-walk
returns-in-None-clause-walk g c = λ nodes has. overflow-none nodes c.args.kind c.args.walk.now c.args.cell.now c.in-None.is
