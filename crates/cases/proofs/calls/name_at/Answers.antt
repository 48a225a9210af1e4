use Rattle.std.proofs.Common.{length}
use Rattle.sql_token.proofs.TokenLists.{IsTokenAt-get}
use Rattle.cases.proofs.calls.name_at.Goals as goal

pub name_of-requires-clause-at : goal.name_of-requires-clause-at
name_of-requires-clause-at c = IsTokenAt-get c.args.text.now c.args.list.now 0 (length c.args.text.now) c.loop-token.token-index _ c.loop-token-test.true c.requires
