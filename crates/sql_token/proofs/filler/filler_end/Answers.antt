use Rattle.std.proofs.Common.{arith}
use Rattle.sql_token.proofs.Fillers.{IsFiller_push}
use Rattle.sql_token.proofs.filler.filler_end.Goals as goal

pub loop-end-preserved : goal.loop-end-preserved
loop-end-preserved c = record {
  filler = IsFiller_push c.args.text.now c.args.from c.loop-end.at c.in-Some.end c.loop-end.invariant.filler c.in-Some.ensures.found;
  forward = omega (arith, c.in-Some.ensures.ascends);
  within = c.in-Some.ensures.ascends.1;
}
