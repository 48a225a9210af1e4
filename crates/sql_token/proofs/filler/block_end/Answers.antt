use Rattle.std.proofs.Common.{◌+◌, inl, refl, arith}
use Rattle.sql_token.proofs.Fillers.{within_from}
use Rattle.sql_token.proofs.filler.block_end.Goals as goal

pub returns-then-ends_block : goal.returns-then-ends_block
returns-then-ends_block c =
    let ends = c.ends_block.ensures.0 c.if-ends_block.true in
    record {
      begins = c.requires;
      within = omega (arith, within_from c.args.text.now (c.loop-close.close + 1) 47 ends.1 (omega arith));
      close = c.loop-close.close;
      past_opening = c.loop-close.invariant.past_opening;
      first = c.loop-close.invariant.first;
      ends = inl (ends, refl);
    }
