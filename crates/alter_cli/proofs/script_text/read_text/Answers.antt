use Rattle.std.proofs.Common.{◌≤◌, ◌+◌, length, arith}
use Rattle.std.proofs.lemmas.Grind.{common_steps}
use Rattle.alter_cli.proofs.RunLemmas.{past_limit, taken_more, taken_stays}
use Rattle.alter_cli.proofs.script_text.read_text.Goals as goal

-- the loop ends behind the limit with one byte more
pub returns-clause-past : goal.returns-clause-past
returns-clause-past g c = λ _.
    past_limit (g.S.Source.left c.args.script.now) (g.S.Source.left c.loop-chunk.script) c.loop-chunk.text.items 1048577
    (omega (arith, c.loop-chunk.text.ok)) c.loop-chunk.invariant.told

-- a read that failed took nothing
pub returns-in_err-count-clause-taken : goal.returns-in_err-count-clause-taken
returns-in_err-count-clause-taken g c =
    taken_stays (g.S.Source.left c.args.script.now) (g.S.Source.left c.loop-chunk.script) (g.S.Source.left c.read.new.self) c.loop-chunk.text.items
    (omega (arith, c.loop-chunk.text.ok)) c.loop-chunk.invariant.told c.in_err-count.ensures.kept

-- what was read has no room in the text
pub returns-in_err-extend_from_slice-clause-taken : goal.returns-in_err-extend_from_slice-clause-taken
returns-in_err-extend_from_slice-clause-taken g c =
    let most : length c.loop-chunk.text.items + c.in_ok-count.count ≤ 1048577 = grind (arith, common_steps, c.loop-chunk.text.ok) in
    taken_more (g.S.Source.left c.args.script.now) (g.S.Source.left c.loop-chunk.script) (g.S.Source.left c.read.new.self) c.loop-chunk.text.items
    c.in_ok-count.count most c.loop-chunk.invariant.told c.in_ok-count.ensures.taken
