use Rattle.record_codec.proofs.Only.{one_bad, parts_not_bad, record_not_bad}
use Rattle.record_codec.proofs.reading.first_bad.Goals as goal

pub returns-in-Ok-clause-first : goal.returns-in-Ok-clause-first
returns-in-Ok-clause-first c = parts_not_bad c.args.b.now _ _ c.in-Ok.ensures.found.0 c.in-Ok.ensures.found.1

pub returns-in-Err-clause-first : goal.returns-in-Err-clause-first
returns-in-Err-clause-first c = λ at fault. one_bad c.args.b.now c.in-Err.at at c.in-Err.ensures.bad fault

pub returns-in-Err-clause-only : goal.returns-in-Err-clause-only
returns-in-Err-clause-only c = λ values is. absurd (record_not_bad c.args.b.now values c.in-Err.at is c.in-Err.ensures.bad)
