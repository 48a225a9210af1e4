use Rattle.std.proofs.Common.{ap}
use Rattle.std.specs.Prelude.{Err}
use Rattle.record_codec.specs.declared.error.RecordError.TheVariants.{Bad}
use Rattle.record_codec.proofs.Only.{one_bad, parts_not_bad, parts_only, record_not_bad}
use Rattle.record_codec.proofs.reading.decode.Goals as goal

pub returns-in_err-values-in-Ok-clause-first : goal.returns-in_err-values-in-Ok-clause-first
returns-in_err-values-in-Ok-clause-first c = λ at fault. absurd (parts_not_bad c.args.b.now c.in-Ok.types.now c.in-Ok.bodies.now c.in-Ok.ensures.found.0 c.in-Ok.ensures.found.1 at fault)

pub returns-in_ok-values-in-Ok-clause-only : goal.returns-in_ok-values-in-Ok-clause-only
returns-in_ok-values-in-Ok-clause-only c = parts_only c.args.b.now c.in-Ok.types.now c.in-Ok.bodies.now _ c.in-Ok.ensures.found.0 c.in_ok-values-in-Ok.ensures

pub returns-in_ok-values-in-Ok-clause-first : goal.returns-in_ok-values-in-Ok-clause-first
returns-in_ok-values-in-Ok-clause-first c = λ at fault. absurd (parts_not_bad c.args.b.now c.in-Ok.types.now c.in-Ok.bodies.now c.in-Ok.ensures.found.0 c.in-Ok.ensures.found.1 at fault)

pub returns-in-Err-clause-only : goal.returns-in-Err-clause-only
returns-in-Err-clause-only c = λ values is. record_not_bad c.args.b.now values c.in-Err.at is c.in-Err.ensures.bad

pub returns-in-Err-clause-first : goal.returns-in-Err-clause-first
returns-in-Err-clause-first c = λ at fault. ap (λ place. Err (Bad place)) (one_bad c.args.b.now c.in-Err.at at c.in-Err.ensures.bad fault)
