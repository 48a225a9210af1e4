use Rattle.std.proofs.Common.{[], ◌∷◌, ◌++◌, refl, sym, ◌∙◌}
use Rattle.common_laws.proofs.Lists.{none_left, some_left}
use Rattle.record_codec.specs.declared.value.Value.{Value}
use Rattle.record_codec.specs.Serial.{value_of}
use Rattle.record_codec.proofs.Left.{all_left, left_push, left_short, left_surplus, left_values}
use Rattle.record_codec.proofs.reading.bad_body.Goals as goal

pub loop-serial-init : goal.loop-serial-init
loop-serial-init c = ([], all_left c.args.types.now c.args.bodies.now c.requires.serials)

pub returns-in_default-body_front-clause-bad : goal.returns-in_default-body_front-clause-bad
returns-in_default-body_front-clause-bad c =
    let found = c.in-Some.ensures.found in
    left_short c.args.b.now c.args.types.now c.args.bodies.now c.loop-serial.left.now c.loop-serial.rest.now found.0 c.in-Some.others.now c.loop-serial.invariant.0 c.in-Some.serial c.requires.header c.loop-serial.invariant.1 found.1 found.2 c.in_default-body_front.ensures.none

pub loop-serial-preserved : goal.loop-serial-preserved
loop-serial-preserved c =
    let found = c.in-Some.ensures.found in
    let cut = c.in-Some-body_front.ensures.found in
    let value : Value = value_of c.in-Some.serial c.in-Some-body_front.field-0-0.now in (
      c.loop-serial.invariant.0 ++ value ∷ [],
      left_push c.args.types.now c.args.bodies.now c.loop-serial.left.now c.loop-serial.rest.now found.0 c.in-Some.others.now c.in-Some-body_front.field-0-0.now c.in-Some-body_front.behind.now c.loop-serial.invariant.0 c.in-Some.serial
          (value_of c.in-Some.serial c.in-Some-body_front.field-0-0.now) c.loop-serial.invariant.1 found.1 found.2 cut.0 (record { known = found.3; size = cut.1; meaning = refl }),
    )

pub returns-then-is_empty-clause-record : goal.returns-then-is_empty-clause-record
returns-then-is_empty-clause-record c = left_values c.args.types.now c.args.bodies.now c.loop-serial.left.now c.loop-serial.rest.now c.loop-serial.invariant.0 c.loop-serial.invariant.1 c.in_default.ensures.none (none_left c.loop-serial.rest.now (sym c.is_empty.ensures ∙ c.if-is_empty.true))

pub returns-else-is_empty-clause-bad : goal.returns-else-is_empty-clause-bad
returns-else-is_empty-clause-bad c =
    left_surplus c.args.b.now c.args.types.now c.args.bodies.now c.loop-serial.left.now c.loop-serial.rest.now c.loop-serial.invariant.0 c.requires.header c.loop-serial.invariant.1 c.in_default.ensures.none (some_left c.loop-serial.rest.now (sym c.is_empty.ensures ∙ c.if-is_empty.false))
