use Rattle.std.proofs.Common.{is_ok, sym, ap, subst}
use Rattle.std.proofs.ResultArms.{chosen}
use Rattle.record_codec.proofs.ToCome.{IsToCome, all_are_read, all_come, next_there, one_read}
use Rattle.record_codec.proofs.reading.values.Goals as goal

pub loop-serial-init : goal.loop-serial-init
loop-serial-init c =
    subst (λ v. IsToCome c.args.types.now c.args.bodies.now c.args.types.now c.args.bodies.now v) (sym c.new-values.ensures.items) (all_come c.args.types.now c.args.bodies.now c.requires)

pub split_body-requires : goal.split_body-requires
split_body-requires c =
    let found = c.in-Some.ensures.found in
    next_there c.args.types.now c.args.bodies.now c.loop-serial.left.now c.loop-serial.rest.now found.0 c.in-Some.others.now c.loop-serial.values.items c.in-Some.serial c.loop-serial.invariant found.1 found.2

pub loop-serial-preserved : goal.loop-serial-preserved
loop-serial-preserved c =
    let found = c.in-Some.ensures.found in
    let pushed = chosen _ _ _ _ c.push.ensures.items (ap is_ok c.in_ok-push.was) in
    subst (λ v. IsToCome c.args.types.now c.args.bodies.now c.in-Some.others.now c.split_body.result.1.now v) (sym pushed)
    (one_read c.args.types.now c.args.bodies.now c.loop-serial.left.now c.loop-serial.rest.now found.0 c.in-Some.others.now c.split_body.result.0.now c.split_body.result.1.now c.loop-serial.values.items c.in-Some.serial
    (c.in_ok-value_at.field-0) c.loop-serial.invariant found.1 found.2 c.split_body.ensures.whole c.split_body.ensures.size c.in_ok-value_at.ensures)

pub returns : goal.returns
returns c = all_are_read c.args.types.now c.args.bodies.now c.loop-serial.left.now c.loop-serial.rest.now c.loop-serial.values.items c.loop-serial.invariant c.in_default.ensures.none
