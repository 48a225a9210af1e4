use Rattle.common_laws.proofs.Options.{if_none_so}
use Rattle.record_codec.proofs.InPlace.{front_is, front_there, no_front}
use Rattle.record_codec.proofs.in_place.front.Goals as goal

pub returns-in_err-serial-clause-none : goal.returns-in_err-serial-clause-none
returns-in_err-serial-clause-none c = if_none_so _ c.from_residual.result (no_front c.args.types.now c.args.bodies.now c.in_err-serial.ensures.none)

pub split_body-requires : goal.split_body-requires
split_body-requires c =
    let found = c.in_ok-serial.ensures.found in
    front_there c.args.types.now c.args.bodies.now found.0 c.in_ok-serial.others.now c.in_ok-serial.serial c.requires found.1 found.2

pub returns-clause-found : goal.returns-clause-found
returns-clause-found c =
    let found = c.in_ok-serial.ensures.found in
    front_is c.args.types.now c.args.bodies.now found.0 c.in_ok-serial.others.now c.split_body.result.0.now c.split_body.result.1.now c.in_ok-serial.serial c.requires
    found.1 found.2 found.3 c.split_body.ensures.whole c.split_body.ensures.size
