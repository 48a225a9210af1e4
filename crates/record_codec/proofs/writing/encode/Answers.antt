use Rattle.std.proofs.Common.{rules, ◌≡◌, ◌^◌, ◌<◌, length, sym, ap, subst, arith}
use Rattle.std.proofs.lemmas.Grind.{common_steps}
use Rattle.record_codec.specs.Record.{IsRecord}
use Rattle.record_codec.specs.Written.{IsShortest, record_of, types_of}
use Rattle.record_codec.proofs.Only.{one_record}
use Rattle.record_codec.proofs.Shortest.{record_shortest}
use Rattle.record_codec.proofs.Writable.{record_is}
use Rattle.record_codec.proofs.writing.encode.Goals as goal

pub returns-clause-written : goal.returns-clause-written
unfolding record_of
returns-clause-written c = grind (arith, common_steps)

pub returns-clause-is_record : goal.returns-clause-is_record
returns-clause-is_record c =
    let types : c.in_ok-types.types.items ≡ types_of c.args.format c.args.values.now = c.in_ok-types.ensures.types in
    let few : length c.in_ok-types.types.items < 2 ^ 63 = search rules in
    subst (λ bytes. IsRecord bytes c.args.values.now) (sym (returns-clause-written c))
    (record_is c.args.format c.args.values.now c.in_ok-types.ensures.writable (omega (arith, ap length types, few)))

pub returns-clause-only : goal.returns-clause-only
returns-clause-only c = λ read is. one_record c.new.result read c.args.values.now is (returns-clause-is_record c)

pub returns-clause-shortest : goal.returns-clause-shortest
returns-clause-shortest c =
    subst (λ bytes. IsShortest c.args.format bytes c.args.values.now) (sym (returns-clause-written c)) (record_shortest c.args.format c.args.values.now)
