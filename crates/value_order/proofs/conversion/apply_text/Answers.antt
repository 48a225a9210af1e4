use Rattle.std.proofs.Common.{subst, sym}
use Rattle.value_order.specs.Conversion.{AsksReal}
use Rattle.value_order.specs.Number.{IsNumber}
use Rattle.record_codec.specs.declared.value.Value.TheVariants.{Text}
use Rattle.value_order.proofs.Forms.{form_number}
use Rattle.value_order.proofs.conversion.apply_text.Goals as goal

pub returns-in-Integer-form_of-2 : goal.returns-in-Integer-form_of-2
returns-in-Integer-form_of-2 c =
    let number : IsNumber c.args.text =
    subst IsNumber c.as_slice-in-Real.ensures
    (form_number c.form_of-in-Real.result c.as_slice-in-Real.result.now c.in-Integer-form_of-2.is c.form_of-in-Real.ensures) in
    subst (λ to. AsksReal c.args.from to (Text c.args.text)) (sym c.in-Real.is) number
