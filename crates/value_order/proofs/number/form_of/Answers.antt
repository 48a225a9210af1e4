use Rattle.std.proofs.Common.{◌≡◌, ◌∙◌, sym, ap, ap₂, true, false, subst, to_z-of_z}
use Rattle.std.proofs.lemmas.Bool.{true≢false}
use Rattle.value_order.specs.Conversion.{IsFitting}
use Rattle.value_order.specs.Number.{Fits, IsInteger, begins_minus, is_blank, is_digit, signed_number}
use Rattle.value_order.specs.Runs.{front, past, past_sign, reads_signed, reads_unsigned}
use Rattle.value_order.proofs.Forms.{integer_from, integer_number, integer_to, number_at, number_from, number_to, one_integer, sfits}
use Rattle.value_order.proofs.number.form_of.Goals as goal

pub returns-in-Some : goal.returns-in-Some
returns-in-Some c =
    let text = c.args.text.now in
    let n = c.in-Some.n in
    let is = c.past_blanks-number.ensures in
    let read : reads_signed (past is_blank text) ≡ true = ap reads_signed (sym is) ∙ sym c.is_signed.ensures ∙ c.if-is_signed.true in
    let value : n ≡ number_at (past is_blank text) =
    (c.in-Some.ensures {u = tt}).found
    ∙ ap₂ signed_number
    (c.begins_minus.ensures ∙ ap begins_minus is)
    (c.digits.ensures ∙ ap (front is_digit) (c.past_sign.ensures ∙ ap past_sign is)) in
    let fits : Fits n = (c.in-Some.ensures {u = tt}).fits in
    let fitting : IsFitting text n = record { integer = subst (λ z. IsInteger text z) (sym value) (integer_to text read); fits = fits } in
    subst (IsFitting text) (sym (to_z-of_z (sfits n fits))) fitting

pub returns-in-None : goal.returns-in-None
returns-in-None c =
    let text = c.args.text.now in
    let is = c.past_blanks-number.ensures in
    let read : reads_signed (past is_blank text) ≡ true = ap reads_signed (sym is) ∙ sym c.is_signed.ensures ∙ c.if-is_signed.true in
    let same : signed_number c.begins_minus.result c.digits.result.now ≡ number_at (past is_blank text) =
    ap₂ signed_number
    (c.begins_minus.ensures ∙ ap begins_minus is)
    (c.digits.ensures ∙ ap (front is_digit) (c.past_sign.ensures ∙ ap past_sign is)) in (
      integer_number text (number_at (past is_blank text)) (integer_to text read),
      λ z fitting. (c.in-None.ensures {u = tt}).none (subst Fits (one_integer text z fitting.integer ∙ sym same) fitting.fits),
    )

pub returns-then-is_unsigned : goal.returns-then-is_unsigned
returns-then-is_unsigned c =
    let text = c.args.text.now in
    let is = c.past_blanks-number.ensures in
    let not_read : reads_signed (past is_blank text) ≡ false = ap reads_signed (sym is) ∙ sym c.is_signed.ensures ∙ c.if-is_signed.false in
    let read : reads_unsigned (past_sign (past is_blank text)) ≡ true =
    ap reads_unsigned (ap past_sign (sym is) ∙ sym c.past_sign-else-is_signed.ensures) ∙ sym c.is_unsigned.ensures ∙ c.if-is_unsigned.true in (
      number_to text read,
      λ z fitting. true≢false (sym (integer_from text z fitting.integer) ∙ not_read),
    )

pub returns-else-is_unsigned : goal.returns-else-is_unsigned
returns-else-is_unsigned c = λ number.
    let text = c.args.text.now in
    let is = c.past_blanks-number.ensures in
    let not_read : reads_unsigned (past_sign (past is_blank text)) ≡ false =
    ap reads_unsigned (ap past_sign (sym is) ∙ sym c.past_sign-else-is_signed.ensures) ∙ sym c.is_unsigned.ensures ∙ c.if-is_unsigned.false in
    true≢false (sym (number_from text number) ∙ not_read)
