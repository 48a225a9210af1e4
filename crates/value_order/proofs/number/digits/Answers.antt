use Rattle.std.proofs.Common.{◌-◌, ap, ◌∙◌, take, length}
use Rattle.value_order.specs.Number.{is_digit}
use Rattle.value_order.proofs.Runs.{front_by_length, past_shorter}
use Rattle.value_order.proofs.number.digits.Goals as goal

pub slice_bounds-result-count : goal.slice_bounds-result-count
slice_bounds-result-count c = past_shorter is_digit c.args.text.now c.past_digits.result.now c.past_digits.ensures

pub returns : goal.returns
returns c =
    ap (λ l. take (length c.args.text.now - length l) c.args.text.now) c.past_digits.ensures ∙ front_by_length is_digit c.args.text.now
