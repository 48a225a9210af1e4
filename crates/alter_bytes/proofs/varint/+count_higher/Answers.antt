use Rattle.std.proofs.Common.{sym, ap, ◌∙◌, ◌+◌, arith, inl, inr}
use Rattle.alter_bytes.proofs.VarintLemmas.{higher_septets-le, higher_septets-none, higher_septets-one_more}
use Rattle.alter_bytes.proofs.varint.+count_higher.Goals as goal
use Rattle.alter_bytes.proofs.varint.+count_higher.Goals.{then-most-eq0-via-then-most-eq0, then-most-eq0-via-else-most-eq0+then-v-lt128}

pub returns-then-most-eq0 : goal.returns-then-most-eq0
returns-then-most-eq0 t c = elim c.then-most-eq0.branch [
  | then-most-eq0-via-then-most-eq0 w ↦ sym (higher_septets-none c.args.most c.args.v (inl w.if-most-eq0.true))
  | then-most-eq0-via-else-most-eq0+then-v-lt128 w ↦ sym (higher_septets-none c.args.most c.args.v (inr w.if-v-lt128.true))
]

pub overflow_add-result : goal.overflow_add-result
overflow_add-result t c = omega (arith, c.count_higher.ensures, higher_septets-le)

pub returns : goal.returns
returns t c = ap (λ n. 1 + n) c.count_higher.ensures ∙ sym (higher_septets-one_more c.args.most c.args.v c.if-most-eq0.false c.if-v-lt128.false)
