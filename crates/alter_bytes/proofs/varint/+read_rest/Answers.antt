use Rattle.std.proofs.Common.{ap, sym, ◌∙◌, arith, rules}
use Rattle.std.proofs.lemmas.List.{nil_from_length}
use Rattle.alter_bytes.specs.Varint.{varint_from}
use Rattle.alter_bytes.proofs.VarintLemmas.{high_fits, high_more, varint_from-end, varint_from-head, varint_from-nil, varint_from-tail}
use Rattle.alter_bytes.proofs.varint.+read_rest.Goals as goal

pub returns-in_err-first : goal.returns-in_err-first
returns-in_err-first t c =
    let empty = nil_from_length c.args.rest.now c.in_err-first.ensures.cases in
    c.from_residual.ensures ∙ sym (varint_from-nil c.args.more c.args.high) ∙ ap (varint_from c.args.more c.args.high) (sym empty)

pub returns-then-more-eq0 : goal.returns-then-more-eq0
returns-then-more-eq0 t c =
    sym (varint_from-end c.args.more c.args.high c.in_ok-first.first.now c.in_ok-first.behind.now c.args.rest.now c.in_ok-first.ensures.cases.0 c.if-more-eq0.true)

pub overflow_mul-result-then-byte-lt128 : goal.overflow_mul-result-then-byte-lt128
overflow_mul-result-then-byte-lt128 t c = let h = high_fits c.args.more c.args.high c.requires.few c.requires.small in search rules

pub overflow_add-result-then-byte-lt128 : goal.overflow_add-result-then-byte-lt128
overflow_add-result-then-byte-lt128 t c = let h = high_fits c.args.more c.args.high c.requires.few c.requires.small in search rules

pub returns-then-byte-lt128 : goal.returns-then-byte-lt128
returns-then-byte-lt128 t c =
    sym (varint_from-head c.args.more c.args.high c.in_ok-first.first.now c.in_ok-first.behind.now c.args.rest.now c.in_ok-first.ensures.cases.0
    (omega arith) c.if-byte-lt128.true)

pub overflow_mul-high : goal.overflow_mul-high
overflow_mul-high t c = let h = high_fits c.args.more c.args.high c.requires.few c.requires.small in search rules

pub overflow_add-high : goal.overflow_add-high
overflow_add-high t c = let h = high_fits c.args.more c.args.high c.requires.few c.requires.small in search rules

pub read_rest-requires : goal.read_rest-requires
read_rest-requires t c =
    let small = high_more c.args.more c.args.high c.in_ok-first.first.now c.requires.few (omega arith) c.requires.small in
    (omega arith, (omega arith, small))

pub returns : goal.returns
returns t c =
    c.read_rest.ensures
    ∙ sym (varint_from-tail c.args.more c.args.high c.in_ok-first.first.now c.in_ok-first.behind.now c.args.rest.now c.in_ok-first.ensures.cases.0
    (omega arith) c.if-byte-lt128.false)
