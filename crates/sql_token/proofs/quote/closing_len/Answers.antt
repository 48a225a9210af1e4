use Rattle.std.proofs.Common.{◌≡◌, ◌+◌, eqb, true, false, drop, arith, sym, ◌∙◌}
use Rattle.sql_token.specs.Byte.{begins}
use Rattle.sql_token.proofs.Quotes.{closing_at_other, closing_at_double, closing_at_single, begins_within, begins_slice}
use Rattle.sql_token.proofs.quote.closing_len.Goals as goal

pub loop-at-preserved-then-bytes-at : goal.loop-at-preserved-then-bytes-at
loop-at-preserved-then-bytes-at c = record {
  within = omega arith;
  rest = sym (closing_at_other c.args.sign c.args.bytes.now c.loop-at.at c.loop-at-test.true c.if-bytes-at.true) ∙ c.loop-at.invariant.rest;
}

pub loop-at-preserved : goal.loop-at-preserved
loop-at-preserved c =
    let doubled : begins (λ b. eqb b c.args.sign) (drop (c.loop-at.at + 1) c.args.bytes.now) ≡ true =
    sym (begins_slice (λ b. eqb b c.args.sign) c.args.bytes.now (c.loop-at.at + 1)) ∙ sym c.begins_with.ensures ∙ c.if-begins_with.true in
    record {
      within = omega (arith, begins_within (λ b. eqb b c.args.sign) c.args.bytes.now (c.loop-at.at + 1) doubled);
      rest = sym (closing_at_double c.args.sign c.args.bytes.now c.loop-at.at c.loop-at-test.true c.if-bytes-at.false doubled) ∙ c.loop-at.invariant.rest;
    }

pub returns-else-begins_with-clause-value : goal.returns-else-begins_with-clause-value
returns-else-begins_with-clause-value c =
    let single : begins (λ b. eqb b c.args.sign) (drop (c.loop-at.at + 1) c.args.bytes.now) ≡ false =
    sym (begins_slice (λ b. eqb b c.args.sign) c.args.bytes.now (c.loop-at.at + 1)) ∙ sym c.begins_with.ensures ∙ c.if-begins_with.false in
    sym (closing_at_single c.args.sign c.args.bytes.now c.loop-at.at c.loop-at-test.true c.if-bytes-at.false single) ∙ c.loop-at.invariant.rest
