use Rattle.std.proofs.Common.{◌≡◌, ◌+◌, ◌-◌, ◌≤◌, length, drop}
use Rattle.std.specs.Option.{option_map}
use Rattle.sql_token.specs.Scan.{closing_len}
use Rattle.sql_token.proofs.quote.closing_len.Given as goal

-- what is left decides where the quote closes
abbrev pub invariant-loop-at : goal.invariant-loop-at
invariant-loop-at l = record {
  within : l.at ≤ length l.bytes;
  rest : option_map (λ n. l.at + n) (closing_len l.sign (drop l.at l.bytes)) ≡ closing_len l.sign l.bytes;
}

abbrev pub decreases-loop-at : goal.decreases-loop-at
decreases-loop-at l = length l.bytes - l.at
