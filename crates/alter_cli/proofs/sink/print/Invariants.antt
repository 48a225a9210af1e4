use Rattle.std.proofs.Common.{◌≡◌, List, ◌++◌, ℕ, length, option_map}
use Rattle.alter_cli.proofs.sink.print.Given as goal

-- what is still to be written follows on what was written
abbrev pub invariant-loop-rest : goal.invariant-loop-rest
invariant-loop-rest g l = record {
  written : (front : List ℕ) × (g.K.Sink.written l.out ≡ option_map (λ w. w ++ front) (g.K.Sink.written l.fn.out)) × (l.line ≡ front ++ l.rest);
  same : g.K.Sink.faults l.out ≡ g.K.Sink.faults l.fn.out;
}

abbrev pub decreases-loop-rest : goal.decreases-loop-rest
decreases-loop-rest g l = length l.rest
