use Rattle.std.proofs.Common.{◌≡◌, List, ◌++◌, Some, ℕ, ◌-◌, ◌≤◌, vec_len, is_some}
use Rattle.alter_disk.specs.Changes.{IfTold}
use Rattle.alter_cli.proofs.script_text.read_text.Given as goal

-- the text so far and what is left are the source's bytes
abbrev pub invariant-loop-chunk : goal.invariant-loop-chunk
invariant-loop-chunk g l = record {
  told : IfTold (g.S.Source.left l.fn.script) (λ bytes. (rest : List ℕ) × (g.S.Source.left l.script ≡ Some rest) × (bytes ≡ l.text.items ++ rest));
  stays : is_some (g.S.Source.left l.script) ≡ is_some (g.S.Source.left l.fn.script);
  limit : vec_len l.text ≤ 1048577;
  same : g.S.Source.faults l.script ≡ g.S.Source.faults l.fn.script;
}

abbrev pub decreases-loop-chunk : goal.decreases-loop-chunk
decreases-loop-chunk g l = 1048577 - vec_len l.text
