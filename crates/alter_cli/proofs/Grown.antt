-- Runs, lines and fronts of a list that grow at their end.
use Rattle.std.proofs.Common.{◌≡◌, ℕ, suc, ◌+◌, List, [], ◌∷◌, ◌++◌, length, refl, sym, ◌∙◌, ap, subst, arith, append-nil, append_assoc}
use Rattle.plain_schema.specs.declared.verdict.Verdict.{Verdict}
use Rattle.alter_cli.specs.Lines.{verdict_lines}
use Rattle.plain_schema.specs.Verdicts.{verdict_line}
use Rattle.alter_cli.specs.Rules.{Rules}
use Rattle.alter_cli.specs.Run.{Run}

-- the lines with one verdict more
pub verdict_lines-append : (number : ℕ) (verdicts others : List Verdict)
    → verdict_lines number (verdicts ++ others) ≡ verdict_lines number verdicts ++ verdict_lines (number + length verdicts) others
verdict_lines-append number [] others = ap (λ n. verdict_lines n others) (omega arith)
verdict_lines-append number (v ∷ verdicts) others =
    let more : number + 1 + length verdicts ≡ number + length (v ∷ verdicts) = omega arith in
    ap (λ (l : List ℕ). verdict_line number v ++ l)
    (verdict_lines-append (number + 1) verdicts others ∙ ap (λ n. verdict_lines (number + 1) verdicts ++ verdict_lines n others) more)
    ∙ sym (append_assoc (verdict_line number v) (verdict_lines (number + 1) verdicts) (verdict_lines (number + length (v ∷ verdicts)) others))

-- the line of one verdict
pub verdict_lines-one : (number : ℕ) (verdict : Verdict) → verdict_lines number (verdict ∷ []) ≡ verdict_line number verdict
verdict_lines-one number verdict = append-nil (verdict_line number verdict)

-- the lines and that of the next verdict
pub verdict_lines-push : (number : ℕ) (verdicts : List Verdict) (verdict : Verdict)
    → verdict_lines number (verdicts ++ verdict ∷ []) ≡ verdict_lines number verdicts ++ verdict_line (number + length verdicts) verdict
verdict_lines-push number verdicts verdict =
    verdict_lines-append number verdicts (verdict ∷ [])
    ∙ ap (λ (l : List ℕ). verdict_lines number verdicts ++ l) (verdict_lines-one (number + length verdicts) verdict)

module _ {Image Command : Type 0} (rules : Rules Image Command) where
  -- a run and one step more
  pub run-grows : (image : Image) (commands : List Command) (verdicts : List Verdict) (mid : Image) (command : Command) (verdict : Verdict) (new : Image)
      → Run rules image commands verdicts mid → rules.Step mid command verdict new → Run rules image (commands ++ command ∷ []) (verdicts ++ verdict ∷ []) new
  run-grows image [] [] mid command verdict new run step = (new, subst (λ i. rules.Step i command verdict new) run step, refl)
  run-grows image [] (v ∷ verdicts) mid command verdict new run step = absurd run
  run-grows image (c ∷ commands) [] mid command verdict new run step = absurd run
  run-grows image (c ∷ commands) (v ∷ verdicts) mid command verdict new run step =
      (run.0, run.1, run-grows run.0 commands verdicts mid command verdict new run.2 step)

  -- a verdict for each command
  pub length-run : (image : Image) (commands : List Command) (verdicts : List Verdict) (last : Image) → Run rules image commands verdicts last
      → length verdicts ≡ length commands
  length-run image [] [] last run = refl
  length-run image [] (v ∷ verdicts) last run = absurd run
  length-run image (c ∷ commands) [] last run = absurd run
  length-run image (c ∷ commands) (v ∷ verdicts) last run = ap suc (length-run run.0 commands verdicts last run.2)
