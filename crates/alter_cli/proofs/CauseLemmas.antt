-- What can be run was run whole.
use Rattle.std.proofs.Common.{◌≡◌, ℕ, Bool, true, false, ◌⊎◌, inl, inr, Option, Some, None, List, [], ◌++◌, sym, ◌∙◌, ap, arith}
use Rattle.std.proofs.lemmas.List.{append-nil}
use Rattle.std.specs.List.{list_all}
use Rattle.alter_disk.specs.Files.{Files}
use Rattle.alter_disk.specs.Outside.{Rises}
use Rattle.alter_cli.specs.declared.status.Status.{Status}
use Rattle.alter_cli.specs.declared.status.Status.TheVariants as statuses
use Rattle.plain_schema.specs.declared.verdict.Verdict.{Verdict}
use Rattle.alter_cli.specs.Causes.{CanRun, Completes, RanWhole}
use Rattle.alter_cli.specs.Ending.{WhereTold}
use Rattle.alter_cli.specs.Lines.{verdict_lines}
use Rattle.alter_cli.specs.Left.{Left}
use Rattle.alter_cli.specs.Outcome.{IsLeftBehind, IsRunStatus, Outcome, Performed, RanAll, run_status}
use Rattle.plain_schema.specs.Verdicts.{is_done}
use Rattle.alter_cli.specs.Rules.{Rules}
use Rattle.alter_cli.proofs.StatusLemmas.{no_run}

module _ {Image Command : Type 0} (rules : Rules Image Command) where
  -- every command was run, and no line came behind theirs
  ran_whole : (text left : List ℕ) (before : Files) (after : Left) (given now : List ℕ) (status : Status) (verdicts : List Verdict) (last : List ℕ) (image : Image) (b : Bool)
      → RanAll rules text before verdicts image → IsLeftBehind rules before verdicts image after → list_all is_done verdicts ≡ b → last ≡ [] → left ≡ [] → status ≡ run_status b
      → now ≡ given ++ verdict_lines 1 verdicts ++ last → RanWhole rules text left before after given now status
  ran_whole text left before after given now status verdicts last image b ran are all none read ended told = record {
    verdicts = verdicts;
    last = image;
    ran = ran;
    files = are;
    read = read;
    lines = told ∙ ap (λ (l : List ℕ). given ++ verdict_lines 1 verdicts ++ l) none ∙ append-nil (given ++ verdict_lines 1 verdicts);
    ended = ended ∙ ap run_status (sym all);
  }

  -- a call that ended as it was planned was run whole, if it can be run and nothing failed
  planned_whole : (rose : Rises) (called : Bool) (planned status : Status) (verdicts : List Verdict) (last : List ℕ) (text left : List ℕ)
      (before : Files) (could : Files → Type 0) (after : Left) (given now : List ℕ) → Outcome rules rose text before could planned verdicts last after called left → status ≡ planned
      → now ≡ given ++ verdict_lines 1 verdicts ++ last → CanRun rules text before → (rose.source → ⊥) → (rose.reading → ⊥) → (rose.writing → ⊥) → (rose.sink → ⊥)
      → RanWhole rules text left before after given now status ⊎ (status ≡ statuses.Memory)
  planned_whole rose called statuses.Done status verdicts last text left before could after given now is same told can a b c d =
      inl (ran_whole text left before after given now status verdicts last is.0 true is.1 is.2 is.3 is.4 is.5 same told)
  planned_whole rose called statuses.Refused status verdicts last text left before could after given now is same told can a b c d =
      inl (ran_whole text left before after given now status verdicts last is.0 false is.1 is.2 is.3 is.4 is.5 same told)
  planned_whole rose called statuses.Script status verdicts last text left before could after given now (none, stays, uncalled, inl long) same told can a b c d =
      absurd (omega (arith, long.0, can.served.short))
  planned_whole rose called statuses.Script status verdicts last text left before could after given now (none, stays, uncalled, inr none_such) same told can a b c d =
      absurd (none_such.1 can.commands can.served.script)
  planned_whole rose called statuses.File status verdicts last text left before could after given now is same told can a b c d =
      absurd (is.8 can.image can.serves)
  planned_whole rose called statuses.Fault status verdicts last text left before could after given now (inl is) same told can a b c d = absurd (a is.0)
  planned_whole rose called statuses.Fault status verdicts last text left before could after given now (inr (inl is)) same told can a b c d =
      absurd (b is.0)
  planned_whole rose called statuses.Fault status verdicts last text left before could after given now (inr (inr (inl is))) same told can a b c d =
      absurd (c is.0)
  planned_whole rose called statuses.Fault status verdicts last text left before could after given now (inr (inr (inr is))) same told can a b c d =
      absurd (d is.0)
  planned_whole rose called statuses.Memory status verdicts last text left before could after given now is same told can a b c d = inr same
  planned_whole rose called statuses.Usage status verdicts last text left before could after given now is same told can a b c d = absurd is

  -- a call that ended as a run was run whole
  run_whole : (rose : Rises) (called : Bool) (planned status : Status) (verdicts : List Verdict) (last : List ℕ) (text left : List ℕ)
      (before : Files) (could : Files → Type 0) (after : Left) (given now : List ℕ) → Outcome rules rose text before could planned verdicts last after called left → status ≡ planned
      → now ≡ given ++ verdict_lines 1 verdicts ++ last → IsRunStatus status → RanWhole rules text left before after given now status
  run_whole rose called statuses.Done status verdicts last text left before could after given now is same told run =
      ran_whole text left before after given now status verdicts last is.0 true is.1 is.2 is.3 is.4 is.5 same told
  run_whole rose called statuses.Refused status verdicts last text left before could after given now is same told run =
      ran_whole text left before after given now status verdicts last is.0 false is.1 is.2 is.3 is.4 is.5 same told
  run_whole rose called planned status verdicts last text left before could after given now is same told (inl run) = absurd cc
  run_whole rose called planned status verdicts last text left before could after given now is same told (inr run) = absurd cc

  -- a call that was performed completes
  completes : (rose : Rises) (called : Bool) (status : Status) (text left : List ℕ) (before : Files) (could : Files → Type 0) (after : Left) (given now : List ℕ)
      → Performed rules rose text before could after called left given now status
      → Completes rules rose status after text left before given now
  completes rose called status text left before could after given now is = record {
    whole = λ can a b c d. elim is.told [
      | inl told ↦ planned_whole rose called is.planned status is.verdicts is.last text left before could after given now is.outcome told.0 told.1 can a b c d
      | inr told ↦ absurd (d told.0)
    ];
    only = λ run. elim is.told [
      | inl told ↦ run_whole rose called is.planned status is.verdicts is.last text left before could after given now is.outcome told.0 told.1 run
      | inr told ↦ absurd (no_run status statuses.Fault told.1 (λ e. cc) (λ e. cc) run)
    ];
  }

  -- the same where all three tell
  pub completes_told : (rose : Rises) (called : Bool) (status : Status) (text left : Option (List ℕ)) (before : Option Files) (could : Files → Type 0) (after : Left)
      (given now : Option (List ℕ)) → WhereTold text left before given now (λ text left before given now. Performed rules rose text before could after called left given now status)
      → WhereTold text left before given now (Completes rules rose status after)
  completes_told rose called status None left before could after given now is = tt
  completes_told rose called status (Some t) left None could after given now is = tt
  completes_told rose called status (Some t) left (Some f) could after None now is = tt
  completes_told rose called status (Some t) None (Some f) could after (Some w) now is = absurd is
  completes_told rose called status (Some t) (Some l) (Some f) could after (Some w) None is = absurd is
  completes_told rose called status (Some t) (Some l) (Some f) could after (Some w) (Some n) is =
      completes rose called status t l f could after w n is
