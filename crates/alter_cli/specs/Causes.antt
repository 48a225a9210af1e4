-- When each status comes, and what a call that is run to its end leaves.
use Rattle.std.specs.Prelude.{◌≡◌, ◌⊎◌, ◌≤◌, ℕ, ◌+◌, List, [], ◌++◌, drop}
use Rattle.std.specs.List.{list_all}
use Rattle.alter_disk.specs.Files.{Files}
use Rattle.alter_disk.specs.Outside.{Rises}
use Rattle.alter_cli.specs.declared.status.Status.{Status}
use Rattle.alter_cli.specs.declared.status.Status.TheVariants.{Fault}
use Rattle.alter_cli.specs.declared.status.Status.TheVariants as statuses
use Rattle.plain_schema.specs.declared.verdict.Verdict.{Verdict}
use Rattle.alter_cli.specs.Lines.{verdict_lines}
use Rattle.alter_cli.specs.Rules.{Rules}
use Rattle.alter_cli.specs.Left.{Left}
use Rattle.alter_cli.specs.Outcome.{IsLeftBehind, IsRunStatus, IsServed, RanAll, run_status, script_limit}
use Rattle.plain_schema.specs.Verdicts.{is_done}

-- such a status comes only under the condition; and under it, unless want of memory or a fault with one of the causes comes
pub record IsExactly (Wanted : Status → Type 0) (Condition Cause : Type 0) (status : Status) : Type 0 where
  pub only : Wanted status → Condition
  pub comes : Condition → Wanted status ⊎ (status ≡ statuses.Memory) ⊎ ((status ≡ Fault) × Cause)

-- the first bytes of what a source had were taken, those of the longest script and one more at most
pub record IsFrontTaken (had left : List ℕ) : Type 0 where
  pub count : ℕ
  pub most : count ≤ script_limit + 1
  pub whole : left ≡ drop count had

module _ {Image Command : Type 0} (rules : Rules Image Command) where
  -- the text is no script that is served
  abbrev pub IsUnserved : List ℕ → Type 0
  IsUnserved text = (commands : List Command) → IsServed rules text commands → ⊥

  -- the text is a script, and the files open to no image that is served
  pub record IsFileRefused (text : List ℕ) (files : Files) : Type 0 where
    pub commands : List Command
    pub served : IsServed rules text commands
    pub unserved : (image : Image) → rules.Serves files image → ⊥

  -- the text is a script, and the files open to an image that is served
  pub record CanRun (text : List ℕ) (files : Files) : Type 0 where
    pub commands : List Command
    pub served : IsServed rules text commands
    pub image : Image
    pub serves : rules.Serves files image

  -- every command was run, the files are left behind them, the sink has a line for each and nothing else, and the status is theirs
  pub record RanWhole (text left : List ℕ) (before : Files) (after : Left) (given now : List ℕ) (status : Status) : Type 0 where
    pub verdicts : List Verdict
    pub last : Image
    pub ran : RanAll rules text before verdicts last
    pub files : IsLeftBehind rules before verdicts last after
    pub read : left ≡ []
    pub lines : now ≡ given ++ verdict_lines 1 verdicts
    pub ended : status ≡ run_status (list_all is_done verdicts)

  -- What can be run was run whole where nothing failed, unless memory ran out; and only what was run whole ends as a run.
  pub record Completes (rose : Rises) (status : Status) (after : Left) (text left : List ℕ) (before : Files) (given now : List ℕ) : Type 0 where
    pub whole : CanRun text before → (rose.source → ⊥) → (rose.reading → ⊥) → (rose.writing → ⊥) → (rose.sink → ⊥)
        → RanWhole text left before after given now status ⊎ (status ≡ statuses.Memory)
    pub only : IsRunStatus status → RanWhole text left before after given now status
