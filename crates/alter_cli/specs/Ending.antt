-- What a call's clauses say, over what was outside before it and is behind it.
use Rattle.std.specs.Prelude.{◌≡◌, ◌⊎◌, ℕ, Option, is_some, IfNone, IfSome, IsSomeAnd, List}
use Rattle.alter_disk.specs.declared.disk.Disk.{Ghosts}
use Rattle.alter_disk.specs.Files.{Files}
use Rattle.alter_disk.specs.Changes.{IfTold}
use Rattle.alter_disk.specs.Moments.{Leaves}
use Rattle.alter_disk.specs.Outside.{AnyRose, NoneFell, Span, rises}
use Rattle.alter_cli.specs.declared.status.Status.{Status}
use Rattle.alter_cli.specs.declared.status.Status.TheVariants.{Fault, File, Script, Usage}
use Rattle.alter_cli.specs.Causes.{CanRun, Completes, IsExactly, IsFileRefused, IsFrontTaken, IsUnserved}
use Rattle.alter_session.specs.Opening.{KeepsBytes}
use Rattle.alter_cli.specs.Counted.{rises_alone}
use Rattle.alter_cli.specs.Left.{left_on}
use Rattle.alter_cli.specs.Outcome.{IsOfRun, IsRunStatus, Misused, Performed, Printed, file_of}
use Rattle.alter_cli.specs.Rules.{Rules}

-- a fact on what source, disk and sink told before and tell now, which holds where one of them tells nothing
abbrev pub WhereTold : (text left : Option (List ℕ)) (before : Option Files) (given now : Option (List ℕ))
    → (List ℕ → List ℕ → Files → List ℕ → List ℕ → Type 0) → Type 0
WhereTold text left before given now P =
    IfTold text (λ t. IfTold before (λ f. IfTold given (λ w. IsSomeAnd left (λ l. IsSomeAnd now (λ n. P t l f w n)))))

-- a fact of a call whose words name a file
abbrev pub IfNamed : List (List ℕ) → Type 0 → Type 0
IfNamed words P = IfSome (file_of words) (λ _. P)

-- a fact of a call whose words name none
abbrev pub IfNameless : List (List ℕ) → Type 0 → Type 0
IfNameless words P = IfNone (file_of words) P

-- a fact on what the sink was given, which holds where it tells nothing
abbrev pub WhereSinkTells : Option (List ℕ) → Option (List ℕ) → (List ℕ → List ℕ → Type 0) → Type 0
WhereSinkTells given now P = IfTold given (λ w. IsSomeAnd now (P w))

-- where the sink tells, it was given lines that go with the status and with the count that rose alone
abbrev pub EndsPrinted : Span → Status → Type 0
EndsPrinted span status = WhereSinkTells span.before.written span.now.written (λ given now. Printed (rises_alone span) given now status)

-- a call without a file's name: the status of usage, or a fault of the sink, and where the sink tells, the usage line
pub record EndsMisused (span : Span) (status : Status) : Type 0 where
  pub line : WhereSinkTells span.before.written span.now.written (λ given now. Misused (rises span) given now status)
  pub ended : (status ≡ Usage) ⊎ ((status ≡ Fault) × (rises span).sink)

-- What a call keeps: the disk's name, and whether the disk tells. The source lost a front within the limit, and no count fell.
pub record Keeps (span : Span) : Type 0 where
  pub label : span.now.label ≡ span.before.label
  pub telling : is_some span.now.files ≡ is_some span.before.files
  pub taken : IfTold span.before.left (λ text. IsSomeAnd span.now.left (IsFrontTaken text))
  pub counts : NoneFell span

module _ {Image Command : Type 0} (rules : Rules Image Command) {D : Type 0} (disk : Ghosts D) (old new : D) where
  -- where source and disk tell: at each moment of the call a crash left what it could have left when the call began, or files
  -- that stand for what the files then did, or that open to an image of the run
  abbrev pub EndsStopped : Span → Type 0
  EndsStopped span = IfTold span.before.left (λ text. IfTold (disk.files old) (λ files.
      Leaves disk old new (λ c. rules.Alike files c ⊎ IsOfRun rules text files c)))

  -- where the disk tells: files that open to no image that is served, and that a recovery leaves as they are, keep every byte, at
  -- each moment of the call
  abbrev pub EndsUnwritten : Type 0
  EndsUnwritten = IfTold (disk.files old) (λ files.
      (rules.recovered files ≡ files) → ((image : Image) → rules.Serves files image → ⊥) → KeepsBytes disk files old new)

module _ {Image Command : Type 0} (rules : Rules Image Command) {D : Type 0} (disk : Ghosts D) (old new : D) (span : Span) (status : Status) where
  -- where source, disk and sink tell: the lines, the status and both files
  abbrev pub EndsPerformed : Type 0
  EndsPerformed =
      WhereTold span.before.left span.now.left span.before.files span.before.written span.now.written
      (λ text left before given now. Performed rules (rises span) text before (disk.may_leave old) (left_on disk new) span.now.called left given now status)

  -- where source, disk and sink tell: what can be run is run whole where nothing fails, unless memory runs out
  abbrev pub EndsComplete : Type 0
  EndsComplete =
      WhereTold span.before.left span.now.left span.before.files span.before.written span.now.written
      (Completes rules (rises span) status (left_on disk new))

module _ {Image Command : Type 0} (rules : Rules Image Command) (span : Span) (status : Status) where
  -- a script's status comes exactly where the text is no script that is served
  abbrev pub EndsByScript : Type 0
  EndsByScript = IfTold span.before.left (λ text.
      IsExactly (λ s. s ≡ Script) (IsUnserved rules text) ((rises span).source ⊎ (rises span).sink) status)

  -- a file's status comes exactly where the text is a script and the files open to no image that is served
  abbrev pub EndsByFile : Type 0
  EndsByFile = IfTold span.before.left (λ text. IfTold span.before.files (λ files.
      IsExactly (λ s. s ≡ File) (IsFileRefused rules text files) (AnyRose (rises span)) status))

  -- the status of a run comes exactly where the text is a script and the files open to an image that is served
  abbrev pub EndsByRun : Type 0
  EndsByRun = IfTold span.before.left (λ text. IfTold span.before.files (λ files.
      IsExactly IsRunStatus (CanRun rules text files) (AnyRose (rises span)) status))
