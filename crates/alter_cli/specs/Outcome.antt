-- How a call with a file's name ends.
use Rattle.std.specs.Prelude.{◌≡◌, ◌≤◌, ◌<◌, ℕ, ◌+◌, ◌⊎◌, Bool, true, false, List, [], ◌∷◌, ◌++◌, length, take, drop, slice_get, Option, Some, None}
use Rattle.std.specs.List.{list_all, list_any}
use Rattle.alter_disk.specs.Crash.{NoMore}
use Rattle.alter_disk.specs.Files.{Files}
use Rattle.alter_disk.specs.Outside.{ReadRose, Rises}
use Rattle.plain_schema.specs.declared.verdict.Verdict.{Verdict}
use Rattle.plain_schema.specs.declared.verdict.Verdict.TheVariants as verdicts
use Rattle.alter_cli.specs.declared.status.Status.{Status}
use Rattle.alter_cli.specs.declared.status.Status.TheVariants.{Done, Refused, Script, File, Fault, Memory, Usage}
use Rattle.alter_cli.specs.declared.file_code.FileCode.{FileCode}
use Rattle.alter_cli.specs.Codes.{file_line}
use Rattle.alter_cli.specs.Left.{Each, EachCrash, Left}
use Rattle.alter_cli.specs.Lines.{verdict_lines, usage_line, too_long_line, script_unbuilt_line, fault_read_line, fault_write_line, memory_line}
use Rattle.alter_cli.specs.Rules.{Rules}
use Rattle.alter_cli.specs.Run.{Run}
use Rattle.plain_schema.specs.Verdicts.{is_done}

-- the longest script, in bytes
abbrev pub script_limit : ℕ
script_limit = 1048576

-- the file that the words name: they are the program's name and this word
abbrev pub file_of : List (List ℕ) → Option (List ℕ)
file_of [] = None
file_of (program ∷ []) = None
file_of (program ∷ file ∷ []) = Some file
file_of (program ∷ file ∷ word ∷ words) = None

-- the script was run to its end
abbrev pub IsRunStatus : Status → Type 0
IsRunStatus status = (status ≡ Done) ⊎ (status ≡ Refused)

-- the status of a call that ran every command, each of them done or not
abbrev pub run_status : Bool → Status
run_status true = Done
run_status false = Refused

-- the status of a call that ran no command
abbrev pub IsUnrunStatus : Status → Type 0
IsUnrunStatus status = (status ≡ Script) ⊎ (status ≡ File) ⊎ (status ≡ Usage)

-- the last line that goes with a status, by the counts that rose
abbrev pub IsLastLine : Rises → Status → List ℕ → Type 0
IsLastLine rose Done line = line ≡ []
IsLastLine rose Refused line = line ≡ []
IsLastLine rose Script line = (line ≡ too_long_line) ⊎ (line ≡ script_unbuilt_line)
IsLastLine rose File line = (code : FileCode) × (line ≡ file_line code)
IsLastLine rose Fault line = (ReadRose rose × (line ≡ fault_read_line)) ⊎ (rose.writing × (line ≡ fault_write_line)) ⊎ (rose.sink × (line ≡ []))
IsLastLine rose Memory line = line ≡ memory_line
IsLastLine rose Usage line = line ≡ usage_line

-- A sink was given the lines of the verdicts and one line more, or, after a failure, these up to a place in the last of
-- them, which is the last verdict's where there is no line more.
abbrev pub Told : Rises → Status → List Verdict → List ℕ → List ℕ → List ℕ → Status → Type 0
Told rose planned verdicts last given now status =
    ((status ≡ planned) × (now ≡ given ++ verdict_lines 1 verdicts ++ last))
    ⊎ (rose.sink × (status ≡ Fault) × ((printed : List Verdict) × (others : List Verdict) × (front : List ℕ) × (rest : List ℕ)
    × (verdicts ≡ printed ++ others) × (length others ≤ 1) × ((others ≡ []) ⊎ (last ≡ [])) × (now ≡ given ++ verdict_lines 1 printed ++ front)
    × (verdict_lines (1 + length printed) others ++ last ≡ front ++ rest)))

-- the sink was given the lines of some verdicts, from 1 on, and then the last line of the status, or a front of such lines
-- after a failure of the sink: all the verdicts are done exactly where the status says so, and there is none where no
-- command was run
pub record Printed (rose : Rises) (given now : List ℕ) (status : Status) : Type 0 where
  pub planned : Status
  pub verdicts : List Verdict
  pub last : List ℕ
  pub run : IsRunStatus planned → planned ≡ run_status (list_all is_done verdicts)
  pub none : IsUnrunStatus planned → verdicts ≡ []
  pub line : IsLastLine rose planned last
  pub told : Told rose planned verdicts last given now status

-- a fact that holds where none of the verdicts is done
abbrev pub IfNoneDone : List Verdict → Type 0 → Type 0
IfNoneDone verdicts P = list_any is_done verdicts ≡ false → P

-- the call whose words name no file ended with this status
abbrev pub Misused : Rises → List ℕ → List ℕ → Status → Type 0
Misused rose given now status = Told rose Usage [] usage_line given now status

-- the files read as they did, and a crash leaves no more of them than it could
pub record IsUntouched (before : Files) (could : Files → Type 0) (after : Left) : Type 0 where
  pub read : after.reads ≡ Some before
  pub crash : NoMore could after.crash

module _ {Image Command : Type 0} (rules : Rules Image Command) where
  -- the text is a script, not too long, of these commands
  pub record IsServed (text : List ℕ) (commands : List Command) : Type 0 where
    pub short : length text ≤ script_limit
    pub script : rules.IsScript text commands

  -- The first so many commands of the script were run on the image to which the files before open, with these verdicts,
  -- and the image after them is this.
  pub record Ran (text : List ℕ) (before : Files) (count : ℕ) (verdicts : List Verdict) (last : Image) : Type 0 where
    pub commands : List Command
    pub served : IsServed text commands
    pub image : Image
    pub serves : rules.Serves before image
    pub run : Run rules image (take count commands) verdicts last

  -- every command of the script was run
  pub record RanAll (text : List ℕ) (before : Files) (verdicts : List Verdict) (last : Image) : Type 0 where
    pub commands : List Command
    pub served : IsServed text commands
    pub image : Image
    pub serves : rules.Serves before image
    pub run : Run rules image commands verdicts last

  -- the command behind the first so many is done on this image, and leaves the other
  pub record IsNextDone (text : List ℕ) (count : ℕ) (image new : Image) : Type 0 where
    pub commands : List Command
    pub served : IsServed text commands
    pub command : Command
    pub next : slice_get commands count ≡ Some command
    pub step : rules.Step image command verdicts.Done new

  -- a crash could have left the files so when the call began, or they stand for what the files before did
  abbrev pub IsAsBefore : Files → (Files → Type 0) → Files → Type 0
  IsAsBefore before could c = could c ⊎ rules.Alike before c

  -- the files open to an image of a run over some of the commands
  abbrev pub IsOfRun : List ℕ → Files → Files → Type 0
  IsOfRun text before c = (count : ℕ) × (verdicts : List Verdict) × (last : Image) × Ran text before count verdicts last × rules.OpensTo last c

  -- the files open to this image, or to the one after the command behind the first so many, which is done
  abbrev pub IsBetween : List ℕ → ℕ → Image → Files → Type 0
  IsBetween text count last c = rules.OpensTo last c ⊎ ((new : Image) × IsNextDone text count last new × rules.OpensTo new c)

  -- the files, read or left by a crash, open to the image behind the verdicts, and where none of these is done they have every
  -- byte that a recovery leaves
  pub record IsLeftBehind (before : Files) (verdicts : List Verdict) (last : Image) (after : Left) : Type 0 where
    pub opens : Each after (rules.OpensTo last)
    pub kept : IfNoneDone verdicts (Each after (λ c. c ≡ rules.recovered before))

  -- some commands were run, and the files are left behind them
  abbrev pub HasRun : List ℕ → Files → List Verdict → Left → Bool → Type 0
  HasRun text before verdicts after called =
      (count : ℕ) × (last : Image) × Ran text before count verdicts last × IsLeftBehind before verdicts last after × (called ≡ true)

  -- there is no verdict, a crash leaves the files as before, and where a recovery leaves them as they are they read so
  abbrev pub IsUnrun : Files → (Files → Type 0) → List Verdict → Left → Type 0
  IsUnrun before could verdicts after =
      (verdicts ≡ []) × EachCrash after (IsAsBefore before could) × (rules.recovered before ≡ before → after.reads ≡ Some before)

  -- some commands were run, and a crash leaves the files before or after the next one, which is done
  abbrev pub StoppedWriting : List ℕ → Files → List Verdict → Left → Type 0
  StoppedWriting text before verdicts after =
      (count : ℕ) × (last : Image) × Ran text before count verdicts last × EachCrash after (IsBetween text count last)
      × ((new : Image) × IsNextDone text count last new)

  -- How a call ends with this status, by the counts that rose in it: the verdicts that it gives, the line behind theirs,
  -- what the disk has after it, whether the disk was called, and what is left of the script.
  abbrev pub Outcome : Rises → List ℕ → Files → (Files → Type 0) → Status → List Verdict → List ℕ → Left → Bool → List ℕ → Type 0
  Outcome rose text before could Done verdicts last after called left =
      (image : Image) × RanAll text before verdicts image × IsLeftBehind before verdicts image after × (list_all is_done verdicts ≡ true) × (last ≡ []) × (left ≡ [])
      × (called ≡ true)
  Outcome rose text before could Refused verdicts last after called left =
      (image : Image) × RanAll text before verdicts image × IsLeftBehind before verdicts image after × (list_all is_done verdicts ≡ false) × (last ≡ []) × (left ≡ [])
      × (called ≡ true)
  Outcome rose text before could Script verdicts last after called left =
      (verdicts ≡ []) × IsUntouched before could after × (called ≡ false)
      × (((script_limit < length text) × (last ≡ too_long_line) × (left ≡ drop (script_limit + 1) text))
      ⊎ ((length text ≤ script_limit) × ((commands : List Command) → rules.IsScript text commands → ⊥) × (last ≡ script_unbuilt_line) × (left ≡ [])))
  Outcome rose text before could File verdicts last after called left =
      (verdicts ≡ []) × (code : FileCode) × rules.Refuses before code × (last ≡ file_line code) × Each after (λ c. c ≡ rules.recovered before) × (called ≡ true)
      × (left ≡ []) × ((commands : List Command) × IsServed text commands) × ((image : Image) → rules.Serves before image → ⊥)
  Outcome rose text before could Fault verdicts last after called left =
      (rose.source × (verdicts ≡ []) × IsUntouched before could after × (last ≡ fault_read_line) × (called ≡ false))
      ⊎ (rose.reading × ((commands : List Command) × IsServed text commands) × (IsUnrun before could verdicts after ⊎ HasRun text before verdicts after called)
      × (last ≡ fault_read_line) × (called ≡ true))
      ⊎ (rose.writing × ((commands : List Command) × IsServed text commands) × (IsUnrun before could verdicts after ⊎ StoppedWriting text before verdicts after)
      × (last ≡ fault_write_line) × (called ≡ true))
      ⊎ (rose.sink × HasRun text before verdicts after called × (last ≡ []))
  Outcome rose text before could Memory verdicts last after called left =
      (IsUnrun before could verdicts after ⊎ HasRun text before verdicts after called) × (last ≡ memory_line)
  Outcome rose text before could Usage verdicts last after called left = ⊥

  -- the call with a file's name ended with this status, and the sink that had `given` has `now`
  pub record Performed (rose : Rises) (text : List ℕ) (before : Files) (could : Files → Type 0) (after : Left) (called : Bool) (left given now : List ℕ) (status : Status) : Type 0 where
    pub planned : Status
    pub verdicts : List Verdict
    pub last : List ℕ
    pub outcome : Outcome rose text before could planned verdicts last after called left
    pub told : Told rose planned verdicts last given now status
