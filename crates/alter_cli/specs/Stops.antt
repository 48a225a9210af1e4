-- Why a call stops, and what its parts leave.
use Rattle.std.specs.Prelude.{◌≡◌, ◌⊎◌, ◌≤◌, ◌<◌, ℕ, ◌+◌, Bool, false, Option, Some, Result, Ok, Err, IsSomeAnd, List, [], ◌∷◌, ◌++◌, length, take, drop}
use Rattle.std.specs.List.{list_all, slice_get}
use Rattle.alter_disk.specs.declared.disk.Disk.{Ghosts}
use Rattle.alter_disk.specs.Files.{Files}
use Rattle.alter_disk.specs.Changes.{IfTold}
use Rattle.alter_disk.specs.Outside.{Rises, Span, rises}
use Rattle.alter_cli.specs.declared.file_code.FileCode.{FileCode}
use Rattle.alter_cli.specs.declared.stop.Stop.{Stop}
use Rattle.alter_cli.specs.declared.stop.Stop.TheVariants.{Misused, TooLong, Unspelled, Unread, Unserved, Unreadable, Unwritten, Unprinted, Memory}
use Rattle.plain_schema.specs.declared.verdict.Verdict.{Verdict}
use Rattle.plain_schema.specs.declared.verdict.Verdict.TheVariants.{Done}
use Rattle.alter_cli.specs.declared.status.Status.{Status}
use Rattle.alter_cli.specs.declared.status.Status.TheVariants as statuses
use Rattle.alter_cli.specs.Causes.{CanRun, IsFileRefused, IsUnserved}
use Rattle.alter_cli.specs.Ending.{WhereTold}
use Rattle.alter_cli.specs.Given.{WroteFront}
use Rattle.alter_cli.specs.Codes.{file_line}
use Rattle.alter_cli.specs.Left.{Each, EachCrash, Left, left_on}
use Rattle.alter_cli.specs.Lines.{verdict_lines, usage_line, too_long_line, script_unbuilt_line, fault_read_line, fault_write_line, memory_line}
use Rattle.plain_schema.specs.Verdicts.{is_done, verdict_line}
use Rattle.alter_cli.specs.Outcome.{IfNoneDone, IsAsBefore, IsServed, Outcome, run_status, script_limit}
use Rattle.alter_cli.specs.Rules.{Rules}
use Rattle.alter_cli.specs.Run.{Run}

-- the status of a call that stopped so
abbrev pub stop_status : Stop → Status
stop_status Misused = statuses.Usage
stop_status TooLong = statuses.Script
stop_status Unspelled = statuses.Script
stop_status (Unserved code) = statuses.File
stop_status Memory = statuses.Memory
stop_status _ = statuses.Fault

-- the line of a call that stopped so; a sink that failed gets no more
abbrev pub stop_line : Stop → List ℕ
stop_line Misused = usage_line
stop_line TooLong = too_long_line
stop_line Unspelled = script_unbuilt_line
stop_line Unread = fault_read_line
stop_line (Unserved code) = file_line code
stop_line Unreadable = fault_read_line
stop_line Unwritten = fault_write_line
stop_line Unprinted = []
stop_line Memory = memory_line

-- a run of commands stops by a failure of reading, of writing or of the sink, each with its cause, or for want of memory
abbrev pub IsRunStop : Type 0 → Type 0 → Type 0 → Stop → Type 0
IsRunStop Read Write Sunk Unreadable = Read
IsRunStop Read Write Sunk Unwritten = Write
IsRunStop Read Write Sunk Unprinted = Sunk
IsRunStop Read Write Sunk Memory = Unit {0}
IsRunStop Read Write Sunk _ = ⊥

-- The last line of a call that stopped was written, or a front of it after a failure of the sink.
abbrev pub IsLast : Type 0 → Stop → Status → List ℕ → List ℕ → Type 0
IsLast Sunk stop status given now =
    ((status ≡ stop_status stop) × (now ≡ given ++ stop_line stop))
    ⊎ (Sunk × (status ≡ statuses.Fault) × WroteFront given (stop_line stop) (Some now))

-- a stop and its last line: the status of the stop, or a fault by the line
abbrev pub IsStopStatus : Type 0 → Stop → Status → Type 0
IsStopStatus Sunk stop status = (status ≡ stop_status stop) ⊎ ((status ≡ statuses.Fault) × Sunk)

-- The end of a call that ran its commands, each of them done or not, or stopped so: its status, and what a sink that had
-- the commands' lines was given behind them.
abbrev pub IsEnd : Type 0 → Result Bool Stop → Status → Option (List ℕ) → Option (List ℕ) → Type 0
IsEnd Sunk (Ok all_done) status had now = (status ≡ run_status all_done) × (now ≡ had)
IsEnd Sunk (Err stop) status had now = IsStopStatus Sunk stop status × IfTold had (λ given. IsSomeAnd now (IsLast Sunk stop status given))

-- what a sink was given by a run of commands, each of them done or not, or stopped so; nothing where the script or the file
-- was refused
abbrev pub GaveLines : Type 0 → List ℕ → List ℕ → Result Bool Stop → Type 0
GaveLines Sunk given now (Ok all_done) =
    (verdicts : List Verdict) × (all_done ≡ list_all is_done verdicts) × (now ≡ given ++ verdict_lines 1 verdicts)
GaveLines Sunk given now (Err TooLong) = now ≡ given
GaveLines Sunk given now (Err Unspelled) = now ≡ given
GaveLines Sunk given now (Err (Unserved code)) = now ≡ given
GaveLines Sunk given now (Err Unprinted) =
    Sunk × ((verdicts : List Verdict) × (verdict : Verdict)
    × WroteFront (given ++ verdict_lines 1 verdicts) (verdict_line (1 + length verdicts) verdict) (Some now))
GaveLines Sunk given now (Err stop) = (verdicts : List Verdict) × (now ≡ given ++ verdict_lines 1 verdicts)

-- a sink that had `given`, where it is told, has the lines of the verdicts as well
abbrev pub HasLines : Option (List ℕ) → Option (List ℕ) → List Verdict → Type 0
HasLines given now verdicts = IfTold given (λ w. now ≡ Some (w ++ verdict_lines 1 verdicts))

module _ {Image Command : Type 0} (rules : Rules Image Command) where
  -- why there is no script, by what the source had and has left
  abbrev pub NoScript : Type 0 → Option (List ℕ) → Option (List ℕ) → Stop → Type 0
  NoScript Faulted had left TooLong = IfTold had (λ text. (script_limit < length text) × (left ≡ Some (drop (script_limit + 1) text)))
  NoScript Faulted had left Unspelled =
      IfTold had (λ text. (length text ≤ script_limit) × ((commands : List Command) → rules.IsScript text commands → ⊥) × (left ≡ Some []))
  NoScript Faulted had left Unread = Faulted
  NoScript Faulted had left Memory = Unit {0}
  NoScript Faulted had left _ = ⊥

  -- the files, where they are told, are left as before by each crash, and where a recovery leaves them as they are they read so
  abbrev pub IsLeftAlike : Left → Left → Type 0
  IsLeftAlike old new = IfTold old.reads (λ files.
      EachCrash new (IsAsBefore rules files old.crash) × (rules.recovered files ≡ files → new.reads ≡ Some files))

  -- the files are refused with this code, they are the recovered ones, and they open to no image that is served
  pub record IsRefusedSo (files : Files) (code : FileCode) (after : Left) : Type 0 where
    pub refused : rules.Refuses files code
    pub rests : Each after (λ c. c ≡ rules.recovered files)
    pub unserved : (image : Image) → rules.Serves files image → ⊥

  -- why the files were not opened, by what the disk had and has
  abbrev pub NoSession : Type 0 → Type 0 → Left → Left → Stop → Type 0
  NoSession Read Write old new (Unserved code) = IfTold old.reads (λ files. IsRefusedSo files code new)
  NoSession Read Write old new Unreadable = Read × IsLeftAlike old new
  NoSession Read Write old new Unwritten = Write × IsLeftAlike old new
  NoSession Read Write old new Memory = IsLeftAlike old new
  NoSession Read Write old new _ = ⊥

  -- These commands were run on an image: the files, read or left by a crash, open to the last image, and the sink has the
  -- lines of the verdicts as well. Where none of them is done, the disk was left alone as the fact says.
  pub record RanTo (Quiet : Type 0) (image : Image) (commands : List Command) (given : Option (List ℕ)) (after : Left) (now : Option (List ℕ)) (verdicts : List Verdict) : Type 0 where
    pub last : Image
    pub run : Run rules image commands verdicts last
    pub files : Each after (rules.OpensTo last)
    pub quiet : IfNoneDone verdicts Quiet
    pub lines : HasLines given now verdicts

  -- all of these commands were run, and each of them is done or not
  abbrev pub RanEach : Type 0 → Image → List Command → Option (List ℕ) → Left → Option (List ℕ) → Bool → Type 0
  RanEach Quiet image commands given after now all_done =
      (verdicts : List Verdict) × RanTo Quiet image commands given after now verdicts × (all_done ≡ list_all is_done verdicts)

  -- the files open to this image, or to the one after the command at this place, which is done
  abbrev pub IsNear : List Command → ℕ → Image → Files → Type 0
  IsNear commands place last c =
      rules.OpensTo last c ⊎ ((command : Command) × (slice_get commands place ≡ Some command) × ((new : Image) × rules.Step last command Done new × rules.OpensTo new c))

  -- the command at this place is done on the image
  abbrev pub IsDoneAt : List Command → ℕ → Image → Type 0
  IsDoneAt commands place last = (command : Command) × (slice_get commands place ≡ Some command) × ((new : Image) × rules.Step last command Done new)

  -- some of these commands were run, and the next, which is done, was being written
  pub record TornAt (image : Image) (commands : List Command) (given : Option (List ℕ)) (after : Left) (now : Option (List ℕ)) : Type 0 where
    pub count : ℕ
    pub verdicts : List Verdict
    pub last : Image
    pub run : Run rules image (take count commands) verdicts last
    pub files : EachCrash after (IsNear commands count last)
    pub next : IsDoneAt commands count last
    pub lines : HasLines given now verdicts

  -- some of these commands were run, and the line of the last of them was not printed to its end
  pub record UnprintedAt (Quiet : Type 0) (image : Image) (commands : List Command) (given : Option (List ℕ)) (after : Left) (now : Option (List ℕ)) : Type 0 where
    pub count : ℕ
    pub verdicts : List Verdict
    pub verdict : Verdict
    pub last : Image
    pub run : Run rules image (take count commands) (verdicts ++ verdict ∷ []) last
    pub files : Each after (rules.OpensTo last)
    pub quiet : IfNoneDone (verdicts ++ verdict ∷ []) Quiet
    pub front : IfTold given (λ w. WroteFront (w ++ verdict_lines 1 verdicts) (verdict_line (1 + length verdicts) verdict) now)

  -- some of these commands were run
  abbrev pub RanSome : Type 0 → Image → List Command → Option (List ℕ) → Left → Option (List ℕ) → Type 0
  RanSome Quiet image commands given after now = (count : ℕ) × (verdicts : List Verdict) × RanTo Quiet image (take count commands) given after now verdicts

  -- why not all of these commands were run on an image, by the files and the sink after them
  abbrev pub StoppedAt : Type 0 → Type 0 → Type 0 → Type 0 → Image → List Command → Option (List ℕ) → Left → Option (List ℕ) → Stop → Type 0
  StoppedAt Read Write Sunk Quiet image commands given after now Memory = RanSome Quiet image commands given after now
  StoppedAt Read Write Sunk Quiet image commands given after now Unreadable = Read × RanSome Quiet image commands given after now
  StoppedAt Read Write Sunk Quiet image commands given after now Unwritten = Write × TornAt image commands given after now
  StoppedAt Read Write Sunk Quiet image commands given after now Unprinted = Sunk × UnprintedAt Quiet image commands given after now
  StoppedAt Read Write Sunk Quiet image commands given after now _ = ⊥

  -- the files open to an image of a run over some of these commands
  abbrev pub IsReachedBy : Image → List Command → Files → Type 0
  IsReachedBy image commands c =
      (count : ℕ) × (verdicts : List Verdict) × (last : Image) × Run rules image (take count commands) verdicts last × rules.OpensTo last c

  -- the files open to an image that is served, of which the fact holds
  pub record OpensOf (IsOf : Image → Type 0) (files : Files) : Type 0 where
    pub image : Image
    pub serves : rules.Serves files image
    pub of : IsOf image

  -- what a command of this number made of an image of which the first fact holds: a step, and the second fact of the new image
  abbrev pub Makes : (Image → Type 0) → Command → Verdict → (Image → Type 0) → Type 0
  Makes IsOf command verdict IsNew = (last : Image) → IsOf last → (new : Image) × rules.Step last command verdict new × IsNew new

  -- the files, read or left by a crash, open to each image of which the fact holds
  abbrev pub IsOpenTo : (Image → Type 0) → Left → Type 0
  IsOpenTo IsOf after = (image : Image) → IsOf image → Each after (rules.OpensTo image)

  -- the files open to this image, or to the one after the command, which is done
  abbrev pub OpensAround : Image → Command → Files → Type 0
  OpensAround image command c = rules.OpensTo image c ⊎ ((new : Image) × rules.Step image command Done new × rules.OpensTo new c)

  -- why a command of this number was not run to its end on an image of which the fact holds, by the files and the sink; unless it
  -- is done, the disk was left alone as the fact on it says
  abbrev pub NotRun : Type 0 → Type 0 → Type 0 → Type 0 → (Image → Type 0) → ℕ → Command → Left → Option (List ℕ) → Option (List ℕ) → Stop → Type 0
  NotRun Read Write Sunk Quiet IsOf number command after had has Memory = IsOpenTo IsOf after × (has ≡ had) × Quiet
  NotRun Read Write Sunk Quiet IsOf number command after had has Unreadable = Read × IsOpenTo IsOf after × (has ≡ had) × Quiet
  NotRun Read Write Sunk Quiet IsOf number command after had has Unwritten =
      Write × ((image : Image) → IsOf image → EachCrash after (OpensAround image command)) × (has ≡ had)
      × ((image : Image) → IsOf image → (new : Image) × rules.Step image command Done new)
  NotRun Read Write Sunk Quiet IsOf number command after had has Unprinted =
      Sunk × ((verdict : Verdict) × Makes IsOf command verdict (λ image. Each after (rules.OpensTo image))
      × IfTold had (λ given. WroteFront given (verdict_line number verdict) has) × (is_done verdict ≡ false → Quiet))
  NotRun Read Write Sunk Quiet IsOf number command after had has _ = ⊥

  -- The call ran its commands, each of them done or not, or stopped so. The line of a stop is still to come.
  abbrev pub RanSo : Rises → (Files → Type 0) → Left → Bool → Result Bool Stop → List ℕ → List ℕ → Files → List ℕ → List ℕ → Type 0
  RanSo rose could after called (Ok all_done) text left before given now =
      (verdicts : List Verdict) × Outcome rules rose text before could (run_status all_done) verdicts [] after called left
      × (now ≡ given ++ verdict_lines 1 verdicts)
  RanSo rose could after called (Err Unprinted) text left before given now =
      rose.sink × ((verdicts : List Verdict) × (verdict : Verdict)
      × Outcome rules rose text before could statuses.Fault (verdicts ++ verdict ∷ []) [] after called left
      × WroteFront (given ++ verdict_lines 1 verdicts) (verdict_line (1 + length verdicts) verdict) (Some now))
  RanSo rose could after called (Err stop) text left before given now =
      (verdicts : List Verdict) × Outcome rules rose text before could (stop_status stop) verdicts (stop_line stop) after called left
      × (now ≡ given ++ verdict_lines 1 verdicts)

  -- the text is a script, where it is told
  abbrev pub IsScriptTold : Option (List ℕ) → Type 0
  IsScriptTold text = IfTold text (λ t. (commands : List Command) × IsServed rules t commands)

  -- the text is a script where it is told, and the files open to an image that is served where they are told too
  pub record CanRunTold (text : Option (List ℕ)) (files : Option Files) : Type 0 where
    pub script : IsScriptTold text
    pub both : IfTold text (λ t. IfTold files (CanRun rules t))

  -- why a call with a file's name stopped, by what the source and the disk had
  abbrev pub IsCaused : Rises → Option (List ℕ) → Option Files → Stop → Type 0
  IsCaused rose text files TooLong = IfTold text (IsUnserved rules)
  IsCaused rose text files Unspelled = IfTold text (IsUnserved rules)
  IsCaused rose text files Unread = rose.source
  IsCaused rose text files (Unserved code) = IsScriptTold text × IfTold text (λ t. IfTold files (IsFileRefused rules t))
  IsCaused rose text files Unreadable = rose.reading × IsScriptTold text
  IsCaused rose text files Unwritten = rose.writing × IsScriptTold text
  IsCaused rose text files Unprinted = rose.sink × CanRunTold text files
  IsCaused rose text files Memory = Unit {0}
  IsCaused rose text files Misused = ⊥

  -- where source, disk and sink tell, the call ran its commands or stopped so
  abbrev pub RunsSo : {D : Type 0} → Ghosts D → D → D → Span → Result Bool Stop → Type 0
  RunsSo disk old new span result =
      WhereTold span.before.left span.now.left span.before.files span.before.written span.now.written
      (RanSo (rises span) (disk.may_leave old) (left_on disk new) span.now.called result)

  -- whatever is told, the stop has its cause
  abbrev pub StopsBy : Span → Stop → Type 0
  StopsBy span = IsCaused (rises span) span.before.left span.before.files
