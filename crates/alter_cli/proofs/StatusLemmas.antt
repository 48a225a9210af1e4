-- Each status comes exactly where it should.
use Rattle.std.proofs.Common.{◌≡◌, ◌≢◌, ℕ, Bool, ◌⊎◌, inl, inr, Option, Some, None, Result, Ok, Err, OnOk, IfErr, List, sym, ◌∙◌, arith}
use Rattle.alter_disk.specs.Changes.{IfTold}
use Rattle.alter_disk.specs.Files.{Files}
use Rattle.alter_disk.specs.Outside.{AnyRose, Rises}
use Rattle.alter_cli.specs.declared.status.Status.{Status}
use Rattle.alter_cli.specs.declared.status.Status.TheVariants as statuses
use Rattle.alter_cli.specs.declared.file_code.FileCode.{FileCode}
use Rattle.alter_cli.specs.declared.stop.Stop.{Stop}
use Rattle.alter_cli.specs.declared.stop.Stop.TheVariants.{Misused, TooLong, Unspelled, Unread, Unserved, Unreadable, Unwritten, Unprinted, Memory}
use Rattle.alter_cli.specs.Causes.{CanRun, IsExactly, IsFileRefused, IsUnserved}
use Rattle.alter_cli.specs.Left.{Left}
use Rattle.alter_cli.specs.Outcome.{IsRunStatus}
use Rattle.alter_cli.specs.Rules.{Rules}
use Rattle.alter_cli.specs.Stops.{CanRunTold, IsCaused, IsRunStop, IsScriptTold, IsStopStatus, IsRefusedSo, NoScript, NoSession, OpensOf, stop_status}
use Rattle.alter_cli.proofs.PerformLemmas.{Commands_read}

-- a status that is another comes under no condition, and a fault or want of memory may come in its place
pub other_status : (Wanted : Status → Type 0) (Condition Cause : Type 0) (status : Status) → (Wanted status → ⊥)
    → (Condition → (status ≡ statuses.Memory) ⊎ ((status ≡ statuses.Fault) × Cause)) → IsExactly Wanted Condition Cause status
other_status Wanted Condition Cause status never instead = record { only = λ w. absurd (never w); comes = λ c. inr (instead c) }

-- a status that is none of a run
pub no_run : (status other : Status) → status ≡ other → other ≢ statuses.Done → other ≢ statuses.Refused → IsRunStatus status → ⊥
no_run status other same done refused (inl is) = done (sym same ∙ is)
no_run status other same done refused (inr is) = refused (sym same ∙ is)

module _ {Image Command : Type 0} (rules : Rules Image Command) where
  -- what was read is a script
  pub script_told : (text left : Option (List ℕ)) (commands : List Command) → Commands_read rules text left commands → IsScriptTold rules text
  script_told None left commands is = tt
  script_told (Some t) left commands is = (commands, is.0)

  -- what was read can be run
  pub can_run_told : (text left : Option (List ℕ)) (files : Option Files) (commands : List Command) (IsOf : Image → Type 0) → Commands_read rules text left commands
      → IfTold files (OpensOf rules IsOf) → CanRunTold rules text files
  can_run_told None left files commands IsOf is of = record { script = tt; both = tt }
  can_run_told (Some t) left None commands IsOf is of = record { script = (commands, is.0); both = tt }
  can_run_told (Some t) left (Some f) commands IsOf is of = record {
    script = (commands, is.0);
    both = record {
      commands = commands;
      served = is.0;
      image = of.image;
      serves = of.serves;
    };
  }

  -- why there was no script
  pub script_cause : (rose : Rises) (text left : Option (List ℕ)) (files : Option Files) (stop : Stop) → NoScript rules rose.source text left stop
      → IsCaused rules rose text files stop
  script_cause rose None left files TooLong why = tt
  script_cause rose (Some t) left files TooLong why = λ commands served. absurd (omega (arith, why.0, served.short))
  script_cause rose None left files Unspelled why = tt
  script_cause rose (Some t) left files Unspelled why = λ commands served. why.1 commands served.script
  script_cause rose text left files Unread why = why
  script_cause rose text left files Memory why = tt
  script_cause rose text left files stop why = absurd why

  -- the file that was refused
  refused_told : (Read Write : Type 0) (text left : Option (List ℕ)) (old new : Left) (commands : List Command) (code : FileCode) → Commands_read rules text left commands
      → NoSession rules Read Write old new (Unserved code) → IfTold text (λ t. IfTold old.reads (IsFileRefused rules t))
  refused_told Read Write text left old new commands code is why = at text old.reads is why
    where
      at : (text : Option (List ℕ)) (files : Option Files) → Commands_read rules text left commands → IfTold files (λ f. IsRefusedSo rules f code new)
          → IfTold text (λ t. IfTold files (IsFileRefused rules t))
      at None files is why = tt
      at (Some t) None is why = tt
      at (Some t) (Some f) is why = record { commands = commands; served = is.0; unserved = why.unserved }

  -- why the files were not opened
  pub session_cause : (rose : Rises) (text left : Option (List ℕ)) (old new : Left) (commands : List Command) (stop : Stop)
      → Commands_read rules text left commands → NoSession rules rose.reading rose.writing old new stop → IsCaused rules rose text old.reads stop
  session_cause rose text left old new commands (Unserved code) is why =
      (script_told text left commands is, refused_told rose.reading rose.writing text left old new commands code is why)
  session_cause rose text left old new commands Unreadable is why = (why.0, script_told text left commands is)
  session_cause rose text left old new commands Unwritten is why = (why.0, script_told text left commands is)
  session_cause rose text left old new commands Memory is why = tt
  session_cause rose text left old new commands stop is why = absurd why

  -- why the run of the commands stopped
  pub stop_cause : (rose : Rises) (Read Write : Type 0) (text : Option (List ℕ)) (files : Option Files) (stop : Stop) → (Read → rose.reading) → (Write → rose.writing)
      → CanRunTold rules text files → IsRunStop Read Write rose.sink stop → IsCaused rules rose text files stop
  stop_cause rose Read Write text files Unreadable read wrote can why = (read why, can.script)
  stop_cause rose Read Write text files Unwritten read wrote can why = (wrote why, can.script)
  stop_cause rose Read Write text files Unprinted read wrote can why = (why, can)
  stop_cause rose Read Write text files Memory read wrote can why = tt
  stop_cause rose Read Write text files stop read wrote can why = absurd why

  -- a run of the commands that did not stop was one of what can be run
  pub ok_able : (text : Option (List ℕ)) (files : Option Files) (result : Result Bool Stop) → CanRunTold rules text files → OnOk result (CanRunTold rules text files)
  ok_able text files (Ok all_done) can = can
  ok_able text files (Err stop) can = tt

  -- why the run of the commands stopped, if it did
  pub err_cause : (rose : Rises) (Read Write : Type 0) (text : Option (List ℕ)) (files : Option Files) (result : Result Bool Stop) → (Read → rose.reading) → (Write → rose.writing)
      → CanRunTold rules text files → IfErr result (IsRunStop Read Write rose.sink) → IfErr result (IsCaused rules rose text files)
  err_cause rose Read Write text files (Ok all_done) read wrote can why = tt
  err_cause rose Read Write text files (Err stop) read wrote can why = stop_cause rose Read Write text files stop read wrote can why

  -- a script's status, where the text is told
  script_at : (rose : Rises) (First Part : Type 0) (t : List ℕ) (files : Option Files) (stop : Stop) (status : Status) → (First → rose.sink)
      → IsCaused rules (record rose { sink = First }) (Some t) files stop → status ≡ stop_status stop
      → IsExactly (λ s. s ≡ statuses.Script) (IsUnserved rules t) (rose.source ⊎ rose.sink) status
  script_at rose First Part t files TooLong status first why same = record { only = λ _. why; comes = λ _. inl same }
  script_at rose First Part t files Unspelled status first why same = record { only = λ _. why; comes = λ _. inl same }
  script_at rose First Part t files Unread status first why same =
      other_status _ _ _ status (λ e. cc) (λ _. inr (same, inl why))
  script_at rose First Part t files (Unserved code) status first why same =
      other_status _ _ _ status (λ e. cc) (λ un. absurd (un why.0.0 why.0.1))
  script_at rose First Part t files Unreadable status first why same =
      other_status _ _ _ status (λ e. cc) (λ un. absurd (un why.1.0 why.1.1))
  script_at rose First Part t files Unwritten status first why same =
      other_status _ _ _ status (λ e. cc) (λ un. absurd (un why.1.0 why.1.1))
  script_at rose First Part t files Unprinted status first why same =
      other_status _ _ _ status (λ e. cc) (λ _. inr (same, inr (first why.0)))
  script_at rose First Part t files Memory status first why same = other_status _ _ _ status (λ e. cc) (λ _. inl same)
  script_at rose First Part t files Misused status first why same = absurd why

  -- a call that stopped ends with a script's status exactly where it should
  pub script_stopped : (rose : Rises) (First Part : Type 0) (text : Option (List ℕ)) (files : Option Files) (stop : Stop) (status : Status)
      → (First → rose.sink) → (Part → rose.sink) → IsCaused rules (record rose { sink = First }) text files stop → IsStopStatus Part stop status
      → IfTold text (λ t. IsExactly (λ s. s ≡ statuses.Script) (IsUnserved rules t) (rose.source ⊎ rose.sink) status)
  script_stopped rose First Part None files stop status first later why is = tt
  script_stopped rose First Part (Some t) files stop status first later why (inl same) =
      script_at rose First Part t files stop status first why same
  script_stopped rose First Part (Some t) files stop status first later why (inr fault) =
      other_status _ _ _ status (λ e. let same = fault.0 in cc) (λ _. inr (fault.0, inr (later fault.1)))

  -- a file's status, where text and files are told
  file_at : (rose : Rises) (First : Type 0) (t : List ℕ) (f : Files) (stop : Stop) (status : Status) → (First → rose.sink)
      → IsCaused rules (record rose { sink = First }) (Some t) (Some f) stop → status ≡ stop_status stop
      → IsExactly (λ s. s ≡ statuses.File) (IsFileRefused rules t f) (AnyRose rose) status
  file_at rose First t f TooLong status first why same =
      other_status _ _ _ status (λ e. cc) (λ r. absurd (why r.commands r.served))
  file_at rose First t f Unspelled status first why same =
      other_status _ _ _ status (λ e. cc) (λ r. absurd (why r.commands r.served))
  file_at rose First t f Unread status first why same = other_status _ _ _ status (λ e. cc) (λ _. inr (same, inl why))
  file_at rose First t f (Unserved code) status first why same = record { only = λ _. why.1; comes = λ _. inl same }
  file_at rose First t f Unreadable status first why same =
      other_status _ _ _ status (λ e. cc) (λ _. inr (same, inr (inl why.0)))
  file_at rose First t f Unwritten status first why same =
      other_status _ _ _ status (λ e. cc) (λ _. inr (same, inr (inr (inl why.0))))
  file_at rose First t f Unprinted status first why same =
      other_status _ _ _ status (λ e. cc) (λ _. inr (same, inr (inr (inr (first why.0)))))
  file_at rose First t f Memory status first why same = other_status _ _ _ status (λ e. cc) (λ _. inl same)
  file_at rose First t f Misused status first why same = absurd why

  -- a call that stopped ends with a file's status exactly where it should
  pub file_stopped : (rose : Rises) (First Part : Type 0) (text : Option (List ℕ)) (files : Option Files) (stop : Stop) (status : Status)
      → (First → rose.sink) → (Part → rose.sink) → IsCaused rules (record rose { sink = First }) text files stop → IsStopStatus Part stop status
      → IfTold text (λ t. IfTold files (λ f. IsExactly (λ s. s ≡ statuses.File) (IsFileRefused rules t f) (AnyRose rose) status))
  file_stopped rose First Part None files stop status first later why is = tt
  file_stopped rose First Part (Some t) None stop status first later why is = tt
  file_stopped rose First Part (Some t) (Some f) stop status first later why (inl same) =
      file_at rose First t f stop status first why same
  file_stopped rose First Part (Some t) (Some f) stop status first later why (inr fault) =
      other_status _ _ _ status (λ e. let same = fault.0 in cc) (λ _. inr (fault.0, inr (inr (inr (later fault.1)))))

  -- a run's status, where text and files are told
  run_at : (rose : Rises) (First : Type 0) (t : List ℕ) (f : Files) (stop : Stop) (status : Status) → (First → rose.sink)
      → IsCaused rules (record rose { sink = First }) (Some t) (Some f) stop → status ≡ stop_status stop
      → IsExactly IsRunStatus (CanRun rules t f) (AnyRose rose) status
  run_at rose First t f TooLong status first why same =
      other_status _ _ _ status (no_run status _ same (λ e. cc) (λ e. cc)) (λ can. absurd (why can.commands can.served))
  run_at rose First t f Unspelled status first why same =
      other_status _ _ _ status (no_run status _ same (λ e. cc) (λ e. cc)) (λ can. absurd (why can.commands can.served))
  run_at rose First t f Unread status first why same =
      other_status _ _ _ status (no_run status _ same (λ e. cc) (λ e. cc)) (λ _. inr (same, inl why))
  run_at rose First t f (Unserved code) status first why same =
      other_status _ _ _ status (no_run status _ same (λ e. cc) (λ e. cc)) (λ can. absurd (why.1.unserved can.image can.serves))
  run_at rose First t f Unreadable status first why same =
      other_status _ _ _ status (no_run status _ same (λ e. cc) (λ e. cc)) (λ _. inr (same, inr (inl why.0)))
  run_at rose First t f Unwritten status first why same =
      other_status _ _ _ status (no_run status _ same (λ e. cc) (λ e. cc)) (λ _. inr (same, inr (inr (inl why.0))))
  run_at rose First t f Unprinted status first why same =
      other_status _ _ _ status (no_run status _ same (λ e. cc) (λ e. cc)) (λ _. inr (same, inr (inr (inr (first why.0)))))
  run_at rose First t f Memory status first why same =
      other_status _ _ _ status (no_run status _ same (λ e. cc) (λ e. cc)) (λ _. inl same)
  run_at rose First t f Misused status first why same = absurd why

  -- a call that stopped ends with a run's status exactly where it should
  pub run_stopped : (rose : Rises) (First Part : Type 0) (text : Option (List ℕ)) (files : Option Files) (stop : Stop) (status : Status)
      → (First → rose.sink) → (Part → rose.sink) → IsCaused rules (record rose { sink = First }) text files stop → IsStopStatus Part stop status
      → IfTold text (λ t. IfTold files (λ f. IsExactly IsRunStatus (CanRun rules t f) (AnyRose rose) status))
  run_stopped rose First Part None files stop status first later why is = tt
  run_stopped rose First Part (Some t) None stop status first later why is = tt
  run_stopped rose First Part (Some t) (Some f) stop status first later why (inl same) =
      run_at rose First t f stop status first why same
  run_stopped rose First Part (Some t) (Some f) stop status first later why (inr fault) =
      other_status _ _ _ status (no_run status statuses.Fault fault.0 (λ e. cc) (λ e. cc)) (λ _. inr (fault.0, inr (inr (inr (later fault.1)))))

  -- a run's status is none of a file
  pub file_ran : (Cause : Type 0) (text : Option (List ℕ)) (files : Option Files) (status : Status) → IsRunStatus status → CanRunTold rules text files
      → IfTold text (λ t. IfTold files (λ f. IsExactly (λ s. s ≡ statuses.File) (IsFileRefused rules t f) Cause status))
  file_ran Cause None files status run can = tt
  file_ran Cause (Some t) None status run can = tt
  file_ran Cause (Some t) (Some f) status run can =
      other_status _ _ _ status (λ e. no_run status statuses.File e (λ o. cc) (λ o. cc) run) (λ r. absurd (r.unserved can.both.image can.both.serves))

  -- a run's status comes where the script can be run
  pub run_ran : (Cause : Type 0) (text : Option (List ℕ)) (files : Option Files) (status : Status) → IsRunStatus status → CanRunTold rules text files
      → IfTold text (λ t. IfTold files (λ f. IsExactly IsRunStatus (CanRun rules t f) Cause status))
  run_ran Cause None files status run can = tt
  run_ran Cause (Some t) None status run can = tt
  run_ran Cause (Some t) (Some f) status run can = record { only = λ _. can.both; comes = λ _. inl run }
