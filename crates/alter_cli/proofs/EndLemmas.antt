-- What holds at the end of a call that ran its commands or stopped.
use Rattle.std.proofs.Common.{◌≡◌, ◌≢◌, ℕ, Bool, true, false, ◌⊎◌, inl, inr, Option, Some, None, Result, Ok, Err, OnOk, IfErr, IsErrAnd, List, sym, ap, ◌∙◌, subst}
use Rattle.alter_disk.specs.Files.{Files}
use Rattle.alter_disk.specs.Changes.{IfTold}
use Rattle.alter_disk.specs.Outside.{AnyRose, Rises, Span, rises}
use Rattle.alter_cli.specs.declared.stop.Stop.{Stop}
use Rattle.alter_cli.specs.declared.stop.Stop.TheVariants.{Misused, TooLong, Unspelled, Unread, Unserved, Unreadable, Unwritten, Unprinted, Memory}
use Rattle.alter_cli.specs.declared.status.Status.{Status}
use Rattle.alter_cli.specs.declared.status.Status.TheVariants as statuses
use Rattle.alter_cli.specs.Causes.{CanRun, IsExactly, IsFileRefused, IsUnserved}
use Rattle.alter_cli.specs.Counted.{HasCauses, rises_alone}
use Rattle.alter_cli.specs.Ending.{WhereSinkTells, WhereTold}
use Rattle.alter_cli.specs.Left.{Left}
use Rattle.alter_cli.specs.Outcome.{IsRunStatus, Performed, Printed, run_status}
use Rattle.alter_cli.specs.Rules.{Rules}
use Rattle.alter_cli.specs.Stops.{CanRunTold, GaveLines, IsCaused, IsEnd, RanSo, stop_status}
use Rattle.alter_cli.proofs.FinishLemmas.{performed_told_ok, performed_told_stop}
use Rattle.alter_cli.proofs.Printed.{printed_ok, printed_stop}
use Rattle.alter_cli.proofs.StatusLemmas.{file_ran, file_stopped, other_status, run_ran, run_stopped, script_stopped}

-- the status of a run is one
run_is : (all_done : Bool) (status : Status) → status ≡ run_status all_done → IsRunStatus status
run_is true status is = inl is
run_is false status is = inr is

-- and so none of another kind
no_other : (all_done : Bool) (status other : Status) → status ≡ run_status all_done → other ≢ statuses.Done → other ≢ statuses.Refused → status ≢ other
no_other true status other is done refused same = done (sym same ∙ is)
no_other false status other is done refused same = refused (sym same ∙ is)

-- What holds of how a call went and of the end of it: its count of the sink's faults rose in the run or at the end.
module _ {Image Command : Type 0} (rules : Rules Image Command) (rose : Rises) (First Part : Type 0) where
  -- the verdicts, the files and what was printed, where all three tell
  pub end_performed : (called : Bool) (ran : Result Bool Stop) (status : Status) (text left : Option (List ℕ)) (before : Option Files) (could : Files → Type 0) (after : Left)
      (given mid now : Option (List ℕ)) → (First → rose.sink) → (Part → rose.sink)
      → WhereTold text left before given mid (RanSo rules (record rose { sink = First }) could after called ran) → IsEnd Part ran status mid now
      → WhereTold text left before given now (λ text left before given now. Performed rules rose text before could after called left given now status)
  end_performed called (Ok all_done) status text left before could after given mid now first later is end =
      subst (λ n. WhereTold text left before given n (λ text left before given now. Performed rules rose text before could after called left given now status)) (sym end.1)
      (subst (λ s. WhereTold text left before given mid (λ text left before given now. Performed rules rose text before could after called left given now s)) (sym end.0)
      (performed_told_ok rules rose First called all_done text left before could after given mid first is))
  end_performed called (Err stop) status text left before could after given mid now first later is end =
      performed_told_stop rules rose First Part called stop status text left before could after given mid now first later is end.1

  -- what was printed, where the sink tells
  pub end_printed : (ran : Result Bool Stop) (status : Status) (text : Option (List ℕ)) (files : Option Files) (given mid now : Option (List ℕ))
      → (First → rose.sink) → (Part → rose.sink) → IfErr ran (IsCaused rules (record rose { sink = First }) text files)
      → WhereSinkTells given mid (λ g m. GaveLines First g m ran) → IsEnd Part ran status mid now
      → WhereSinkTells given now (λ g n. Printed rose g n status)
  end_printed (Ok all_done) status text files given mid now first later why is end =
      subst (λ n. WhereSinkTells given n (λ g n. Printed rose g n status)) (sym end.1)
      (subst (λ s. WhereSinkTells given mid (λ g n. Printed rose g n s)) (sym end.0) (printed_ok rose First given mid all_done is))
  end_printed (Err stop) status text files given mid now first later why is end =
      printed_stop rules rose First Part text files stop status given mid now first later why is end.1

  -- a run's status is none of a script
  script_ran : (Cause : Type 0) (text : Option (List ℕ)) (files : Option Files) (status : Status) → status ≢ statuses.Script → CanRunTold rules text files
      → IfTold text (λ t. IsExactly (λ s. s ≡ statuses.Script) (IsUnserved rules t) Cause status)
  script_ran Cause None files status none can = tt
  script_ran Cause (Some t) files status none can = other_status _ _ _ status none (λ u. absurd (u can.script.0 can.script.1))

  -- a script's status comes exactly where it should
  pub end_script : (ran : Result Bool Stop) (status : Status) (text : Option (List ℕ)) (files : Option Files) (mid now : Option (List ℕ))
      → (First → rose.sink) → (Part → rose.sink) → IfErr ran (IsCaused rules (record rose { sink = First }) text files) → OnOk ran (CanRunTold rules text files)
      → IsEnd Part ran status mid now → IfTold text (λ t. IsExactly (λ s. s ≡ statuses.Script) (IsUnserved rules t) (rose.source ⊎ rose.sink) status)
  end_script (Ok all_done) status text files mid now first later why can end =
      script_ran (rose.source ⊎ rose.sink) text files status (no_other all_done status statuses.Script end.0 (λ e. cc) (λ e. cc)) can
  end_script (Err stop) status text files mid now first later why can end =
      script_stopped rules rose First Part text files stop status first later why end.0

  -- a file's status comes exactly where it should
  pub end_file : (ran : Result Bool Stop) (status : Status) (text : Option (List ℕ)) (files : Option Files) (mid now : Option (List ℕ))
      → (First → rose.sink) → (Part → rose.sink) → IfErr ran (IsCaused rules (record rose { sink = First }) text files) → OnOk ran (CanRunTold rules text files)
      → IsEnd Part ran status mid now
      → IfTold text (λ t. IfTold files (λ f. IsExactly (λ s. s ≡ statuses.File) (IsFileRefused rules t f) (AnyRose rose) status))
  end_file (Ok all_done) status text files mid now first later why can end =
      file_ran rules (AnyRose rose) text files status (run_is all_done status end.0) can
  end_file (Err stop) status text files mid now first later why can end =
      file_stopped rules rose First Part text files stop status first later why end.0

  -- a run's status comes exactly where it should
  pub end_run : (ran : Result Bool Stop) (status : Status) (text : Option (List ℕ)) (files : Option Files) (mid now : Option (List ℕ))
      → (First → rose.sink) → (Part → rose.sink) → IfErr ran (IsCaused rules (record rose { sink = First }) text files) → OnOk ran (CanRunTold rules text files)
      → IsEnd Part ran status mid now
      → IfTold text (λ t. IfTold files (λ f. IsExactly IsRunStatus (CanRun rules t f) (AnyRose rose) status))
  end_run (Ok all_done) status text files mid now first later why can end =
      run_ran rules (AnyRose rose) text files status (run_is all_done status end.0) can
  end_run (Err stop) status text files mid now first later why can end =
      run_stopped rules rose First Part text files stop status first later why end.0

  -- a stop that is a fault has a cause
  stop_fault : (text : Option (List ℕ)) (files : Option Files) (stop : Stop) → (First → rose.sink)
      → IsCaused rules (record rose { sink = First }) text files stop → stop_status stop ≡ statuses.Fault → AnyRose rose
  stop_fault text files Unread first why is = inl why
  stop_fault text files Unreadable first why is = inr (inl why.0)
  stop_fault text files Unwritten first why is = inr (inr (inl why.0))
  stop_fault text files Unprinted first why is = inr (inr (inr (first why.0)))
  stop_fault text files stop first why is = absurd cc

  -- a fault has a cause
  pub end_cause : (ran : Result Bool Stop) (status : Status) (text : Option (List ℕ)) (files : Option Files) (mid now : Option (List ℕ))
      → (First → rose.sink) → (Part → rose.sink) → IfErr ran (IsCaused rules (record rose { sink = First }) text files) → IsEnd Part ran status mid now
      → status ≡ statuses.Fault → AnyRose rose
  end_cause (Ok all_done) status text files mid now first later why end is = absurd (no_other all_done status statuses.Fault end.0 (λ e. cc) (λ e. cc) is)
  end_cause (Err stop) status text files mid now first later why (inl same, told) is = stop_fault text files stop first why (sym same ∙ is)
  end_cause (Err stop) status text files mid now first later why (inr fault, told) is = inr (inr (inr (later fault.1)))

  -- a stop with a cause is no misuse
  stop_used : (text : Option (List ℕ)) (files : Option Files) (stop : Stop) → IsCaused rules (record rose { sink = First }) text files stop
      → stop_status stop ≢ statuses.Usage
  stop_used text files Misused why is = absurd why
  stop_used text files stop why is = cc

  -- the call was no misuse
  pub end_used : (ran : Result Bool Stop) (status : Status) (text : Option (List ℕ)) (files : Option Files) (mid now : Option (List ℕ))
      → IfErr ran (IsCaused rules (record rose { sink = First }) text files) → IsEnd Part ran status mid now → status ≢ statuses.Usage
  end_used (Ok all_done) status text files mid now why end is = no_other all_done status statuses.Usage end.0 (λ e. cc) (λ e. cc) is
  end_used (Err stop) status text files mid now why (inl same, told) is = stop_used text files stop why (sym same ∙ is)
  end_used (Err stop) status text files mid now why (inr fault, told) is = let e = sym fault.0 ∙ is in cc

-- the cause of a stop rose alone
pub caused_alone : {Image Command : Type 0} (rules : Rules Image Command) (span : Span) (First : Type 0) (text : Option (List ℕ)) (files : Option Files) (ran : Result Bool Stop)
    → HasCauses span ran → IfErr ran (IsCaused rules (record (rises span) { sink = First }) text files)
    → IfErr ran (IsCaused rules (record (rises_alone span) { sink = First }) text files)
caused_alone rules span First text files (Ok all_done) counts why = tt
caused_alone rules span First text files (Err TooLong) counts why = why
caused_alone rules span First text files (Err Unspelled) counts why = why
caused_alone rules span First text files (Err Unread) counts why = (why, counts.reading.only (λ is. cc), counts.writing.only (λ is. cc))
caused_alone rules span First text files (Err (Unserved code)) counts why = why
caused_alone rules span First text files (Err Unreadable) counts why = ((why.0, counts.source.only (λ is. cc), counts.writing.only (λ is. cc)), why.1)
caused_alone rules span First text files (Err Unwritten) counts why = ((why.0, counts.source.only (λ is. cc), counts.reading.only (λ is. cc)), why.1)
caused_alone rules span First text files (Err Unprinted) counts why = why
caused_alone rules span First text files (Err Memory) counts why = tt
caused_alone rules span First text files (Err Misused) counts why = absurd why

-- a call that ends as no fault did not stop by a failure
pub end_faultless : (Part : Type 0) (ran : Result Bool Stop) (status : Status) (mid now : Option (List ℕ)) → IsEnd Part ran status mid now
    → status ≢ statuses.Fault → (stop : Stop) → stop_status stop ≡ statuses.Fault → ran ≢ Err stop
end_faultless Part (Ok all_done) status mid now end none stop fault is = cc
end_faultless Part (Err why) status mid now (inl same, told) none stop fault is = let e : why ≡ stop = cc in none (same ∙ ap stop_status e ∙ fault)
end_faultless Part (Err why) status mid now (inr failed, told) none stop fault is = none failed.0

-- a call that ends with a script's status stopped with it
pub end_script_stop : (Part : Type 0) (ran : Result Bool Stop) (status : Status) (mid now : Option (List ℕ)) → IsEnd Part ran status mid now
    → status ≡ statuses.Script → IsErrAnd ran (λ stop. stop_status stop ≡ statuses.Script)
end_script_stop Part (Ok all_done) status mid now end is = absurd (no_other all_done status statuses.Script end.0 (λ e. cc) (λ e. cc) is)
end_script_stop Part (Err stop) status mid now (inl same, told) is = sym same ∙ is
end_script_stop Part (Err stop) status mid now (inr fault, told) is = let e = sym fault.0 ∙ is in cc
