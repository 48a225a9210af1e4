-- What a sink was given, by the sink and the counts alone.
use Rattle.std.proofs.Common.{◌≡◌, ℕ, ◌+◌, Bool, true, false, ◌&&◌, inl, inr, Option, Some, None, option_map, Ok, Err, IsSomeAnd, List, [], ◌∷◌, ◌++◌, length, refl, sym, ◌∙◌, ap, subst, arith, append-nil, append_assoc, length-append}
use Rattle.std.proofs.lemmas.Option.{same_Some}
use Rattle.std.specs.List.{list_all}
use Rattle.alter_disk.specs.Files.{Files}
use Rattle.alter_disk.specs.Changes.{IfTold}
use Rattle.alter_disk.specs.Outside.{Rises}
use Rattle.alter_cli.specs.declared.stop.Stop.{Stop}
use Rattle.alter_cli.specs.declared.stop.Stop.TheVariants.{Misused, TooLong, Unspelled, Unread, Unserved, Unreadable, Unwritten, Unprinted, Memory}
use Rattle.alter_cli.specs.declared.status.Status.{Status}
use Rattle.alter_cli.specs.declared.status.Status.TheVariants as statuses
use Rattle.plain_schema.specs.declared.verdict.Verdict.{Verdict}
use Rattle.alter_cli.specs.Ending.{WhereSinkTells}
use Rattle.alter_cli.specs.Given.{WroteFront}
use Rattle.alter_cli.specs.Left.{Left}
use Rattle.alter_cli.specs.Lines.{verdict_lines}
use Rattle.alter_cli.specs.Outcome.{IsLastLine, IsRunStatus, IsUnrunStatus, Printed, run_status}
use Rattle.alter_cli.specs.Rules.{Rules}
use Rattle.alter_cli.specs.Stops.{GaveLines, IsCaused, IsLast, NoScript, NoSession, stop_line, stop_status}
use Rattle.plain_schema.specs.Verdicts.{is_done, verdict_line}
use Rattle.alter_cli.proofs.FinishLemmas.{last_told, unprinted_end}
use Rattle.alter_cli.proofs.Grown.{verdict_lines-one, verdict_lines-push}
use Rattle.alter_cli.proofs.Reached.{all_push}

-- the sink was given the lines of so many verdicts, each of them done or not
abbrev pub GaveSo : ℕ → Bool → List ℕ → List ℕ → Type 0
GaveSo count all_done given now =
    (verdicts : List Verdict) × (length verdicts ≡ count) × (all_done ≡ list_all is_done verdicts) × (now ≡ given ++ verdict_lines 1 verdicts)

-- before the first line
pub gave_none : (had : Option (List ℕ)) → WhereSinkTells had had (GaveSo 0 true)
gave_none None = tt
gave_none (Some w) = ([], refl, refl, sym (append-nil w))

-- the number of the next line
numbered : (count number many : ℕ) → number ≡ count + 1 → many ≡ count → number ≡ 1 + many
numbered count number many at is = omega arith

-- one line more
pub gave_more : (given had now : Option (List ℕ)) (count number : ℕ) (verdict : Verdict) (all_done new_done : Bool) → number ≡ count + 1
    → (all_done && is_done verdict) ≡ new_done → now ≡ option_map (λ w. w ++ verdict_line number verdict) had → WhereSinkTells given had (GaveSo count all_done)
    → WhereSinkTells given now (GaveSo (count + 1) new_done)
gave_more None had now count number verdict all_done new_done at both printed is = tt
gave_more (Some g) None now count number verdict all_done new_done at both printed is = absurd is
gave_more (Some g) (Some h) now count number verdict all_done new_done at both printed is =
    let many = length-append is.0 (verdict ∷ []) in
    let line = verdict_line number verdict in
    subst (λ n. IsSomeAnd n (GaveSo (count + 1) new_done g)) (sym printed) (
      is.0 ++ verdict ∷ [],
      many ∙ ap (λ (n : ℕ). n + 1) is.1,
      sym both ∙ ap (λ b. b && is_done verdict) is.2 ∙ all_push is.0 verdict,
      ap (λ (w : List ℕ). w ++ line) is.3 ∙ append_assoc g (verdict_lines 1 is.0) line
          ∙ ap (λ (l : List ℕ). g ++ l)
          (ap (λ n. verdict_lines 1 is.0 ++ verdict_line n verdict) (numbered count number (length is.0) at is.1) ∙ sym (verdict_lines-push 1 is.0 verdict)),
    )

-- all lines
pub gave_all : (Sunk : Type 0) (given now : Option (List ℕ)) (count : ℕ) (all_done : Bool) → WhereSinkTells given now (GaveSo count all_done)
    → WhereSinkTells given now (λ g n. GaveLines Sunk g n (Ok all_done))
gave_all Sunk None now count all_done is = tt
gave_all Sunk (Some g) None count all_done is = absurd is
gave_all Sunk (Some g) (Some n) count all_done is = (is.0, is.2, is.3)

-- nothing more was given
same_lines : (given had now : Option (List ℕ)) (count : ℕ) (all_done : Bool) → now ≡ had → WhereSinkTells given had (GaveSo count all_done)
    → WhereSinkTells given now (λ g n. (verdicts : List Verdict) × (n ≡ g ++ verdict_lines 1 verdicts))
same_lines None had now count all_done same is = tt
same_lines (Some g) None now count all_done same is = absurd is
same_lines (Some g) (Some h) now count all_done same is =
    subst (λ n. IsSomeAnd n (λ n. (verdicts : List Verdict) × (n ≡ g ++ verdict_lines 1 verdicts))) (sym same) (is.0, is.3)

-- the run of the commands stopped before the next line, for want of memory or by a failure of the disk
pub gave_some : (Sunk : Type 0) (given had now : Option (List ℕ)) (count : ℕ) (all_done : Bool) (stop : Stop) → now ≡ had → WhereSinkTells given had (GaveSo count all_done)
    → ((g n : List ℕ) (verdicts : List Verdict) → n ≡ g ++ verdict_lines 1 verdicts → GaveLines Sunk g n (Err stop))
    → WhereSinkTells given now (λ g n. GaveLines Sunk g n (Err stop))
gave_some Sunk None had now count all_done stop same is gives = tt
gave_some Sunk (Some g) had now count all_done stop same is gives = at now (same_lines (Some g) had now count all_done same is)
  where
    at : (now : Option (List ℕ)) → IsSomeAnd now (λ n. (verdicts : List Verdict) × (n ≡ g ++ verdict_lines 1 verdicts)) → IsSomeAnd now (λ n. GaveLines Sunk g n (Err stop))
    at None lines = absurd lines
    at (Some n) lines = gives g n lines.0 lines.1

-- a front of the next line was given
pub gave_front : (Sunk : Type 0) (given had now : Option (List ℕ)) (count number : ℕ) (all_done : Bool) (verdict : Verdict) → Sunk → number ≡ count + 1
    → IfTold had (λ w. WroteFront w (verdict_line number verdict) now) → WhereSinkTells given had (GaveSo count all_done)
    → WhereSinkTells given now (λ g n. GaveLines Sunk g n (Err Unprinted))
gave_front Sunk None had now count number all_done verdict sunk at front is = tt
gave_front Sunk (Some g) None now count number all_done verdict sunk at front is = absurd is
gave_front Sunk (Some g) (Some h) now count number all_done verdict sunk at front is =
    subst (λ n. IsSomeAnd n (λ n. GaveLines Sunk g n (Err Unprinted))) (sym front.written) (
      sunk,
      (
        is.0,
        verdict,
        record {
          front = front.front;
          rest = front.rest;
          written = ap (λ (w : List ℕ). Some (w ++ front.front)) is.3;
          whole = subst (λ n. verdict_line n verdict ≡ front.front ++ front.rest) (numbered count number (length is.0) at is.1) front.whole;
        },
      ),
    )

-- a call that stopped was not run to its end
not_run : (stop : Stop) → IsRunStatus (stop_status stop) → ⊥
not_run Misused (inl is) = cc
not_run Misused (inr is) = cc
not_run stop (inl is) = cc
not_run stop (inr is) = cc

-- a call with the status of a run ran its commands
run_ran : (all_done : Bool) → IsUnrunStatus (run_status all_done) → ⊥
run_ran true (inl is) = cc
run_ran true (inr (inl is)) = cc
run_ran true (inr (inr is)) = cc
run_ran false (inl is) = cc
run_ran false (inr (inl is)) = cc
run_ran false (inr (inr is)) = cc

-- a fault may come behind commands that were run
fault_ran : IsUnrunStatus statuses.Fault → ⊥
fault_ran (inl is) = cc
fault_ran (inr (inl is)) = cc
fault_ran (inr (inr is)) = cc

-- and so may want of memory
memory_ran : IsUnrunStatus statuses.Memory → ⊥
memory_ran (inl is) = cc
memory_ran (inr (inl is)) = cc
memory_ran (inr (inr is)) = cc

-- a call that ran its commands has given their lines
pub printed_ok : (rose : Rises) (Part : Type 0) (given now : Option (List ℕ)) (all_done : Bool)
    → WhereSinkTells given now (λ g n. GaveLines Part g n (Ok all_done)) → WhereSinkTells given now (λ g n. Printed rose g n (run_status all_done))
printed_ok rose Part None now all_done is = tt
printed_ok rose Part (Some g) None all_done is = absurd is
printed_ok rose Part (Some g) (Some n) all_done is = record {
  planned = run_status all_done;
  verdicts = is.0;
  last = [];
  run = λ r. ap run_status is.1;
  none = λ u. absurd (run_ran all_done u);
  line = none rose all_done;
  told = inl (refl, is.2 ∙ sym (append-nil (g ++ verdict_lines 1 is.0)));
}
  where
    none : (rose : Rises) (b : Bool) → IsLastLine rose (run_status b) []
    none rose true = refl
    none rose false = refl

-- a call that names no file has given its line
pub printed_misused : (rose : Rises) (given now : Option (List ℕ)) (status : Status) → IfTold given (λ w. IsSomeAnd now (IsLast rose.sink Misused status w))
    → WhereSinkTells given now (λ g n. Printed rose g n status)
printed_misused rose None now status is = tt
printed_misused rose (Some g) None status is = absurd is
printed_misused rose (Some g) (Some n) status is = record {
  planned = statuses.Usage;
  verdicts = [];
  last = stop_line Misused;
  run = λ r. absurd (not_run Misused r);
  none = λ u. refl;
  line = refl;
  told = last_told rose rose.sink Misused status [] g g n (λ x. x) (sym (append-nil g)) is;
}

-- the lines of some verdicts were given, and then the last line of a stop
line_printed : (rose : Rises) (Part : Type 0) (stop : Stop) (status : Status) (verdicts : List Verdict) (g m n : List ℕ) → (Part → rose.sink)
    → IsLastLine rose (stop_status stop) (stop_line stop) → m ≡ g ++ verdict_lines 1 verdicts → (IsUnrunStatus (stop_status stop) → verdicts ≡ [])
    → IsLast Part stop status m n → Printed rose g n status
line_printed rose Part stop status verdicts g m n later line same none last = record {
  planned = stop_status stop;
  verdicts = verdicts;
  last = stop_line stop;
  run = λ r. absurd (not_run stop r);
  none = none;
  line = line;
  told = last_told rose Part stop status verdicts g m n later same last;
}

module _ {Image Command : Type 0} (rules : Rules Image Command) where
  -- there was no script, and nothing was given
  pub gave_no_script : (Sunk Faulted : Type 0) (text left : Option (List ℕ)) (had : Option (List ℕ)) (stop : Stop) → NoScript rules Faulted text left stop
      → WhereSinkTells had had (λ g n. GaveLines Sunk g n (Err stop))
  gave_no_script Sunk Faulted text left None stop why = tt
  gave_no_script Sunk Faulted text left (Some w) TooLong why = refl
  gave_no_script Sunk Faulted text left (Some w) Unspelled why = refl
  gave_no_script Sunk Faulted text left (Some w) Unread why = ([], sym (append-nil w))
  gave_no_script Sunk Faulted text left (Some w) Memory why = ([], sym (append-nil w))
  gave_no_script Sunk Faulted text left (Some w) stop why = absurd why

  -- the files were not opened, and nothing was given
  pub gave_no_session : (Sunk Read Write : Type 0) (old new : Left) (had : Option (List ℕ)) (stop : Stop) → NoSession rules Read Write old new stop
      → WhereSinkTells had had (λ g n. GaveLines Sunk g n (Err stop))
  gave_no_session Sunk Read Write old new None stop why = tt
  gave_no_session Sunk Read Write old new (Some w) (Unserved code) why = refl
  gave_no_session Sunk Read Write old new (Some w) Unreadable why = ([], sym (append-nil w))
  gave_no_session Sunk Read Write old new (Some w) Unwritten why = ([], sym (append-nil w))
  gave_no_session Sunk Read Write old new (Some w) Memory why = ([], sym (append-nil w))
  gave_no_session Sunk Read Write old new (Some w) stop why = absurd why

  -- the line of a stop goes with its status and with the counts that rose
  line_of : (rose : Rises) (First : Type 0) (text : Option (List ℕ)) (files : Option Files) (stop : Stop) → (First → rose.sink)
      → IsCaused rules (record rose { sink = First }) text files stop → IsLastLine rose (stop_status stop) (stop_line stop)
  line_of rose First text files TooLong first why = inl refl
  line_of rose First text files Unspelled first why = inr refl
  line_of rose First text files Unread first why = inl (inl why, refl)
  line_of rose First text files (Unserved code) first why = (code, refl)
  line_of rose First text files Unreadable first why = inl (inr why.0, refl)
  line_of rose First text files Unwritten first why = inr (inl (why.0, refl))
  line_of rose First text files Unprinted first why = inr (inr (first why.0, refl))
  line_of rose First text files Memory first why = refl
  line_of rose First text files Misused first why = absurd why

  -- a call that stopped has given the lines of its verdicts and its last line, where the sink tells
  stop_printed : (rose : Rises) (First Part : Type 0) (text : Option (List ℕ)) (files : Option Files) (stop : Stop) (status : Status) (g m n : List ℕ)
      → (First → rose.sink) → (Part → rose.sink) → IsCaused rules (record rose { sink = First }) text files stop → GaveLines First g m (Err stop)
      → IsLast Part stop status m n → Printed rose g n status
  stop_printed rose First Part text files Unprinted status g m n first later why is last =
      let (verdicts, verdict, front) = is.1 in
      let ended = unprinted_end Part status m n last in
      record {
        planned = statuses.Fault;
        verdicts = verdicts ++ verdict ∷ [];
        last = [];
        run = λ r. absurd (not_run Unprinted r);
        none = λ u. absurd (fault_ran u);
        line = inr (inr (first is.0, refl));
        told = inr (
          first is.0,
          ended.0,
          (
            verdicts,
            verdict ∷ [],
            front.front,
            front.rest,
            refl,
            omega arith,
            inr refl,
            ended.1 ∙ same_Some m (g ++ verdict_lines 1 verdicts ++ front.front) front.written,
            append-nil (verdict_lines (1 + length verdicts) (verdict ∷ [])) ∙ verdict_lines-one (1 + length verdicts) verdict ∙ front.whole,
          ),
        );
      }
  stop_printed rose First Part text files TooLong status g m n first later why is last =
      line_printed rose Part TooLong status [] g m n later (inl refl) (is ∙ sym (append-nil g)) (λ u. refl) last
  stop_printed rose First Part text files Unspelled status g m n first later why is last =
      line_printed rose Part Unspelled status [] g m n later (inr refl) (is ∙ sym (append-nil g)) (λ u. refl) last
  stop_printed rose First Part text files (Unserved code) status g m n first later why is last =
      line_printed rose Part (Unserved code) status [] g m n later (code, refl) (is ∙ sym (append-nil g)) (λ u. refl) last
  stop_printed rose First Part text files Misused status g m n first later why is last = absurd why
  stop_printed rose First Part text files Memory status g m n first later why is last =
      line_printed rose Part Memory status is.0 g m n later refl is.1 (λ u. absurd (memory_ran u)) last
  stop_printed rose First Part text files stop status g m n first later why is last =
      line_printed rose Part stop status is.0 g m n later (line_of rose First text files stop first why) is.1 (λ u. absurd (fault_ran u)) last

  -- the same for what is told
  pub printed_stop : (rose : Rises) (First Part : Type 0) (text : Option (List ℕ)) (files : Option Files) (stop : Stop) (status : Status)
      (given mid now : Option (List ℕ)) → (First → rose.sink) → (Part → rose.sink) → IsCaused rules (record rose { sink = First }) text files stop
      → WhereSinkTells given mid (λ g m. GaveLines First g m (Err stop)) → IfTold mid (λ m. IsSomeAnd now (IsLast Part stop status m))
      → WhereSinkTells given now (λ g n. Printed rose g n status)
  printed_stop rose First Part text files stop status None mid now first later why is last = tt
  printed_stop rose First Part text files stop status (Some g) None now first later why is last = absurd is
  printed_stop rose First Part text files stop status (Some g) (Some m) None first later why is last = absurd last
  printed_stop rose First Part text files stop status (Some g) (Some m) (Some n) first later why is last =
      stop_printed rose First Part text files stop status g m n first later why is last
