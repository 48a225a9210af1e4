-- The last line of a call makes its outcome whole.
use Rattle.std.proofs.Common.{◌≡◌, ◌≤◌, ℕ, ◌+◌, Bool, inl, inr, Option, Some, None, option_map, Ok, Err, IfNone, IfSome, IsSomeAnd, List, [], ◌∷◌, ◌++◌, length, refl, sym, ◌∙◌, ap, subst, arith}
use Rattle.std.proofs.lemmas.List.{append-nil}
use Rattle.std.proofs.lemmas.Option.{same_Some}
use Rattle.alter_disk.specs.Files.{Files}
use Rattle.alter_disk.specs.Changes.{IfTold}
use Rattle.alter_disk.specs.Faults.{Rose}
use Rattle.alter_disk.specs.Outside.{Rises}
use Rattle.alter_cli.specs.declared.stop.Stop.{Stop}
use Rattle.alter_cli.specs.declared.stop.Stop.TheVariants.{Misused, Unprinted}
use Rattle.alter_cli.specs.declared.status.Status.{Status}
use Rattle.alter_cli.specs.declared.status.Status.TheVariants as statuses
use Rattle.plain_schema.specs.declared.verdict.Verdict.{Verdict}
use Rattle.alter_cli.specs.Ending.{WhereTold}
use Rattle.alter_cli.specs.Given.{WroteFront}
use Rattle.alter_cli.specs.Left.{Left}
use Rattle.alter_cli.specs.Lines.{verdict_lines}
use Rattle.alter_cli.specs.Outcome.{Outcome, Performed, Told, Misused as MisusedCall, run_status}
use Rattle.alter_cli.specs.Rules.{Rules}
use Rattle.alter_cli.specs.Stops.{RanSo, IsLast, stop_status, stop_line}
use Rattle.alter_cli.proofs.Grown.{verdict_lines-one}

-- a count that rose has risen later too
pub rose_later : (a b c : ℕ) → Rose a b → b ≤ c → Rose a c
rose_later a b c rose later = omega arith

-- a count that rose later has risen
pub rose_before : (a b c : ℕ) → a ≤ b → Rose b c → Rose a c
rose_before a b c later rose = omega arith

-- nothing was there in front of nothing
nothing : (a b : List ℕ) → [] ≡ a ++ b → a ≡ []
nothing [] b e = refl
nothing (x ∷ a) b e = absurd cc

-- the line of a stop is told behind those of the verdicts
pub last_told : (rose : Rises) (Part : Type 0) (stop : Stop) (status : Status) (verdicts : List Verdict) (given mid now : List ℕ) → (Part → rose.sink)
    → mid ≡ given ++ verdict_lines 1 verdicts → IsLast Part stop status mid now
    → Told rose (stop_status stop) verdicts (stop_line stop) given now status
last_told rose Part stop status verdicts given mid now later same (inl is) = inl (is.0, is.1 ∙ ap (λ (g : List ℕ). g ++ stop_line stop) same)
last_told rose Part stop status verdicts given mid now later same (inr is) =
    inr (
      later is.0,
      is.1,
      (
        verdicts,
        [],
        is.2.front,
        is.2.rest,
        sym (append-nil verdicts),
        omega arith,
        inl refl,
        same_Some now (mid ++ is.2.front) is.2.written ∙ ap (λ (g : List ℕ). g ++ is.2.front) same,
        is.2.whole,
      ),
    )

-- what is behind the front of a sink that failed
pub unprinted_end : (Part : Type 0) (status : Status) (mid now : List ℕ) → IsLast Part Unprinted status mid now → (status ≡ statuses.Fault) × (now ≡ mid)
unprinted_end Part status mid now (inl is) = (is.0, is.1 ∙ append-nil mid)
unprinted_end Part status mid now (inr is) =
    (is.1, same_Some now (mid ++ is.2.front) is.2.written ∙ ap (λ (f : List ℕ). mid ++ f) (nothing is.2.front is.2.rest is.2.whole) ∙ append-nil mid)

-- the line was written whole
pub last_ok : (Sunk : Type 0) (stop : Stop) (had now : Option (List ℕ)) → now ≡ option_map (λ w. w ++ stop_line stop) had
    → IfTold had (λ given. IsSomeAnd now (IsLast Sunk stop (stop_status stop) given))
last_ok Sunk stop None now is = tt
last_ok Sunk stop (Some w) now is = subst (λ n. IsSomeAnd n (IsLast Sunk stop (stop_status stop) w)) (sym is) (inl (refl, refl))

-- a front of the line was written
pub last_err : (Sunk : Type 0) (stop : Stop) (had now : Option (List ℕ)) → Sunk → IfTold had (λ w. WroteFront w (stop_line stop) now)
    → IfTold had (λ given. IsSomeAnd now (IsLast Sunk stop statuses.Fault given))
last_err Sunk stop None now sunk is = tt
last_err Sunk stop (Some w) now sunk is =
    subst (λ n. IsSomeAnd n (IsLast Sunk stop statuses.Fault w)) (sym is.written)
    (inr (sunk, refl, record { front = is.front; rest = is.rest; written = refl; whole = is.whole }))

-- a call that names no file is told so
pub misused_told : (rose : Rises) (status : Status) (given now : Option (List ℕ)) → IfTold given (λ w. IsSomeAnd now (IsLast rose.sink Misused status w))
    → IfTold given (λ w. IsSomeAnd now (λ n. MisusedCall rose w n status))
misused_told rose status None now is = tt
misused_told rose status (Some w) None is = absurd is
misused_told rose status (Some w) (Some n) is = last_told rose rose.sink Misused status [] w w n (λ x. x) (sym (append-nil w)) is

-- a fact holds where there is no value
pub if_none : {A : Type 0} (option : Option A) (P : Type 0) → P → IfNone option P
if_none None P is = is
if_none (Some x) P is = tt

-- a fact that holds holds of a value too
pub if_some : {A : Type 0} (option : Option A) (P : Type 0) → P → IfSome option (λ _. P)
if_some None P is = tt
if_some (Some x) P is = is

module _ {Image Command : Type 0} (rules : Rules Image Command) where
  -- a failure of the sink in a part of the call is one in the call
  pub outcome_later : (rose : Rises) (Part : Type 0) (text : List ℕ) (before : Files) (could : Files → Type 0) (status : Status) (verdicts : List Verdict) (last : List ℕ)
      (after : Left) (called : Bool) (left : List ℕ) → (Part → rose.sink) → Outcome rules (record rose { sink = Part }) text before could status verdicts last after called left
      → Outcome rules rose text before could status verdicts last after called left
  outcome_later rose Part text before could statuses.Fault verdicts last after called left later (inl is) = inl is
  outcome_later rose Part text before could statuses.Fault verdicts last after called left later (inr (inl is)) = inr (inl is)
  outcome_later rose Part text before could statuses.Fault verdicts last after called left later (inr (inr (inl is))) = inr (inr (inl is))
  outcome_later rose Part text before could statuses.Fault verdicts last after called left later (inr (inr (inr is))) =
      inr (inr (inr (later is.0, is.1, is.2)))
  outcome_later rose Part text before could status verdicts last after called left later is = is

  -- a call that ran its commands is whole
  pub performed_ok : (rose : Rises) (First : Type 0) (called all_done : Bool) (text left : List ℕ) (before : Files) (could : Files → Type 0) (after : Left) (given now : List ℕ)
      → (First → rose.sink) → RanSo rules (record rose { sink = First }) could after called (Ok all_done) text left before given now
      → Performed rules rose text before could after called left given now (run_status all_done)
  performed_ok rose First called all_done text left before could after given now first is = record {
    planned = run_status all_done;
    verdicts = is.0;
    last = [];
    outcome = outcome_later rose First text before could (run_status all_done) is.0 [] after called left first is.1;
    told = inl (refl, is.2 ∙ sym (append-nil (given ++ verdict_lines 1 is.0)));
  }

  -- a call that stopped behind its verdicts is whole
  stop_whole : (rose : Rises) (First Part : Type 0) (called : Bool) (stop : Stop) (status : Status) (verdicts : List Verdict) (text left : List ℕ)
      (before : Files) (could : Files → Type 0) (after : Left) (given mid now : List ℕ) → (First → rose.sink) → (Part → rose.sink)
      → Outcome rules (record rose { sink = First }) text before could (stop_status stop) verdicts (stop_line stop) after called left
      → mid ≡ given ++ verdict_lines 1 verdicts → IsLast Part stop status mid now
      → Performed rules rose text before could after called left given now status
  stop_whole rose First Part called stop status verdicts text left before could after given mid now first later is same last = record {
    planned = stop_status stop;
    verdicts = verdicts;
    last = stop_line stop;
    outcome = outcome_later rose First text before could (stop_status stop) verdicts (stop_line stop) after called left first is;
    told = last_told rose Part stop status verdicts given mid now later same last;
  }

  -- a call that stopped is whole
  pub performed_stop : (rose : Rises) (First Part : Type 0) (called : Bool) (stop : Stop) (status : Status) (text left : List ℕ) (before : Files) (could : Files → Type 0) (after : Left)
      (given mid now : List ℕ) → (First → rose.sink) → (Part → rose.sink)
      → RanSo rules (record rose { sink = First }) could after called (Err stop) text left before given mid → IsLast Part stop status mid now
      → Performed rules rose text before could after called left given now status
  performed_stop rose First Part called Unprinted status text left before could after given mid now first later is last =
      let (verdicts, verdict, outcome, front) = is.1 in
      let ended = unprinted_end Part status mid now last in
      record {
        planned = statuses.Fault;
        verdicts = verdicts ++ verdict ∷ [];
        last = [];
        outcome = outcome_later rose First text before could statuses.Fault (verdicts ++ verdict ∷ []) [] after called left first outcome;
        told = inr (
          first is.0,
          ended.0,
          (
            verdicts,
            verdict ∷ [],
            front.front,
            front.rest,
            refl,
            omega arith,
            inr refl,
            ended.1 ∙ same_Some mid (given ++ verdict_lines 1 verdicts ++ front.front) front.written,
            append-nil (verdict_lines (1 + length verdicts) (verdict ∷ [])) ∙ verdict_lines-one (1 + length verdicts) verdict ∙ front.whole,
          ),
        );
      }
  performed_stop rose First Part called stop status text left before could after given mid now first later is last =
      stop_whole rose First Part called stop status is.0 text left before could after given mid now first later is.1 is.2 last

  -- a call that ran its commands is whole where all three tell
  pub performed_told_ok : (rose : Rises) (First : Type 0) (called all_done : Bool) (text left : Option (List ℕ)) (before : Option Files) (could : Files → Type 0) (after : Left)
      (given now : Option (List ℕ)) → (First → rose.sink) → WhereTold text left before given now (RanSo rules (record rose { sink = First }) could after called (Ok all_done))
      → WhereTold text left before given now (λ text left before given now. Performed rules rose text before could after called left given now (run_status all_done))
  performed_told_ok rose First called all_done None left before could after given now first is = tt
  performed_told_ok rose First called all_done (Some t) left None could after given now first is = tt
  performed_told_ok rose First called all_done (Some t) left (Some f) could after None now first is = tt
  performed_told_ok rose First called all_done (Some t) None (Some f) could after (Some w) now first is = absurd is
  performed_told_ok rose First called all_done (Some t) (Some l) (Some f) could after (Some w) None first is = absurd is
  performed_told_ok rose First called all_done (Some t) (Some l) (Some f) could after (Some w) (Some n) first is =
      performed_ok rose First called all_done t l f could after w n first is

  -- a call that stopped is whole where all three tell
  pub performed_told_stop : (rose : Rises) (First Part : Type 0) (called : Bool) (stop : Stop) (status : Status) (text left : Option (List ℕ))
      (before : Option Files) (could : Files → Type 0) (after : Left) (given mid now : Option (List ℕ)) → (First → rose.sink) → (Part → rose.sink)
      → WhereTold text left before given mid (RanSo rules (record rose { sink = First }) could after called (Err stop))
      → IfTold mid (λ m. IsSomeAnd now (IsLast Part stop status m))
      → WhereTold text left before given now (λ text left before given now. Performed rules rose text before could after called left given now status)
  performed_told_stop rose First Part called stop status None left before could after given mid now first later is last = tt
  performed_told_stop rose First Part called stop status (Some t) left None could after given mid now first later is last = tt
  performed_told_stop rose First Part called stop status (Some t) left (Some f) could after None mid now first later is last = tt
  performed_told_stop rose First Part called stop status (Some t) None (Some f) could after (Some w) mid now first later is last = absurd is
  performed_told_stop rose First Part called stop status (Some t) (Some l) (Some f) could after (Some w) None now first later is last = absurd is
  performed_told_stop rose First Part called stop status (Some t) (Some l) (Some f) could after (Some w) (Some m) None first later is last = absurd last
  performed_told_stop rose First Part called stop status (Some t) (Some l) (Some f) could after (Some w) (Some m) (Some n) first later is last =
      performed_stop rose First Part called stop status t l f could after w m n first later is last
