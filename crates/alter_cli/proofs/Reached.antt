-- The loop over the commands, by what each command makes of the image that it comes to.
use Rattle.std.proofs.Common.{◌≡◌, ◌<◌, ℕ, ◌+◌, Bool, true, false, ◌&&◌, ◌||◌, List, [], ◌∷◌, ◌++◌, length, take, Option, Some, None, option_map, get_or, refl, sym, ◌∙◌, ap, subst, arith, inl, inr, append-nil, append_assoc}
use Rattle.std.proofs.Math.Seq.{take-length}
use Rattle.std.proofs.lemmas.List.{length-take-le}
use Rattle.std.proofs.lemmas.List.Folds.{list_all-append, list_any-append}
use Rattle.std.proofs.lemmas.Option.{slice_get_read}
use Rattle.std.specs.List.{list_all, list_any, slice_get}
use Rattle.alter_disk.specs.Files.{Files}
use Rattle.alter_disk.specs.Changes.{IfTold}
use Rattle.plain_schema.specs.declared.verdict.Verdict.{Verdict}
use Rattle.plain_schema.specs.declared.verdict.Verdict.TheVariants.{Done}
use Rattle.alter_cli.specs.Given.{WroteFront}
use Rattle.alter_cli.specs.Left.{Each, EachCrash, Left}
use Rattle.alter_cli.specs.Lines.{verdict_lines}
use Rattle.alter_cli.specs.Outcome.{IfNoneDone}
use Rattle.alter_cli.specs.Rules.{Rules}
use Rattle.alter_cli.specs.Run.{Run}
use Rattle.alter_cli.specs.Stops.{HasLines, IsNear, IsOpenTo, IsReachedBy, Makes, OpensAround, RanEach, RanSome, TornAt, UnprintedAt}
use Rattle.plain_schema.specs.Verdicts.{is_done, verdict_line}
use Rattle.common_laws.proofs.Lists.{take_one}
use Rattle.alter_cli.proofs.Grown.{length-run, run-grows, verdict_lines-push}

-- every verdict and one more is done
pub all_push : (vs : List Verdict) (v : Verdict) → (list_all is_done vs && is_done v) ≡ list_all is_done (vs ++ v ∷ [])
all_push vs v = ap (λ b. list_all is_done vs && b) (and_true (is_done v)) ∙ sym (list_all-append is_done vs (v ∷ []))
  where
    and_true : (b : Bool) → b ≡ (b && true)
    and_true true = refl
    and_true false = refl

-- neither of two holds
or_none : (a b : Bool) → (a || b) ≡ false → (a ≡ false) × (b ≡ false)
or_none true b none = absurd cc
or_none false b none = (refl, none)

-- what holds where none of the verdicts is done, with one verdict more
quiet_push : (Quiet Now : Type 0) (vs : List Verdict) (v : Verdict) → IfNoneDone vs Quiet → (Quiet → is_done v ≡ false → Now) → IfNoneDone (vs ++ v ∷ []) Now
quiet_push Quiet Now vs v quiet more = λ none.
    let both = or_none (list_any is_done vs) (list_any is_done (v ∷ [])) (sym (list_any-append is_done vs (v ∷ [])) ∙ none) in
    more (quiet both.0) (or_none (is_done v) false both.1).0

-- a command at a place of the list, with its number
pub record IsNext {Command : Type 0} (commands : List Command) (place number : ℕ) (command : Command) : Type 0 where
  pub within : place < length commands
  pub is : command ≡ get_or commands place command
  pub at : number ≡ place + 1

-- the command that a loop comes to
pub is_next : {Command : Type 0} (commands : List Command) (place number : ℕ) (command : Command) → number ≡ place → place < length commands
    → command ≡ get_or commands place command → IsNext commands place (number + 1) command
is_next commands place number command same within is = record { within = within; is = is; at = ap (λ n. n + 1) same }

-- the list up to a place and the command at it
up_to : {Command : Type 0} (commands : List Command) (place number : ℕ) (command : Command) → IsNext commands place number command
    → take (place + 1) commands ≡ take place commands ++ command ∷ []
up_to commands place number command next = sym (take_one commands place command next.within next.is)

-- a line more behind those of the verdicts
lines_more : (given had now : Option (List ℕ)) (verdicts : List Verdict) (verdict : Verdict) (number : ℕ) → number ≡ 1 + length verdicts
    → now ≡ option_map (λ w. w ++ verdict_line number verdict) had → HasLines given had verdicts → HasLines given now (verdicts ++ verdict ∷ [])
lines_more None had now verdicts verdict number count printed is = tt
lines_more (Some given) had now verdicts verdict number count printed is =
    let line : verdict_lines 1 verdicts ++ verdict_line number verdict ≡ verdict_lines 1 (verdicts ++ verdict ∷ []) =
    ap (λ n. verdict_lines 1 verdicts ++ verdict_line n verdict) count ∙ sym (verdict_lines-push 1 verdicts verdict) in
    printed
    ∙ ap (option_map (λ (w : List ℕ). w ++ verdict_line number verdict)) is
    ∙ ap Some (append_assoc given (verdict_lines 1 verdicts) (verdict_line number verdict))
    ∙ ap (λ (l : List ℕ). Some (given ++ l)) line

-- a front of a line more behind those of the verdicts
front_more : (given had now : Option (List ℕ)) (verdicts : List Verdict) (verdict : Verdict) (number : ℕ) → number ≡ 1 + length verdicts
    → IfTold had (λ w. WroteFront w (verdict_line number verdict) now) → HasLines given had verdicts
    → IfTold given (λ w. WroteFront (w ++ verdict_lines 1 verdicts) (verdict_line (1 + length verdicts) verdict) now)
front_more None had now verdicts verdict number count front is = tt
front_more (Some given) had now verdicts verdict number count front is =
    subst (λ n. WroteFront (given ++ verdict_lines 1 verdicts) (verdict_line n verdict) now) count
    (subst (λ h. IfTold h (λ w. WroteFront w (verdict_line number verdict) now)) is front)

-- the sink was given nothing more
lines_same : (given had now : Option (List ℕ)) (verdicts : List Verdict) → now ≡ had → HasLines given had verdicts → HasLines given now verdicts
lines_same None had now verdicts same is = tt
lines_same (Some given) had now verdicts same is = same ∙ is

module _ {Image Command : Type 0} (rules : Rules Image Command) where
  -- these commands were run on an image, and the fact holds of the image behind them; where none of them is done, so does the other
  pub record Reached (Quiet : Type 0) (IsOf : Image → Type 0) (image : Image) (commands : List Command) (given now : Option (List ℕ)) (all : Bool) : Type 0 where
    pub verdicts : List Verdict
    pub last : Image
    pub run : Run rules image commands verdicts last
    pub of : IsOf last
    pub quiet : IfNoneDone verdicts Quiet
    pub lines : HasLines given now verdicts
    pub told : all ≡ list_all is_done verdicts

  -- before the first command
  pub reached_none : (Quiet : Type 0) (IsOf : Image → Type 0) (given : Option (List ℕ)) (image : Image) → Quiet → IsOf image → Reached Quiet IsOf image [] given given true
  reached_none Quiet IsOf given image quiet of = record {
    verdicts = [];
    last = image;
    run = refl;
    of = of;
    quiet = λ none. quiet;
    lines = none given;
    told = refl;
  }
    where
      none : (given : Option (List ℕ)) → HasLines given given []
      none None = tt
      none (Some w) = ap Some (sym (append-nil w))

  -- the number of the next command is that of the verdicts and one
  numbered : (image : Image) (commands : List Command) (place number : ℕ) (command : Command) (verdicts : List Verdict) (last : Image)
      → IsNext commands place number command → Run rules image (take place commands) verdicts last → number ≡ 1 + length verdicts
  numbered image commands place number command verdicts last next run =
      let many = length-run rules image (take place commands) verdicts last run in
      let front = length-take-le place commands (omega (arith, next.within)) in
      omega (arith, next.at)

  -- the run with one command more
  run_more : (image : Image) (commands : List Command) (place number : ℕ) (command : Command) (verdicts : List Verdict) (verdict : Verdict) (last new : Image)
      → IsNext commands place number command → Run rules image (take place commands) verdicts last → rules.Step last command verdict new
      → Run rules image (take (place + 1) commands) (verdicts ++ verdict ∷ []) new
  run_more image commands place number command verdicts verdict last new next run step =
      subst (λ cs. Run rules image cs (verdicts ++ verdict ∷ []) new) (sym (up_to commands place number command next))
      (run-grows rules image (take place commands) verdicts last command verdict new run step)

  module _ (Quiet : Type 0) (IsOf : Image → Type 0) (image : Image) (commands : List Command) (given : Option (List ℕ)) (place number : ℕ) (command : Command)
      (had now : Option (List ℕ)) (all_done : Bool) (next : IsNext commands place number command)
      (reached : Reached Quiet IsOf image (take place commands) given had all_done) where
    -- one command more
    pub reached_more : (Now : Type 0) (IsNew : Image → Type 0) (verdict : Verdict) → (Quiet → is_done verdict ≡ false → Now) → Makes rules IsOf command verdict IsNew
        → now ≡ option_map (λ w. w ++ verdict_line number verdict) had
        → Reached Now IsNew image (take (place + 1) commands) given now (all_done && is_done verdict)
    reached_more Now IsNew verdict more makes printed =
        let verdicts = reached.verdicts in
        let step = makes reached.last reached.of in
        record {
          verdicts = verdicts ++ verdict ∷ [];
          last = step.0;
          run = run_more image commands place number command verdicts verdict reached.last step.0 next reached.run step.1;
          of = step.2;
          quiet = quiet_push Quiet Now verdicts verdict reached.quiet more;
          lines = lines_more given had now verdicts verdict number
              (numbered image commands place number command verdicts reached.last next reached.run) printed reached.lines;
          told = ap (λ b. b && is_done verdict) reached.told ∙ all_push verdicts verdict;
        }

    -- the next command changed nothing
    pub reached_still : (Now : Type 0) (after : Left) → (Quiet → Now) → IsOpenTo rules IsOf after → now ≡ had → RanSome rules Now image commands given after now
    reached_still Now after more opens same = (
      place,
      reached.verdicts,
      record {
        last = reached.last;
        run = reached.run;
        files = opens reached.last reached.of;
        quiet = λ none. more (reached.quiet none);
        lines = lines_same given had now reached.verdicts same reached.lines;
      },
    )

    -- the last line of the commands that were run was not printed
    pub unprinted : (Now : Type 0) (after : Left) (verdict : Verdict) → (Quiet → is_done verdict ≡ false → Now) → Makes rules IsOf command verdict (λ new. Each after (rules.OpensTo new))
        → IfTold had (λ w. WroteFront w (verdict_line number verdict) now) → UnprintedAt rules Now image commands given after now
    unprinted Now after verdict more makes front =
        let verdicts = reached.verdicts in
        let step = makes reached.last reached.of in
        record {
          count = place + 1;
          verdicts = verdicts;
          verdict = verdict;
          last = step.0;
          run = run_more image commands place number command verdicts verdict reached.last step.0 next reached.run step.1;
          files = step.2;
          quiet = quiet_push Quiet Now verdicts verdict reached.quiet more;
          front = front_more given had now verdicts verdict number
              (numbered image commands place number command verdicts reached.last next reached.run) front reached.lines;
        }

    -- the write of the next command was cut short
    pub torn_at : (after : Left) → ((last : Image) → IsOf last → EachCrash after (OpensAround rules last command)) → now ≡ had
        → ((last : Image) → IsOf last → (new : Image) × rules.Step last command Done new) → TornAt rules image commands given after now
    torn_at after opens same done = record {
      count = place;
      verdicts = reached.verdicts;
      last = reached.last;
      run = reached.run;
      files = λ c left. near c (opens reached.last reached.of c left);
      next = (command, at_place, done reached.last reached.of);
      lines = lines_same given had now reached.verdicts same reached.lines;
    }
      where
        at_place : slice_get commands place ≡ Some command
        at_place = slice_get_read commands (length commands) place command refl next.within next.is

        near : (c : Files) → OpensAround rules reached.last command c → IsNear rules commands place reached.last c
        near c (inl is) = inl is
        near c (inr is) = inr (command, at_place, is)

    -- files that the next command may leave open to an image of the run
    pub may_reach : (c : Files) → OpensAround rules reached.last command c → IsReachedBy rules image commands c
    may_reach c (inl is) = (place, reached.verdicts, reached.last, reached.run, is)
    may_reach c (inr is) = (
      place + 1,
      reached.verdicts ++ Done ∷ [],
      is.0,
      run_more image commands place number command reached.verdicts Done reached.last is.0 next reached.run is.1,
      is.2,
    )

  -- all commands
  pub reached_all : (Quiet Now : Type 0) (IsOf : Image → Type 0) (image : Image) (commands : List Command) (given now : Option (List ℕ)) (after : Left) (place : ℕ)
      (all_done : Bool) → place ≡ length commands → (Quiet → Now) → IsOpenTo rules IsOf after → Reached Quiet IsOf image (take place commands) given now all_done
      → RanEach rules Now image commands given after now all_done
  reached_all Quiet Now IsOf image commands given now after place all_done end more opens reached = (
    reached.verdicts,
    record {
      last = reached.last;
      run = subst (λ cs. Run rules image cs reached.verdicts reached.last) (ap (λ n. take n commands) end ∙ take-length commands) reached.run;
      files = opens reached.last reached.of;
      quiet = λ none. more (reached.quiet none);
      lines = reached.lines;
    },
    reached.told,
  )
