-- The parts of a call make its outcome.
use Rattle.std.proofs.Common.{◌≡◌, ℕ, Bool, true, false, inl, inr, Option, Some, None, is_some, Result, Ok, Err, IfOk, IfErr, IsSomeAnd, List, [], ◌∷◌, ◌++◌, take, refl, sym, subst, append-nil}
use Rattle.std.specs.List.{list_all}
use Rattle.std.proofs.lemmas.Option.{same_Some}
use Rattle.alter_disk.specs.Files.{Files}
use Rattle.alter_disk.specs.Changes.{IfTold}
use Rattle.alter_disk.specs.Outside.{Rises}
use Rattle.alter_cli.specs.declared.stop.Stop.{Stop}
use Rattle.alter_cli.specs.declared.stop.Stop.TheVariants.{TooLong, Unspelled, Unread, Unserved, Unreadable, Unwritten, Unprinted, Memory}
use Rattle.plain_schema.specs.declared.verdict.Verdict.{Verdict}
use Rattle.alter_cli.specs.declared.status.Status.TheVariants as statuses
use Rattle.alter_cli.specs.Ending.{WhereTold}
use Rattle.alter_cli.specs.Left.{Each, EachCrash, Left}
use Rattle.alter_cli.specs.Lines.{verdict_lines}
use Rattle.alter_cli.specs.Outcome.{HasRun, IfNoneDone, IsBetween, IsLeftBehind, IsNextDone, IsServed, IsUntouched, Outcome, Ran, run_status}
use Rattle.alter_cli.specs.Rules.{Rules}
use Rattle.alter_cli.specs.Run.{Run}
use Rattle.alter_cli.specs.Stops.{IsDoneAt, IsNear, NoScript, NoSession, OpensOf, RanEach, RanSo, RanSome, StoppedAt, TornAt, UnprintedAt}
use Rattle.plain_schema.specs.Verdicts.{is_done}

-- nothing was printed
none_printed : (w : List ℕ) → w ≡ w ++ verdict_lines 1 []
none_printed w = sym (append-nil w)

module _ {Image Command : Type 0} (rules : Rules Image Command) where
  -- the disk was not called
  untouched : (f : Files) (old : Left) → old.reads ≡ Some f → IsUntouched f old.crash old
  untouched f old reads = record { read = reads; crash = λ c left. left }

  -- there was no script
  pub no_script : (rose : Rises) (text left : Option (List ℕ)) (old : Left) (given : Option (List ℕ)) (called : Bool) (stop : Stop)
      → called ≡ false → is_some left ≡ is_some text → NoScript rules rose.source text left stop
      → WhereTold text left old.reads given given (RanSo rules rose old.crash old called (Err stop))
  no_script rose text left old given called stop fresh tells why = at text left old.reads given stop refl tells why
    where
      at : (text left : Option (List ℕ)) (files : Option Files) (given : Option (List ℕ)) (stop : Stop) → old.reads ≡ files → is_some left ≡ is_some text
          → NoScript rules rose.source text left stop → WhereTold text left files given given (RanSo rules rose old.crash old called (Err stop))
      at None left files given stop reads tells why = tt
      at (Some t) left None given stop reads tells why = tt
      at (Some t) left (Some f) None stop reads tells why = tt
      at (Some t) None (Some f) (Some w) stop reads tells why = absurd cc
      at (Some t) (Some l) (Some f) (Some w) TooLong reads tells why =
          ([], (refl, untouched f old reads, fresh, inl (why.0, refl, same_Some _ _ why.1)), none_printed w)
      at (Some t) (Some l) (Some f) (Some w) Unspelled reads tells why =
          ([], (refl, untouched f old reads, fresh, inr (why.0, why.1, refl, same_Some _ _ why.2)), none_printed w)
      at (Some t) (Some l) (Some f) (Some w) Unread reads tells why =
          ([], inl (why, refl, untouched f old reads, refl, fresh), none_printed w)
      at (Some t) (Some l) (Some f) (Some w) Memory reads tells why = ([], (inl (refl, (λ c is. inl is), λ cold. reads), refl), none_printed w)
      at (Some t) (Some l) (Some f) (Some w) stop reads tells why = absurd why

  -- the commands that were read, and that all the script is read
  abbrev pub Commands_read : Option (List ℕ) → Option (List ℕ) → List Command → Type 0
  Commands_read text left commands = IfTold text (λ t. IsServed rules t commands × (left ≡ Some []))

  -- the files were not opened, where all three tell
  session_stop : (rose : Rises) (t : List ℕ) (f : Files) (w : List ℕ) (could : Files → Type 0) (new : Left) (called : Bool) (commands : List Command) (stop : Stop)
      → called ≡ true → IsServed rules t commands → NoSession rules rose.reading rose.writing (record { reads = Some f; crash = could }) new stop
      → RanSo rules rose could new called (Err stop) t [] f w w
  session_stop rose t f w could new called commands (Unserved code) was served why =
      ([], (refl, code, why.refused, refl, why.rests, was, refl, (commands, served), why.unserved), none_printed w)
  session_stop rose t f w could new called commands Unreadable was served why =
      ([], inr (inl (why.0, (commands, served), inl (refl, why.1.0, why.1.1), refl, was)), none_printed w)
  session_stop rose t f w could new called commands Unwritten was served why =
      ([], inr (inr (inl (why.0, (commands, served), inl (refl, why.1.0, why.1.1), refl, was))), none_printed w)
  session_stop rose t f w could new called commands Memory was served why = ([], (inl (refl, why.0, why.1), refl), none_printed w)
  session_stop rose t f w could new called commands stop was served why = absurd why

  -- the files were not opened
  pub no_session : (rose : Rises) (text left : Option (List ℕ)) (before : Option Files) (could : Files → Type 0) (new : Left) (given : Option (List ℕ)) (called : Bool)
      (commands : List Command) (stop : Stop) → called ≡ true → Commands_read text left commands
      → NoSession rules rose.reading rose.writing (record { reads = before; crash = could }) new stop
      → WhereTold text left before given given (RanSo rules rose could new called (Err stop))
  no_session rose None left before could new given called commands stop was served why = tt
  no_session rose (Some t) left None could new given called commands stop was served why = tt
  no_session rose (Some t) left (Some f) could new None called commands stop was served why = tt
  no_session rose (Some t) left (Some f) could new (Some w) called commands stop was served why =
      subst (λ l. WhereTold (Some t) l (Some f) (Some w) (Some w) (RanSo rules rose could new called (Err stop))) (sym served.1)
      (session_stop rose t f w could new called commands stop was served.0 why)

  -- the script and the image that the commands are run on, and that the disk was called
  record IsStart (t : List ℕ) (f : Files) (called : Bool) (commands : List Command) (image : Image) : Type 0 where
    was : called ≡ true
    served : IsServed rules t commands
    serves : rules.Serves f image

  -- the first so many commands were run
  ran_of : (t : List ℕ) (f : Files) (called : Bool) (commands : List Command) (image : Image) (count : ℕ) (verdicts : List Verdict) (last : Image) → IsStart t f called commands image
      → Run rules image (take count commands) verdicts last → Ran rules t f count verdicts last
  ran_of t f called commands image count verdicts last start run = record { commands = commands; served = start.served; image = image; serves = start.serves; run = run }

  -- where the disk was left alone, the files have every byte that a recovery leaves
  abbrev pub Kept : Type 0 → Left → Files → Type 0
  Kept Quiet after f = Quiet → Each after (λ c. c ≡ rules.recovered f)

  -- the files behind commands that were run
  left_behind : (Quiet : Type 0) (after : Left) (f : Files) (verdicts : List Verdict) (last : Image) → Kept Quiet after f → Each after (rules.OpensTo last)
      → IfNoneDone verdicts Quiet → IsLeftBehind rules f verdicts last after
  left_behind Quiet after f verdicts last kept opens quiet = record { opens = opens; kept = λ none. kept (quiet none) }

  -- all commands were run
  ran_each : (rose : Rises) (t : List ℕ) (f : Files) (w : List ℕ) (could : Files → Type 0) (after : Left) (called : Bool) (Quiet : Type 0) (commands : List Command) (image : Image)
      (now : Option (List ℕ)) (all_done : Bool) → IsStart t f called commands image → Kept Quiet after f → RanEach rules Quiet image commands (Some w) after now all_done
      → IsSomeAnd now (λ n. RanSo rules rose could after called (Ok all_done) t [] f w n)
  ran_each rose t f w could after called Quiet commands image now all_done start kept each =
      let (verdicts, ran, all) = each in
      subst (λ n. IsSomeAnd n (λ n. RanSo rules rose could after called (Ok all_done) t [] f w n)) (sym ran.lines)
      (verdicts, outcome all_done verdicts ran.last ran.run (left_behind Quiet after f verdicts ran.last kept ran.files ran.quiet) (sym all), refl)
    where
      outcome : (b : Bool) (verdicts : List Verdict) (last : Image) → Run rules image commands verdicts last → IsLeftBehind rules f verdicts last after
          → list_all is_done verdicts ≡ b → Outcome rules rose t f could (run_status b) verdicts [] after called []
      outcome true verdicts last run each all =
          (last, record { commands = commands; served = start.served; image = image; serves = start.serves; run = run }, each, all, refl, refl, start.was)
      outcome false verdicts last run each all =
          (last, record { commands = commands; served = start.served; image = image; serves = start.serves; run = run }, each, all, refl, refl, start.was)

  -- files that are near the image are between it and the next
  between : (t : List ℕ) (commands : List Command) (count : ℕ) (last : Image) (c : Files) → IsServed rules t commands → IsNear rules commands count last c
      → IsBetween rules t count last c
  between t commands count last c served (inl is) = inl is
  between t commands count last c served (inr is) =
      let (command, next, (new, step, opens)) = is in
      inr (new, record { commands = commands; served = served; command = command; next = next; step = step }, opens)

  -- the next command is done
  next_done : (t : List ℕ) (commands : List Command) (count : ℕ) (last : Image) → IsServed rules t commands → IsDoneAt rules commands count last
      → (new : Image) × IsNextDone rules t count last new
  next_done t commands count last served is =
      let (command, next, (new, step)) = is in
      (new, record { commands = commands; served = served; command = command; next = next; step = step })

  -- the write of a command was torn
  ran_torn : (rose : Rises) (t : List ℕ) (f : Files) (w : List ℕ) (could : Files → Type 0) (after : Left) (called : Bool) (commands : List Command) (image : Image)
      (now : Option (List ℕ)) → IsStart t f called commands image → rose.writing → TornAt rules image commands (Some w) after now
      → IsSomeAnd now (λ n. RanSo rules rose could after called (Err Unwritten) t [] f w n)
  ran_torn rose t f w could after called commands image now start write at =
      let before = ran_of t f called commands image at.count at.verdicts at.last start at.run in
      let near : EachCrash after (IsBetween rules t at.count at.last) = λ c left. between t commands at.count at.last c start.served (at.files c left) in
      subst (λ n. IsSomeAnd n (λ n. RanSo rules rose could after called (Err Unwritten) t [] f w n)) (sym at.lines)
      (at.verdicts, inr (inr (inl (write, (commands, start.served), inr (at.count, at.last, before, near, next_done t commands at.count at.last start.served at.next), refl, start.was))), refl)

  -- the line of a command was not printed
  ran_unprinted : (rose : Rises) (t : List ℕ) (f : Files) (w : List ℕ) (could : Files → Type 0) (after : Left) (called : Bool) (Quiet : Type 0) (commands : List Command) (image : Image)
      (now : Option (List ℕ)) → IsStart t f called commands image → Kept Quiet after f → rose.sink → UnprintedAt rules Quiet image commands (Some w) after now
      → IsSomeAnd now (λ n. RanSo rules rose could after called (Err Unprinted) t [] f w n)
  ran_unprinted rose t f w could after called Quiet commands image now start kept sunk at =
      let all = at.verdicts ++ at.verdict ∷ [] in
      let front = at.front in
      let before = ran_of t f called commands image at.count all at.last start at.run in
      let outcome : Outcome rules rose t f could statuses.Fault all [] after called [] =
      inr (inr (inr (sunk, (at.count, at.last, before, left_behind Quiet after f all at.last kept at.files at.quiet, start.was), refl))) in
      subst (λ n. IsSomeAnd n (λ n. RanSo rules rose could after called (Err Unprinted) t [] f w n)) (sym front.written)
      (sunk, (at.verdicts, at.verdict, outcome, record { front = front.front; rest = front.rest; written = refl; whole = front.whole }))

  -- some commands were run
  ran_some : (t : List ℕ) (f : Files) (w : List ℕ) (after : Left) (called : Bool) (Quiet : Type 0) (commands : List Command) (image : Image)
      (now : Option (List ℕ)) → IsStart t f called commands image → Kept Quiet after f → RanSome rules Quiet image commands (Some w) after now
      → (verdicts : List Verdict) × HasRun rules t f verdicts after called × (now ≡ Some (w ++ verdict_lines 1 verdicts))
  ran_some t f w after called Quiet commands image now start kept some =
      let (count, verdicts, ran) = some in
      (verdicts, (count, ran.last, ran_of t f called commands image count verdicts ran.last start ran.run, left_behind Quiet after f verdicts ran.last kept ran.files ran.quiet, start.was), ran.lines)

  -- the run of the commands was stopped
  ran_stop : (rose : Rises) (t : List ℕ) (f : Files) (w : List ℕ) (could : Files → Type 0) (after : Left) (called : Bool) (Quiet : Type 0) (commands : List Command) (image : Image)
      (now : Option (List ℕ)) (stop : Stop) → IsStart t f called commands image → Kept Quiet after f → StoppedAt rules rose.reading rose.writing rose.sink Quiet image commands (Some w) after now stop
      → IsSomeAnd now (λ n. RanSo rules rose could after called (Err stop) t [] f w n)
  ran_stop rose t f w could after called Quiet commands image now Memory start kept why =
      let (verdicts, ran, lines) = ran_some t f w after called Quiet commands image now start kept why in
      subst (λ n. IsSomeAnd n (λ n. RanSo rules rose could after called (Err Memory) t [] f w n)) (sym lines)
      (verdicts, (inr ran, refl), refl)
  ran_stop rose t f w could after called Quiet commands image now Unreadable start kept why =
      let (verdicts, ran, lines) = ran_some t f w after called Quiet commands image now start kept why.1 in
      subst (λ n. IsSomeAnd n (λ n. RanSo rules rose could after called (Err Unreadable) t [] f w n)) (sym lines)
      (verdicts, inr (inl (why.0, (commands, start.served), inr ran, refl, start.was)), refl)
  ran_stop rose t f w could after called Quiet commands image now Unwritten start kept why =
      ran_torn rose t f w could after called commands image now start why.0 why.1
  ran_stop rose t f w could after called Quiet commands image now Unprinted start kept why =
      ran_unprinted rose t f w could after called Quiet commands image now start kept why.0 why.1
  ran_stop rose t f w could after called Quiet commands image now stop start kept why = absurd why

  -- what the run of the commands left and wrote
  abbrev pub Run_left : Type 0 → Type 0 → Type 0 → Type 0 → (Image → Type 0) → List Command → Left → Option (List ℕ) → Option (List ℕ) → Result Bool Stop → Type 0
  Run_left Read Write Sunk Quiet IsOf commands after given now result =
      IfOk result (λ all_done. (image : Image) → IsOf image → RanEach rules Quiet image commands given after now all_done)
      × IfErr result (λ stop. (image : Image) → IsOf image → StoppedAt rules Read Write Sunk Quiet image commands given after now stop)

  -- the commands were run, or stopped, where all three tell
  ran_told : (rose : Rises) (t : List ℕ) (f : Files) (w : List ℕ) (could : Files → Type 0) (after : Left) (called : Bool) (Quiet : Type 0) (commands : List Command) (IsOf : Image → Type 0)
      (now : Option (List ℕ)) (result : Result Bool Stop) → called ≡ true → IsServed rules t commands → OpensOf rules IsOf f
      → Kept Quiet after f → Run_left rose.reading rose.writing rose.sink Quiet IsOf commands after (Some w) now result
      → IsSomeAnd now (λ n. RanSo rules rose could after called result t [] f w n)
  ran_told rose t f w could after called Quiet commands IsOf now (Ok all_done) was served is kept left =
      ran_each rose t f w could after called Quiet commands is.image now all_done
      (record { was = was; served = served; serves = is.serves }) kept (left.0 is.image is.of)
  ran_told rose t f w could after called Quiet commands IsOf now (Err stop) was served is kept left =
      ran_stop rose t f w could after called Quiet commands is.image now stop
      (record { was = was; served = served; serves = is.serves }) kept (left.1 is.image is.of)

  -- the commands were run, or stopped
  pub commands_ran : (rose : Rises) (text left : Option (List ℕ)) (before : Option Files) (could : Files → Type 0) (after : Left) (given now : Option (List ℕ))
      (called : Bool) (Quiet : Type 0) (commands : List Command) (IsOf : Image → Type 0) (result : Result Bool Stop) → called ≡ true → Commands_read text left commands
      → IfTold before (OpensOf rules IsOf) → IfTold before (Kept Quiet after) → Run_left rose.reading rose.writing rose.sink Quiet IsOf commands after given now result
      → WhereTold text left before given now (RanSo rules rose could after called result)
  commands_ran rose None left before could after given now called Quiet commands IsOf result was served is kept ran = tt
  commands_ran rose (Some t) left None could after given now called Quiet commands IsOf result was served is kept ran = tt
  commands_ran rose (Some t) left (Some f) could after None now called Quiet commands IsOf result was served is kept ran = tt
  commands_ran rose (Some t) left (Some f) could after (Some w) now called Quiet commands IsOf result was served is kept ran =
      subst (λ l. WhereTold (Some t) l (Some f) (Some w) now (RanSo rules rose could after called result)) (sym served.1)
      (ran_told rose t f w could after called Quiet commands IsOf now result was served.0 is kept ran)
