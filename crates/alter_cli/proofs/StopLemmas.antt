-- What a crash left at each moment of a call.
use Rattle.std.proofs.Common.{◌≡◌, ◌⊎◌, ℕ, List, inl, inr, Bool, Option, Some, None, Result, Ok, Err}
use Rattle.alter_disk.specs.declared.disk.Disk.{Ghosts}
use Rattle.alter_disk.specs.Changes.{IfTold}
use Rattle.alter_disk.specs.Files.{Files}
use Rattle.alter_disk.specs.Moments.{Leaves}
use Rattle.alter_cli.specs.declared.stop.Stop.{Stop}
use Rattle.alter_cli.specs.declared.stop.Stop.TheVariants.{Unreadable, Unwritten, Unprinted, Memory}
use Rattle.alter_cli.specs.Left.{Left}
use Rattle.alter_cli.specs.Outcome.{IsOfRun}
use Rattle.alter_cli.specs.Rules.{Rules}
use Rattle.alter_cli.specs.Stops.{IsReachedBy, OpensOf, StoppedAt}
use Rattle.alter_disk.proofs.Moments.{goes_far, started, weaker}
use Rattle.alter_session.specs.Opening.{KeepsBytes}
use Rattle.alter_cli.proofs.OpenLemmas.{if_told}
use Rattle.alter_cli.proofs.PerformLemmas.{Commands_read, Run_left}

module _ {Image Command : Type 0} (rules : Rules Image Command) where
  -- a cause in a part of the call is one in the call
  pub stopped_wider : (Read Write Read_all Write_all Sunk Quiet : Type 0) (image : Image) (commands : List Command) (given : Option (List ℕ)) (after : Left) (now : Option (List ℕ))
      (stop : Stop) → (Read → Read_all) → (Write → Write_all) → StoppedAt rules Read Write Sunk Quiet image commands given after now stop
      → StoppedAt rules Read_all Write_all Sunk Quiet image commands given after now stop
  stopped_wider Read Write Read_all Write_all Sunk Quiet image commands given after now Memory read write why = why
  stopped_wider Read Write Read_all Write_all Sunk Quiet image commands given after now Unreadable read write why = (read why.0, why.1)
  stopped_wider Read Write Read_all Write_all Sunk Quiet image commands given after now Unwritten read write why = (write why.0, why.1)
  stopped_wider Read Write Read_all Write_all Sunk Quiet image commands given after now Unprinted read write why = why
  stopped_wider Read Write Read_all Write_all Sunk Quiet image commands given after now stop read write why = absurd why

  -- the same of what the run of the commands left and wrote
  pub wider : (Read Write Read_all Write_all Sunk Quiet : Type 0) (IsOf : Image → Type 0) (commands : List Command) (after : Left) (given now : Option (List ℕ)) (result : Result Bool Stop)
      → (Read → Read_all) → (Write → Write_all) → Run_left rules Read Write Sunk Quiet IsOf commands after given now result
      → Run_left rules Read_all Write_all Sunk Quiet IsOf commands after given now result
  wider Read Write Read_all Write_all Sunk Quiet IsOf commands after given now (Ok all_done) read write is = is
  wider Read Write Read_all Write_all Sunk Quiet IsOf commands after given now (Err stop) read write is =
      (tt, λ image of. stopped_wider Read Write Read_all Write_all Sunk Quiet image commands given after now stop read write (is.1 image of))

  -- files that open to no image that is served were not opened
  pub unwritten_opened : (files : Option Files) (Keeps : Files → Type 0) (IsOf : Image → Type 0) → IfTold files (OpensOf rules IsOf)
      → IfTold files (λ f. rules.recovered f ≡ f → ((image : Image) → rules.Serves f image → ⊥) → Keeps f)
  unwritten_opened None Keeps IsOf is = tt
  unwritten_opened (Some f) Keeps IsOf is = λ cold none. absurd (none is.image is.serves)

  -- files that a recovery leaves as they are were not written
  pub unwritten_cold : (files : Option Files) (Keeps : Files → Type 0) → IfTold files (λ f. rules.recovered f ≡ f → Keeps f)
      → IfTold files (λ f. rules.recovered f ≡ f → ((image : Image) → rules.Serves f image → ⊥) → Keeps f)
  unwritten_cold None Keeps is = tt
  unwritten_cold (Some f) Keeps is = λ cold none. is cold

  module _ {D : Type 0} (disk : Ghosts D) where
    -- nothing was called, and every byte is kept
    pub unwritten_none : (d : D) → IfTold (disk.files d) (λ f. rules.recovered f ≡ f → ((image : Image) → rules.Serves f image → ⊥) → KeepsBytes disk f d d)
    unwritten_none d =
        if_told (disk.files d) (λ f. rules.recovered f ≡ f → ((image : Image) → rules.Serves f image → ⊥) → KeepsBytes disk f d d)
        (λ f told cold none. record { read = told; stops = started disk d (λ c. c ≡ f) })

    -- nothing was called
    pub stopped_none : (text : Option (List ℕ)) (files : Option Files) (d : D)
        → IfTold text (λ t. IfTold files (λ f. Leaves disk d d (λ c. rules.Alike f c ⊎ IsOfRun rules t f c)))
    stopped_none None files d = tt
    stopped_none (Some t) None d = tt
    stopped_none (Some t) (Some f) d = started disk d (λ c. rules.Alike f c ⊎ IsOfRun rules t f c)

    -- the files were not opened
    pub stopped_alike : (text : Option (List ℕ)) (files : Option Files) (old new : D) → IfTold files (λ f. Leaves disk old new (rules.Alike f))
        → IfTold text (λ t. IfTold files (λ f. Leaves disk old new (λ c. rules.Alike f c ⊎ IsOfRun rules t f c)))
    stopped_alike None files old new run = tt
    stopped_alike (Some t) None old new run = tt
    stopped_alike (Some t) (Some f) old new run = weaker disk old new (rules.Alike f) (λ c. rules.Alike f c ⊎ IsOfRun rules t f c) (λ c is. inl is) run

    -- the files were opened, and then the commands were run
    pub stopped_run : (text left : Option (List ℕ)) (files : Option Files) (old mid new : D) (commands : List Command) (IsOf : Image → Type 0)
        → Commands_read rules text left commands → IfTold files (OpensOf rules IsOf) → IfTold files (λ f. Leaves disk old mid (rules.Alike f))
        → ((image : Image) → IsOf image → Leaves disk mid new (IsReachedBy rules image commands))
        → IfTold text (λ t. IfTold files (λ f. Leaves disk old new (λ c. rules.Alike f c ⊎ IsOfRun rules t f c)))
    stopped_run None left files old mid new commands IsOf served is first then_ = tt
    stopped_run (Some t) left None old mid new commands IsOf served is first then_ = tt
    stopped_run (Some t) left (Some f) old mid new commands IsOf served is first then_ =
        let run : (c : Files) → IsReachedBy rules is.image commands c → rules.Alike f c ⊎ IsOfRun rules t f c =
        λ c r. inr (r.0, r.1, r.2, record { commands = commands; served = served.0; image = is.image; serves = is.serves; run = r.3 }, r.4) in
        goes_far disk old mid new (λ c. rules.Alike f c ⊎ IsOfRun rules t f c)
        (weaker disk old mid (rules.Alike f) (λ c. rules.Alike f c ⊎ IsOfRun rules t f c) (λ c is. inl is) first)
        (weaker disk mid new (IsReachedBy rules is.image commands) (λ c. rules.Alike f c ⊎ IsOfRun rules t f c) run (then_ is.image is.of))
