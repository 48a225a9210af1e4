-- The loop over the commands on a session.
use Rattle.std.proofs.Common.{◌≡◌, ◌≤◌, ℕ, ◌+◌, inl, ⊎_elim, Bool, false, List, take, Option, Some, None, Err, is_some, IsSomeAnd, refl, sym, ◌∙◌, ap, subst}
use Rattle.alter_disk.specs.declared.disk.Disk.{Ghosts}
use Rattle.alter_disk.specs.declared.way.Way.{Way}
use Rattle.alter_disk.specs.declared.way.Way.TheVariants.{Read, Write}
use Rattle.alter_disk.specs.Changes.{IfTold}
use Rattle.alter_disk.specs.Files.{Files}
use Rattle.alter_disk.specs.Moments.{HasWay, Leaves, ReadsQuietly}
use Rattle.alter_disk.specs.Uses.{ReadFailed, WriteFailed}
use Rattle.rollback_journal.specs.Recovery.{recovered}
use Rattle.rollback_journal.specs.Standing.{standing_by}
use Rattle.pager_commit.specs.Opens.{Opens, image_by}
use Rattle.plain_sql.specs.declared.script.Command.{Command}
use Rattle.plain_schema.specs.declared.verdict.Verdict.{Verdict}
use Rattle.plain_schema.specs.declared.verdict.Verdict.TheVariants as verdicts
use Rattle.plain_schema.specs.Image.{Image}
use Rattle.plain_schema.specs.Verdicts.{is_done}
use Rattle.alter_session.specs.declared.session.Session.{Session}
use Rattle.alter_session.specs.declared.answer.Outcome.TheVariants as outcomes
use Rattle.alter_session.specs.Applying.{Applied, IsQuiet, ReadsUnlessDone}
use Rattle.alter_session.specs.Session.{Holds, disk_of}
use Rattle.alter_cli.specs.declared.stop.Stop.{Stop}
use Rattle.alter_cli.specs.declared.stop.Stop.TheVariants.{Unreadable, Unwritten, Unprinted, Memory}
use Rattle.alter_cli.specs.Ending.{WhereSinkTells}
use Rattle.alter_cli.specs.First.{first_rules}
use Rattle.alter_cli.specs.Left.{Each, EachCrash, Left, left_on}
use Rattle.alter_cli.specs.StopOf.{stop_of_way}
use Rattle.alter_cli.specs.Stops.{GaveLines, IsRunStop, NotRun, OpensAround, StoppedAt}
use Rattle.alter_cli.proofs.OpenLemmas.{crash_since, rest_each}
use Rattle.alter_cli.proofs.Printed.{GaveSo, gave_front, gave_some}
use Rattle.alter_cli.proofs.Reached.{IsNext, Reached, reached_still, torn_at, unprinted}

module _ {D : Type 0} (disk : Ghosts D) where
  -- a session's files, read or left by a crash, open to its image
  pub holds_each : (image : Image) (session : Session D) → Holds disk image session → Each (left_on disk (disk_of session)) (Opens image)
  holds_each image session holds =
      let clean = holds.clean in
      let files : Files = record { db = clean.base; journal = clean.log } in
      let told = clean.opened.told in
      let opens : Opens image files = ap (λ heat. image_by (standing_by heat files)) clean.opened.cold ∙ clean.image_is in
      let rests = rest_each disk files (disk_of session) (ap is_some told) (record { db = clean.opened.rests.db; journal = clean.opened.rests.journal }) in
      record {
        read = subst (λ told. IsSomeAnd told (Opens image)) (sym told) opens;
        crash = λ c left. subst (Opens image) (sym (rests.crash c left)) opens;
      }

  -- the disk of a session that was closed
  pub closed_each : (image : Image) (session : Session D) (d : D) → d ≡ disk_of session → Holds disk image session → Each (left_on disk d) (Opens image)
  closed_each image session d same holds = subst (λ d. Each (left_on disk d) (Opens image)) (sym same) (holds_each image session holds)

  -- calls that only read leave of the files what there was
  pub each_read : (old new : D) (P : Files → Type 0) → ReadsQuietly disk old new → Each (left_on disk old) P → Each (left_on disk new) P
  each_read old new P quiet each = record {
    read = subst (λ told. IsSomeAnd told P) (sym quiet.only.files) each.read;
    crash = λ c left. each.crash c (quiet.crash c left);
  }

  -- the same of files that a recovery left
  pub still_kept : (told : Option Files) (old new : D) → IfTold told (λ f. Each (left_on disk old) (λ c. c ≡ recovered f))
      → IfTold told (λ f. ReadsQuietly disk old new → Each (left_on disk new) (λ c. c ≡ recovered f))
  still_kept None old new each = tt
  still_kept (Some f) old new each = λ quiet. each_read old new (λ c. c ≡ recovered f) quiet each

  -- a command that is not done was only read for
  pub reads_refused : (verdict : Verdict) (old new : D) → ReadsUnlessDone disk verdict old new → is_done verdict ≡ false → ReadsQuietly disk old new
  reads_refused verdicts.Done old new quiet none = absurd cc
  reads_refused (verdicts.Refused refusal) old new quiet none = quiet

  -- calls that only read leave files that open to the session's image
  pub read_each : (image : Image) (session : Session D) (d : D) → ReadsQuietly disk (disk_of session) d → Holds disk image session
      → Each (left_on disk d) (Opens image)
  read_each image session d quiet holds = each_read (disk_of session) d (Opens image) quiet (holds_each image session holds)

  module _ (counts_now : (d : D) (t : ℕ) (c : Files) → t ≤ disk.moment d → disk.may_leave d c → disk.left_since d t c)
      (only_now : (d : D) (c : Files) → disk.left_since d (disk.moment d) c → disk.may_leave d c) where
    -- what a crash may leave of a command that was not ended
    pub written_each : (image : Image) (session : Session D) (d : D) (command : Command) → Holds disk image session
        → Leaves disk (disk_of session) d (OpensAround first_rules image command) → EachCrash (left_on disk d) (OpensAround first_rules image command)
    written_each image session d command holds run c left =
        ⊎_elim (λ before. inl ((holds_each image session holds).crash c before)) (λ now. now)
        (crash_since disk counts_now only_now (disk_of session) d (OpensAround first_rules image command) run c left)

    -- a command that failed
    pub failed_run : (Sunk : Type 0) (session : Session D) (d : D) (way : Way) (number : ℕ) (command : Command) (had : Option (List ℕ))
        → IsQuiet disk (disk_of session) (outcomes.Failed d way) → HasWay {T = Unit} disk (disk_of session) d (Err way)
        → ((image : Image) → Holds disk image session → Leaves disk (disk_of session) d (OpensAround first_rules image command))
        → ((image : Image) → Holds disk image session → Applied disk image command (outcomes.Failed d way))
        → NotRun first_rules (ReadFailed disk (disk_of session) d) (WriteFailed disk (disk_of session) d) Sunk (ReadsQuietly disk (disk_of session) d) (λ image. Holds disk image session) number command
        (left_on disk d) had had (stop_of_way way)
    failed_run Sunk session d Read number command had quiet why stops applied =
        (why.reading.failed refl, (λ image holds. read_each image session d quiet holds), refl, quiet)
    failed_run Sunk session d Write number command had quiet why stops applied =
        (why.writing.failed refl, (λ image holds. written_each image session d command holds (stops image holds)), refl, applied)

-- why not all commands were run
pub reached_stop : (Reads Writes Sinks Read_all Write_all Sink_all Quiet Still Quiet_all : Type 0) (IsOf : Image → Type 0) (image : Image) (commands : List Command) (given had now : Option (List ℕ))
    (place number : ℕ) (command : Command) (after : Left) (all_done : Bool) (stop : Stop) → (Reads → Read_all) → (Writes → Write_all) → (Sinks → Sink_all)
    → (Quiet → Still → Quiet_all)
    → IsNext commands place number command → NotRun first_rules Reads Writes Sinks Still IsOf number command after had now stop
    → Reached first_rules Quiet IsOf image (take place commands) given had all_done
    → StoppedAt first_rules Read_all Write_all Sink_all Quiet_all image commands given after now stop
reached_stop Reads Writes Sinks Read_all Write_all Sink_all Quiet Still Quiet_all IsOf image commands given had now place number command after all_done Memory read write sunk on next why reached =
    reached_still first_rules Quiet IsOf image commands given place number command had now all_done next reached Quiet_all after (λ q. on q why.2) why.0 why.1
reached_stop Reads Writes Sinks Read_all Write_all Sink_all Quiet Still Quiet_all IsOf image commands given had now place number command after all_done Unreadable read write sunk on next why reached =
    (read why.0, reached_still first_rules Quiet IsOf image commands given place number command had now all_done next reached Quiet_all after (λ q. on q why.3) why.1 why.2)
reached_stop Reads Writes Sinks Read_all Write_all Sink_all Quiet Still Quiet_all IsOf image commands given had now place number command after all_done Unwritten read write sunk on next why reached =
    (write why.0, torn_at first_rules Quiet IsOf image commands given place number command had now all_done next reached after why.1 why.2 why.3)
reached_stop Reads Writes Sinks Read_all Write_all Sink_all Quiet Still Quiet_all IsOf image commands given had now place number command after all_done Unprinted read write sunk on next why reached =
    let (verdict, makes, front, still) = why.1 in (
      sunk why.0,
      unprinted first_rules Quiet IsOf image commands given place number command had now all_done next reached Quiet_all after verdict
          (λ q none. on q (still none)) makes front,
    )
reached_stop Reads Writes Sinks Read_all Write_all Sink_all Quiet Still Quiet_all IsOf image commands given had now place number command after all_done stop read write sunk on next why reached = absurd why

-- the cause of a stop
pub run_cause : (Reads Writes Sinks Quiet Read_all Write_all Sink_all : Type 0) (IsOf : Image → Type 0) (number : ℕ) (command : Command) (after : Left) (had now : Option (List ℕ))
    (stop : Stop) → (Reads → Read_all) → (Writes → Write_all) → (Sinks → Sink_all) → NotRun first_rules Reads Writes Sinks Quiet IsOf number command after had now stop
    → IsRunStop Read_all Write_all Sink_all stop
run_cause Reads Writes Sinks Quiet Read_all Write_all Sink_all IsOf number command after had now Memory read write sunk why = tt
run_cause Reads Writes Sinks Quiet Read_all Write_all Sink_all IsOf number command after had now Unreadable read write sunk why = read why.0
run_cause Reads Writes Sinks Quiet Read_all Write_all Sink_all IsOf number command after had now Unwritten read write sunk why = write why.0
run_cause Reads Writes Sinks Quiet Read_all Write_all Sink_all IsOf number command after had now Unprinted read write sunk why = sunk why.0
run_cause Reads Writes Sinks Quiet Read_all Write_all Sink_all IsOf number command after had now stop read write sunk why = absurd why

-- what the sink was given before a command stopped
pub gave_stop : (Reads Writes Sinks Quiet Sink_all : Type 0) (IsOf : Image → Type 0) (count number : ℕ) (command : Command) (after : Left)
    (given had now : Option (List ℕ)) (all_done : Bool) (stop : Stop) → (Sinks → Sink_all) → number ≡ count + 1
    → NotRun first_rules Reads Writes Sinks Quiet IsOf number command after had now stop
    → WhereSinkTells given had (GaveSo count all_done) → WhereSinkTells given now (λ g n. GaveLines Sink_all g n (Err stop))
gave_stop Reads Writes Sinks Quiet Sink_all IsOf count number command after given had now all_done Memory sunk at why is =
    gave_some Sink_all given had now count all_done Memory why.1 is (λ g n verdicts lines. (verdicts, lines))
gave_stop Reads Writes Sinks Quiet Sink_all IsOf count number command after given had now all_done Unreadable sunk at why is =
    gave_some Sink_all given had now count all_done Unreadable why.2 is (λ g n verdicts lines. (verdicts, lines))
gave_stop Reads Writes Sinks Quiet Sink_all IsOf count number command after given had now all_done Unwritten sunk at why is =
    gave_some Sink_all given had now count all_done Unwritten why.2 is (λ g n verdicts lines. (verdicts, lines))
gave_stop Reads Writes Sinks Quiet Sink_all IsOf count number command after given had now all_done Unprinted sunk at why is =
    let (verdict, makes, front, still) = why.1 in
    gave_front Sink_all given had now count number all_done verdict (sunk why.0) at front is
gave_stop Reads Writes Sinks Quiet Sink_all IsOf count number command after given had now all_done stop sunk at why is = absurd why
