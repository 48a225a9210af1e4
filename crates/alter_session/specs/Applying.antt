-- What one command does to a database that is open.
use Rattle.std.specs.Prelude.{◌≡◌, ◌⊎◌, ℕ, length, string_bytes, Result, Ok, Err}
use Rattle.alter_disk.specs.declared.disk.Disk.{Ghosts}
use Rattle.alter_disk.specs.declared.way.Way.{Way}
use Rattle.alter_disk.specs.declared.way.Way.TheVariants.{Read, Write}
use Rattle.alter_disk.specs.Files.{Files}
use Rattle.alter_disk.specs.Moments.{ReadsQuietly}
use Rattle.pager_core.specs.declared.file_shape.FileShape.{FileShape}
use Rattle.pager_commit.specs.Opens.{Opens}
use Rattle.plain_sql.specs.declared.script.Command.{Command}
use Rattle.plain_schema.specs.declared.plan.Plan.{Plan}
use Rattle.plain_schema.specs.declared.plan.Plan.TheVariants as plans
use Rattle.plain_schema.specs.declared.verdict.Verdict.{Verdict}
use Rattle.plain_schema.specs.declared.verdict.Verdict.TheVariants as verdicts
use Rattle.plain_schema.specs.Image.{Image}
use Rattle.plain_schema.specs.Step.{Step}
use Rattle.plain_schema.specs.Verdicts.{verdict_line}
use Rattle.alter_session.specs.declared.answer.Answer.{Answer}
use Rattle.alter_session.specs.declared.answer.Outcome.{Outcome}
use Rattle.alter_session.specs.declared.answer.Outcome.TheVariants.{Done, Memory, Failed}
use Rattle.alter_session.specs.declared.fault.Fault.{Fault}
use Rattle.alter_session.specs.declared.fault.Fault.TheVariants as faults
use Rattle.alter_session.specs.declared.session.Session.{Session}
use Rattle.alter_session.specs.Committing.{GivesSizes, with_first}
use Rattle.alter_session.specs.Session.{Holds, IsReady, disk_of}

-- the image after a plan is carried out
abbrev pub carried : Plan → Image → Image
carried (plans.Refused refusal) image = image
carried (plans.Changed change) image = with_first change.page image

-- the page 1 of a plan gives the sizes of the file
abbrev pub PlanGives : FileShape → Plan → Type 0
PlanGives shape (plans.Refused refusal) = Unit {0}
PlanGives shape (plans.Changed change) = GivesSizes shape change.page

-- the files open to the image, or to the one after the command, which is done on it
abbrev pub MayHave : Image → Command → Files → Type 0
MayHave image command c = Opens image c ⊎ ((new : Image) × Step image command verdicts.Done new × Opens new c)

-- the line is that of the verdict on the command of this number
abbrev pub IsAnswer : ℕ → Answer → Type 0
IsAnswer number answer = string_bytes answer.line ≡ verdict_line number answer.verdict

-- the disk was only read, unless the command is done
abbrev pub ReadsUnlessDone : {D : Type 0} → Ghosts D → Verdict → D → D → Type 0
ReadsUnlessDone disk verdicts.Done old new = Unit {0}
ReadsUnlessDone disk (verdicts.Refused refusal) old new = ReadsQuietly disk old new

-- a page 1 that is put in is as long as the file's pages
abbrev pub PlanFits : FileShape → Plan → Type 0
PlanFits shape (plans.Refused refusal) = Unit {0}
PlanFits shape (plans.Changed change) = length change.page ≡ shape.page

-- the session has an image on which the command got this verdict
pub record IsAnswered {D : Type 0} (disk : Ghosts D) (image : Image) (command : Command) (verdict : Verdict) (session : Session D) : Type 0 where
  pub last : Image
  pub step : Step image command verdict last
  pub holds : Holds disk last session

-- the command is done on this image
abbrev pub IsDoneOn : Image → Command → Type 0
IsDoneOn image command = (new : Image) × Step image command verdicts.Done new

-- a call that writes fails only of a command that is done; before the first write the disk was only read, and the session
-- has the image that it had
abbrev pub IsUndone : {D : Type 0} → Ghosts D → Command → Session D → Session D → Fault → Type 0
IsUndone disk command old new (faults.Failed Write) = (image : Image) → Holds disk image old → IsDoneOn image command
IsUndone disk command old new fault = ReadsQuietly disk (disk_of old) (disk_of new) × ((image : Image) → Holds disk image old → Holds disk image new)

module _ {D : Type 0} where
  -- the disk that the session owns, or that is handed back
  abbrev pub disk_behind : Outcome D → D
  disk_behind (Done session answer) = disk_of session
  disk_behind (Memory session) = disk_of session
  disk_behind (Failed d way) = d

  -- the session has an image on which the command got its verdict; at want of memory it has the one that it had, and a call
  -- that writes fails only of a command that is done
  abbrev pub Applied : Ghosts D → Image → Command → Outcome D → Type 0
  Applied disk image command (Done session answer) = IsAnswered disk image command answer.verdict session
  Applied disk image command (Memory session) = Holds disk image session
  Applied disk image command (Failed d Read) = Unit {0}
  Applied disk image command (Failed d Write) = IsDoneOn image command

  -- a session that is there can be used again
  abbrev pub StaysReady : Ghosts D → Outcome D → Type 0
  StaysReady disk (Done session answer) = IsReady disk session
  StaysReady disk (Memory session) = IsReady disk session
  StaysReady disk (Failed d way) = Unit {0}

  -- an answer has its line
  abbrev pub HasLine : ℕ → Outcome D → Type 0
  HasLine number (Done session answer) = IsAnswer number answer
  HasLine number (Memory session) = Unit {0}
  HasLine number (Failed d way) = Unit {0}

  -- the disk was only read, unless the command is done or a call that writes failed
  abbrev pub IsQuiet : Ghosts D → D → Outcome D → Type 0
  IsQuiet disk old (Done session answer) = ReadsUnlessDone disk answer.verdict old (disk_of session)
  IsQuiet disk old (Memory session) = ReadsQuietly disk old (disk_of session)
  IsQuiet disk old (Failed d Read) = ReadsQuietly disk old d
  IsQuiet disk old (Failed d Write) = Unit {0}

  -- the kind of the call that failed, where that is what became of the command
  abbrev pub failure_of : Outcome D → Result Unit Way
  failure_of (Done session answer) = Ok tt
  failure_of (Memory session) = Ok tt
  failure_of (Failed d way) = Err way
