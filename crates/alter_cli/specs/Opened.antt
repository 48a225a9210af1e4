-- What the opening of the call's file leaves.
use Rattle.std.specs.Prelude.{◌≡◌, ◌≤◌, true, is_some, Result, Ok, Err}
use Rattle.alter_disk.specs.declared.disk.Disk.{Ghosts}
use Rattle.alter_disk.specs.Crash.{NoMore}
use Rattle.alter_disk.specs.Moments.{Leaves}
use Rattle.alter_disk.specs.Uses.{OnlyOpens}
use Rattle.alter_session.specs.declared.session.Session.{Session}
use Rattle.alter_session.specs.Opening.{Nothing}
use Rattle.alter_session.specs.Session.{disk_of}
use Rattle.alter_cli.specs.declared.halted.Halted.{Halted}
use Rattle.alter_cli.specs.declared.run.Turn.{Turn}
use Rattle.alter_cli.specs.declared.stop.Stop.{Stop}
use Rattle.alter_cli.specs.declared.stop.Stop.TheVariants.{Memory, Unreadable}

-- why a call stopped that did not open the disk
abbrev pub IsOpenStop : Type 0 → Stop → Type 0
IsOpenStop Read Unreadable = Read
IsOpenStop Read Memory = Unit {0}
IsOpenStop Read stop = ⊥

-- an opening of the disk changed no byte, and a crash leaves no more than before
pub record OpensQuietly {D : Type 0} (disk : Ghosts D) (old new : D) : Type 0 where
  pub only : OnlyOpens disk old new
  pub crash : NoMore (disk.may_leave old) (disk.may_leave new)
  pub stops : Leaves disk old new Nothing

-- calls from the opening on left the disk's label, told what was told, and no count of faults fell
pub record StaysOpen {D : Type 0} (disk : Ghosts D) (old new : D) : Type 0 where
  pub label : disk.label new ≡ disk.label old
  pub called : disk.called new ≡ true
  pub telling : is_some (disk.files new) ≡ is_some (disk.files old)
  pub reads : disk.read_faults old ≤ disk.read_faults new
  pub writes : disk.write_faults old ≤ disk.write_faults new

module _ {D : Type 0} where
  -- the disk of a session, or of a call that stopped
  abbrev pub disk_open : Result (Session D) (Halted D) → D
  disk_open (Ok session) = disk_of session
  disk_open (Err halted) = halted.disk

  -- the disk behind a command
  abbrev pub disk_turned : Result (Turn D) (Halted D) → D
  disk_turned (Ok turn) = disk_of turn.session
  disk_turned (Err halted) = halted.disk
