-- What contracts see of a `MemoryDisk`, and how each call changes it.
use Rattle.std.specs.Prelude.{◌≡◌, ◌==◌, ◌<◌, ◌≤◌, ℕ, ◌+◌, nat_lt, nat_le, Bool, false, true, ◌||◌, ◌&&◌, not, if◌then◌else◌, List, [], ◌∷◌, length, take, Vec, vec_capacity}
use Rattle.alter_disk.specs.declared.way.Way.{Way}
use Rattle.alter_disk.specs.declared.way.Way.TheVariants.{Read, Write}
use Rattle.alter_disk.specs.declared.which.Which.{Which}
use Rattle.alter_disk.specs.Files.{Files, file, with_file}
use Rattle.alter_disk.specs.Changes.{overwritten}
use Rattle.alter_disk.specs.Calls.{raised, is_listed}
use Rattle.alter_disk.specs.Pending.{Change, Call, Wrote, Cut, Synced, synced_file, filled_file}
use Rattle.std.specs.declared.alloc.Global.{Global}

pub record Memory : Type 0 where
  -- the one name that it takes
  pub name : List ℕ
  pub files : Files
  -- what they were at first
  pub first : Files
  -- each call since that changed what a crash may leave, the newest first
  pub steps : List Call
  -- whether its room and its record grow as its calls need them; the next two are 0 then
  pub grows : Bool
  -- how many bytes a file can hold
  pub room : ℕ
  -- how many calls its record can hold
  pub calls : ℕ
  -- how many calls were made
  pub made : ℕ
  -- the numbers of the calls that are to fail
  pub fails : List ℕ
  pub called : Bool
  pub opened : Bool
  pub read_faults : ℕ
  pub write_faults : ℕ

-- a disk that was not called
abbrev pub fresh : List ℕ → Files → ℕ → ℕ → List ℕ → Memory
fresh name files room calls fails = record {
  name = name;
  files = files;
  first = files;
  steps = [];
  grows = false;
  room = room;
  calls = calls;
  made = 0;
  fails = fails;
  called = false;
  opened = false;
  read_faults = 0;
  write_faults = 0;
}

-- a growing disk that was not called
abbrev pub fresh_growing : List ℕ → Files → Memory
fresh_growing name files = record (fresh name files 0 0 []) { grows = true }

-- whether the next call is refused whatever it is: it is listed, or the record is full
abbrev pub refuses : Memory → Bool
refuses m = is_listed m.fails m.made || (not m.grows && nat_le m.calls m.made)

-- whether the next call is refused as a write of `n` bytes at `at`: also where it ends past the room
abbrev pub refuses_write : ℕ → ℕ → Memory → Bool
refuses_write at n m = refuses m || (not m.grows && nat_lt m.room (at + n))

-- whether a call that may need memory fails: exactly where it is refused, save that a growing disk may also find no memory
abbrev pub Fails : Bool → Memory → Bool → Type 0
Fails refused m failed = m.grows ≡ false → failed ≡ refused

-- the disk after a call that changed no file, and that failed or did not
abbrev pub counted : Way → Bool → Memory → Memory
counted Read failed m = record m { made = raised m.made; read_faults = if failed then raised m.read_faults else m.read_faults }
counted Write failed m = record m { made = raised m.made; write_faults = if failed then raised m.write_faults else m.write_faults }

-- the disk after its opening
abbrev pub after_open : Memory → Memory
after_open m = record (counted Read (refuses m) m) { called = true; opened = not (refuses m) }

-- the disk after a call that leaves both files
abbrev pub after_call : Way → Memory → Memory
after_call way m = counted way (refuses m) m

-- the disk with these bytes in one file
abbrev pub with_bytes : Which → List ℕ → Memory → Memory
with_bytes which bytes m = record m { files = with_file which bytes m.files }

-- the disk with one more call in its record
abbrev pub noted : Which → Change → Memory → Memory
noted which change m = record m { steps = record { which = which; change = change } ∷ m.steps }

-- the disk after a write that failed or did not; one that failed changes no file
abbrev pub after_write : Bool → Which → ℕ → List ℕ → Memory → Memory
after_write failed which at piece m =
    if failed
    then counted Write true m
    else noted which (Wrote at (at + length piece)) (with_bytes which (overwritten (file which m.files) at piece) (counted Write false m))

-- the disk after a cut, likewise
abbrev pub after_cut : Bool → Which → ℕ → Memory → Memory
after_cut failed which len m =
    if failed
    then counted Write true m
    else noted which (Cut len) (with_bytes which (take len (file which m.files)) (counted Write false m))

-- the disk after a sync, likewise
abbrev pub after_sync : Bool → Which → Memory → Memory
after_sync failed which m =
    if failed then counted Write true m else noted which (Synced (file which m.files)) (counted Write false m)

-- one file as a crash may leave it, of which the choices 0 to 3 stand for the last sync, what a read gives, and zeros or d9 in all that is pending
abbrev pub stopped_file : ℕ → Which → Memory → List ℕ
stopped_file choice which m =
    if choice == 0 then synced_file which (file which m.first) m.steps
    else if choice == 1 then file which m.files
    else filled_file (if choice == 2 then 0 else 0xd9) which (file which m.first) m.steps

-- a buffer that does not grow: its bytes are within the room, which is reserved
pub record IsReserved (grows : Bool) (room size capacity : ℕ) : Type 0 where
  pub within : grows ≡ false → size ≤ room
  pub reserved : grows ≡ false → room ≤ capacity

-- the record of calls, where it does not grow, has room for all that are not made yet
pub record HoldsCalls (grows : Bool) (calls made : ℕ) (steps : List Call) (size spare capacity : ℕ) : Type 0 where
  pub same : length steps ≡ size
  pub behind : grows ≡ false → length steps ≤ made
  pub spare_left : grows ≡ false → calls ≤ length steps + spare
  pub reserved : grows ≡ false → calls ≤ capacity

-- there is room for one call more, where the record does not grow
pub record HasSlot (m : Memory) : Type 0 where
  pub slot : m.grows ≡ false → length m.steps < m.calls
  pub made : m.grows ≡ false → length m.steps < m.made

-- two files, of which each can hold so many bytes, or which grow
pub record Held : Type 0 where
  pub files : Files
  pub grows : Bool
  pub room : ℕ

-- an empty buffer that has room for a file's bytes
pub record IsSpare (room : ℕ) (buffer : Vec ℕ Global) : Type 0 where
  pub empty : buffer.items ≡ []
  pub reserved : room ≤ vec_capacity buffer
