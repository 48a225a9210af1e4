-- What contracts see of a `ListSink`, and how a call changes it.
use Rattle.std.specs.Prelude.{ℕ, ◌-◌, nat_lt, Bool, ◌||◌, if◌then◌else◌, List, [], ◌++◌, length}
use Rattle.alter_disk.specs.Calls.{raised, is_listed}

pub record Collected : Type 0 where
  -- the bytes that were written
  pub bytes : List ℕ
  -- how many bytes it can hold
  pub room : ℕ
  -- how many calls were made
  pub made : ℕ
  -- the numbers of the calls that are to fail
  pub fails : List ℕ
  pub faults : ℕ

-- a sink that was not called
abbrev pub empty : ℕ → List ℕ → Collected
empty room fails = record { bytes = []; room = room; made = 0; fails = fails; faults = 0 }

-- whether the next call fails with a piece of `n` bytes: it is listed, or the piece does not fit the room that is left
abbrev pub refuses_piece : ℕ → Collected → Bool
refuses_piece n s = is_listed s.fails s.made || nat_lt (s.room - length s.bytes) n

-- the sink after a call, which adds the whole piece, or nothing where it failed
abbrev pub after_piece : List ℕ → Collected → Collected
after_piece piece s =
    if refuses_piece (length piece) s
    then record s { made = raised s.made; faults = raised s.faults }
    else record s { made = raised s.made; bytes = s.bytes ++ piece }
