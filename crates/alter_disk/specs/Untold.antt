-- What contracts see of a `FileDisk`, which tells nothing of its bytes.
use Rattle.std.specs.Prelude.{ℕ, Bool, false}

pub record Untold : Type 0 where
  pub called : Bool
  pub opened : Bool
  pub read_faults : ℕ
  pub write_faults : ℕ

-- a disk that was not called
abbrev pub uncalled : Untold
uncalled = record { called = false; opened = false; read_faults = 0; write_faults = 0 }
