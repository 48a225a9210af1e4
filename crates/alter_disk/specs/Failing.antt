-- What contracts see of a `FailSource`, and which of its reads fails.
use Rattle.std.specs.Prelude.{◌≡◌, ℕ, Result, IsErr}
use Rattle.alter_disk.specs.Calls.{raised}
use Rattle.alter_disk.specs.Faults.{HasCause}

pub record Failing (S : Type 0) : Type 0 where
  pub inner : S
  -- the number of the call that is to fail
  pub at : ℕ
  -- how many calls were made
  pub made : ℕ
  -- how many calls were refused
  pub refused : ℕ

-- a source that was not called
abbrev pub unread : {S : Type 0} → S → ℕ → Failing S
unread inner at = record { inner = inner; at = at; made = 0; refused = 0 }

-- a read: the one of this number fails and leaves the inner source, and each other one is a read of the inner source, with its answer and its faults
pub record FailsAt {S T E : Type 0} (faults : S → ℕ) (old new : Failing S) (result : Result T E) : Type 0 where
  pub made : new.made ≡ raised old.made
  pub at : new.at ≡ old.at
  pub fails : old.made ≡ old.at → IsErr result
  pub stays : old.made ≡ old.at → new.inner ≡ old.inner
  pub passes : (old.made ≡ old.at → ⊥) → HasCause (faults old.inner) (faults new.inner) result
