-- What contracts see of a `FuseDisk`, and which of its calls fail.
use Rattle.std.specs.Prelude.{◌≡◌, ◌<◌, ℕ, ◌-◌, ◌==◌, Bool, ◌&&◌, true, false, not, is_ok, if◌then◌else◌, Result, IsErr}
use Rattle.alter_disk.specs.declared.disk.Disk.{Ghosts}
use Rattle.alter_disk.specs.declared.fault.OpenFault.{OpenFault}
use Rattle.alter_disk.specs.Faults.{HasCause, HasOpenCause}
use Rattle.alter_disk.specs.Rest.{KeepsRest}

pub record Fused (D : Type 0) : Type 0 where
  pub inner : D
  -- how many calls it still passes
  pub left : ℕ
  -- `open` was called, and it was refused
  pub called : Bool
  pub refused : Bool
  -- how many readings and writings were refused
  pub reads_refused : ℕ
  pub writes_refused : ℕ

-- a disk that was not called
abbrev pub unspent : {D : Type 0} → D → ℕ → Fused D
unspent inner k = record { inner = inner; left = k; called = false; refused = false; reads_refused = 0; writes_refused = 0 }

-- whether it was called, given of what disks that is so
abbrev pub is_called : {D : Type 0} → (D → Bool) → Fused D → Bool
is_called called f = if f.left == 0 then f.called else called f.inner

-- whether it was opened, given of what disks that is so
abbrev pub is_open : {D : Type 0} → (D → Bool) → Fused D → Bool
is_open opened f = not f.refused && opened f.inner

-- a call: where no call is left it fails and leaves the inner disk, and else it is a call of the inner disk, of which `Passed` holds with the same answer
pub record Burns {D T E : Type 0} (Passed : D → D → Result T E → Type 0) (old new : Fused D) (result : Result T E) : Type 0 where
  pub left : new.left ≡ old.left - 1
  pub fails : old.left ≡ 0 → IsErr result
  pub stays : old.left ≡ 0 → new.inner ≡ old.inner
  pub passes : 0 < old.left → Passed old.inner new.inner result

-- what a disk's own opening keeps and counts
pub record Opens {D : Type 0} (disk : Ghosts D) (old new : D) (result : Result Unit OpenFault) : Type 0 where
  pub called : disk.called new ≡ true
  pub opened : disk.opened new ≡ is_ok result
  pub other : disk.write_faults new ≡ disk.write_faults old
  pub cause : HasOpenCause (disk.read_faults old) (disk.read_faults new) result

-- what a disk's own reading call keeps and counts: it fails exactly where its count of readings rises
pub record ReadsOn {D T E : Type 0} (disk : Ghosts D) (old new : D) (result : Result T E) : Type 0 where
  pub rest : KeepsRest disk.label disk.called disk.opened disk.write_faults old new
  pub cause : HasCause (disk.read_faults old) (disk.read_faults new) result

-- the same of a writing call
pub record WritesOn {D T E : Type 0} (disk : Ghosts D) (old new : D) (result : Result T E) : Type 0 where
  pub rest : KeepsRest disk.label disk.called disk.opened disk.read_faults old new
  pub cause : HasCause (disk.write_faults old) (disk.write_faults new) result
