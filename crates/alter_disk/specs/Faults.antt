-- Counts of faults, and results whose faults have a cause.
use Rattle.std.specs.Prelude.{◌≡◌, ℕ, ◌+◌, ◌-◌, ◌^◌, ◌≤◌, min, Result, OnOk, OnErr, IsErrOf}
use Rattle.alter_disk.specs.declared.fault.OpenFault.{OpenFault}
use Rattle.alter_disk.specs.declared.fault.OpenFault.TheVariants.{Failed}

-- a count rose, or stands at its type's end
abbrev pub Rose : ℕ → ℕ → Type 0
Rose before now = min (before + 1) (2 ^ 64 - 1) ≤ now

-- the count rose where the call failed, and stayed where it did not
pub record HasCause {T E : Type 0} (before now : ℕ) (result : Result T E) : Type 0 where
  pub later : before ≤ now
  pub failed : OnErr result (Rose before now)
  pub only : OnOk result (now ≡ before)

-- the count rose where the result is this fault, and stayed where it is not
pub record HasCauseOf {T E : Type 0} (fault : E) (before now : ℕ) (result : Result T E) : Type 0 where
  pub later : before ≤ now
  pub failed : IsErrOf result fault → Rose before now
  pub only : (IsErrOf result fault → ⊥) → now ≡ before

-- the count rose where an opening failed for another reason than want of memory, and else it stayed
abbrev pub HasOpenCause : {T : Type 0} → ℕ → ℕ → Result T OpenFault → Type 0
HasOpenCause before now result = HasCauseOf Failed before now result
