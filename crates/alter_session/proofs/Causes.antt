-- Counts of failures over several calls.
use Rattle.std.proofs.Common.{◌≡◌, ◌≢◌, Result, Err, arith}
use Rattle.alter_disk.specs.declared.disk.Disk.{Ghosts}
use Rattle.alter_disk.specs.declared.way.Way.{Way}
use Rattle.alter_disk.specs.declared.way.Way.TheVariants.{Read, Write}
use Rattle.alter_session.specs.declared.open_error.OpenError.{OpenError}
use Rattle.alter_session.specs.declared.open_error.OpenError.TheVariants.{Failed}
use Rattle.alter_session.specs.Opening.{HasOpenCauses}

-- both counts stayed, and the answer is no failure
pub unfailed : {D T : Type 0} (disk : Ghosts D) (old new : D) (result : Result T OpenError) → ((way : Way) → result ≢ Err (Failed way))
    → disk.read_faults new ≡ disk.read_faults old → disk.write_faults new ≡ disk.write_faults old → HasOpenCauses disk old new result
unfailed disk old new result none reads writes = record {
  reading = record { later = omega (arith, reads); failed = λ is. absurd (none Read is); only = λ _. reads };
  writing = record { later = omega (arith, writes); failed = λ is. absurd (none Write is); only = λ _. writes };
}
