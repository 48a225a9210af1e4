-- What is said of files where a disk tells them.
use Rattle.std.proofs.Common.{◌≡◌, Option, Some, Result, Ok, Err, IfOk, IfSome}
use Rattle.common_laws.proofs.Options.{if_some}

-- what is said of what is told is said of the files that are told
pub told_ok : {X T E : Type 0} (o : Option X) (P : T → X → Type 0) (result : Result T E) → IfOk result (λ n. IfSome o (P n)) → IfOk result (λ n. (f : X) → o ≡ Some f → P n f)
told_ok o P (Ok n) said = λ f is. if_some (P n) o f is said
told_ok o P (Err e) said = tt
