-- What a call gives unless an error comes that is always allowed, such as want of memory.
use Rattle.std.specs.Prelude.{Result, Ok, Err}

-- the result is a value of which the fact holds, unless its error is a free one
abbrev pub Yields : {T E : Type 0} → (E → Type 0) → (T → Type 0) → Result T E → Type 0
Yields IsFree P (Ok value) = P value
Yields IsFree P (Err error) = IsFree error

-- any error is free, as where the only one is want of memory
abbrev pub AnyError : {E : Type 0} → E → Type 0
AnyError error = Unit {0}
