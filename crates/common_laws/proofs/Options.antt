-- What a value that may be missing tells.
use Rattle.std.proofs.Common.{◌≡◌, Bool, true, false, if◌then◌else◌, Option, Some, None, option_map, is_some, refl, subst, IfSome, IfNone}
use Rattle.std.proofs.lemmas.Bool.{false≢true}
use Rattle.std.specs.Option.{IsSomeAnd}

-- what gave something by a function was given something
pub mapped : {A B : Type 0} (f : A → B) (x : Option A) (r : B) → option_map f x ≡ Some r → (a : A) × (x ≡ Some a) × (f a ≡ r)
mapped f None r e = absurd (cc)
mapped f (Some a) r e = (a, refl, cc)

-- what gave something under a test passed the test
pub chosen : {A : Type 0} (b : Bool) (x : Option A) (r : A) → (if b then x else None) ≡ Some r → (b ≡ true) × (x ≡ Some r)
chosen true x r e = (refl, e)
chosen false x r e = absurd (cc)

-- what is said of a value that is there
pub some_so : {A : Type 0} (P : A → Type 0) (o : Option A) → is_some o ≡ true → IfSome o P → (a : A) × P a
some_so P None some so = absurd (false≢true some)
some_so P (Some a) some so = (a, so)

-- what is said of a value that is this one
pub if_some : {A : Type 0} (P : A → Type 0) (o : Option A) (a : A) → o ≡ Some a → IfSome o P → P a
if_some {A} P o a is so = let Q : Option A → Type 0 = λ v. IfSome v P in subst Q is so

-- what holds anyway holds where there is no value, and where there is one
pub if_none_so : {A : Type 0} (P : Type 0) (o : Option A) → P → IfNone o P
if_none_so P None so = so
if_none_so P (Some a) so = tt

pub if_some_so : {A : Type 0} (P : Type 0) (o : Option A) → P → IfSome o (λ _. P)
if_some_so P None so = tt
if_some_so P (Some a) so = so

-- the value of which something is said is this one
pub read_some : {A : Type 0} (P : A → Type 0) (o : Option A) (a : A) → o ≡ Some a → IsSomeAnd o P → P a
read_some {A} P o a is read = let Q : Option A → Type 0 = λ v. IsSomeAnd v P in subst Q is read

-- a value of which something is said is there
pub read_none : {A : Type 0} (P : A → Type 0) (o : Option A) → o ≡ None → IsSomeAnd o P → ⊥
read_none {A} P o is read = let Q : Option A → Type 0 = λ v. IsSomeAnd v P in subst Q is read
