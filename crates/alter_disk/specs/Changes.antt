-- What the calls of a disk do to its files, and what a call that is cut short may have done.
use Rattle.std.specs.Prelude.{◌≡◌, ℕ, ◌+◌, ◌-◌, ◌≤◌, min, max, List, ◌++◌, length, take, drop, replicate, Option, Some, None, IfSome, IsSomeAnd, option_map}
use Rattle.alter_disk.specs.declared.which.Which.{Which}
use Rattle.alter_disk.specs.Files.{Files, file, with_file, other_of}

-- a fact on what is told, which holds where nothing is
abbrev pub IfTold : {X : Type 0} → Option X → (X → Type 0) → Type 0
IfTold told P = IfSome told P

-- a read of `bytes` at `at` put `n` of them into a buffer: all that it has room for, or all up to the end
pub record ReadsAt (bytes : List ℕ) (at n : ℕ) (before after : List ℕ) : Type 0 where
  pub count : n ≡ min (length before) (length bytes - at)
  pub buffer : after ≡ take (length before) (drop at bytes) ++ drop n before

-- the first `n` of these bytes came into the front of a buffer
pub record Gives (bytes : List ℕ) (n : ℕ) (before after : List ℕ) : Type 0 where
  pub within : n ≤ length bytes
  pub buffer : after ≡ take n bytes ++ drop n before

-- the bytes with a piece written at `at`, and zeros between the old end and a place past it
abbrev pub overwritten : List ℕ → ℕ → List ℕ → List ℕ
overwritten old at piece = take at (old ++ replicate (at - length old) 0) ++ piece ++ drop (at + length piece) old

-- one file has the piece at `at`, and the other is the same
abbrev pub Written : Which → ℕ → List ℕ → Option Files → Option Files → Type 0
Written which at piece old new = new ≡ option_map (λ f. with_file which (overwritten (file which f) at piece) f) old

-- one file has its first `len` bytes alone, and the other is the same
abbrev pub CutTo : Which → ℕ → Option Files → Option Files → Type 0
CutTo which len old new = new ≡ option_map (λ f. with_file which (take len (file which f)) f) old

-- a write of `n` bytes at `at` was cut short: any bytes in the range and past the old end, the same elsewhere
pub record Torn (at n : ℕ) (old new : List ℕ) : Type 0 where
  pub before : take (min at (length old)) new ≡ take at old
  pub behind : drop (at + n) new ≡ drop (at + n) old
  pub no_shorter : length old ≤ length new
  pub no_longer : length new ≤ max (length old) (at + n)

-- a cut to `n` bytes was cut short: some length between
pub record CutShort (n : ℕ) (old new : List ℕ) : Type 0 where
  pub no_shorter : min n (length old) ≤ length new
  pub front : take (length new) old ≡ new

-- one file changed so, and the other is the same
pub record ChangesOne (which : Which) (Step : List ℕ → List ℕ → Type 0) (old new : Files) : Type 0 where
  pub one : Step (file which old) (file which new)
  pub other : file (other_of which) new ≡ file (other_of which) old

-- a change of what is told, which stays told
abbrev pub InTold : (Files → Files → Type 0) → Option Files → Option Files → Type 0
InTold Step None new = new ≡ None
InTold Step (Some f) new = IsSomeAnd new (Step f)

-- a write to one file was cut short
abbrev pub TornIn : Which → ℕ → ℕ → Option Files → Option Files → Type 0
TornIn which at n = InTold (ChangesOne which (Torn at n))

-- a cut of one file was cut short
abbrev pub CutIn : Which → ℕ → Option Files → Option Files → Type 0
CutIn which n = InTold (ChangesOne which (CutShort n))
