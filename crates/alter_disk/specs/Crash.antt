-- What a crash may leave of a disk's files, and how it goes on with time.
use Rattle.std.specs.Prelude.{◌⊎◌, ◌≤◌, ℕ}
use Rattle.alter_disk.specs.Files.{Files}

-- files that a crash left before a step, and what the step made of them
abbrev pub After : (Files → Files → Type 0) → (Files → Type 0) → Files → Type 0
After Step Before c = (d : Files) × Before d × Step d c

-- a crash leaves nothing that it might not have left before
abbrev pub NoMore : (Files → Type 0) → (Files → Type 0) → Type 0
NoMore old new = (c : Files) → new c → old c

-- time went on: a crash since t might have left what it might have left before, or what it may leave now
pub record Elapses (before now : ℕ) (past since : ℕ → Files → Type 0) (left : Files → Type 0) : Type 0 where
  pub later : before ≤ now
  pub nothing_else : (t : ℕ) (c : Files) → t ≤ before → since t c → past t c ⊎ left c
  pub keeps : (t : ℕ) (c : Files) → t ≤ before → past t c → since t c
