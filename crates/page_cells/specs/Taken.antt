-- The places of a page that its cells take.
use Rattle.std.specs.Prelude.{◌≡◌, ◌≤◌, ℕ, ◌-◌, Bool, true, false, List, ◌++◌, take, drop, replicate}
use Rattle.std.specs.List.{AllWithin}
use Rattle.page_cells.specs.Cells.{FirstFault, IsCellAt, cell_end}
use Rattle.page_cells.specs.declared.cell.Cell.{Cell}
use Rattle.page_cells.specs.declared.error.CellError.{CellError}
use Rattle.page_cells.specs.declared.error.CellError.TheVariants.{Bounds, Kind, Memory}
use Rattle.page_cells.specs.declared.kind.Kind as kinds

-- the marks, with those from start to end set
abbrev pub marked : List Bool → ℕ → ℕ → List Bool
marked taken start end = take start taken ++ (replicate (end - start) true ++ drop end taken)

-- c stands at the place, from `low` on and within the usable bytes, on places that are not marked
pub record IsFreeCell (page : List ℕ) (kind : kinds.Kind) (usable low at : ℕ) (taken : List Bool) (c : Cell) : Type 0 where
  pub stands : IsCellAt page kind usable at c
  pub above : low ≤ at
  pub below : cell_end kind usable c ≤ usable
  pub free : AllWithin (λ mark. mark ≡ false) taken at (cell_end kind usable c)

-- want of memory, or the first fault
abbrev pub IsFault : List ℕ → Bool → kinds.Kind → ℕ → CellError → Type 0
IsFault page first kind usable (Memory fault) = Unit {0}
IsFault page first kind usable Kind = ⊥
IsFault page first kind usable (Bounds at) = FirstFault page first kind usable at
