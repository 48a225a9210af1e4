-- What `cells` answers where it gives no cells.
use Rattle.std.specs.Prelude.{◌≡◌, ℕ, Result, Ok, Err}
use Rattle.page_cells.specs.declared.cell.PageCells.{PageCells}
use Rattle.page_cells.specs.declared.error.CellError.{CellError}
use Rattle.page_cells.specs.declared.error.CellError.TheVariants.{Bounds, Kind, Memory}

-- the error is want of memory
abbrev pub IsMemory : CellError → Type 0
IsMemory (Memory fault) = Unit {0}
IsMemory Kind = ⊥
IsMemory (Bounds at) = ⊥

-- the result is a fault at this place, or want of memory
abbrev pub IsFaultAt : ℕ → Result PageCells CellError → Type 0
IsFaultAt place (Ok found) = ⊥
IsFaultAt place (Err (Memory fault)) = Unit {0}
IsFaultAt place (Err Kind) = ⊥
IsFaultAt place (Err (Bounds at)) = at ≡ place

-- a place that was answered as a fault is one
abbrev pub OnBounds : Result PageCells CellError → (ℕ → Type 0) → Type 0
OnBounds (Ok found) P = Unit {0}
OnBounds (Err (Memory fault)) P = Unit {0}
OnBounds (Err Kind) P = Unit {0}
OnBounds (Err (Bounds at)) P = P at
