-- How a walk is answered.
use Rattle.std.specs.Prelude.{◌≡◌, ℕ, Result, Ok, Err, true, false, Option, Some, None, Vec, IsErrOf}
use Rattle.std.specs.Global.{Global}
use Rattle.pager_core.specs.declared.error.PageError as pages
use Rattle.pager_core.specs.declared.error.PageError.TheVariants as page
use Rattle.page_cells.specs.declared.error.CellError as cells
use Rattle.page_cells.specs.declared.error.CellError.TheVariants as cell
use Rattle.tree_read.specs.declared.error.WalkError.{WalkError}
use Rattle.tree_read.specs.declared.error.WalkError.TheVariants.{Memory, Failed, Corrupt}
use Rattle.alter_disk.specs.declared.disk.Disk.{Ghosts}
use Rattle.alter_disk.specs.Faults.{HasCauseOf}
use Rattle.pager_core.specs.declared.pages.Pages.{Pages}
use Rattle.pager_core.specs.Pages.{StayAll, disk_of}
use Rattle.page_cells.specs.declared.cell.PageCells.{PageCells}
use Rattle.tree_read.specs.Nodes.{Nodes}
use Rattle.tree_read.specs.Walk.{Outcome, Done, Fault, Walked, is_next}

-- the error in place of one at a page
abbrev pub walk_error : pages.PageError → WalkError
walk_error (page.Memory fault) = Memory fault
walk_error page.Failed = Failed

-- the error in place of one at the cells of a page
abbrev pub cell_error : cells.CellError → ℕ → WalkError
cell_error (cell.Memory fault) page = Memory fault
cell_error cell.Kind page = Corrupt page
cell_error (cell.Bounds at) page = Corrupt page

-- the walk is answered by its first fault, unless memory ran out or a read failed
abbrev pub AnswersFault : WalkError → Outcome → Type 0
AnswersFault (Memory fault) outcome = Unit {0}
AnswersFault Failed outcome = Unit {0}
AnswersFault (Corrupt page) outcome = outcome ≡ Fault page

-- the result is what a walk comes to: what it found, or its first fault
abbrev pub Meets : {T : Type 0} → Result T WalkError → Walked → Outcome → Type 0
Meets (Ok value) walk outcome = outcome ≡ Done walk
Meets (Err error) walk outcome = AnswersFault error outcome

-- the result is the pages that a walk finds, or its first fault
abbrev pub MeetsPages : Result (Vec ℕ Global) WalkError → Outcome → Type 0
MeetsPages (Ok pages) outcome = (walk : Walked) × (outcome ≡ Done walk) × (pages.items ≡ walk.found)
MeetsPages (Err error) outcome = AnswersFault error outcome

-- the result is the cells of a page, or says that it has none, unless memory ran out or a read failed
abbrev pub AnswersNone : ℕ → WalkError → Option PageCells → Type 0
AnswersNone page (Memory fault) cells = Unit {0}
AnswersNone page Failed cells = Unit {0}
AnswersNone page (Corrupt at) cells = (at ≡ page) × (cells ≡ None)

abbrev pub MeetsNode : ℕ → Result PageCells WalkError → Option PageCells → Type 0
MeetsNode page (Ok found) cells = cells ≡ Some found
MeetsNode page (Err error) cells = AnswersNone page error cells

-- the result is the link of an overflow page behind which so many stand, or says that it is a wrong one, unless memory
-- ran out or a read failed
abbrev pub AnswersLink : Nodes → ℕ → ℕ → WalkError → Type 0
AnswersLink nodes page left (Memory fault) = Unit {0}
AnswersLink nodes page left Failed = Unit {0}
AnswersLink nodes page left (Corrupt at) = (at ≡ page) × (is_next nodes.count left (nodes.next page) ≡ false)

abbrev pub MeetsLink : Nodes → ℕ → ℕ → Result ℕ WalkError → Type 0
MeetsLink nodes page left (Ok next) = (nodes.next page ≡ next) × (is_next nodes.count left next ≡ true)
MeetsLink nodes page left (Err error) = AnswersLink nodes page left error

-- all pages stay, and the count of failed reads rose exactly where the answer is `Failed`
pub record OnlyReads {D T : Type 0} (disk : Ghosts D) (old new : Pages D) (result : Result T WalkError) : Type 0 where
  pub stay : StayAll disk old new
  pub cause : HasCauseOf Failed (disk.read_faults (disk_of old)) (disk.read_faults (disk_of new)) result

-- the answer is not that a read failed
abbrev pub NeverFails : {T : Type 0} → Result T WalkError → Type 0
NeverFails result = IsErrOf result Failed → ⊥
