-- Pages that stay, and their nodes.
use Rattle.std.proofs.Common.{◌≡◌, ◌≤◌, ℕ, ◌==◌, List, Result, Err, refl, sym, ap, ◌∙◌, subst, arith}
use Rattle.alter_disk.specs.Faults.{HasCauseOf}
use Rattle.alter_disk.specs.declared.disk.Disk.{Ghosts}
use Rattle.alter_disk.proofs.Moments.{reads_none, reads_on}
use Rattle.pager_core.specs.declared.file_shape.FileShape.{FileShape}
use Rattle.pager_core.specs.declared.pages.Pages.{Pages}
use Rattle.pager_core.specs.Pages.{IsPage, StayAll, disk_of}
use Rattle.tree_read.specs.declared.error.WalkError.{WalkError}
use Rattle.tree_read.specs.declared.error.WalkError.TheVariants.{Failed}
use Rattle.common_laws.specs.Results.{Yields}
use Rattle.page_cells.specs.declared.cell.PageCells.{PageCells}
use Rattle.page_cells.specs.declared.kind.Kind.{Kind}
use Rattle.page_cells.specs.declared.error.CellError.{CellError}
use Rattle.page_cells.specs.declared.error.CellError.TheVariants as cell
use Rattle.page_cells.specs.Cells.{HasCells}
use Rattle.page_cells.specs.Errors.{IsMemory}
use Rattle.tree_read.specs.Answers.{AnswersNone, NeverFails, OnlyReads, cell_error}
use Rattle.tree_read.specs.Nodes.{HasNodes, IsNode, Nodes}

-- a page without cells is answered so
pub answers_none : (nodes : Nodes) (page : ℕ) (bytes : List ℕ) (fault : CellError) → IsNode nodes page bytes
    → ((kind : Kind) (c : PageCells) → HasCells bytes (page == 1) kind nodes.usable c → Yields IsMemory (λ found. found ≡ c) (Err fault)) → AnswersNone page (cell_error fault page) (nodes.cells page)
answers_none nodes page bytes (cell.Memory fault) is only = tt
answers_none nodes page bytes cell.Kind is only = (refl, is.none (λ c has. only c.kind c has))
answers_none nodes page bytes (cell.Bounds at) is only = (refl, is.none (λ c has. only c.kind c has))

-- and is no failed read
pub not_failed : (fault : CellError) (page : ℕ) → cell_error fault page ≡ Failed → ⊥
not_failed (cell.Memory fault) page is = cc
not_failed cell.Kind page is = cc
not_failed (cell.Bounds at) page is = cc

module _ {D : Type 0} (disk : Ghosts D) where
  -- no read, and one run of reads and then another
  pub stay_none : (pages : Pages D) → StayAll disk pages pages
  stay_none pages = record {
    shape = refl;
    before = refl;
    pages = λ n. record { kept = λ bytes is. is; known = λ bytes is. is; original = λ bytes is. is; changed = refl };
    reads = reads_none disk (disk_of pages);
  }

  pub stay_on : (old mid new : Pages D) → StayAll disk old mid → StayAll disk mid new → StayAll disk old new
  stay_on old mid new first then_ = record {
    shape = then_.shape ∙ first.shape;
    before = then_.before ∙ first.before;
    pages = λ n. record {
      kept = λ bytes is. (then_.pages n).kept bytes ((first.pages n).kept bytes is);
      known = λ bytes is. (then_.pages n).known bytes ((first.pages n).known bytes is);
      original = λ bytes is. (then_.pages n).original bytes ((first.pages n).original bytes is);
      changed = (then_.pages n).changed ∙ (first.pages n).changed;
    };
    reads = reads_on disk (disk_of old) (disk_of mid) (disk_of new) first.reads then_.reads;
  }

  -- the nodes of pages that stay are those before
  pub nodes_before : (old new : Pages D) (nodes : Nodes) → StayAll disk old new → HasNodes nodes new → HasNodes nodes old
  nodes_before old new nodes stay has = record {
    count = has.count ∙ ap (λ (s : FileShape). s.count) stay.shape;
    usable = has.usable ∙ ap (λ (s : FileShape). s.usable) stay.shape;
    read = λ n bytes is. has.read n bytes ((stay.pages n).kept bytes is);
  }

  -- a page stays one
  pub page_stays : (old new : Pages D) (n : ℕ) → StayAll disk old new → IsPage old n → IsPage new n
  page_stays old new n stay is = (is.0, subst (λ (s : FileShape). n ≤ s.count) (sym stay.shape) is.1)

  -- reads behind others that did not fail
  pub reads_behind : {T : Type 0} (old mid new : Pages D) (result : Result T WalkError) → StayAll disk old mid → disk.read_faults (disk_of mid) ≡ disk.read_faults (disk_of old)
      → OnlyReads disk mid new result → OnlyReads disk old new result
  reads_behind old mid new result stay faultless reads = record {
    stay = stay_on old mid new stay reads.stay;
    cause = subst (λ (count : ℕ). HasCauseOf Failed count (disk.read_faults (disk_of new)) result) faultless reads.cause;
  }

  -- no read failed
  pub reads_quiet : {T : Type 0} (old new : Pages D) (result : Result T WalkError) → StayAll disk old new → disk.read_faults (disk_of new) ≡ disk.read_faults (disk_of old)
      → NeverFails result → OnlyReads disk old new result
  reads_quiet old new result stay faultless quiet = record {
    stay = stay;
    cause = record { later = omega (arith, faultless); failed = λ is. absurd (quiet is); only = λ not. faultless };
  }
