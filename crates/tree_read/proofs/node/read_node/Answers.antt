use Rattle.std.proofs.Common.{◌≡◌, ℕ, ◌==◌, Err, sym, ap, ◌∙◌, subst}
use Rattle.common_laws.specs.Results.{Yields}
use Rattle.pager_core.specs.declared.file_shape.FileShape.{FileShape}
use Rattle.page_cells.specs.declared.cell.PageCells.{PageCells}
use Rattle.page_cells.specs.declared.kind.Kind.{Kind}
use Rattle.page_cells.specs.Cells.{HasCells}
use Rattle.page_cells.specs.Errors.{IsMemory}
use Rattle.tree_read.specs.declared.error.WalkError.{WalkError}
use Rattle.tree_read.specs.Answers.{AnswersNone}
use Rattle.tree_read.proofs.Read.{answers_none}
use Rattle.tree_read.proofs.node.read_node.Goals as goal

pub returns-in-Err-clause-node : goal.returns-in-Err-clause-node
returns-in-Err-clause-node g c = λ nodes has.
    let page = c.args.page in
    let bytes = c.loaded.result.now in
    let usable : nodes.usable ≡ c.shape-usable.result.usable = has.usable ∙ ap (λ (s : FileShape). s.usable) (sym c.shape-usable.ensures.shape) in
    let only : (kind : Kind) (found : PageCells) → HasCells bytes (page == 1) kind nodes.usable found → Yields IsMemory (λ f. f ≡ found) (Err c.in-Err.fault) =
    λ kind found h. c.in-Err.ensures.only kind found (subst (λ (n : ℕ). HasCells bytes (page == 1) kind n found) usable h) in
    subst (λ (e : WalkError). AnswersNone page e (nodes.cells page)) (sym c.no_cells.ensures)
    (answers_none nodes page bytes c.in-Err.fault (has.read page bytes c.loaded.ensures.bytes) only)
