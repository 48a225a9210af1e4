use Rattle.std.proofs.Common.{◌∙◌, ap, sym, subst, true, List}
use Rattle.std.specs.List.{AllByRecursion}
use Rattle.page_cells.specs.declared.cell.Cell.{Cell}
use Rattle.page_cells.specs.declared.cell.PageCells.{PageCells}
use Rattle.page_cells.specs.declared.kind.Kind.TheVariants.{TableLeaf}
use Rattle.page_cells.specs.Cells.{HasCells}
use Rattle.plain_schema.specs.FirstPage.{IsOnPage, leaf_of}
use Rattle.plain_schema.proofs.PageLemmas.{within, as_leaf}
use Rattle.plain_schema.proofs.pages.first_cells.Goals as goal

pub returns-in-TableLeaf-clause-found : goal.returns-in-TableLeaf-clause-found
returns-in-TableLeaf-clause-found c =
    subst (λ (cells : List Cell). HasCells c.args.page.now true TableLeaf c.args.usable (leaf_of cells)) (sym c.into_vec.ensures)
    (as_leaf c.args.page.now c.args.usable c.in-Ok.found c.in-TableLeaf.is c.in-Ok.ensures.found)

pub returns-in-TableLeaf-clause-within : goal.returns-in-TableLeaf-clause-within
returns-in-TableLeaf-clause-within c =
    subst (λ (cells : List Cell). AllByRecursion (IsOnPage c.args.page.now) cells) (sym c.into_vec.ensures)
    (within c.args.page.now c.args.usable c.in-Ok.found.cells c.requires
    (as_leaf c.args.page.now c.args.usable c.in-Ok.found c.in-TableLeaf.is c.in-Ok.ensures.found))

pub returns-in-TableLeaf-clause-only : goal.returns-in-TableLeaf-clause-only
returns-in-TableLeaf-clause-only c = λ list has.
    c.into_vec.ensures ∙ ap (λ (found : PageCells). found.cells) (c.in-Ok.ensures.only TableLeaf (leaf_of list) has)

pub returns-in-Err-Bounds-clause-only : goal.returns-in-Err-Bounds-clause-only
returns-in-Err-Bounds-clause-only c = λ list has. rw c.in-Err-Bounds.field-0-is at (c.in-Err-Bounds.ensures.only TableLeaf (leaf_of list) has)

pub returns-in-Err-Kind-clause-only : goal.returns-in-Err-Kind-clause-only
returns-in-Err-Kind-clause-only c = λ list has. rw c.in-Err-Kind.field-0-is at (c.in-Err-Kind.ensures.only TableLeaf (leaf_of list) has)
