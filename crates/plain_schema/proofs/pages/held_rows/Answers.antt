use Rattle.std.proofs.Common.{◌+◌, List, None, take, subst, sym}
use Rattle.std.specs.List.{AllByRecursion}
use Rattle.page_cells.specs.declared.cell.Cell.{Cell}
use Rattle.schema_rows.specs.declared.schema.SchemaRow.{SchemaRow}
use Rattle.plain_schema.specs.FirstPage.{HoldRows}
use Rattle.plain_schema.specs.Served.{IsShortRow}
use Rattle.common_laws.proofs.Each.{all_push}
use Rattle.plain_schema.proofs.PageLemmas.{AreFirst, held_next, first_more, no_rows, first_all}
use Rattle.plain_schema.proofs.pages.held_rows.Goals as goal

-- what a cell is read as where there is none
abbrev none : Cell
none = record { left = None; rowid = None; payload = 0; start = 0; end = 0; overflow = None }

pub returns-in-None-clause-only : goal.returns-in-None-clause-only
returns-in-None-clause-only c = λ list small held.
    no_rows c.args.page.now c.args.cells.now c.loop-cell.cell-index none c.in_ok-row.field-0 list c.loop-cell-test.true c.in_ok-row.ensures.only c.in-None.is small held

pub loop-cell-preserved : goal.loop-cell-preserved
loop-cell-preserved c =
    let page = c.args.page.now in
    let cells = c.args.cells.now in
    let i = c.loop-cell.cell-index in
    let rows = c.loop-cell.rows.items in
    let row = c.in-Some.row in
    let more = sym c.in_ok-push-in-Some.ensures.items in
    record {
      held = subst (λ (l : List SchemaRow). HoldRows page (take (i + 1) cells) l) more
          (held_next page cells i none rows row c.loop-cell.invariant.held c.loop-cell-test.true (rw c.in-Some.is at c.in_ok-row.ensures.found));
      short = subst (λ (l : List SchemaRow). AllByRecursion (IsShortRow page) l) more
          (all_push (IsShortRow page) rows row c.loop-cell.invariant.short (rw c.in-Some.is at c.in_ok-row.ensures.short));
      only = subst (λ (l : List SchemaRow). AreFirst page cells (i + 1) l) more
          (first_more page cells i none rows c.in_ok-row.field-0 row c.loop-cell.invariant.only c.loop-cell-test.true c.in_ok-row.ensures.only c.in-Some.is);
    }

pub returns-clause-only : goal.returns-clause-only
returns-clause-only c = λ list small held.
    first_all c.args.page.now c.args.cells.now c.loop-cell.cell-index c.loop-cell.rows.items list c.loop-cell.invariant.only c.loop-cell-test.false small held
