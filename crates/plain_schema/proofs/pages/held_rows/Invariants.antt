use Rattle.std.proofs.Common.{take}
use Rattle.std.specs.List.{AllByRecursion}
use Rattle.plain_schema.specs.FirstPage.{HoldRows}
use Rattle.plain_schema.specs.Served.{IsShortRow}
use Rattle.plain_schema.proofs.PageLemmas.{AreFirst}
use Rattle.plain_schema.proofs.pages.held_rows.Given as goal

-- the cells so far hold the rows so far, which are short, and the only ones
abbrev pub invariant-loop-cell : goal.invariant-loop-cell
invariant-loop-cell l = record {
  held : HoldRows l.page (take l.cell-index l.cells) l.rows.items;
  short : AllByRecursion (IsShortRow l.page) l.rows.items;
  only : AreFirst l.page l.cells l.cell-index l.rows.items;
}
