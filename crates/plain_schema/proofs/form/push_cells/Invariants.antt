use Rattle.std.proofs.Common.{◌≡◌, ◌++◌, map, take, true, All}
use Rattle.page_cells.specs.declared.kind.Kind.TheVariants.{TableLeaf}
use Rattle.page_cells.specs.Write.{IsWholeCell}
use Rattle.schema_rows.specs.Schema.{row_cell}
use Rattle.plain_schema.specs.FirstForm.{rows_of}
use Rattle.plain_schema.specs.Step.{are_local}
use Rattle.plain_schema.proofs.form.push_cells.Given as goal

-- the cells of the tables so far were added, each a whole one, and their payloads are all local
abbrev pub invariant-loop-table : goal.invariant-loop-table
invariant-loop-table l = record {
  local : are_local l.usable (rows_of (take l.table-index l.tables)) ≡ true;
  cells : l.cells.items ≡ l.fn.cells.items ++ map row_cell (rows_of (take l.table-index l.tables));
  whole : All (IsWholeCell TableLeaf l.usable) l.cells.items;
}
