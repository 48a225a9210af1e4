use Rattle.std.proofs.Common.{◌≡◌, ◌≤◌, ◌++◌, length}
use Rattle.std.specs.List.{AllByRecursion}
use Rattle.std.specs.Vec.Iter.{into_iter_items, into_iter_len}
use Rattle.plain_schema.specs.FirstForm.{IsSpelled, rows_of}
use Rattle.plain_schema.proofs.FormLemmas.{AreFirst}
use Rattle.plain_schema.proofs.table.tables_of.Given as goal

-- the tables so far are those of the rows so far, and the only ones
abbrev pub invariant-loop-row : goal.invariant-loop-row
invariant-loop-row l = record {
  rest : l.yielded ++ into_iter_items l.row-iterator ≡ l.fn.rows.items;
  left : into_iter_len l.row-iterator ≡ length (into_iter_items l.row-iterator);
  rows : rows_of l.tables.items ≡ l.yielded;
  spelled : AllByRecursion IsSpelled l.tables.items;
  inside : AllByRecursion (λ table. table.columns_end ≤ length table.row.text) l.tables.items;
  only : AreFirst l.fn.rows.items l.yielded l.tables.items;
}
