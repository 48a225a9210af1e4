use Rattle.std.proofs.Common.{◌≡◌, ◌<◌, ◌≤◌, ◌-◌, ◌++◌, ◌^◌, ◌∷◌, [], All, List, ℕ, ap, arith, length, subst, sym}
use Rattle.std.proofs.lemmas.List.Elements.{All-push}
use Rattle.page_cells.specs.declared.kind.Kind.TheVariants.{TableLeaf}
use Rattle.page_cells.specs.Write.{IsWholeCell}
use Rattle.schema_rows.specs.declared.schema.SchemaRow.{SchemaRow}
use Rattle.schema_rows.specs.Schema.{row_cell, row_record}
use Rattle.plain_schema.specs.Plan.{IsSmallRow}
use Rattle.plain_schema.proofs.Written.{whole_row}
use Rattle.plain_schema.proofs.form.push_cell.Goals as goal

-- cells that are whole, and that of a row behind them
pushed : (usable : ℕ) (row : SchemaRow) (cells new : List (List ℕ)) (cell : List ℕ) → IsSmallRow row → row.rowid < 2 ^ 64
    → length (row_record row) ≤ usable - 35 → cell ≡ row_cell row → new ≡ cells ++ cell ∷ [] → All (IsWholeCell TableLeaf usable) cells
    → All (IsWholeCell TableLeaf usable) new
pushed usable row cells new cell small id local is more whole =
    let root = small.root in
    let one = whole_row usable row (record { root = omega arith; name = small.name; table = small.table; text = small.text }) id local in
    subst (λ (l : List (List ℕ)). All (IsWholeCell TableLeaf usable) l) (sym more)
    (All-push (IsWholeCell TableLeaf usable) cells cell whole (subst (IsWholeCell TableLeaf usable) (sym is) one))

pub returns-clause-whole : goal.returns-clause-whole
returns-clause-whole c = λ yes.
    let row = c.args.row.now in
    let usable = c.args.usable in
    let is : c.in_ok-record.record ≡ row_record row = c.in_ok-record.ensures.written in
    let local : length (row_record row) ≤ usable - 35 = omega (arith, ap length is) in
    pushed usable row c.args.cells.now.items c.push.new.self.items c.in_ok-cell.field-0 c.requires.small (omega arith) local
    c.in_ok-cell.ensures c.in_ok-push.ensures.items c.requires.whole
