use Rattle.std.proofs.Common.{length, arith, ap, refl}
use Rattle.schema_rows.proofs.RowFound.{one_row, texts-le}
use Rattle.schema_rows.proofs.schema.read_schema_row.Goals as goal

pub returns-in_default-clause-only : goal.returns-in_default-clause-only
returns-in_default-clause-only c = λ row at limit is. c.in_default.ensures.none row.name row.table row.root row.text limit is

pub returns-in_err-name-clause-bad : goal.returns-in_err-name-clause-bad
returns-in_err-name-clause-bad c = λ none.
    absurd (none (record { rowid = c.args.rowid; name = c.in-Some.name.now; table = c.in-Some.table.now; root = c.in-Some.root; text = c.in-Some.text.now }) refl c.in-Some.ensures.found.0 c.in-Some.ensures.found.1)

pub returns-in_err-table-clause-bad : goal.returns-in_err-table-clause-bad
returns-in_err-table-clause-bad c = λ none.
    absurd (none (record { rowid = c.args.rowid; name = c.in-Some.name.now; table = c.in-Some.table.now; root = c.in-Some.root; text = c.in-Some.text.now }) refl c.in-Some.ensures.found.0 c.in-Some.ensures.found.1)

pub returns-in_err-text-clause-bad : goal.returns-in_err-text-clause-bad
returns-in_err-text-clause-bad c = λ none.
    absurd (none (record { rowid = c.args.rowid; name = c.in-Some.name.now; table = c.in-Some.table.now; root = c.in-Some.root; text = c.in-Some.text.now }) refl c.in-Some.ensures.found.0 c.in-Some.ensures.found.1)

pub returns-clause-lengths : goal.returns-clause-lengths
returns-clause-lengths c =
    omega (
      arith,
      texts-le c.args.payload.now c.in-Some.name.now c.in-Some.table.now c.in-Some.root c.in-Some.text.now c.in-Some.ensures.found.1,
      ap length c.in_ok-name.ensures,
      ap length c.in_ok-table.ensures,
      ap length c.in_ok-text.ensures,
    )

pub returns-clause-only : goal.returns-clause-only
returns-clause-only c = λ row at limit is.
    one_row c.args.payload.now c.args.rowid c.in-Some.root c.in_ok-name.name c.in_ok-table.table c.in_ok-text.text c.in-Some.name.now c.in-Some.table.now c.in-Some.text.now row
    c.in_ok-name.ensures c.in_ok-table.ensures c.in_ok-text.ensures c.in-Some.ensures.found.1 at is

pub returns-clause-bad : goal.returns-clause-bad
returns-clause-bad c = λ none.
    absurd (none (record { rowid = c.args.rowid; name = c.in-Some.name.now; table = c.in-Some.table.now; root = c.in-Some.root; text = c.in-Some.text.now }) refl c.in-Some.ensures.found.0 c.in-Some.ensures.found.1)
