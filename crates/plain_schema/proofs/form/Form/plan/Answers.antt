use Rattle.std.proofs.Common.{◌≡◌, ◌<◌, List, ℕ, None, Some, ap, arith, false, length, subst, sym, true, ◌∙◌}
use Rattle.std.specs.List.{list_any}
use Rattle.schema_rows.specs.declared.schema.SchemaRow.{SchemaRow}
use Rattle.plain_schema.specs.declared.table.Table.{Table}
use Rattle.plain_schema.specs.FirstForm.{rows_of}
use Rattle.plain_schema.specs.Plan.{IsPageWith, put_at}
use Rattle.plain_schema.specs.Step.{added, after, has_column, same_name}
use Rattle.plain_schema.proofs.Tables.{about_it, column_taken, no_room, no_table, too_many, unrefused}
use Rattle.plain_schema.proofs.form.Form.plan.Goals as goal

pub returns-in_default-clause-plan : goal.returns-in_default-clause-plan
returns-in_default-clause-plan c =
    let form = c.args.self.now in
    no_table form.shape.usable form.tables.items c.args.command.now c.in_default.ensures.none

pub returns-then-contains_folded-clause-plan : goal.returns-then-contains_folded-clause-plan
returns-then-contains_folded-clause-plan c =
    let form = c.args.self.now in
    let command = c.args.command.now in
    let table = c.index-table.result.now in
    let it = about_it command form.tables.items c.in-Some.place table c.in-Some.ensures.found c.index-table.ensures c.requires.ready.apart in
    let taken : has_column command table ≡ true =
    ap (λ (n : List ℕ). list_any (same_name n) table.columns) (sym c.as_slice.ensures) ∙ sym c.contains_folded.ensures ∙ c.if-contains_folded.true in
    column_taken form.shape.usable form.tables.items command table it.found taken

pub returns-then-len-ge-MAX_COLUMNS-clause-plan : goal.returns-then-len-ge-MAX_COLUMNS-clause-plan
returns-then-len-ge-MAX_COLUMNS-clause-plan c =
    let form = c.args.self.now in
    let command = c.args.command.now in
    let table = c.index-table.result.now in
    let it = about_it command form.tables.items c.in-Some.place table c.in-Some.ensures.found c.index-table.ensures c.requires.ready.apart in
    let other : has_column command table ≡ false =
    ap (λ (n : List ℕ). list_any (same_name n) table.columns) (sym c.as_slice.ensures) ∙ sym c.contains_folded.ensures ∙ c.if-contains_folded.false in
    too_many form.shape.usable form.tables.items command table it.found other (omega arith)

pub returns-in-Some-2-clause-plan : goal.returns-in-Some-2-clause-plan
returns-in-Some-2-clause-plan c =
    let form = c.args.self.now in
    let command = c.args.command.now in
    let tables = form.tables.items in
    let place = c.in-Some.place in
    let table = c.index-table.result.now in
    let it = about_it command tables place table c.in-Some.ensures.found c.index-table.ensures c.requires.ready.apart in
    let other : has_column command table ≡ false =
    ap (λ (n : List ℕ). list_any (same_name n) table.columns) (sym c.as_slice.ensures) ∙ sym c.contains_folded.ensures ∙ c.if-contains_folded.false in
    let few : length table.columns < 2000 = omega arith in
    let new : c.in_ok-table.table ≡ added command table = c.in_ok-table.ensures in
    let rows : put_at place c.in_ok-table.table.row (rows_of tables) ≡ rows_of (after command tables) =
    ap (λ (t : Table). put_at place t.row (rows_of tables)) new ∙ it.rows in
    let made = subst (IsPageWith form (put_at place c.in_ok-table.table.row (rows_of tables))) c.in-Some-2.is c.in_ok-page.ensures.page in
    let (built, page) = subst (λ (l : List SchemaRow). IsPageWith form l (Some c.in-Some-2.page)) rows made in
    (unrefused form.shape.usable tables command table it.found other few built, it.within, ap (λ (t : Table). put_at place t tables) new ∙ it.put, page)

pub returns-in-None-clause-plan : goal.returns-in-None-clause-plan
returns-in-None-clause-plan c =
    let form = c.args.self.now in
    let command = c.args.command.now in
    let tables = form.tables.items in
    let place = c.in-Some.place in
    let table = c.index-table.result.now in
    let it = about_it command tables place table c.in-Some.ensures.found c.index-table.ensures c.requires.ready.apart in
    let other : has_column command table ≡ false =
    ap (λ (n : List ℕ). list_any (same_name n) table.columns) (sym c.as_slice.ensures) ∙ sym c.contains_folded.ensures ∙ c.if-contains_folded.false in
    let few : length table.columns < 2000 = omega arith in
    let rows : put_at place c.in_ok-table.table.row (rows_of tables) ≡ rows_of (after command tables) =
    ap (λ (t : Table). put_at place t.row (rows_of tables)) c.in_ok-table.ensures ∙ it.rows in
    let made = subst (IsPageWith form (put_at place c.in_ok-table.table.row (rows_of tables))) c.in-None.is c.in_ok-page.ensures.page in
    no_room form.shape.usable tables command table it.found other few (subst (λ (l : List SchemaRow). IsPageWith form l None) rows made)
