-- A form stays ready.
use Rattle.std.proofs.Common.{◌≡◌, ◌≤◌, ℕ, ◌+◌, ◌-◌, Bool, true, false, if◌then◌else◌, nat_le, List, [], ◌∷◌, ◌++◌, length, take, drop, codes, sym, ◌∙◌, ap, subst, arith, length-append, length-drop}
use Rattle.std.proofs.lemmas.Bool.{and_parts}
use Rattle.std.proofs.lemmas.Bool.Decides.{nat_tests}
use Rattle.std.proofs.lemmas.List.{length-take-le}
use Rattle.std.specs.List.{AllByRecursion, AllPairs, find}
use Rattle.schema_rows.specs.Schema.{row_record}
use Rattle.schema_rows.proofs.RowWritten.{row_record-ge}
use Rattle.plain_sql.specs.declared.script.Command.{Command}
use Rattle.plain_schema.specs.declared.form.Form.{Form}
use Rattle.plain_schema.specs.declared.table.Table.{Table}
use Rattle.plain_schema.specs.declared.plan.Plan.{Plan}
use Rattle.plain_schema.specs.declared.plan.Plan.TheVariants as plans
use Rattle.plain_schema.specs.FirstForm.{AreApart, rows_of}
use Rattle.plain_schema.specs.Step.{added, after, are_local, is_named, with_column}
use Rattle.plain_schema.specs.Served.{IsReady, IsReadyTable, IsSoundShape}
use Rattle.plain_schema.specs.Plan.{IsTaken, KeepsExtent, Plans}
use Rattle.plain_schema.proofs.Retold.{apart_after}
use Rattle.plain_schema.proofs.Tables.{unbroken}

-- a table as a command may leave it
abbrev left_table : Bool → Command → Table → Table
left_table named command table = if named then added command table else table

-- a text with `, ` and a name in it
length-with_column : (text : List ℕ) (end : ℕ) (column : List ℕ) → end ≤ length text → length (with_column text end column) ≡ length text + 2 + length column
length-with_column text end column within =
    let front = length-take-le end text within in
    let behind = length-drop end text in
    let whole = length-append (take end text ++ codes ", " ++ column) (drop end text) in
    let both = length-append (take end text ++ codes ", ") column in
    let comma : length (take end text ++ codes ", ") ≡ length (take end text) + 2 = length-append (take end text) (codes ", ") in
    whole ∙ omega (arith, both, comma, front, behind, within)

-- it is as ready as it was, where its record is small
left_ready : (named : Bool) (command : Command) (table : Table) → IsReadyTable table → length (row_record (left_table named command table).row) ≤ 65536
    → IsReadyTable (left_table named command table)
left_ready false command table ready small = ready
left_ready true command table ready small =
    let long = length-with_column table.row.text table.columns_end command.column ready.inside in
    let whole = row_record-ge (added command table).row in
    record {
      inside = omega (arith, long, ready.inside);
      root = ready.root;
      name = ready.name;
      owner = ready.owner;
      text = omega (arith, whole, small);
    }

-- so are all the tables, where their payloads are local
left_all : (usable : ℕ) (command : Command) (tables : List Table) → usable ≤ 65536 → AllByRecursion IsReadyTable tables
    → are_local usable (rows_of (after command tables)) ≡ true → AllByRecursion IsReadyTable (after command tables)
left_all usable command [] small ready local = tt
left_all usable command (table ∷ tables) small ready local =
    let both = and_parts (nat_le (length (row_record (left_table (is_named command table) command table).row)) (usable - 35))
    (are_local usable (rows_of (after command tables))) local in
    let fits : length (row_record (left_table (is_named command table) command table).row) ≤ 65536 = below _ _ both.0 small in
    (left_ready (is_named command table) command table ready.0 fits, left_all usable command tables small ready.1 both.1)
  where
    below : (n u : ℕ) → nat_le n (u - 35) ≡ true → u ≤ 65536 → n ≤ 65536
    below n u e h = grind (arith, nat_tests)

-- a form that took over a plan is as ready as before
pub stays_ready : (form : Form) (command : Command) (plan : Plan) (new : Form) → IsReady form → Plans form command plan → KeepsExtent form plan
    → IsTaken form plan new → IsReady new
stays_ready form command (plans.Refused refusal) new ready is keeps taken = subst IsReady (sym taken) ready
stays_ready form command (plans.Changed change) new ready is keeps taken =
    let tables = taken.tables ∙ is.2 in
    let room = (unbroken form.shape.usable form.tables.items command (find (is_named command) form.tables.items) is.0).built in
    let local = (and_parts (are_local form.shape.usable (rows_of (after command form.tables.items))) _ room).0 in
    let small : form.shape.usable ≤ 65536 = omega (arith, ready.sound.usable, ready.sound.page) in
    record {
      sound = subst IsSoundShape (sym taken.shape) ready.sound;
      page = ap length taken.page ∙ keeps ∙ ready.page ∙ ap (λ s. s.page) (sym taken.shape);
      tables = subst (AllByRecursion IsReadyTable) (sym tables) (left_all form.shape.usable command form.tables.items small ready.tables local);
      apart = subst (λ ts. AllPairs AreApart (rows_of ts)) (sym tables) (apart_after command form.tables.items ready.apart);
    }
