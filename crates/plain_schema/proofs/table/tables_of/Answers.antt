use Rattle.std.proofs.Common.{◌≡◌, ◌≤◌, ◌∷◌, [], ◌++◌, List, length, rules, sym, ap, subst, ◌∙◌, append_assoc, append-nil, arith}
use Rattle.std.specs.List.{AllByRecursion}
use Rattle.std.specs.Vec.Iter.{into_iter_items}
use Rattle.schema_rows.specs.declared.schema.SchemaRow.{SchemaRow}
use Rattle.plain_schema.specs.declared.table.Table.{Table}
use Rattle.plain_schema.specs.FirstForm.{IsSpelled, rows_of}
use Rattle.common_laws.proofs.Each.{all_push}
use Rattle.common_laws.proofs.Lists.{nothing_left}
use Rattle.plain_schema.proofs.FormLemmas.{AreFirst, first_more, first_all, no_tables, rows_more}
use Rattle.plain_schema.proofs.table.tables_of.Goals as goal

pub loop-row-init : goal.loop-row-init
loop-row-init c =
    let none = c.new-tables.ensures.items in
    record {
      rest = search rules;
      left = search rules;
      rows = ap rows_of none;
      spelled = subst (λ (l : List Table). AllByRecursion IsSpelled l) (sym none) tt;
      inside = subst (λ (l : List Table). AllByRecursion (λ table. table.columns_end ≤ length table.row.text) l) (sym none) tt;
      only = λ list same spelled. sym none;
    }

pub loop-row-preserved : goal.loop-row-preserved
loop-row-preserved c =
    let at = c.loop-row in
    let row = c.in-Some.row in
    let steps : into_iter_items at.row-iterator ≡ row ∷ into_iter_items c.next.new.self = c.in-Some.ensures.steps.0 in
    let split : at.yielded ++ row ∷ into_iter_items c.next.new.self ≡ c.args.rows.items = rw (← steps) at.invariant.rest in
    let table = c.in-Some-2.table in
    let found = rw c.in-Some-2.is at c.in_ok-table.ensures.found in
    let more = sym {A = List Table} c.in_ok-push-in-Some-2.ensures.items in
    record {
      rest = append_assoc at.yielded (row ∷ []) _ ∙ split;
      left =
          let was = at.invariant.left in
          let gone = c.in-Some.ensures.steps.1 in
          let short = ap length steps in
          omega arith;
      rows = subst (λ (l : List Table). rows_of l ≡ at.yielded ++ row ∷ []) more (rows_more at.tables.items at.yielded table row at.invariant.rows found.0);
      spelled = subst (λ (l : List Table). AllByRecursion IsSpelled l) more (all_push IsSpelled at.tables.items table at.invariant.spelled found.1);
      inside = subst (λ (l : List Table). AllByRecursion (λ t. t.columns_end ≤ length t.row.text) l) more
          (all_push (λ t. t.columns_end ≤ length t.row.text) at.tables.items table at.invariant.inside (rw c.in-Some-2.is at c.in_ok-table.ensures.inside));
      only = subst (λ (l : List Table). AreFirst c.args.rows.items (at.yielded ++ row ∷ []) l) more
          (first_more c.args.rows.items at.yielded row (into_iter_items c.next.new.self) at.tables.items c.in_ok-table.field-0 table
          at.invariant.only split c.in_ok-table.ensures.only c.in-Some-2.is);
    }

pub returns-in-None-2-clause-only : goal.returns-in-None-2-clause-only
returns-in-None-2-clause-only c = λ list same spelled.
    let at = c.loop-row in
    let row = c.in-Some.row in
    let steps : into_iter_items at.row-iterator ≡ row ∷ into_iter_items c.next.new.self = c.in-Some.ensures.steps.0 in
    let split : at.yielded ++ row ∷ into_iter_items c.next.new.self ≡ c.args.rows.items = rw (← steps) at.invariant.rest in
    no_tables c.args.rows.items at.yielded row (into_iter_items c.next.new.self) c.in_ok-table.field-0 list split c.in_ok-table.ensures.only c.in-None-2.is same spelled

pub returns : goal.returns
returns c =
    let at = c.loop-row in
    let empty : into_iter_items at.row-iterator ≡ [] = nothing_left _ (sym at.invariant.left ∙ c.in-None.ensures.steps.0) in
    let all : at.yielded ≡ c.args.rows.items = sym (append-nil at.yielded) ∙ rw empty at at.invariant.rest in
    record {
      found = (at.invariant.rows ∙ all, at.invariant.spelled);
      inside = at.invariant.inside;
      only = λ list same spelled.
          first_all c.args.rows.items at.tables.items list
          (subst (λ (l : List SchemaRow). AreFirst c.args.rows.items l at.tables.items) all at.invariant.only) same spelled;
    }
