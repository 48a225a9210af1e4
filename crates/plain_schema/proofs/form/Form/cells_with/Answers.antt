use Rattle.std.proofs.Common.{◌≡◌, ◌-◌, ◌∷◌, [], drop, length, take, refl, sym, ap, ◌∙◌}
use Rattle.plain_schema.specs.FirstForm.{rows_of}
use Rattle.plain_schema.specs.Step.{are_local}
use Rattle.plain_schema.proofs.Written.{local_split, cells_split, none_first, none_second, none_third, all_three}
use Rattle.plain_schema.proofs.form.Form.cells_with.Goals as goal
use Rattle.plain_schema.proofs.form.Form.cells_with.Goals.{else-branch-via-then-branch+in_ok-push_cell+then-branch-2+in_ok-push_cells-2+else-branch-3, else-branch-via-then-branch+in_ok-push_cell+else-branch-2, else-branch-via-else-branch}

pub returns-then-branch-3 : goal.returns-then-branch-3
returns-then-branch-3 c =
    let form = c.args.self.now in
    let tables = form.tables.items in
    let place = c.args.place in
    let row = c.args.row.now in
    let front : c.split_at.result.0.now ≡ take place tables = c.split_at.ensures.front ∙ ap (take place) c.as_slice.ensures.value in
    let back : c.split_at.result.1.now ≡ drop place tables = c.split_at.ensures.back ∙ ap (drop place) c.as_slice.ensures.value in (
      local_split form.shape.usable place row tables c.split_at.result.0.now c.split_at.result.1.now
          c.in_ok-push_cells.field-0 c.in_ok-push_cell.field-0 c.in_ok-push_cells-2.field-0 front back
          c.in_ok-push_cells.ensures.local c.in_ok-push_cell.ensures.local c.in_ok-push_cells-2.ensures.local
          ∙ all_three c.in_ok-push_cells.field-0 c.in_ok-push_cell.field-0 c.in_ok-push_cells-2.field-0 c.if-branch.true c.if-branch-2.true c.if-branch-3.true,
      cells_split place row tables c.split_at.result.0.now c.split_at.result.1.now c.new-cells.result.items
          c.push_cells.new.cells.items c.push_cell.new.cells.items c.push_cells-then-branch-2.new.cells.items front back c.new-cells.ensures.items
          (c.in_ok-push_cells.ensures.cells c.if-branch.true) (c.in_ok-push_cell.ensures.cells c.if-branch-2.true)
          (c.in_ok-push_cells-2.ensures.cells c.if-branch-3.true),
      c.in_ok-push_cells-2.ensures.whole c.if-branch-3.true,
    )

pub returns-else-branch : goal.returns-else-branch
returns-else-branch c =
    let usable = c.args.self.now.shape.usable in
    let tables = c.args.self.now.tables.items in
    let place = c.args.place in
    let row = c.args.row.now in
    let before = c.split_at.result.0.now in
    let behind = c.split_at.result.1.now in
    let front : before ≡ take place tables = c.split_at.ensures.front ∙ ap (take place) c.as_slice.ensures.value in
    let back : behind ≡ drop place tables = c.split_at.ensures.back ∙ ap (drop place) c.as_slice.ensures.value in
    let first = are_local usable (rows_of before) in
    let one = are_local usable (row ∷ []) in
    let last = are_local usable (rows_of (take (length behind - 1) (drop 1 behind))) in
    local_split usable place row tables before behind first one last front back refl refl refl
    ∙ elim c.else-branch.branch [
      | else-branch-via-then-branch+in_ok-push_cell+then-branch-2+in_ok-push_cells-2+else-branch-3 w ↦
          none_third first one last (sym w.in_ok-push_cells-2.ensures.local ∙ w.if-branch-3.false)
      | else-branch-via-then-branch+in_ok-push_cell+else-branch-2 w ↦ none_second first one last (sym w.in_ok-push_cell.ensures.local ∙ w.if-branch-2.false)
      | else-branch-via-else-branch w ↦ none_first first one last (sym c.in_ok-push_cells.ensures.local ∙ w.if-branch.false)
    ]
