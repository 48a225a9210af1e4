use Rattle.plain_schema.proofs.Tables.{place_here, place_further}
use Rattle.plain_schema.proofs.form.Form.place_of.Goals as goal
use Rattle.std.proofs.Common.{◌∙◌, arith, sym, ap}
use Rattle.sql_token.specs.Names.{folded}

pub returns-then-same_name-clause-found : goal.returns-then-same_name-clause-found
returns-then-same_name-clause-found c =
    let same = c.same_name.ensures.0 c.if-same_name.true in
    place_here c.args.command.now c.args.self.now.tables.items c.loop-place.place c.index-table.result.now
    (omega arith) c.index-table.ensures c.loop-place.invariant
    (ap folded (sym c.as_slice.ensures) ∙ same ∙ ap folded c.as_slice-in-loop-place.ensures)

pub loop-place-preserved : goal.loop-place-preserved
loop-place-preserved c =
    let other = c.same_name.ensures.1 in
    let no = c.if-same_name.false in
    place_further c.args.command.now c.args.self.now.tables.items c.loop-place.place c.index-table.result.now
    (omega arith) c.index-table.ensures c.loop-place.invariant
    (λ same.
    let yes = other (ap folded c.as_slice.ensures ∙ same ∙ ap folded (sym c.as_slice-in-loop-place.ensures)) in
    absurd cc)
