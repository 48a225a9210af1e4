use Rattle.std.proofs.Common.{sym, ap, ◌∙◌, arith}
use Rattle.page_cells.specs.Layout.{local_payload}
use Rattle.page_cells.proofs.LayoutLemmas.{local_payload-fill, local_payload-least, local_payload-whole}
use Rattle.page_cells.proofs.layout.local_len.Goals as goal

pub returns-then-payload-most : goal.returns-then-payload-most
returns-then-payload-most c =
    sym (local_payload-whole c.args.kind c.from-usable.result c.args.payload (omega (arith, c.if-payload-most.true, c.most_len-most.ensures)))
    ∙ ap (λ u. local_payload c.args.kind u c.args.payload) c.from-usable.ensures

pub returns-then-fill-most : goal.returns-then-fill-most
returns-then-fill-most c =
    sym (local_payload-fill c.args.kind c.from-usable.result c.args.payload
    (omega (arith, c.if-payload-most.false, c.most_len-most.ensures)) (omega (arith, c.if-fill-most.true, c.most_len-most.ensures)))
    ∙ ap (λ u. local_payload c.args.kind u c.args.payload) c.from-usable.ensures

pub returns-else-fill-most : goal.returns-else-fill-most
returns-else-fill-most c =
    sym (local_payload-least c.args.kind c.from-usable.result c.args.payload
    (omega (arith, c.if-payload-most.false, c.most_len-most.ensures)) (omega (arith, c.if-fill-most.false, c.most_len-most.ensures)))
    ∙ ap (λ u. local_payload c.args.kind u c.args.payload) c.from-usable.ensures
