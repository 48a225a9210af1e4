use Rattle.std.proofs.Common.{◌≡◌, ℕ, refl, sym, ap, ◌∙◌}
use Rattle.pager_core.specs.declared.file_shape.FileShape.{FileShape}
use Rattle.tree_read.specs.Walk as spec
use Rattle.tree_read.proofs.chain.next_link.Goals as goal

pub returns-then-not-is_next-clause-link : goal.returns-then-not-is_next-clause-link
returns-then-not-is_next-clause-link g c = λ nodes has.
    let next : nodes.next c.args.page ≡ c.u32_at-next.result = (has.read c.args.page c.loaded.result.now c.loaded.ensures.bytes).next ∙ sym c.u32_at-next.ensures in
    let count : nodes.count ≡ c.shape-count.result.count = has.count ∙ ap (λ (s : FileShape). s.count) (sym c.shape-count.ensures.shape) in
    (refl, ap (λ (n : ℕ). spec.is_next n c.args.left (nodes.next c.args.page)) count ∙ ap (spec.is_next c.shape-count.result.count c.args.left) next ∙ sym c.is_next.ensures ∙ c.if-not-is_next.true)

pub returns-clause-link : goal.returns-clause-link
returns-clause-link g c = λ nodes has.
    let next : nodes.next c.args.page ≡ c.u32_at-next.result = (has.read c.args.page c.loaded.result.now c.loaded.ensures.bytes).next ∙ sym c.u32_at-next.ensures in
    let count : nodes.count ≡ c.shape-count.result.count = has.count ∙ ap (λ (s : FileShape). s.count) (sym c.shape-count.ensures.shape) in
    (next, ap (λ (n : ℕ). spec.is_next n c.args.left c.u32_at-next.result) count ∙ sym c.is_next.ensures ∙ c.if-not-is_next.false)
