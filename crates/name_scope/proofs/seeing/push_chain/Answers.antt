use Rattle.std.proofs.Common.{◌-◌, ◌++◌, sym, ap, ◌∙◌, arith}
use Rattle.std.specs.Option.{option_copied}
use Rattle.name_scope.specs.Sees.{outward, seen_at}
use Rattle.name_scope.proofs.Sights.{level_step, outward_step}
use Rattle.name_scope.proofs.seeing.push_chain.Goals as goal

pub loop-left-preserved : goal.loop-left-preserved
loop-left-preserved c =
    let level = c.in-Some.level.now in
    let split = outward_step c.loop-left.left (c.loop-left.left - 1) c.args.levels.now c.loop-left.next level (omega (arith, c.loop-left-test.true)) (sym c.level_at.ensures ∙ ap option_copied c.in-Some.is) in
    let step = level_step c.args.spelling.now c.loop-left.seen.items c.push_sights.new.seen.items c.loop-left.depth c.in_ok-depth.depth level (outward (c.loop-left.left - 1) c.args.levels.now level.outer) (outward c.loop-left.left c.args.levels.now c.loop-left.next) (c.in_ok-push_sights.ensures ∙ ap (λ s. c.loop-left.seen.items ++ seen_at c.args.spelling.now c.loop-left.depth s) c.as_slice.ensures) c.in_ok-depth.ensures split in
    (step.0 ∙ c.loop-left.invariant.0, step.1 ∙ c.loop-left.invariant.1)
