use Rattle.std.proofs.Common.{◌≡◌, ◌++◌, OnOk, sym, subst, ◌∙◌}
use Rattle.name_scope.specs.Sees.{seen_at}
use Rattle.name_scope.proofs.Sights.{function_sights, source_sights}
use Rattle.name_scope.proofs.object.push_fixed.Goals as goal

pub returns-in-Source : goal.returns-in-Source
returns-in-Source c =
    subst (λ sights. OnOk c.push_two_fixed.result (c.push_two_fixed.new.seen.items ≡ c.args.seen.now.items ++ seen_at c.args.spelling.now c.args.depth sights))
    (source_sights c.args.own c.args.kind c.in-Source.is (sym c.has_sources.ensures ∙ c.if-has_sources.true)) c.push_two_fixed.ensures

pub returns-in-Function : goal.returns-in-Function
returns-in-Function c =
    subst (λ sights. OnOk c.push_two_fixed-in-Function.result (c.push_two_fixed-in-Function.new.seen.items ≡ c.args.seen.now.items ++ seen_at c.args.spelling.now c.args.depth sights))
    (function_sights c.args.own c.args.kind c.in-Function.is (sym c.has_sources-in-Function-1.ensures ∙ c.if-has_sources-2.true)) c.push_two_fixed-in-Function.ensures
