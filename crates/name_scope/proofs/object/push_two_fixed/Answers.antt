use Rattle.std.proofs.Common.{None}
use Rattle.name_scope.specs.declared.identity.Identity.TheVariants.{Fixed}
use Rattle.name_scope.specs.Sees.{object_sight}
use Rattle.name_scope.proofs.Sights.{both_added}
use Rattle.name_scope.proofs.object.push_two_fixed.Goals as goal

pub returns : goal.returns
returns c =
    both_added c.args.spelling.now c.args.depth
    (object_sight 0 c.args.first.0.now (Fixed c.args.first.1 None)) (object_sight 0 c.args.second.0.now (Fixed c.args.second.1 None))
    c.args.seen.now.items c.push_one_fixed.new.seen.items c.push_one_fixed-2.new.seen.items
    c.in_ok-push_one_fixed.ensures c.in_ok-push_one_fixed-2.ensures
