use Rattle.std.proofs.Common.{arith, ap, suc, ◌∙◌, ◌≡◌}
use Rattle.sql_expr.specs.declared.expr.Expr.{out-Expr, roll-Expr}
use Rattle.sql_expr.specs.declared.expr.Operand.{out-Operand}
use Rattle.sql_expr.specs.declared.expr.Part.{out-Part, roll-Part}
use Rattle.sql_tree.specs.Keys.{as_key_with, key_operand}
use Rattle.ddl_parse.proofs.KeyLaws.{key_made}
use Rattle.ddl_parse.proofs.keys.+keys.Goals as goal

pub as_key_with-returns : goal.as_key_with-returns
as_key_with-returns t c =
    let x = c.args.x in
    let operand = c.in_ok-operand.operand in
    let whole : c.args.height ≡ suc c.in-Some.height = omega (arith, c.in-Some.ensures) in
    let part = c.into_inner-prefixes.ensures in
    let made = c.in_ok-operand.ensures ∙ ap (λ p. key_operand (as_key_with c.in-Some.height c.in-Some-left_inside.left) (out-Operand (out-Part p).operand)) part in
    ap (λ p. roll-Expr (record (out-Expr x) { first = p })) (c.in_ok-first.ensures ∙ ap (λ p. roll-Part (record (out-Part p) { operand = operand })) part)
    ∙ key_made c.args.height c.in-Some.height c.args.left c.in-Some-left_inside.left x operand whole c.in-Some-left_inside.ensures made
