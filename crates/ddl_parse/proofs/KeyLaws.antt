-- An expression whose operand was made a key's is the expression as a key.
use Rattle.std.proofs.Common.{Some, ap, suc, sym, ℕ, ◌∙◌, ◌≡◌}
use Rattle.sql_expr.specs.declared.expr.Expr.{Expr, out-Expr, roll-Expr}
use Rattle.sql_expr.specs.declared.expr.Operand.{Operand, out-Operand, roll-Operand, roll-out-Operand}
use Rattle.sql_expr.specs.declared.expr.Part.{out-Part, roll-Part}
use Rattle.sql_tree.specs.Keys.{as_key_with, key_inside, key_operand, left_inside, operand_of}

-- the expression with another first operand
abbrev pub with_its : Operand → Expr → Expr
with_its operand x =
    roll-Expr (record (out-Expr x) { first = roll-Part (record (out-Part (out-Expr x).first) { operand = operand }) })

pub key_made : (height less left fewer : ℕ) (x : Expr) (operand : Operand) → height ≡ suc less → Some fewer ≡ left_inside x left
    → out-Operand operand ≡ key_operand (as_key_with less fewer) (operand_of x)
    → with_its operand x ≡ as_key_with height left x
key_made height less left fewer x operand whole inside made =
    ap (λ o. with_its o x) (sym (roll-out-Operand operand) ∙ ap roll-Operand made)
    ∙ ap (key_inside (as_key_with less) x) inside
    ∙ ap (λ n. as_key_with n left x) (sym whole)
