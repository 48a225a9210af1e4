-- A Str in a list of keys of a table or an index: where it stands alone it is a column, and no text.
use Rattle.std.specs.Prelude.{ℕ, zero, suc, List, [], ◌∷◌, Option, Some, None}
use Rattle.sql_token.specs.declared.token.Token.{Token}
use Rattle.sql_expr.specs.Levels.{OpenOperand, OpenPostfix}
use Rattle.sql_expr.specs.declared.lists.Commas.{Commas}
use Rattle.sql_expr.specs.declared.lists.NextItem.{NextItem}
use Rattle.sql_expr.specs.declared.operators.Literal.TheVariants as Literal'
use Rattle.sql_expr.specs.declared.names.ColumnUse.TheVariants as ColumnUse'
use Rattle.sql_expr.specs.declared.expr.Expr.{Expr, out-Expr, roll-Expr}
use Rattle.sql_expr.specs.declared.expr.InfixPart.{InfixPart}
use Rattle.sql_expr.specs.declared.expr.Part.{out-Part, roll-Part}
use Rattle.sql_expr.specs.declared.expr.Operand.{out-Operand, roll-Operand}
use Rattle.sql_expr.specs.declared.expr.Postfix.{Postfix, out-Postfix}
use Rattle.sql_expr.specs.declared.expr.InSet.TheOpen.{Operand-F, Postfix-F}

-- the one operand of an expression
abbrev pub operand_of : Expr → OpenOperand
operand_of x = out-Operand (out-Part (out-Expr x).first).operand

-- the expression with another first operand
abbrev pub with_operand : OpenOperand → Expr → Expr
with_operand operand x =
    roll-Expr (record (out-Expr x) {
      first = roll-Part (record (out-Part (out-Expr x).first) { operand = roll-Operand operand });
    })

-- one COLLATE less, where this is one
abbrev pub after_postfix : OpenPostfix → ℕ → Option ℕ
after_postfix (Postfix-F.Collate collate name) (suc left) = Some left
after_postfix _ _ = None

-- a further answer from a number, where there is one
abbrev pub and_then : Option ℕ → (ℕ → Option ℕ) → Option ℕ
and_then None further = None
and_then (Some left) further = further left

-- how many COLLATE may still stand, where these postfixes are COLLATEs and at most so many
abbrev pub after_postfixes : List Postfix → ℕ → Option ℕ
after_postfixes [] left = Some left
after_postfixes (postfix ∷ more) left = and_then (after_postfix (out-Postfix postfix) left) (after_postfixes more)

-- how many COLLATE may still stand inside, where these are all that stands beside an operand: no infix, no prefix, and
-- COLLATEs of which there may be so many
abbrev pub left_of : List InfixPart → List Token → List Postfix → ℕ → Option ℕ
left_of [] [] postfixes left = after_postfixes postfixes left
left_of _ _ _ _ = None

-- how many COLLATE may still stand inside the expression, where it is one operand with at most so many and no more
abbrev pub left_inside : Expr → ℕ → Option ℕ
left_inside x left =
    left_of (out-Expr x).more (out-Part (out-Expr x).first).prefixes (out-Part (out-Expr x).first).postfixes left

-- a list of one expression, as a function makes this one, or another list as it is; what stands behind the first is given
abbrev pub with_first : (Expr → Expr) → Commas Expr → List (NextItem Expr) → Commas Expr
with_first f x [] = record x { first = f x.first }
with_first f x (next ∷ more) = x

-- a Str as a column, one expression in parentheses as a function makes it, or another operand as it is
abbrev pub key_operand : (Expr → Expr) → OpenOperand → OpenOperand
key_operand f (Operand-F.Literal (Literal'.Str t)) = Operand-F.Column (ColumnUse'.One t)
key_operand f (Operand-F.Exprs x) = Operand-F.Exprs (record x { inner = with_first f x.inner x.inner.more })
key_operand f x = x

-- the expression whose operand is made a key's by a function, with the COLLATEs that are left, or as it is where none may be
abbrev pub key_inside : (ℕ → Expr → Expr) → Expr → Option ℕ → Expr
key_inside f x None = x
key_inside f x (Some left) = with_operand (key_operand (f left) (operand_of x)) x

-- the expression with its one Str as a column, where it stands alone, with at most so many COLLATE and in fewer
-- parentheses than the height
abbrev pub as_key_with : ℕ → ℕ → Expr → Expr
as_key_with zero left x = x
as_key_with (suc n) left x = key_inside (as_key_with n) x (left_inside x left)

-- the expression of this height as a key: its one Str, where it stands alone, in parentheses or not and with one COLLATE
-- at most, is a column
abbrev pub as_key : ℕ → Expr → Expr
as_key n x = as_key_with n 1 x
