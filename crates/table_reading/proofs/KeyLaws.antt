-- The laws of keys by heights: an expression is the same key at each height that is enough for it.
use Rattle.std.proofs.Common.{List, None, Option, Some, [], ap, arith, refl, suc, zero, ℕ, ◌∷◌, ◌≡◌, ◌≤◌}
use Rattle.sql_expr.specs.Levels.{OpenOperand}
use Rattle.sql_expr.specs.Rules.{IsExprAt, IsOperand, UsualAt}
use Rattle.sql_expr.specs.declared.expr.Expr.{Expr}
use Rattle.sql_expr.specs.declared.expr.InSet.TheOpen.{Operand-F}
use Rattle.sql_expr.specs.declared.lists.Commas.{Commas}
use Rattle.sql_expr.specs.declared.lists.NextItem.{NextItem}
use Rattle.sql_reader.specs.Sorts.{sort_of}
use Rattle.sql_tree.specs.Keys.{as_key_with, key_inside, key_operand, left_inside, operand_of, with_first, with_operand}
use Rattle.query_reading.proofs.LevelLaws.{nested_at}
use Rattle.query_reading.specs.Levels.{read_at}
use Rattle.table_reading.proofs.ColumnLaws.{Given}
use Rattle.sql_expr.specs.declared.operators.Literal.TheVariants as Literal'

-- two functions that make keys agree on what is inside
first_same : (P : Expr → Type 0) (f g : Expr → Expr) → ((y : Expr) → P y → f y ≡ g y) → (x : Commas Expr) (more : List (NextItem Expr)) → P x.first
    → with_first f x more ≡ with_first g x more
first_same P f g same x [] h = ap (λ (e : Expr). record x { first = e }) (same x.first h)
first_same P f g same x (next ∷ more) h = refl

module _ (text : List ℕ) (n : ℕ) where
  operand_same : (f g : Expr → Expr) → ((y : Expr) → IsExprAt text n y → f y ≡ g y) → (operand : OpenOperand) → IsOperand text (UsualAt text n) operand
      → key_operand f operand ≡ key_operand g operand
  operand_same f g same (Operand-F.Literal (Literal'.Number t)) h = refl
  operand_same f g same (Operand-F.Literal (Literal'.Str t)) h = refl
  operand_same f g same (Operand-F.Literal (Literal'.Blob t)) h = refl
  operand_same f g same (Operand-F.Literal (Literal'.Null t)) h = refl
  operand_same f g same (Operand-F.Literal (Literal'.CurrentDate t)) h = refl
  operand_same f g same (Operand-F.Literal (Literal'.CurrentTime t)) h = refl
  operand_same f g same (Operand-F.Literal (Literal'.CurrentTimestamp t)) h = refl
  operand_same f g same (Operand-F.Column x) h = refl
  operand_same f g same (Operand-F.Call x) h = refl
  operand_same f g same (Operand-F.Exprs x) h =
      ap (λ (e : Commas Expr). Operand-F.Exprs (record x { inner = e })) (first_same (IsExprAt text n) f g same x.inner x.inner.more h.1.0.0)
  operand_same f g same (Operand-F.Subquery exists x) h = refl
  operand_same f g same (Operand-F.Case x) h = refl
  operand_same f g same (Operand-F.Cast x) h = refl
  operand_same f g same (Operand-F.Raise x) h = refl

  inside_same : (f g : ℕ → Expr → Expr) → ((left : ℕ) (y : Expr) → IsExprAt text n y → f left y ≡ g left y) → (x : Expr) → IsExprAt text (suc n) x
      → (inside : Option ℕ) → key_inside f x inside ≡ key_inside g x inside
  inside_same f g same x h None = refl
  inside_same f g same x h (Some left) =
      ap (λ (o : OpenOperand). with_operand o x) (operand_same (f left) (g left) (same left) (operand_of x) h.0.1)

-- an expression is the same key at a greater height
pub key_stays : (text : List ℕ) (n m left : ℕ) (x : Expr) → n ≤ m → IsExprAt text n x → as_key_with n left x ≡ as_key_with m left x
key_stays text zero m left x fewer h = absurd h
key_stays text (suc n) zero left x fewer h = absurd (omega (arith, fewer))
key_stays text (suc n) (suc m) left x fewer h =
    inside_same text n (as_key_with n) (as_key_with m) (λ l y is. key_stays text n m l y (omega (arith, fewer)) is) x h (left_inside x left)

-- what the readings of each level read
pub given_at : (text : List ℕ) (n : ℕ) → Given text n n (suc n) (read_at (sort_of text) n) (read_at (sort_of text) (suc n))
given_at text n = record { nested = nested_at text n; keys = λ x h. key_stays text n (suc n) 1 x (omega arith) h }
