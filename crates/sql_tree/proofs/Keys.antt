-- Laws of keys: what a key of one operand is, and that no key is a Str as a text.
use Rattle.std.proofs.Common.{◌≡◌, ◌++◌, ℕ, zero, suc, Bool, true, false, List, [], ◌∷◌, Option, Some, None, refl, sym, ap, ◌∙◌}
use Rattle.sql_token.specs.declared.token.Token.{Token}
use Rattle.sql_expr.specs.Levels.{OpenOperand}
use Rattle.sql_token.specs.Spelled.{one, flat}
use Rattle.sql_expr.specs.Tokens.{commas_tokens, next_item_tokens}
use Rattle.sql_expr.specs.Tree.{expr_tokens, infix_part_tokens, operand_level, postfix_tokens, select_tokens}
use Rattle.sql_expr.proofs.Made.{alone, expr_levels}
use Rattle.sql_expr.proofs.Opened.{made_expr, made_operand, made_part, opened_expr, opened_operand, opened_part}
use Rattle.sql_expr.specs.declared.lists.Commas.{Commas}
use Rattle.sql_expr.specs.declared.lists.NextItem.{NextItem}
use Rattle.sql_expr.specs.declared.operators.Literal.TheVariants as Literal'
use Rattle.sql_expr.specs.declared.expr.Expr.{Expr, out-Expr, roll-Expr, out-roll-Expr}
use Rattle.sql_expr.specs.declared.expr.Part.{out-Part, roll-Part, out-roll-Part}
use Rattle.sql_expr.specs.declared.expr.Operand.{out-Operand, roll-Operand, out-roll-Operand}
use Rattle.sql_expr.specs.declared.expr.Postfix.{Postfix, roll-Postfix, out-roll-Postfix}
use Rattle.sql_expr.specs.declared.expr.InSet.TheOpen.{Operand-F, Postfix-F}
use Rattle.sql_tree.specs.Keys.{after_postfix, after_postfixes, and_then, operand_of, with_operand, with_first, left_of, left_inside, key_operand, key_inside, as_key_with, as_key}
use Rattle.sql_tree.specs.Rules.{IsKeyExpr}

-- an operand that stands alone: what may stand inside it, what it is, and the expression of another
pub left_alone : (operand : OpenOperand) (left : ℕ) → left_inside (alone operand) left ≡ Some left
left_alone operand left = expr_levels [] operand [] [] (λ e p o. left_of e.more p.prefixes p.postfixes left ≡ Some left) refl

pub operand_alone : (operand : OpenOperand) → operand_of (alone operand) ≡ operand
operand_alone operand = expr_levels [] operand [] [] (λ e p o. o ≡ operand) refl

pub with_alone : (operand other : OpenOperand) → with_operand other (alone operand) ≡ alone other
with_alone operand other =
    expr_levels [] operand [] []
    (λ e p o. roll-Expr (record e { first = roll-Part (record p { operand = roll-Operand other }) }) ≡ alone other) refl

-- the operand that an expression was given
pub operand_with : (operand : OpenOperand) (x : Expr) → operand_of (with_operand operand x) ≡ operand
operand_with operand x =
    ap (λ e. out-Operand (out-Part e.first).operand)
    (out-roll-Expr (record (out-Expr x) { first = roll-Part (record (out-Part (out-Expr x).first) { operand = roll-Operand operand }) }))
    ∙ ap (λ p. out-Operand p.operand) (out-roll-Part (record (out-Part (out-Expr x).first) { operand = roll-Operand operand }))
    ∙ out-roll-Operand operand

-- a COLLATE is counted, and is one too many where none may stand
pub collate_counts : (collate name : Token) (more : List Postfix) (left : ℕ)
    → after_postfixes (roll-Postfix (Postfix-F.Collate collate name) ∷ more) (suc left) ≡ after_postfixes more left
collate_counts collate name more left =
    ap (λ o. and_then (after_postfix o (suc left)) (after_postfixes more)) (out-roll-Postfix (Postfix-F.Collate collate name))

pub collate_over : (collate name : Token) (more : List Postfix)
    → after_postfixes (roll-Postfix (Postfix-F.Collate collate name) ∷ more) 0 ≡ None
collate_over collate name more =
    ap (λ o. and_then (after_postfix o 0) (after_postfixes more)) (out-roll-Postfix (Postfix-F.Collate collate name))

-- an expression in which no Str stands alone is a key as it is
pub as_it_is : (n left : ℕ) (x : Expr) → left_inside x left ≡ None → as_key_with (suc n) left x ≡ x
as_it_is n left x none = ap (key_inside (as_key_with n) x) none

-- an operand that stands alone as a key
pub key_alone : (n left : ℕ) (operand : OpenOperand)
    → as_key_with (suc n) left (alone operand) ≡ alone (key_operand (as_key_with n left) operand)
key_alone n left operand =
    ap (key_inside (as_key_with n) (alone operand)) (left_alone operand left)
    ∙ ap (λ o. with_operand (key_operand (as_key_with n left) o) (alone operand)) (operand_alone operand)
    ∙ with_alone operand (key_operand (as_key_with n left) operand)

-- whether an operand is a Str as a text
abbrev is_str_text : OpenOperand → Bool
is_str_text (Operand-F.Literal (Literal'.Str t)) = true
is_str_text _ = false

no_str_text : (f : Expr → Expr) (operand : OpenOperand) → is_str_text (key_operand f operand) ≡ false
no_str_text f (Operand-F.Literal (Literal'.Number t)) = refl
no_str_text f (Operand-F.Literal (Literal'.Str t)) = refl
no_str_text f (Operand-F.Literal (Literal'.Blob t)) = refl
no_str_text f (Operand-F.Literal (Literal'.Null t)) = refl
no_str_text f (Operand-F.Literal (Literal'.CurrentDate t)) = refl
no_str_text f (Operand-F.Literal (Literal'.CurrentTime t)) = refl
no_str_text f (Operand-F.Literal (Literal'.CurrentTimestamp t)) = refl
no_str_text f (Operand-F.Column x) = refl
no_str_text f (Operand-F.Call x) = refl
no_str_text f (Operand-F.Exprs x) = refl
no_str_text f (Operand-F.Subquery exists x) = refl
no_str_text f (Operand-F.Case x) = refl
no_str_text f (Operand-F.Cast x) = refl
no_str_text f (Operand-F.Raise x) = refl

-- no Str that stands alone as a text is a key
no_text_made : (f : ℕ → Expr → Expr) (t : Token) (read : Expr) (left : ℕ) (inside : Option ℕ) → left_inside read left ≡ inside
    → alone (Operand-F.Literal (Literal'.Str t)) ≡ key_inside f read inside → ⊥
no_text_made f t read left None is same =
    let some : left_inside read left ≡ Some left = ap (λ y. left_inside y left) (sym same) ∙ left_alone _ left in
    let clash : None ≡ Some left = sym is ∙ some in
    cc
no_text_made f t read left (Some fewer) is same =
    let text : true ≡ is_str_text (operand_of (alone (Operand-F.Literal (Literal'.Str t)))) = ap is_str_text (sym (operand_alone (Operand-F.Literal (Literal'.Str t)))) in
    let made = ap (λ y. is_str_text (operand_of y)) same in
    let none = ap is_str_text (operand_with (key_operand (f fewer) (operand_of read)) read) ∙ no_str_text (f fewer) (operand_of read) in
    let clash : true ≡ false = text ∙ made ∙ none in
    cc

pub no_text_is_key : (text : List ℕ) (n : ℕ) (t : Token) → IsKeyExpr text n (alone (Operand-F.Literal (Literal'.Str t))) → ⊥
no_text_is_key text zero t key = key.1
no_text_is_key text (suc n) t key = no_text_made (as_key_with n) t key.0 1 (left_inside key.0 1) refl key.2

-- an operand spells as a key what it spells
first_tokens : (f : Expr → Expr) → ((y : Expr) → expr_tokens (f y) ≡ expr_tokens y) → (x : Commas Expr) (more : List (NextItem Expr))
    → commas_tokens expr_tokens (with_first f x more) ≡ commas_tokens expr_tokens x
first_tokens f kept x [] = ap (λ l. l ++ flat (next_item_tokens expr_tokens) x.more) (kept x.first)
first_tokens f kept x (next ∷ more) = refl

operand_kept : (f : Expr → Expr) → ((y : Expr) → expr_tokens (f y) ≡ expr_tokens y) → (operand : OpenOperand)
    → operand_level expr_tokens select_tokens (key_operand f operand) ≡ operand_level expr_tokens select_tokens operand
operand_kept f kept (Operand-F.Literal (Literal'.Number t)) = refl
operand_kept f kept (Operand-F.Literal (Literal'.Str t)) = refl
operand_kept f kept (Operand-F.Literal (Literal'.Blob t)) = refl
operand_kept f kept (Operand-F.Literal (Literal'.Null t)) = refl
operand_kept f kept (Operand-F.Literal (Literal'.CurrentDate t)) = refl
operand_kept f kept (Operand-F.Literal (Literal'.CurrentTime t)) = refl
operand_kept f kept (Operand-F.Literal (Literal'.CurrentTimestamp t)) = refl
operand_kept f kept (Operand-F.Column x) = refl
operand_kept f kept (Operand-F.Call x) = refl
operand_kept f kept (Operand-F.Exprs x) =
    ap (λ l. one x.opening ++ l ++ one x.closing) (first_tokens f kept x.inner x.inner.more)
operand_kept f kept (Operand-F.Subquery exists x) = refl
operand_kept f kept (Operand-F.Case x) = refl
operand_kept f kept (Operand-F.Cast x) = refl
operand_kept f kept (Operand-F.Raise x) = refl

-- another operand that spells the same
with_kept : (operand : OpenOperand) (x : Expr)
    → operand_level expr_tokens select_tokens operand ≡ operand_level expr_tokens select_tokens (operand_of x)
    → expr_tokens (with_operand operand x) ≡ expr_tokens x
with_kept operand x same =
    let part = out-Part (out-Expr x).first in
    made_expr (record (out-Expr x) { first = roll-Part (record part { operand = roll-Operand operand }) })
    ∙ ap (λ l. l ++ flat infix_part_tokens (out-Expr x).more)
    (made_part (record part { operand = roll-Operand operand })
    ∙ ap (λ l. flat one part.prefixes ++ l ++ flat postfix_tokens part.postfixes)
    (made_operand operand ∙ same ∙ sym (opened_operand part.operand))
    ∙ sym (opened_part (out-Expr x).first))
    ∙ sym (opened_expr x)

inside_kept : (f : ℕ → Expr → Expr) → ((left : ℕ) (y : Expr) → expr_tokens (f left y) ≡ expr_tokens y) → (x : Expr) (inside : Option ℕ)
    → expr_tokens (key_inside f x inside) ≡ expr_tokens x
inside_kept f kept x None = refl
inside_kept f kept x (Some left) =
    with_kept (key_operand (f left) (operand_of x)) x (operand_kept (f left) (kept left) (operand_of x))

pub kept_with : (n left : ℕ) (x : Expr) → expr_tokens (as_key_with n left x) ≡ expr_tokens x
kept_with zero left x = refl
kept_with (suc n) left x = inside_kept (as_key_with n) (kept_with n) x (left_inside x left)

-- an expression spells as a key what it spells
pub key_tokens : (n : ℕ) (x : Expr) → expr_tokens (as_key n x) ≡ expr_tokens x
key_tokens n x = kept_with n 1 x
