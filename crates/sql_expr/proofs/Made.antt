-- A tree that is made of parts is of its rule where its parts are, and the other way round.
use Rattle.std.proofs.Common.{◌≡◌, ℕ, List, [], sym, subst, ◌∙◌}
use Rattle.std.specs.List.{AllByRecursion}
use Rattle.std.proofs.lemmas.List.{append-nil}
use Rattle.sql_token.specs.declared.token.Token.{Token}
use Rattle.sql_expr.specs.Levels.{OpenOperand, OpenPart, OpenInfixPart, OpenExpr}
use Rattle.sql_expr.specs.Rules.{Inside, IsPrefix, IsOperand, IsPostfix, IsPart, IsInfix, LeavesNot, IsInfixPart, IsExpr}
use Rattle.sql_expr.specs.Tree.{expr_tokens, part_tokens, select_tokens, operand_level}
use Rattle.sql_expr.proofs.Opened.{made_expr, made_part, made_operand}
use Rattle.sql_expr.specs.declared.operators.Infix.{Infix}
use Rattle.sql_expr.specs.declared.expr.Expr.{Expr, roll-Expr, out-Expr, out-roll-Expr}
use Rattle.sql_expr.specs.declared.expr.InfixPart.{InfixPart, roll-InfixPart, out-roll-InfixPart}
use Rattle.sql_expr.specs.declared.expr.Part.{Part, roll-Part, out-Part, out-roll-Part}
use Rattle.sql_expr.specs.declared.expr.Operand.{roll-Operand, out-Operand, out-roll-Operand}
use Rattle.sql_expr.specs.declared.expr.Postfix.{Postfix, out-Postfix}

-- {prefix} operand {postfix}
abbrev pub open_part : List Token → OpenOperand → List Postfix → OpenPart
open_part prefixes operand postfixes = record { prefixes = prefixes; operand = roll-Operand operand; postfixes = postfixes }

abbrev pub part_of : List Token → OpenOperand → List Postfix → Part
part_of prefixes operand postfixes = roll-Part (open_part prefixes operand postfixes)

-- infix part
abbrev pub open_infix_part : Infix → Part → OpenInfixPart
open_infix_part operator part = record { operator = operator; part = part }

abbrev pub infix_part_of : Infix → Part → InfixPart
infix_part_of operator part = roll-InfixPart (open_infix_part operator part)

-- part {infix part}
abbrev pub open_expr : Part → List InfixPart → OpenExpr
open_expr part more = record { first = part; more = more }

abbrev pub expr_of : Part → List InfixPart → Expr
expr_of part more = roll-Expr (open_expr part more)

-- an operand that stands alone
abbrev pub alone : OpenOperand → Expr
alone operand = expr_of (part_of [] operand []) []

-- what the rule of a part asks of a level and its operand
abbrev IsOpenPart : List ℕ → Inside → OpenPart → OpenOperand → Type 0
IsOpenPart text inside x operand =
    AllByRecursion (IsPrefix text) x.prefixes × IsOperand text inside operand
    × AllByRecursion (λ postfix. IsPostfix text inside (out-Postfix postfix)) x.postfixes

part_level : (prefixes : List Token) (operand : OpenOperand) (postfixes : List Postfix) (P : OpenPart → OpenOperand → Type 0)
    → P (open_part prefixes operand postfixes) operand
    → P (out-Part (part_of prefixes operand postfixes)) (out-Operand (out-Part (part_of prefixes operand postfixes)).operand)
part_level prefixes operand postfixes P h =
    subst (λ y. P y (out-Operand y.operand)) (sym (out-roll-Part (open_part prefixes operand postfixes)))
    (subst (λ o. P (open_part prefixes operand postfixes) o) (sym (out-roll-Operand operand)) h)

level_part : (prefixes : List Token) (operand : OpenOperand) (postfixes : List Postfix) (P : OpenPart → OpenOperand → Type 0)
    → P (out-Part (part_of prefixes operand postfixes)) (out-Operand (out-Part (part_of prefixes operand postfixes)).operand)
    → P (open_part prefixes operand postfixes) operand
level_part prefixes operand postfixes P h =
    subst (λ o. P (open_part prefixes operand postfixes) o) (out-roll-Operand operand)
    (subst (λ y. P y (out-Operand y.operand)) (out-roll-Part (open_part prefixes operand postfixes)) h)

pub is_part : (text : List ℕ) (inside : Inside) (prefixes : List Token) (operand : OpenOperand) (postfixes : List Postfix)
    → IsOpenPart text inside (open_part prefixes operand postfixes) operand → IsPart text inside (part_of prefixes operand postfixes)
is_part text inside prefixes operand postfixes h = part_level prefixes operand postfixes (IsOpenPart text inside) h

pub of_part : (text : List ℕ) (inside : Inside) (prefixes : List Token) (operand : OpenOperand) (postfixes : List Postfix)
    → IsPart text inside (part_of prefixes operand postfixes) → IsOpenPart text inside (open_part prefixes operand postfixes) operand
of_part text inside prefixes operand postfixes h = level_part prefixes operand postfixes (IsOpenPart text inside) h

-- what holds of the levels that an expression is made of holds of it, opened
pub expr_levels : (prefixes : List Token) (operand : OpenOperand) (postfixes : List Postfix) (more : List InfixPart)
    (P : OpenExpr → OpenPart → OpenOperand → Type 0)
    → P (open_expr (part_of prefixes operand postfixes) more) (open_part prefixes operand postfixes) operand
    → P (out-Expr (expr_of (part_of prefixes operand postfixes) more))
    (out-Part (out-Expr (expr_of (part_of prefixes operand postfixes) more)).first)
    (out-Operand (out-Part (out-Expr (expr_of (part_of prefixes operand postfixes) more)).first).operand)
expr_levels prefixes operand postfixes more P h =
    subst (λ e. P e (out-Part e.first) (out-Operand (out-Part e.first).operand))
    (sym (out-roll-Expr (open_expr (part_of prefixes operand postfixes) more)))
    (part_level prefixes operand postfixes (P (open_expr (part_of prefixes operand postfixes) more)) h)

-- what the rule of an infix part asks of a level
abbrev IsOpenInfixPart : List ℕ → Inside → OpenInfixPart → Type 0
IsOpenInfixPart text inside x =
    IsInfix text x.operator × IsPart text inside x.part × LeavesNot text x.operator (part_tokens x.part)

pub is_infix_part : (text : List ℕ) (inside : Inside) (x : OpenInfixPart) → IsOpenInfixPart text inside x
    → IsInfixPart text inside (roll-InfixPart x)
is_infix_part text inside x h = subst (IsOpenInfixPart text inside) (sym (out-roll-InfixPart x)) h

pub of_infix_part : (text : List ℕ) (inside : Inside) (x : OpenInfixPart) → IsInfixPart text inside (roll-InfixPart x)
    → IsOpenInfixPart text inside x
of_infix_part text inside x h = subst (IsOpenInfixPart text inside) (out-roll-InfixPart x) h

-- what the rule of an expression asks of a level
abbrev IsOpenExpr : List ℕ → Inside → OpenExpr → Type 0
IsOpenExpr text inside x = IsPart text inside x.first × AllByRecursion (IsInfixPart text inside) x.more

pub is_expr : (text : List ℕ) (inside : Inside) (x : OpenExpr) → IsOpenExpr text inside x → IsExpr text inside (roll-Expr x)
is_expr text inside x h = subst (IsOpenExpr text inside) (sym (out-roll-Expr x)) h

pub of_expr : (text : List ℕ) (inside : Inside) (x : OpenExpr) → IsExpr text inside (roll-Expr x) → IsOpenExpr text inside x
of_expr text inside x h = subst (IsOpenExpr text inside) (out-roll-Expr x) h

-- an operand that stands alone is an expression
pub is_alone : (text : List ℕ) (inside : Inside) (operand : OpenOperand) → IsOperand text inside operand → IsExpr text inside (alone operand)
is_alone text inside operand h = is_expr text inside _ (is_part text inside [] operand [] (tt, h, tt), tt)

pub of_alone : (text : List ℕ) (inside : Inside) (operand : OpenOperand) → IsExpr text inside (alone operand) → IsOperand text inside operand
of_alone text inside operand h =
    (of_part text inside [] operand [] (of_expr text inside (open_expr (part_of [] operand []) []) h).0).1

-- an operand that stands alone spells what it does
pub alone_tokens : (operand : OpenOperand) → expr_tokens (alone operand) ≡ operand_level expr_tokens select_tokens operand
alone_tokens operand =
    made_expr (open_expr (part_of [] operand []) []) ∙ append-nil (part_tokens (part_of [] operand []))
    ∙ made_part (open_part [] operand []) ∙ append-nil _ ∙ made_operand operand
