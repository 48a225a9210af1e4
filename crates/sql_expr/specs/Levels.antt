-- The types that lead back to themselves, one level opened.
use Rattle.sql_expr.specs.declared.expr.InSet.{InSet}
use Rattle.sql_expr.specs.declared.expr.Operand.{Operand}
use Rattle.sql_expr.specs.declared.expr.Postfix.{Postfix}
use Rattle.sql_expr.specs.declared.select.Arm.{Arm}
use Rattle.sql_expr.specs.declared.source.TableSource.{TableSource}
use Rattle.sql_expr.specs.declared.expr.Expr.{Expr}
use Rattle.sql_expr.specs.declared.expr.InfixPart.{InfixPart}
use Rattle.sql_expr.specs.declared.expr.Part.{Part}
use Rattle.sql_expr.specs.declared.select.CompoundArm.{CompoundArm}
use Rattle.sql_expr.specs.declared.select.Select.{Select}
use Rattle.sql_expr.specs.declared.select.SelectArm.{SelectArm}
use Rattle.sql_expr.specs.declared.source.JoinedSource.{JoinedSource}
use Rattle.sql_expr.specs.declared.source.Sources.{Sources}
use Rattle.sql_expr.specs.declared.expr.InSet.TheOpen.{InSet-F, Operand-F, Postfix-F, Arm-F, TableSource-F, Expr-F, InfixPart-F, Part-F, SelectArm-F}

-- an in set, one level opened
abbrev pub OpenInSet : Type 0
OpenInSet =
    InSet-F InSet Operand Postfix Arm TableSource Expr InfixPart Part CompoundArm Select SelectArm JoinedSource Sources

-- an operand, one level opened
abbrev pub OpenOperand : Type 0
OpenOperand =
    Operand-F InSet Operand Postfix Arm TableSource Expr InfixPart Part CompoundArm Select SelectArm JoinedSource
    Sources

-- a postfix, one level opened
abbrev pub OpenPostfix : Type 0
OpenPostfix =
    Postfix-F InSet Operand Postfix Arm TableSource Expr InfixPart Part CompoundArm Select SelectArm JoinedSource
    Sources

-- an arm, one level opened
abbrev pub OpenArm : Type 0
OpenArm =
    Arm-F InSet Operand Postfix Arm TableSource Expr InfixPart Part CompoundArm Select SelectArm JoinedSource Sources

-- a table source, one level opened
abbrev pub OpenTableSource : Type 0
OpenTableSource =
    TableSource-F InSet Operand Postfix Arm TableSource Expr InfixPart Part CompoundArm Select SelectArm JoinedSource
    Sources

-- a select arm, one level opened
abbrev pub OpenSelectArm : Type 0
OpenSelectArm =
    SelectArm-F InSet Operand Postfix Arm TableSource Expr InfixPart Part CompoundArm Select SelectArm JoinedSource
    Sources

-- an expression, one level opened
abbrev pub OpenExpr : Type 0
OpenExpr =
    Expr-F InSet Operand Postfix Arm TableSource Expr InfixPart Part CompoundArm Select SelectArm JoinedSource Sources

-- an infix and its part, one level opened
abbrev pub OpenInfixPart : Type 0
OpenInfixPart =
    InfixPart-F InSet Operand Postfix Arm TableSource Expr InfixPart Part CompoundArm Select SelectArm JoinedSource Sources

-- a part of an expression, one level opened
abbrev pub OpenPart : Type 0
OpenPart =
    Part-F InSet Operand Postfix Arm TableSource Expr InfixPart Part CompoundArm Select SelectArm JoinedSource Sources
