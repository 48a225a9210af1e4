-- Types that lead back to themselves, one level opened.
use Rattle.sql_expr.specs.declared.expr.Expr.{Expr}
use Rattle.sql_expr.specs.declared.expr.InSet.{InSet}
use Rattle.sql_expr.specs.declared.expr.InSet.TheOpen.{CompoundArm-F, JoinedSource-F, Select-F, Sources-F}
use Rattle.sql_expr.specs.declared.expr.InfixPart.{InfixPart}
use Rattle.sql_expr.specs.declared.expr.Operand.{Operand}
use Rattle.sql_expr.specs.declared.expr.Part.{Part}
use Rattle.sql_expr.specs.declared.expr.Postfix.{Postfix}
use Rattle.sql_expr.specs.declared.select.Arm.{Arm}
use Rattle.sql_expr.specs.declared.select.CompoundArm.{CompoundArm}
use Rattle.sql_expr.specs.declared.select.Select.{Select}
use Rattle.sql_expr.specs.declared.select.SelectArm.{SelectArm}
use Rattle.sql_expr.specs.declared.source.JoinedSource.{JoinedSource}
use Rattle.sql_expr.specs.declared.source.Sources.{Sources}
use Rattle.sql_expr.specs.declared.source.TableSource.{TableSource}

-- sources
abbrev pub OpenSources : Type 0
OpenSources =
    Sources-F InSet Operand Postfix Arm TableSource Expr InfixPart Part CompoundArm Select SelectArm JoinedSource Sources

-- a joined source
abbrev pub OpenJoinedSource : Type 0
OpenJoinedSource =
    JoinedSource-F InSet Operand Postfix Arm TableSource Expr InfixPart Part CompoundArm Select SelectArm JoinedSource
    Sources

-- an arm behind others
abbrev pub OpenCompoundArm : Type 0
OpenCompoundArm =
    CompoundArm-F InSet Operand Postfix Arm TableSource Expr InfixPart Part CompoundArm Select SelectArm JoinedSource
    Sources

-- a select
abbrev pub OpenSelect : Type 0
OpenSelect =
    Select-F InSet Operand Postfix Arm TableSource Expr InfixPart Part CompoundArm Select SelectArm JoinedSource Sources
