-- Whether a tree ends in a joined source without a constraint: an ON directly behind it begins that constraint.
use Rattle.std.specs.Prelude.{Bool, false, ◌&&◌, List, [], ◌∷◌, Option, Some, None, is_none}
use Rattle.sql_expr.specs.Levels.{OpenArm}
use Rattle.sql_expr.specs.declared.lists.After.{After}
use Rattle.sql_expr.specs.declared.expr.InSet.TheOpen.{Arm-F}
use Rattle.sql_expr.specs.declared.select.Arm.{Arm, out-Arm}
use Rattle.sql_expr.specs.declared.select.CompoundArm.{CompoundArm, out-CompoundArm}
use Rattle.sql_expr.specs.declared.select.Select.{Select, out-Select}
use Rattle.sql_expr.specs.declared.select.SelectArm.{out-SelectArm}
use Rattle.sql_expr.specs.declared.source.JoinedSource.{JoinedSource, out-JoinedSource}
use Rattle.sql_expr.specs.declared.source.Sources.{Sources, out-Sources}

-- the last of the joined sources has no constraint
abbrev pub last_is_bare : List JoinedSource → Bool
last_is_bare [] = false
last_is_bare (x ∷ []) = is_none (out-JoinedSource x).constraint
last_is_bare (x ∷ next ∷ more) = last_is_bare (next ∷ more)

-- the sources end so
abbrev pub sources_end_in_joined : Sources → Bool
sources_end_in_joined x = last_is_bare (out-Sources x).more

-- what stands behind FROM ends so
abbrev pub from_ends_in_joined : Option (After Sources) → Bool
from_ends_in_joined None = false
from_ends_in_joined (Some from) = sources_end_in_joined from.part

-- the arm ends so: nothing stands behind its sources
abbrev pub arm_ends_in_joined : OpenArm → Bool
arm_ends_in_joined (Arm-F.Values values rows) = false
arm_ends_in_joined (Arm-F.Select x) =
    from_ends_in_joined (out-SelectArm x).from && is_none (out-SelectArm x).filter && is_none (out-SelectArm x).group
    && is_none (out-SelectArm x).having && is_none (out-SelectArm x).windows

-- the last of an arm and the arms behind it ends so
abbrev pub last_arm_ends_in_joined : Arm → List CompoundArm → Bool
last_arm_ends_in_joined arm [] = arm_ends_in_joined (out-Arm arm)
last_arm_ends_in_joined arm (next ∷ more) = last_arm_ends_in_joined (out-CompoundArm next).arm more

-- the select ends so: neither ORDER BY nor LIMIT stands behind its last arm
abbrev pub ends_in_joined : Select → Bool
ends_in_joined x =
    last_arm_ends_in_joined (out-Select x).arm (out-Select x).compounds && is_none (out-Select x).order
    && is_none (out-Select x).limit
