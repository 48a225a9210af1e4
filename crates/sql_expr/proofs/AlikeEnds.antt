-- Trees that are alike end alike in a joined source.
use Rattle.std.proofs.Common.{◌≡◌, ℕ, zero, suc, Bool, ◌&&◌, List, [], ◌∷◌, Option, Some, None, refl}
use Rattle.std.specs.Prelude.{is_none}
use Rattle.sql_expr.specs.Joined.{last_is_bare, sources_end_in_joined, from_ends_in_joined, arm_ends_in_joined, last_arm_ends_in_joined, ends_in_joined}
use Rattle.sql_expr.specs.Levels.{OpenArm}
use Rattle.sql_expr.specs.declared.lists.After.{After}
use Rattle.sql_expr.specs.declared.expr.InSet.TheOpen.{Arm-F}
use Rattle.sql_expr.specs.declared.select.Arm.{Arm, out-Arm}
use Rattle.sql_expr.specs.declared.select.CompoundArm.{CompoundArm, out-CompoundArm}
use Rattle.sql_expr.specs.declared.select.Select.{Select, out-Select}
use Rattle.sql_expr.specs.declared.select.SelectArm.{out-SelectArm}
use Rattle.sql_expr.specs.declared.source.JoinedSource.{JoinedSource, out-JoinedSource}
use Rattle.sql_expr.specs.declared.source.Sources.{Sources, out-Sources}
use Rattle.sql_expr.proofs.Kept.{Edit, AlikeOption, AlikeList, AlikeAfter}
use Rattle.sql_expr.proofs.Alike.{AlikeInside, AlikeJoinedSource, AlikeOpenArm, AlikeArm, AlikeCompoundArm, AlikeAt}

none_alike : {A : Type 0} (R : A → A → Type 0) (o p : Option A) → AlikeOption R o p → is_none p ≡ is_none o
none_alike R None None r = refl
none_alike R None (Some y) r = absurd r
none_alike R (Some x) None r = absurd r
none_alike R (Some x) (Some y) r = refl

joined_alike : (e : Edit) (a : AlikeInside) (xs ys : List JoinedSource) → AlikeList (AlikeJoinedSource e a) xs ys → last_is_bare ys ≡ last_is_bare xs
joined_alike e a [] [] r = refl
joined_alike e a [] (y ∷ ys) r = absurd r
joined_alike e a (x ∷ xs) [] r = absurd r
joined_alike e a (x ∷ []) (y ∷ []) r = none_alike _ (out-JoinedSource x).constraint (out-JoinedSource y).constraint r.0.1
joined_alike e a (x ∷ []) (y ∷ z ∷ ys) r = absurd r.1
joined_alike e a (x ∷ w ∷ xs) (y ∷ []) r = absurd r.1
joined_alike e a (x ∷ w ∷ xs) (y ∷ z ∷ ys) r = joined_alike e a (w ∷ xs) (z ∷ ys) r.1

sources_alike : (e : Edit) (n : ℕ) (x y : Sources) → (AlikeAt e n).sources x y → sources_end_in_joined y ≡ sources_end_in_joined x
sources_alike e zero x y r = absurd r
sources_alike e (suc n) x y r = joined_alike e (AlikeAt e n) (out-Sources x).more (out-Sources y).more r.1

from_alike : (e : Edit) (n : ℕ) (o p : Option (After Sources)) → AlikeOption (AlikeAfter e (AlikeAt e n).sources) o p
    → from_ends_in_joined p ≡ from_ends_in_joined o
from_alike e n None None r = refl
from_alike e n None (Some y) r = absurd r
from_alike e n (Some x) None r = absurd r
from_alike e n (Some x) (Some y) r = sources_alike e n x.part y.part r.1

five : (a b c d f a' b' c' d' f' : Bool) → a ≡ a' → b ≡ b' → c ≡ c' → d ≡ d' → f ≡ f' → (a && b && c && d && f) ≡ (a' && b' && c' && d' && f')
five a b c d f a' b' c' d' f' p q r s t = cc

arm_alike : (e : Edit) (n : ℕ) (x y : OpenArm) → AlikeOpenArm e (AlikeAt e n) x y → arm_ends_in_joined y ≡ arm_ends_in_joined x
arm_alike e n (Arm-F.Values values rows) (Arm-F.Values values' rows') r = refl
arm_alike e n (Arm-F.Values values rows) (Arm-F.Select y) r = absurd r
arm_alike e n (Arm-F.Select x) (Arm-F.Values values rows) r = absurd r
arm_alike e n (Arm-F.Select x) (Arm-F.Select y) r =
    five _ _ _ _ _ _ _ _ _ _ (from_alike e n (out-SelectArm x).from (out-SelectArm y).from r.0.0.0.0.1)
    (none_alike _ (out-SelectArm x).filter (out-SelectArm y).filter r.0.0.0.1) (none_alike _ (out-SelectArm x).group (out-SelectArm y).group r.0.0.1)
    (none_alike _ (out-SelectArm x).having (out-SelectArm y).having r.0.1) (none_alike _ (out-SelectArm x).windows (out-SelectArm y).windows r.1)

last_alike : (e : Edit) (n : ℕ) (x y : Arm) (xs ys : List CompoundArm) → AlikeArm e (AlikeAt e n) x y
    → AlikeList (AlikeCompoundArm e (AlikeAt e n)) xs ys → last_arm_ends_in_joined y ys ≡ last_arm_ends_in_joined x xs
last_alike e n x y [] [] r s = arm_alike e n (out-Arm x) (out-Arm y) r
last_alike e n x y [] (w ∷ ys) r s = absurd s
last_alike e n x y (v ∷ xs) [] r s = absurd s
last_alike e n x y (v ∷ xs) (w ∷ ys) r s = last_alike e n (out-CompoundArm v).arm (out-CompoundArm w).arm xs ys s.0.1 s.1

three : (a b c a' b' c' : Bool) → a ≡ a' → b ≡ b' → c ≡ c' → (a && b && c) ≡ (a' && b' && c')
three a b c a' b' c' p q r = cc

-- the one ends in a joined source without a constraint where the other does
pub ends_alike : (e : Edit) (n : ℕ) (x y : Select) → (AlikeAt e n).select x y → ends_in_joined y ≡ ends_in_joined x
ends_alike e zero x y r = absurd r
ends_alike e (suc n) x y r =
    three _ _ _ _ _ _
    (last_alike e n (out-Select x).arm (out-Select y).arm (out-Select x).compounds (out-Select y).compounds r.0.0.0.1 r.0.0.1)
    (none_alike _ (out-Select x).order (out-Select y).order r.0.1) (none_alike _ (out-Select x).limit (out-Select y).limit r.1)
