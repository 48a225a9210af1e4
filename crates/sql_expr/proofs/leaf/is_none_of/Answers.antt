use Rattle.std.proofs.Common.{◌≡◌, Bool, true, false, not, refl}
use Rattle.std.specs.Prelude.{IsTrue, ◌↔◌}
use Rattle.sql_expr.proofs.Leaves.{none_from_one, one_not_none}
use Rattle.sql_expr.proofs.leaf.is_none_of.Goals as goal

-- the opposite test decides the opposite
opposite : (b : Bool) (P Q : Type 0) → (IsTrue b ↔ P) → ((P → ⊥) → Q) → (Q → P → ⊥) → IsTrue (not b) ↔ Q
opposite true P Q is from to = (λ h. let clash : false ≡ true = h in cc, λ q. absurd (to q (is.0 refl)))
opposite false P Q is from to = (λ h. from (λ p. let clash : false ≡ true = is.1 p in cc), λ q. refl)

pub returns : goal.returns
returns c = opposite c.is_one_of.result _ _ c.is_one_of.ensures (none_from_one _ _ _) (one_not_none _ _ _)
