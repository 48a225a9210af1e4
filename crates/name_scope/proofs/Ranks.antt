-- Of two binders no more than one is nearer.
use Rattle.std.proofs.Common.{◌≡◌, ℕ, Bool, true, false, nat_lt, List, refl, sym, inl, inr, arith}
use Rattle.std.proofs.lemmas.Bool.{ltb-false, ltb-true}
use Rattle.common_laws.proofs.Places.{element_at}
use Rattle.name_scope.specs.declared.level.Sight.{Sight}
use Rattle.name_scope.specs.Rank.{Denotes, IsNearer, Seen, StandsBefore}

pub before_once : (s t : Sight) → StandsBefore s t → StandsBefore t s → ⊥
before_once s t (inl a) (inl b) = omega (arith, a, b)
before_once s t (inl a) (inr b) = omega (arith, a, b.0)
before_once s t (inr a) (inl b) = omega (arith, a.0, b)
before_once s t (inr a) (inr b) = omega (arith, a.1.1, b.1.1)

pub nearer_once : (s t : Seen) → IsNearer s t → IsNearer t s → ⊥
nearer_once s t (inl a) (inl b) = omega (arith, a, b)
nearer_once s t (inl a) (inr b) = omega (arith, a, b.0)
nearer_once s t (inr a) (inl b) = omega (arith, a.0, b)
nearer_once s t (inr a) (inr b) = before_once s.1 t.1 a.1 b.1

-- a list has one place at most that is nearer than each other one
pub one_place : (seen : List Seen) (p q : ℕ) → Denotes seen p → Denotes seen q → p ≡ q
one_place seen p q a b = by (nat_lt p q) (nat_lt q p) refl refl
  where
    clash : (p ≡ q → ⊥) → p ≡ q
    clash apart =
        let (x, here, _) = element_at seen p a.there in
        let (y, there, _) = element_at seen q b.there in
        absurd (nearer_once x y (a.nearest q x y (λ same. apart (sym same)) here there) (b.nearest p y x apart there here))

    by : (c d : Bool) → nat_lt p q ≡ c → nat_lt q p ≡ d → p ≡ q
    by true d less other = clash (λ same. omega (arith, ltb-true p q less, same))
    by false true other less = clash (λ same. omega (arith, ltb-true q p less, same))
    by false false more less = omega (arith, ltb-false p q more, ltb-false q p less)
