-- Of two binders one is nearer or not, and never both.
use Rattle.std.proofs.Common.{◌≡◌, ◌<◌, ℕ, ◌⊎◌, inl, inr, ⊎_elim, arith}
use Rattle.std.proofs.lemmas.Bool.{cases_eq, cases_lt}
use Rattle.name_scope.specs.declared.level.Sight.{Sight}
use Rattle.name_scope.specs.Rank.{IsNearer, Seen, StandsBefore}
use Rattle.name_rules.proofs.Identities.{same_or_not}

-- of two facts that are decided the second is asked where the first does not hold
or_not : (A B : Type 0) → A ⊎ (A → ⊥) → B ⊎ (B → ⊥) → (A ⊎ B) ⊎ (A ⊎ B → ⊥)
or_not A B (inl a) b = inl (inl a)
or_not A B (inr a) (inl b) = inl (inr b)
or_not A B (inr a) (inr b) = inr (⊎_elim a b)

and_not : (A B : Type 0) → A ⊎ (A → ⊥) → B ⊎ (B → ⊥) → (A × B) ⊎ (A × B → ⊥)
and_not A B (inl a) (inl b) = inl (a, b)
and_not A B (inl a) (inr b) = inr (λ both. b both.1)
and_not A B (inr a) b = inr (λ both. a both.0)

less_or_not : (m n : ℕ) → (m < n) ⊎ (m < n → ⊥)
less_or_not m n = ⊎_elim (λ less. inl less) (λ no. inr (λ less. omega arith)) (cases_lt m n)

before_or_not : (s t : Sight) → StandsBefore s t ⊎ (StandsBefore s t → ⊥)
before_or_not s t =
    or_not (s.class < t.class) ((s.class ≡ t.class) × ((s.source ≡ t.source) × (s.place < t.place))) (less_or_not s.class t.class)
    (and_not (s.class ≡ t.class) ((s.source ≡ t.source) × (s.place < t.place)) (cases_eq s.class t.class)
    (and_not (s.source ≡ t.source) (s.place < t.place) (same_or_not s.source t.source) (less_or_not s.place t.place)))

-- one is nearer, or it is not
pub nearer_or_not : (s t : Seen) → IsNearer s t ⊎ (IsNearer s t → ⊥)
nearer_or_not s t =
    or_not (s.0 < t.0) ((s.0 ≡ t.0) × StandsBefore s.1 t.1) (less_or_not s.0 t.0)
    (and_not (s.0 ≡ t.0) (StandsBefore s.1 t.1) (cases_eq s.0 t.0) (before_or_not s.1 t.1))
