-- The order of values (datatype3.html, "Sort Order").
use Rattle.std.specs.Prelude.{◌≡◌, ℕ, ◌⊎◌}
use Rattle.std.specs.Cmp.Lexicographic.{slice_cmp}
use Rattle.std.specs.Ordering.{nat_cmp, int_cmp, ordering_reverse}
use Rattle.std.specs.declared.cmp.Ordering.{Ordering}
use Rattle.std.specs.declared.cmp.Ordering.TheVariants.{Less, Equal}
use Rattle.record_codec.specs.declared.value.Value.{Value}
use Rattle.record_codec.specs.declared.value.Value.TheVariants.{Null, Int, Real, Text, Blob}
use Rattle.value_order.specs.declared.collation.Collation.{Collation}
use Rattle.value_order.specs.Collation.{collated}

-- the place of a value's kind: NULL, numbers, texts, blobs
abbrev pub class_of : Value → ℕ
class_of Null = 0
class_of (Int z) = 1
class_of (Real bytes) = 1
class_of (Text bytes) = 2
class_of (Blob bytes) = 3

abbrev pub IsReal : Value → Type 0
IsReal (Real bytes) = Unit {0}
IsReal _ = ⊥

-- both are numbers, and one is a real
pub record NeedReal (a b : Value) : Type 0 where
  pub number : class_of a ≡ 1
  pub other_number : class_of b ≡ 1
  pub real : IsReal a ⊎ IsReal b

-- the order of two values that need no real
abbrev pub order : Collation → Value → Value → Ordering
order c (Int x) (Int y) = int_cmp x y
order c (Text x) (Text y) = slice_cmp nat_cmp (collated c x) (collated c y)
order c (Blob x) (Blob y) = slice_cmp nat_cmp x y
order c a b = nat_cmp (class_of a) (class_of b)

-- The answers are a total order, but for the pairs that are left out: each value is equal to itself, two are in one order
-- whichever comes first, and what is less than, or equal to, what is less than a third is less than this, or equal.
pub record IsOrder (LeftOut : Value → Value → Type 0) (R : Value → Value → Ordering) : Type 0 where
  pub reflexive : (a : Value) → (LeftOut a a → ⊥) → R a a ≡ Equal
  pub antisymmetric : (a b : Value) → (LeftOut a b → ⊥) → R a b ≡ ordering_reverse (R b a)
  pub transitive : (a b c : Value) → (LeftOut a b → ⊥) → (LeftOut b c → ⊥) → (LeftOut a c → ⊥) → R a b ≡ Less → R b c ≡ Less → R a c ≡ Less
  pub alike : (a b c : Value) → (LeftOut a b → ⊥) → (LeftOut b c → ⊥) → (LeftOut a c → ⊥) → R a b ≡ Equal → R a c ≡ R b c
