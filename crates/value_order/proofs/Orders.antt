-- The order of values is a total order, but for pairs that need a real.
use Rattle.std.proofs.Common.{◌≡◌, ℕ, ⊎_elim, inl, inr, List, [], Ordering, refl, sym, ap, ◌∙◌}
use Rattle.std.specs.Cmp.{IsTotalOrder}
use Rattle.std.specs.Cmp.Lexicographic.{slice_cmp}
use Rattle.std.specs.Ordering.{nat_cmp, int_cmp, on, then_cmp, ordering_reverse, ordering_then}
use Rattle.std.specs.Prelude.{ℤ, pos}
use Rattle.std.specs.declared.cmp.Ordering.TheVariants.{Less, Equal, Greater}
use Rattle.std.proofs.lemmas.Cmp.{nat_cmp_total, int_cmp_total, nat_list_cmp_total, on_total, then_total, tied_itself}
use Rattle.record_codec.specs.declared.value.Value.{Value}
use Rattle.record_codec.specs.declared.value.Value.TheVariants.{Null, Int, Real, Text, Blob}
use Rattle.value_order.specs.declared.collation.Collation.{Collation}
use Rattle.value_order.specs.Collation.{collated}
use Rattle.value_order.specs.Order.{IsOrder, NeedReal, class_of, order}

-- the number that an integer is
abbrev number_of : Value → ℤ
number_of (Int z) = z
number_of _ = pos 0

-- the bytes by which a text or a blob is compared
abbrev bytes_of : Collation → Value → List ℕ
bytes_of c (Text bytes) = collated c bytes
bytes_of c (Blob bytes) = bytes
bytes_of c _ = []

-- an order of all values, in which each real is equal to 0
abbrev whole_order : Collation → Value → Value → Ordering
whole_order c = then_cmp (on class_of nat_cmp) (then_cmp (on number_of int_cmp) (on (bytes_of c) (slice_cmp nat_cmp)))

whole_total : (c : Collation) → IsTotalOrder (whole_order c)
whole_total c = then_total (on_total class_of nat_cmp_total) (then_total (on_total number_of int_cmp_total) (on_total (bytes_of c) nat_list_cmp_total))

then_equal : (o : Ordering) → o ≡ ordering_then o Equal
then_equal Less = refl
then_equal Equal = refl
then_equal Greater = refl

-- the two orders agree where no real is needed
agree : (c : Collation) (a b : Value) → (NeedReal a b → ⊥) → order c a b ≡ whole_order c a b
agree c (Int x) (Int y) none = then_equal (int_cmp x y)
agree c (Real x) (Real y) none = absurd (none (record { number = refl; other_number = refl; real = inl tt }))
agree c (Int x) (Real y) none = absurd (none (record { number = refl; other_number = refl; real = inr tt }))
agree c (Real x) (Int y) none = absurd (none (record { number = refl; other_number = refl; real = inl tt }))
agree c (Text x) (Text y) none = refl
agree c (Blob x) (Blob y) none = refl
agree c Null Null none = refl
agree c Null (Int y) none = refl
agree c Null (Real y) none = refl
agree c Null (Text y) none = refl
agree c Null (Blob y) none = refl
agree c (Int x) Null none = refl
agree c (Int x) (Text y) none = refl
agree c (Int x) (Blob y) none = refl
agree c (Real x) Null none = refl
agree c (Real x) (Text y) none = refl
agree c (Real x) (Blob y) none = refl
agree c (Text x) Null none = refl
agree c (Text x) (Int y) none = refl
agree c (Text x) (Real y) none = refl
agree c (Text x) (Blob y) none = refl
agree c (Blob x) Null none = refl
agree c (Blob x) (Int y) none = refl
agree c (Blob x) (Real y) none = refl
agree c (Blob x) (Text y) none = refl

turned : (a b : Value) → NeedReal a b → NeedReal b a
turned a b need = record { number = need.other_number; other_number = need.number; real = ⊎_elim (λ x. inr x) (λ x. inl x) need.real }

-- the laws of the order
pub laws : (c : Collation) → IsOrder NeedReal (order c)
laws c = record {
  reflexive = λ a none. agree c a a none ∙ tied_itself (whole_total c) a;
  antisymmetric = λ a b none.
      agree c a b none ∙ (whole_total c).antisymm a b ∙ ap ordering_reverse (sym (agree c b a (λ need. none (turned b a need))));
  transitive = λ a b d first second both less more.
      agree c a d both ∙ (whole_total c).trans a b d (sym (agree c a b first) ∙ less) (sym (agree c b d second) ∙ more);
  alike = λ a b d first second both same.
      agree c a d both ∙ (whole_total c).congr a b d (sym (agree c a b first) ∙ same) ∙ sym (agree c b d second);
}
