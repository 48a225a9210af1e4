-- How long a payload's local part is.
use Rattle.std.proofs.Common.{◌≡◌, ℕ, ◌<◌, ◌≤◌, inl, inr, ap, nat_lt, if◌then◌else◌, arith}
use Rattle.std.proofs.lemmas.Bool.{cases_lt}
use Rattle.std.proofs.lemmas.Bool.Decides.{nat_tests}
use Rattle.page_cells.specs.Layout.{fill_local, least_local, least_usable, local_payload, most_local, overflow_size}
use Rattle.page_cells.specs.declared.kind.Kind.{Kind}
use Rattle.page_cells.specs.declared.kind.Kind.TheVariants.{IndexInner, TableInner, IndexLeaf, TableLeaf}

pub local_payload-whole : (kind : Kind) (usable p : ℕ) → p ≤ most_local kind usable → local_payload kind usable p ≡ p
unfolding local_payload
local_payload-whole kind usable p h = grind (arith, nat_tests)

pub local_payload-fill : (kind : Kind) (usable p : ℕ) → most_local kind usable < p → fill_local usable p ≤ most_local kind usable
    → local_payload kind usable p ≡ fill_local usable p
unfolding local_payload
local_payload-fill kind usable p h k = grind (arith, nat_tests)

pub local_payload-least : (kind : Kind) (usable p : ℕ) → most_local kind usable < p → most_local kind usable < fill_local usable p
    → local_payload kind usable p ≡ least_local usable
unfolding local_payload
local_payload-least kind usable p h k = grind (arith, nat_tests)

-- the least of a longer payload is no more than the most
least-le-most : (kind : Kind) (usable : ℕ) → least_usable ≤ usable → least_local usable ≤ most_local kind usable
least-le-most IndexInner usable least = omega arith
least-le-most TableInner usable least = omega arith
least-le-most IndexLeaf usable least = omega arith
least-le-most TableLeaf usable least = omega arith

pub most_local-le : (kind : Kind) (usable : ℕ) → most_local kind usable ≤ usable
most_local-le IndexInner usable = omega arith
most_local-le TableInner usable = omega arith
most_local-le IndexLeaf usable = omega arith
most_local-le TableLeaf usable = omega arith

-- the local part leaves room in the page, and is a part of the payload
pub local_payload-le : (kind : Kind) (usable p : ℕ) → least_usable ≤ usable → local_payload kind usable p ≤ most_local kind usable
local_payload-le kind usable p least = elim (cases_lt (most_local kind usable) p) [
  | inr whole ↦ omega (arith, local_payload-whole kind usable p whole, whole)
  | inl over ↦ elim (cases_lt (most_local kind usable) (fill_local usable p)) [
    | inr fills ↦ omega (arith, local_payload-fill kind usable p over fills, fills)
    | inl past ↦ omega (arith, local_payload-least kind usable p over past, least-le-most kind usable least)
  ]
]

pub local_payload-le-payload : (kind : Kind) (usable p : ℕ) → least_usable ≤ usable → local_payload kind usable p ≤ p
local_payload-le-payload kind usable p least = elim (cases_lt (most_local kind usable) p) [
  | inr whole ↦ omega (arith, local_payload-whole kind usable p whole)
  | inl over ↦ elim (cases_lt (most_local kind usable) (fill_local usable p)) [
    | inr fills ↦ omega (arith, local_payload-fill kind usable p over fills, fills)
    | inl past ↦ omega (arith, local_payload-least kind usable p over past, least-le-most kind usable least)
  ]
]

-- the number of an overflow page stands in the cell where payload overflows
pub overflow_size-some : (kind : Kind) (usable p : ℕ) → local_payload kind usable p < p → overflow_size kind usable p ≡ 4
unfolding overflow_size
overflow_size-some kind usable p h = grind (arith, nat_tests)

pub overflow_size-none : (kind : Kind) (usable p : ℕ) → p ≤ local_payload kind usable p → overflow_size kind usable p ≡ 0
unfolding overflow_size
overflow_size-none kind usable p h = grind (arith, nat_tests)

pub overflow_size-le : (kind : Kind) (usable p : ℕ) → overflow_size kind usable p ≤ 4
unfolding overflow_size
overflow_size-le kind usable p = grind (arith, nat_tests)

pub overflow_size-is : (kind : Kind) (usable p local : ℕ) → local ≡ local_payload kind usable p → (if nat_lt local p then 4 else 0) ≡ overflow_size kind usable p
unfolding overflow_size
overflow_size-is kind usable p local e = ap (λ k. if nat_lt k p then 4 else 0) e
