use Rattle.std.proofs.Common.{ℕ, ◌≡◌, ◌≤◌, ◌<◌, ◌+◌, ◌*◌, ◌%◌, List, [], ◌∷◌, refl, inl, arith, None}
use Rattle.std.proofs.lemmas.List.Elements.{All-cons, All-nil}
use Rattle.alter_bytes.specs.Varint.{IsVarint}
use Rattle.alter_bytes.proofs.VarintLemmas.{varint-one}
use Rattle.page_cells.specs.Layout.{local_payload, overflow_size}
use Rattle.page_cells.specs.declared.kind.Kind.TheVariants.{TableLeaf}
use Rattle.page_cells.specs.Write.{IsWholeCell}
use Rattle.page_cells.proofs.tests.a_page_is_written_around_its_file_header.Goals as goal

-- a varint of two bytes
two_bytes : (a b : ℕ) → 128 ≤ a → b < 128 → IsVarint (a ∷ b ∷ []) (a % 128 * 128 + b)
two_bytes a b on small = inl (record {
  front = a ∷ [];
  last = b;
  whole = refl;
  few = omega arith;
  continued = All-cons (λ b. 128 ≤ b) a [] on (All-nil (λ b. 128 ≤ b));
  ended = small;
  value = omega arith;
})

-- the two cells
one : (bytes : List ℕ) → bytes ≡ 1 ∷ 2 ∷ 57 ∷ [] → IsWholeCell TableLeaf 500 bytes
unfolding local_payload overflow_size
one bytes is = record {
  left = None;
  payload = 1;
  rowid = 2;
  length_part = 1 ∷ [];
  rowid_part = 2 ∷ [];
  local_part = 57 ∷ [];
  overflow_part = [];
  whole = is;
  is_left = refl;
  is_length = varint-one 1 (omega arith);
  is_rowid = varint-one 2 (omega arith);
  local = refl;
  overflow = refl;
}

other : (bytes : List ℕ) → bytes ≡ 3 ∷ 129 ∷ 0 ∷ 97 ∷ 98 ∷ 99 ∷ [] → IsWholeCell TableLeaf 500 bytes
unfolding local_payload overflow_size
other bytes is = record {
  left = None;
  payload = 3;
  rowid = 128;
  length_part = 3 ∷ [];
  rowid_part = 129 ∷ 0 ∷ [];
  local_part = 97 ∷ 98 ∷ 99 ∷ [];
  overflow_part = [];
  whole = is;
  is_left = refl;
  is_length = varint-one 3 (omega arith);
  is_rowid = two_bytes 129 0 (omega arith) (omega arith);
  local = refl;
  overflow = refl;
}

pub write_page-requires-clause-whole : goal.write_page-requires-clause-whole
write_page-requires-clause-whole g c =
    let a = c.in_ok-from_slice.field-0 in
    let b = c.in_ok-from_slice-2.field-0 in
    let whole = one a c.in_ok-from_slice.ensures in
    let also = other b c.in_ok-from_slice-2.ensures in
    All-cons (IsWholeCell TableLeaf 500) a (b ∷ []) whole (All-cons (IsWholeCell TableLeaf 500) b [] also (All-nil (IsWholeCell TableLeaf 500)))
