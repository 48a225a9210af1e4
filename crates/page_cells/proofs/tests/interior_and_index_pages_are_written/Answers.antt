use Rattle.std.proofs.Common.{ℕ, ◌≡◌, ◌≤◌, ◌<◌, ◌+◌, ◌*◌, ◌%◌, List, [], ◌∷◌, refl, inl, arith, None, Some}
use Rattle.std.proofs.lemmas.List.Elements.{All-cons, All-nil}
use Rattle.alter_bytes.specs.Varint.{IsVarint}
use Rattle.alter_bytes.proofs.VarintLemmas.{varint-one}
use Rattle.page_cells.specs.Layout.{local_payload, overflow_size}
use Rattle.page_cells.specs.declared.kind.Kind.TheVariants.{IndexInner, TableInner, IndexLeaf}
use Rattle.page_cells.specs.Write.{IsWholeCell}
use Rattle.page_cells.proofs.tests.interior_and_index_pages_are_written.Goals as goal

-- a varint of two bytes
two_bytes : (a b : ℕ) → 128 ≤ a → b < 128 → IsVarint (a ∷ b ∷ []) (a % 128 * 128 + b)
two_bytes a b on small = inl (record {
  front = a ∷ [];
  last = b;
  whole = refl;
  few = omega arith;
  continued = All-cons (λ b. 128 ≤ b) a [] on (All-nil (λ b. 128 ≤ b));
  ended = small;
  value = omega arith;
})

-- the cells of the interior page of a table tree
child_five : (bytes : List ℕ) → bytes ≡ 0 ∷ 0 ∷ 0 ∷ 5 ∷ 130 ∷ 44 ∷ [] → IsWholeCell TableInner 512 bytes
unfolding local_payload overflow_size
child_five bytes is = record {
  left = Some 5;
  payload = 0;
  rowid = 300;
  length_part = [];
  rowid_part = 130 ∷ 44 ∷ [];
  local_part = [];
  overflow_part = [];
  whole = is;
  is_left = omega arith;
  is_length = (refl, refl);
  is_rowid = two_bytes 130 44 (omega arith) (omega arith);
  local = refl;
  overflow = refl;
}

child_six : (bytes : List ℕ) → bytes ≡ 0 ∷ 0 ∷ 0 ∷ 6 ∷ 3 ∷ [] → IsWholeCell TableInner 512 bytes
unfolding local_payload overflow_size
child_six bytes is = record {
  left = Some 6;
  payload = 0;
  rowid = 3;
  length_part = [];
  rowid_part = 3 ∷ [];
  local_part = [];
  overflow_part = [];
  whole = is;
  is_left = omega arith;
  is_length = (refl, refl);
  is_rowid = varint-one 3 (omega arith);
  local = refl;
  overflow = refl;
}

-- the cells of the pages of indexes
inner_key : (bytes : List ℕ) → bytes ≡ 0 ∷ 0 ∷ 0 ∷ 9 ∷ 1 ∷ 97 ∷ [] → IsWholeCell IndexInner 510 bytes
unfolding local_payload overflow_size
inner_key bytes is = record {
  left = Some 9;
  payload = 1;
  rowid = 0;
  length_part = 1 ∷ [];
  rowid_part = [];
  local_part = 97 ∷ [];
  overflow_part = [];
  whole = is;
  is_left = omega arith;
  is_length = varint-one 1 (omega arith);
  is_rowid = (refl, refl);
  local = refl;
  overflow = refl;
}

leaf_key : (bytes : List ℕ) → bytes ≡ 2 ∷ 1 ∷ 9 ∷ [] → IsWholeCell IndexLeaf 512 bytes
unfolding local_payload overflow_size
leaf_key bytes is = record {
  left = None;
  payload = 2;
  rowid = 0;
  length_part = 2 ∷ [];
  rowid_part = [];
  local_part = 1 ∷ 9 ∷ [];
  overflow_part = [];
  whole = is;
  is_left = refl;
  is_length = varint-one 2 (omega arith);
  is_rowid = (refl, refl);
  local = refl;
  overflow = refl;
}

pub write_page-requires-clause-whole : goal.write_page-requires-clause-whole
write_page-requires-clause-whole g c =
    let a = c.in_ok-from_slice.field-0 in
    let b = c.in_ok-from_slice-2.field-0 in
    let one = child_five a c.in_ok-from_slice.ensures in
    let other = child_six b c.in_ok-from_slice-2.ensures in
    All-cons (IsWholeCell TableInner 512) a (b ∷ []) one (All-cons (IsWholeCell TableInner 512) b [] other (All-nil (IsWholeCell TableInner 512)))

pub write_page-requires-2-clause-whole : goal.write_page-requires-2-clause-whole
write_page-requires-2-clause-whole g c =
    let a = c.in_ok-from_slice-3.field-0 in
    All-cons (IsWholeCell IndexInner 510) a [] (inner_key a c.in_ok-from_slice-3.ensures) (All-nil (IsWholeCell IndexInner 510))

pub write_page-requires-3-clause-whole : goal.write_page-requires-3-clause-whole
write_page-requires-3-clause-whole g c =
    let a = c.in_ok-from_slice-4.field-0 in
    All-cons (IsWholeCell IndexLeaf 512) a [] (leaf_key a c.in_ok-from_slice-4.ensures) (All-nil (IsWholeCell IndexLeaf 512))
