-- The fields of a cell, as they are read one after the other.
use Rattle.std.proofs.Common.{◌≡◌, ◌≤◌, ◌⊎◌, inl, inr, ℕ, ℤ, ◌+◌, List, drop, Option, Some, None, IfSome, IfNone, sym, ap, subst, ◌∙◌, arith, nat_lt, if◌then◌else◌}
use Rattle.alter_bytes.specs.Varint.{varint_at}
use Rattle.byteorder.specs.Endian.{big_number}
use Rattle.page_cells.specs.Layout.{child_len, local_payload, overflow_size}
use Rattle.page_cells.specs.Cells.{HasChild, HasLength, HasRowid, HasVarint, IsCellAt, cell_end}
use Rattle.page_cells.specs.declared.kind.Kind.{Kind}
use Rattle.page_cells.specs.declared.kind.Kind.TheVariants.{IndexInner, TableInner, IndexLeaf, TableLeaf}
use Rattle.page_cells.specs.declared.cell.Cell.{Cell}
use Rattle.page_cells.proofs.CellLemmas.{HasVarint-pos, HasVarint-read, one_length, one_rowid, read-HasVarint}

-- the kinds whose cells have a payload, and those whose cells have a rowid
abbrev pub HavePayload : Kind → Type 0
HavePayload kind = (kind ≡ IndexInner) ⊎ ((kind ≡ IndexLeaf) ⊎ (kind ≡ TableLeaf))

abbrev pub HaveRowid : Kind → Type 0
HaveRowid kind = (kind ≡ TableInner) ⊎ (kind ≡ TableLeaf)

none_there : (page : List ℕ) (at n v : ℕ) → varint_at page at ≡ None → HasVarint page at n v → ⊥
none_there page at n v none h = apart (sym none ∙ HasVarint-read page at n v h)
  where
    apart : ◌≡◌ {A = Option (ℕ × ℕ)} None (Some (v, n)) → ⊥
    apart e = cc

length_is : (kind : Kind) (page : List ℕ) (at n v : ℕ) → HavePayload kind → HasVarint page at n v → HasLength kind page at n v
length_is IndexInner page at n v have h = h
length_is TableInner page at n v have h = absurd (elim have [ inl e ↦ cc | inr (inl e) ↦ cc | inr (inr e) ↦ cc ])
length_is IndexLeaf page at n v have h = h
length_is TableLeaf page at n v have h = h

is_length : (kind : Kind) (page : List ℕ) (at n v : ℕ) → HavePayload kind → HasLength kind page at n v → HasVarint page at n v
is_length IndexInner page at n v have h = h
is_length TableInner page at n v have h = absurd (elim have [ inl e ↦ cc | inr (inl e) ↦ cc | inr (inr e) ↦ cc ])
is_length IndexLeaf page at n v have h = h
is_length TableLeaf page at n v have h = h

-- the varint that is read is the length of the payload
pub length_found : (kind : Kind) (page : List ℕ) (at : ℕ) (read : Option (ℕ × ℕ)) → HavePayload kind → read ≡ varint_at page at
    → IfSome read (λ r. HasLength kind page at r.1 r.0)
length_found kind page at None have is = tt
length_found kind page at (Some r) have is = length_is kind page at r.1 r.0 have (read-HasVarint page at r.1 r.0 (sym is))

pub length_most : (page : List ℕ) (at : ℕ) (read : Option (ℕ × ℕ)) → read ≡ varint_at page at → IfSome read (λ r. r.1 ≤ 9)
length_most page at None is = tt
length_most page at (Some r) is = let some = HasVarint-pos page at r.1 r.0 (read-HasVarint page at r.1 r.0 (sym is)) in some.1

pub length_none : (kind : Kind) (page : List ℕ) (at : ℕ) (read : Option (ℕ × ℕ)) → HavePayload kind → read ≡ varint_at page at
    → IfNone read ((n v : ℕ) → HasLength kind page at n v → ⊥)
length_none kind page at None have is = λ n v h. none_there page at n v (sym is) (is_length kind page at n v have h)
length_none kind page at (Some r) have is = tt

-- without a varint there is no rowid
pub no_number : (kind : Kind) (page : List ℕ) (at n : ℕ) (rowid : Option ℤ) → HaveRowid kind → varint_at page at ≡ None → HasRowid kind page at n rowid → ⊥
no_number IndexInner page at n rowid have none h = elim have [ inl e ↦ cc | inr e ↦ cc ]
no_number TableInner page at n rowid have none h = none_there page at n h.bits none h.form
no_number IndexLeaf page at n rowid have none h = elim have [ inl e ↦ cc | inr e ↦ cc ]
no_number TableLeaf page at n rowid have none h = none_there page at n h.bits none h.form

-- where one of its fields isn't there, there is no cell
pub no_rowid : (page : List ℕ) (kind : Kind) (usable at child n v : ℕ) (c : Cell) → child ≡ child_len kind → HasLength kind page (at + child) n v
    → ((m : ℕ) (r : Option ℤ) → HasRowid kind page (at + child + n) m r → ⊥) → IsCellAt page kind usable at c → ⊥
no_rowid page kind usable at child n v c is length none h =
    let there = subst (λ k. HasLength kind page (at + k) n v) is length in
    let same = one_length kind page (at + child_len kind) h.length_size n c.payload v h.payload there in
    let place : at + child_len kind + h.length_size ≡ at + child + n = omega (arith, is, same.1) in
    none h.rowid_size c.rowid (subst (λ p. HasRowid kind page p h.rowid_size c.rowid) place h.rowid)

-- the cell of the fields that are read ends behind them
pub cell_end-read : (page : List ℕ) (kind : Kind) (usable at child n v m : ℕ) (r : Option ℤ) (c : Cell) → child ≡ child_len kind
    → HasLength kind page (at + child) n v → HasRowid kind page (at + child + n) m r → IsCellAt page kind usable at c
    → cell_end kind usable c ≡ at + child + n + m + local_payload kind usable v + overflow_size kind usable v
cell_end-read page kind usable at child n v m r c is length rowid h =
    let there = subst (λ k. HasLength kind page (at + k) n v) is length in
    let same = one_length kind page (at + child_len kind) h.length_size n c.payload v h.payload there in
    let place : at + child_len kind + h.length_size ≡ at + child + n = omega (arith, is, same.1) in
    let also = one_rowid kind page (at + child + n) h.rowid_size m c.rowid r (subst (λ p. HasRowid kind page p h.rowid_size c.rowid) place h.rowid) rowid in
    omega (arith, place, also.1, h.start, h.end, ap (local_payload kind usable) same.0, ap (overflow_size kind usable) same.0)

-- the cell of the fields that are read
pub read_cell : (page : List ℕ) (kind : Kind) (usable at child n m local : ℕ) (c : Cell) → child ≡ child_len kind → HasChild kind page at c.left
    → HasLength kind page (at + child) n c.payload → HasRowid kind page (at + child + n) m c.rowid → c.start ≡ at + child + n + m
    → c.end ≡ c.start + local → local ≡ local_payload kind usable c.payload
    → c.overflow ≡ (if nat_lt local c.payload then Some (big_number 4 (drop c.end page)) else None) → IsCellAt page kind usable at c
read_cell page kind usable at child n m local c is left length rowid start end part overflow = record {
  length_size = n;
  rowid_size = m;
  left = left;
  payload = subst (λ k. HasLength kind page (at + k) n c.payload) is length;
  rowid = subst (λ k. HasRowid kind page (at + k + n) m c.rowid) is rowid;
  start = omega (arith, start, is);
  end = end ∙ ap (λ k. c.start + k) part;
  overflow = overflow ∙ ap (λ k. if nat_lt k c.payload then Some (big_number 4 (drop c.end page)) else None) part;
}
