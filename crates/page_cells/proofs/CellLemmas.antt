-- What the bytes at a place say of the cell there: it is one at most, and what is read is it.
use Rattle.std.proofs.Common.{◌≡◌, ℕ, ℤ, ◌+◌, ◌<◌, ◌≤◌, List, drop, Option, Some, None, sym, ap, subst, ◌∙◌, arith, nat_lt, if◌then◌else◌}
use Rattle.std.specs.Int.{w64, cast_signed}
use Rattle.byteorder.specs.Endian.{big_number}
use Rattle.alter_bytes.specs.Varint.{varint_at}
use Rattle.alter_bytes.proofs.VarintLemmas.{same_reading, varint_at-form, varint_at-reads}
use Rattle.page_cells.specs.Layout.{child_len, local_payload}
use Rattle.page_cells.specs.Cells.{HasChild, HasLength, HasNumber, HasRowid, HasVarint, IsCellAt, cell_end}
use Rattle.page_cells.specs.declared.kind.Kind.{Kind}
use Rattle.page_cells.specs.declared.kind.Kind.TheVariants.{IndexInner, TableInner, IndexLeaf, TableLeaf}
use Rattle.page_cells.specs.declared.cell.Cell.{Cell}

-- a varint that stands at a place is the one that is read there
pub HasVarint-read : (page : List ℕ) (at n v : ℕ) → HasVarint page at n v → varint_at page at ≡ Some (v, n)
HasVarint-read page at n v h = varint_at-form page at n v h.within h.form

pub HasVarint-pos : (page : List ℕ) (at n v : ℕ) → HasVarint page at n v → (1 ≤ n) × (n ≤ 9)
HasVarint-pos page at n v h =
    let (read, within) = varint_at-reads page at v n (HasVarint-read page at n v h) in
    (read.some, read.most)

pub read-HasVarint : (page : List ℕ) (at n v : ℕ) → varint_at page at ≡ Some (v, n) → HasVarint page at n v
read-HasVarint page at n v is =
    let (read, within) = varint_at-reads page at v n is in
    record { within = within; form = read.form }

one_varint : (page : List ℕ) (at n m v w : ℕ) → HasVarint page at n v → HasVarint page at m w → (v ≡ w) × (n ≡ m)
one_varint page at n m v w h k = same_reading v w n m (sym (HasVarint-read page at n v h) ∙ HasVarint-read page at m w k)

-- each field is one at most
pub one_child : (kind : Kind) (page : List ℕ) (at : ℕ) (a b : Option ℕ) → HasChild kind page at a → HasChild kind page at b → a ≡ b
one_child IndexInner page at a b h k = h.number ∙ sym k.number
one_child TableInner page at a b h k = h.number ∙ sym k.number
one_child IndexLeaf page at a b h k = h ∙ sym k
one_child TableLeaf page at a b h k = h ∙ sym k

pub one_length : (kind : Kind) (page : List ℕ) (at n m v w : ℕ) → HasLength kind page at n v → HasLength kind page at m w → (v ≡ w) × (n ≡ m)
one_length IndexInner page at n m v w h k = one_varint page at n m v w h k
one_length TableInner page at n m v w h k = (h.1 ∙ sym k.1, h.0 ∙ sym k.0)
one_length IndexLeaf page at n m v w h k = one_varint page at n m v w h k
one_length TableLeaf page at n m v w h k = one_varint page at n m v w h k

one_number : (page : List ℕ) (at n m : ℕ) (r s : Option ℤ) → HasNumber page at n r → HasNumber page at m s → (r ≡ s) × (n ≡ m)
one_number page at n m r s h k =
    let (bits, size) = one_varint page at n m h.bits k.bits h.form k.form in
    (h.value ∙ ap (λ b. Some (cast_signed w64 b)) bits ∙ sym k.value, size)

pub one_rowid : (kind : Kind) (page : List ℕ) (at n m : ℕ) (r s : Option ℤ) → HasRowid kind page at n r → HasRowid kind page at m s → (r ≡ s) × (n ≡ m)
one_rowid IndexInner page at n m r s h k = (h.1 ∙ sym k.1, h.0 ∙ sym k.0)
one_rowid TableInner page at n m r s h k = one_number page at n m r s h k
one_rowid IndexLeaf page at n m r s h k = (h.1 ∙ sym k.1, h.0 ∙ sym k.0)
one_rowid TableLeaf page at n m r s h k = one_number page at n m r s h k

-- two cells with equal fields
same_cell : (c d : Cell) → c.left ≡ d.left → c.rowid ≡ d.rowid → c.payload ≡ d.payload → c.start ≡ d.start → c.end ≡ d.end
    → c.overflow ≡ d.overflow → c ≡ d
same_cell c d l r p s e o =
    let of : Option ℕ → Option ℤ → ℕ → ℕ → ℕ → Option ℕ → Cell =
    λ left rowid payload start end overflow. record { left = left; rowid = rowid; payload = payload; start = start; end = end; overflow = overflow } in
    ap (λ x. of x c.rowid c.payload c.start c.end c.overflow) l ∙ ap (λ x. of d.left x c.payload c.start c.end c.overflow) r
    ∙ ap (λ x. of d.left d.rowid x c.start c.end c.overflow) p ∙ ap (λ x. of d.left d.rowid d.payload x c.end c.overflow) s
    ∙ ap (λ x. of d.left d.rowid d.payload d.start x c.overflow) e ∙ ap (λ x. of d.left d.rowid d.payload d.start d.end x) o

-- one cell at most begins at a place
pub one_cell : (page : List ℕ) (kind : Kind) (usable at : ℕ) (c d : Cell) → IsCellAt page kind usable at c → IsCellAt page kind usable at d → c ≡ d
one_cell page kind usable at c d h k =
    let (payload, length_size) = one_length kind page (at + child_len kind) h.length_size k.length_size c.payload d.payload h.payload k.payload in
    let there : HasRowid kind page (at + child_len kind + k.length_size) h.rowid_size c.rowid =
    subst (λ n. HasRowid kind page (at + child_len kind + n) h.rowid_size c.rowid) length_size h.rowid in
    let (rowid, rowid_size) = one_rowid kind page (at + child_len kind + k.length_size) h.rowid_size k.rowid_size c.rowid d.rowid there k.rowid in
    let start : c.start ≡ d.start = omega (arith, h.start, k.start, length_size, rowid_size) in
    let end : c.end ≡ d.end = omega (arith, start, h.end, k.end, ap (local_payload kind usable) payload) in
    let overflow : c.overflow ≡ d.overflow =
    h.overflow ∙ ap (λ p. if nat_lt (local_payload kind usable p) p then Some (big_number 4 (drop c.end page)) else None) payload
    ∙ ap (λ e. if nat_lt (local_payload kind usable d.payload) d.payload then Some (big_number 4 (drop e page)) else None) end ∙ sym k.overflow in
    same_cell c d (one_child kind page at c.left d.left h.left k.left) rowid payload start end overflow

-- a cell has a byte
some_head : (kind : Kind) (page : List ℕ) (at n v : ℕ) → HasLength kind page at n v → 1 ≤ child_len kind + n
some_head IndexInner page at n v h = omega arith
some_head TableInner page at n v h = omega arith
some_head IndexLeaf page at n v h = let some = HasVarint-pos page at n v h in omega (arith, some.0)
some_head TableLeaf page at n v h = let some = HasVarint-pos page at n v h in omega (arith, some.0)

pub IsCellAt-nonempty : (page : List ℕ) (kind : Kind) (usable at : ℕ) (c : Cell) → IsCellAt page kind usable at c → at < cell_end kind usable c
IsCellAt-nonempty page kind usable at c h =
    omega (arith, h.start, h.end, some_head kind page (at + child_len kind) h.length_size c.payload h.payload)
