-- The cells of a page of a tree, as a reader finds them (fileformat2.html, "B-tree Pages").
use Rattle.std.specs.Prelude.{◌≡◌, ◌≤◌, ◌<◌, ℕ, ℤ, ◌+◌, Bool, nat_lt, if◌then◌else◌, ◌⊎◌, List, length, take, drop, slice_index, Option, Some, None}
use Rattle.std.specs.List.{slice_get}
use Rattle.std.specs.Int.{w64, cast_signed}
use Rattle.byteorder.specs.Endian.{big_number}
use Rattle.alter_bytes.specs.Varint.{IsVarint}
use Rattle.page_cells.specs.Layout.{cell_count, child_len, header_start, kind_byte, local_payload, overflow_size, pointer, pointer_place, pointers_end}
use Rattle.page_cells.specs.declared.kind.Kind.{Kind}
use Rattle.page_cells.specs.declared.kind.Kind.TheVariants.{IndexInner, TableInner, IndexLeaf, TableLeaf}
use Rattle.page_cells.specs.declared.cell.Cell.{Cell}
use Rattle.page_cells.specs.declared.cell.PageCells.{PageCells}

-- a varint of n bytes stands at the place, and its number is v
pub record HasVarint (page : List ℕ) (at n v : ℕ) : Type 0 where
  pub within : at + n ≤ length page
  pub form : IsVarint (take n (drop at page)) v

-- the number of a page stands in the four bytes at the place
pub record HasPageNumber (page : List ℕ) (at : ℕ) (child : Option ℕ) : Type 0 where
  pub within : at + 4 ≤ length page
  pub number : child ≡ Some (big_number 4 (drop at page))

-- on an interior page the number of the child stands at the place, and a leaf page has none
abbrev pub HasChild : Kind → List ℕ → ℕ → Option ℕ → Type 0
HasChild IndexInner page at child = HasPageNumber page at child
HasChild TableInner page at child = HasPageNumber page at child
HasChild IndexLeaf page at child = child ≡ None
HasChild TableLeaf page at child = child ≡ None

-- the length of the payload stands in the n bytes at the place; cells of interior pages of table trees have no payload
abbrev pub HasLength : Kind → List ℕ → ℕ → ℕ → ℕ → Type 0
HasLength IndexInner page at n payload = HasVarint page at n payload
HasLength TableInner page at n payload = (n ≡ 0) × (payload ≡ 0)
HasLength IndexLeaf page at n payload = HasVarint page at n payload
HasLength TableLeaf page at n payload = HasVarint page at n payload

-- a rowid stands in the n bytes at the place
pub record HasNumber (page : List ℕ) (at n : ℕ) (rowid : Option ℤ) : Type 0 where
  pub bits : ℕ
  pub form : HasVarint page at n bits
  pub value : rowid ≡ Some (cast_signed w64 bits)

-- on a page of a table tree the rowid stands in the n bytes at the place, and a page of an index has none
abbrev pub HasRowid : Kind → List ℕ → ℕ → ℕ → Option ℤ → Type 0
HasRowid IndexInner page at n rowid = (n ≡ 0) × (rowid ≡ None)
HasRowid TableInner page at n rowid = HasNumber page at n rowid
HasRowid IndexLeaf page at n rowid = (n ≡ 0) × (rowid ≡ None)
HasRowid TableLeaf page at n rowid = HasNumber page at n rowid

-- the place behind the whole cell, the number of an overflow page included
abbrev pub cell_end : Kind → ℕ → Cell → ℕ
cell_end kind usable c = c.end + overflow_size kind usable c.payload

-- c is the cell of a page of the kind that begins at the place: the child, the length of the payload, the rowid, the
-- payload's local part, and the number of the first overflow page where there is more of it
pub record IsCellAt (page : List ℕ) (kind : Kind) (usable at : ℕ) (c : Cell) : Type 0 where
  pub length_size : ℕ
  pub rowid_size : ℕ
  pub left : HasChild kind page at c.left
  pub payload : HasLength kind page (at + child_len kind) length_size c.payload
  pub rowid : HasRowid kind page (at + child_len kind + length_size) rowid_size c.rowid
  pub start : c.start ≡ at + child_len kind + length_size + rowid_size
  pub end : c.end ≡ c.start + local_payload kind usable c.payload
  pub overflow : c.overflow ≡ (if nat_lt (local_payload kind usable c.payload) c.payload then Some (big_number 4 (drop c.end page)) else None)

-- c stands at the pointer behind those of the earlier cells, between the pointers and the end of the usable bytes,
-- and overlaps none of the earlier ones
pub record IsNextCell (page : List ℕ) (first : Bool) (kind : Kind) (usable : ℕ) (earlier : List Cell) (c : Cell) : Type 0 where
  pub stands : IsCellAt page kind usable (pointer page first kind (length earlier)) c
  pub above : pointers_end page first kind ≤ pointer page first kind (length earlier)
  pub below : cell_end kind usable c ≤ usable
  pub apart : (j : ℕ) (d : Cell) → slice_get earlier j ≡ Some d
      → (cell_end kind usable d ≤ pointer page first kind (length earlier)) ⊎ (cell_end kind usable c ≤ pointer page first kind j)

-- the cells stand at the first pointers, in their order
abbrev pub AreCells : List ℕ → Bool → Kind → ℕ → List Cell → Type 0
AreCells page first kind usable cells = (i : ℕ) (c : Cell) → slice_get cells i ≡ Some c → IsNextCell page first kind usable (take i cells) c

-- the page is one of the kind with these cells
pub record HasCells (page : List ℕ) (first : Bool) (kind : Kind) (usable : ℕ) (found : PageCells) : Type 0 where
  pub byte : slice_index page (header_start first) ≡ kind_byte kind
  pub of_kind : found.kind ≡ kind
  pub right : HasChild kind page (header_start first + 8) found.right
  pub room : pointers_end page first kind ≤ usable
  pub count : length found.cells ≡ cell_count page first
  pub cells : AreCells page first kind usable found.cells

-- the pointers of a page of the kind do not fit, or its cells stand at the first pointers and none at the next
pub record FirstFault (page : List ℕ) (first : Bool) (kind : Kind) (usable at : ℕ) : Type 0 where
  pub byte : slice_index page (header_start first) ≡ kind_byte kind
  pub fault : ((at ≡ header_start first + 3) × (usable < pointers_end page first kind))
      ⊎ ((cells : List Cell) × (pointers_end page first kind ≤ usable) × (length cells < cell_count page first)
      × (at ≡ pointer_place first kind (length cells)) × AreCells page first kind usable cells
      × ((c : Cell) → IsNextCell page first kind usable cells c → ⊥))
