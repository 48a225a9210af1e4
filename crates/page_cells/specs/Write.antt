-- A page as it is written: its cells packed up to the end of the usable bytes, with no free bytes between them, each of
-- at least four bytes (fileformat2.html, "B-tree Pages").
use Rattle.std.specs.Prelude.{◌≡◌, ◌≤◌, ◌<◌, ℕ, ℤ, ◌+◌, ◌-◌, ◌%◌, ◌^◌, max, Bool, List, [], ◌∷◌, ◌++◌, length, take, drop, replicate, sum_by, Option, Some, None}
use Rattle.std.specs.List.{slice_get}
use Rattle.std.specs.Option.{IsSomeAnd}
use Rattle.std.specs.Int.{w64, cast_signed}
use Rattle.byteorder.specs.Endian.{big_bytes}
use Rattle.alter_bytes.specs.Varint.{IsVarint}
use Rattle.page_cells.specs.Cells.{HasCells, cell_end}
use Rattle.page_cells.specs.Layout.{header_start, kind_byte, local_payload, most_usable, overflow_size, pointer, pointer_place}
use Rattle.page_cells.specs.declared.kind.Kind.{Kind}
use Rattle.page_cells.specs.declared.kind.Kind.TheVariants.{IndexInner, TableInner, IndexLeaf, TableLeaf}
use Rattle.page_cells.specs.declared.cell.Cell.{Cell}
use Rattle.page_cells.specs.declared.cell.PageCells.{PageCells}

-- an interior page has a child there, whose number fits, and a leaf page has none
abbrev pub IsChild : Kind → Option ℕ → Type 0
IsChild IndexInner child = IsSomeAnd child (λ page. page < 2 ^ 32)
IsChild TableInner child = IsSomeAnd child (λ page. page < 2 ^ 32)
IsChild IndexLeaf child = child ≡ None
IsChild TableLeaf child = child ≡ None

-- the bytes of a child's number
abbrev pub number_bytes : Option ℕ → List ℕ
number_bytes None = big_bytes 4 0
number_bytes (Some page) = big_bytes 4 page

abbrev pub child_bytes : Kind → Option ℕ → List ℕ
child_bytes IndexInner child = number_bytes child
child_bytes TableInner child = number_bytes child
child_bytes IndexLeaf child = []
child_bytes TableLeaf child = []

-- the bytes are the length of the payload; cells of interior pages of table trees have no payload
abbrev pub IsLengthPart : Kind → List ℕ → ℕ → Type 0
IsLengthPart IndexInner part payload = IsVarint part payload
IsLengthPart TableInner part payload = (part ≡ []) × (payload ≡ 0)
IsLengthPart IndexLeaf part payload = IsVarint part payload
IsLengthPart TableLeaf part payload = IsVarint part payload

-- the bytes are the rowid, without its sign; cells of indexes have none
abbrev pub IsRowidPart : Kind → List ℕ → ℕ → Type 0
IsRowidPart IndexInner part rowid = (part ≡ []) × (rowid ≡ 0)
IsRowidPart TableInner part rowid = IsVarint part rowid
IsRowidPart IndexLeaf part rowid = (part ≡ []) × (rowid ≡ 0)
IsRowidPart TableLeaf part rowid = IsVarint part rowid

-- the rowid that a cell has of those bytes
abbrev pub rowid_of : Kind → ℕ → Option ℤ
rowid_of IndexInner rowid = None
rowid_of TableInner rowid = Some (cast_signed w64 rowid)
rowid_of IndexLeaf rowid = None
rowid_of TableLeaf rowid = Some (cast_signed w64 rowid)

-- the bytes are one whole cell: the child, the length of the payload, the rowid, the payload's local part, and the
-- number of the first overflow page where there is more of it
pub record IsWholeCell (kind : Kind) (usable : ℕ) (bytes : List ℕ) : Type 0 where
  pub left : Option ℕ
  pub payload : ℕ
  pub rowid : ℕ
  pub length_part : List ℕ
  pub rowid_part : List ℕ
  pub local_part : List ℕ
  pub overflow_part : List ℕ
  pub whole : bytes ≡ child_bytes kind left ++ (length_part ++ (rowid_part ++ (local_part ++ overflow_part)))
  pub is_left : IsChild kind left
  pub is_length : IsLengthPart kind length_part payload
  pub is_rowid : IsRowidPart kind rowid_part rowid
  pub local : length local_part ≡ local_payload kind usable payload
  pub overflow : length overflow_part ≡ overflow_size kind usable payload

-- the bytes that a cell takes of the page
abbrev pub room : List ℕ → ℕ
room cell = max 4 (length cell)

abbrev pub rooms : List (List ℕ) → ℕ
rooms cells = sum_by room cells

-- the header, the pointers and the cells fit
abbrev pub Fits : Bool → Kind → ℕ → List (List ℕ) → Type 0
Fits first kind usable cells = pointer_place first kind (length cells) + rooms cells ≤ usable

-- the pointers of cells that stand one after the other from `at` on
abbrev pub pointer_bytes : ℕ → List (List ℕ) → List ℕ
pointer_bytes at [] = []
pointer_bytes at (cell ∷ cells) = big_bytes 2 at ++ pointer_bytes (at + room cell) cells

-- the cells one after the other, each filled with zeros to its room
abbrev pub cell_bytes : List (List ℕ) → List ℕ
cell_bytes [] = []
cell_bytes (cell ∷ cells) = (cell ++ replicate (room cell - length cell) 0) ++ cell_bytes cells

-- the page's own header without a child: its kind, no free block, the number of cells, the start of the cells, and no
-- fragments
abbrev pub header_fields : Kind → ℕ → ℕ → List ℕ
header_fields kind count content = kind_byte kind ∷ 0 ∷ 0 ∷ big_bytes 2 count ++ big_bytes 2 (content % most_usable) ++ 0 ∷ []

-- the page's own header, and on an interior page the right-most child
abbrev pub header_bytes : Kind → Option ℕ → ℕ → ℕ → List ℕ
header_bytes kind right count content = header_fields kind count content ++ child_bytes kind right

-- the page with these cells in place of what it held; bytes in front of its own header and behind the usable ones stay
unfoldable pub written_page : List ℕ → Bool → Kind → Option ℕ → ℕ → List (List ℕ) → List ℕ
written_page old first kind right usable cells =
    let content = usable - rooms cells in
    take (header_start first) old
    ++ (header_bytes kind right (length cells) content
    ++ (pointer_bytes content cells
    ++ (replicate (content - pointer_place first kind (length cells)) 0
    ++ (cell_bytes cells ++ drop usable old))))

-- the page is one of the kind with this right-most child and as many cells, and the bytes of its cells are these
pub record HoldsCells (page : List ℕ) (first : Bool) (kind : Kind) (right : Option ℕ) (usable : ℕ) (cells : List (List ℕ)) : Type 0 where
  pub found : PageCells
  pub has : HasCells page first kind usable found
  pub child : found.right ≡ right
  pub count : length found.cells ≡ length cells
  pub bytes : (i : ℕ) (c : Cell) → slice_get found.cells i ≡ Some c
      → slice_get cells i ≡ Some (take (cell_end kind usable c - pointer page first kind i) (drop (pointer page first kind i) page))
