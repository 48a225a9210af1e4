-- Kinds of pages, and places and lengths in them (fileformat2.html, "B-tree Pages").
use Rattle.std.specs.Prelude.{◌≤◌, ℕ, ◌+◌, ◌-◌, ◌*◌, ◌/◌, ◌%◌, Bool, nat_le, nat_lt, if◌then◌else◌, List, drop}
use Rattle.byteorder.specs.Endian.{big_number}
use Rattle.page_cells.specs.declared.kind.Kind.{Kind}
use Rattle.page_cells.specs.declared.kind.Kind.TheVariants.{IndexInner, TableInner, IndexLeaf, TableLeaf}

-- the least and the largest usable part of a page, in bytes
abbrev pub least_usable : ℕ
least_usable = 480

abbrev pub most_usable : ℕ
most_usable = 65536

-- the usable sizes of a page
pub record IsUsable (usable : ℕ) (page_size : ℕ) : Type 0 where
  pub least : least_usable ≤ usable
  pub most : usable ≤ most_usable
  pub within : usable ≤ page_size

-- the byte that says the kind of a page
abbrev pub kind_byte : Kind → ℕ
kind_byte IndexInner = 2
kind_byte TableInner = 5
kind_byte IndexLeaf = 10
kind_byte TableLeaf = 13

-- the bytes of the number of a child's page, which interior pages have in each cell and in their own header
abbrev pub child_len : Kind → ℕ
child_len IndexInner = 4
child_len TableInner = 4
child_len IndexLeaf = 0
child_len TableLeaf = 0

-- where the page's own header begins: page 1 has the file's header in front of it
abbrev pub header_start : Bool → ℕ
header_start first = if first then 100 else 0

-- the bytes of the page's own header
abbrev pub page_header_len : Kind → ℕ
page_header_len kind = 8 + child_len kind

-- the number of cells
abbrev pub cell_count : List ℕ → Bool → ℕ
cell_count page first = big_number 2 (drop (header_start first + 3) page)

-- the place of the pointer of cell i, and the place that it names
abbrev pub pointer_place : Bool → Kind → ℕ → ℕ
pointer_place first kind i = header_start first + page_header_len kind + 2 * i

abbrev pub pointer : List ℕ → Bool → Kind → ℕ → ℕ
pointer page first kind i = big_number 2 (drop (pointer_place first kind i) page)

-- the place behind the last pointer
abbrev pub pointers_end : List ℕ → Bool → Kind → ℕ
pointers_end page first kind = pointer_place first kind (cell_count page first)

-- the longest payload that stands wholly in a page of the kind
abbrev pub most_local : Kind → ℕ → ℕ
most_local IndexInner usable = (usable - 12) * 64 / 255 - 23
most_local TableInner usable = usable - 35
most_local IndexLeaf usable = (usable - 12) * 64 / 255 - 23
most_local TableLeaf usable = usable - 35

-- the least that stands in the page of a longer one
abbrev pub least_local : ℕ → ℕ
least_local usable = (usable - 12) * 32 / 255 - 23

-- what stands in the page of a payload of p bytes so that its last overflow page is full
abbrev pub fill_local : ℕ → ℕ → ℕ
fill_local usable p = least_local usable + (p - least_local usable) % (usable - 4)

-- how many bytes of a payload of p bytes stand in the page itself
unfoldable pub local_payload : Kind → ℕ → ℕ → ℕ
local_payload kind usable p =
    if nat_le p (most_local kind usable) then p
    else (if nat_le (fill_local usable p) (most_local kind usable) then fill_local usable p else least_local usable)

-- the bytes of the number of the first overflow page, which stands in a cell whose payload overflows
unfoldable pub overflow_size : Kind → ℕ → ℕ → ℕ
overflow_size kind usable p = if nat_lt (local_payload kind usable p) p then 4 else 0
