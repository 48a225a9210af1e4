-- The pages of a file, as a reader of its trees sees them.
use Rattle.std.specs.Prelude.{◌≡◌, ℕ, ◌==◌, nat_le, Bool, ◌&&◌, List, Option, Some, None}
use Rattle.byteorder.specs.Endian.{big_number}
use Rattle.pager_core.specs.declared.pages.Pages.{Pages}
use Rattle.pager_core.specs.Pages.{shape_of, shown}
use Rattle.page_cells.specs.declared.cell.PageCells.{PageCells}
use Rattle.page_cells.specs.Cells.{HasCells}

pub record Nodes : Type 0 where
  -- how many pages there are, and how many bytes of each are usable
  pub count : ℕ
  pub usable : ℕ
  -- the cells of the page of this number, where it has cells
  pub cells : ℕ → Option PageCells
  -- the number at which it begins, which is a link where it is an overflow page
  pub next : ℕ → ℕ

-- a number of a page in a file of so many, from 1
abbrev pub is_page : ℕ → ℕ → Bool
is_page count n = nat_le 1 n && nat_le n count

-- the page of this number has these bytes
pub record IsNode (nodes : Nodes) (n : ℕ) (bytes : List ℕ) : Type 0 where
  pub found : (c : PageCells) → HasCells bytes (n == 1) c.kind nodes.usable c → nodes.cells n ≡ Some c
  pub none : ((c : PageCells) → HasCells bytes (n == 1) c.kind nodes.usable c → ⊥) → nodes.cells n ≡ None
  pub next : nodes.next n ≡ big_number 4 bytes

-- the nodes of a file, as far as its pages were read
pub record HasNodes {D : Type 0} (nodes : Nodes) (pages : Pages D) : Type 0 where
  pub count : nodes.count ≡ (shape_of pages).count
  pub usable : nodes.usable ≡ (shape_of pages).usable
  pub read : (n : ℕ) (bytes : List ℕ) → shown pages n ≡ Some bytes → IsNode nodes n bytes
