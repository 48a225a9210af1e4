-- What a page of a tree may be, by itself (fileformat2.html, "B-tree Pages").
use Rattle.std.specs.Prelude.{ℕ, ℤ, int_lt, int_le, ◌==◌, Bool, if◌then◌else◌, true, false, not, ◌&&◌, ◌||◌, List, [], ◌∷◌, length, Option, Some, None, is_some}
use Rattle.page_cells.specs.declared.kind.Kind.{Kind}
use Rattle.page_cells.specs.declared.kind.Kind.TheVariants.{IndexInner, TableInner, IndexLeaf, TableLeaf}
use Rattle.page_cells.specs.declared.cell.Cell.{Cell}
use Rattle.page_cells.specs.declared.cell.PageCells.{PageCells}
use Rattle.tree_read.specs.declared.place.Limits.{Limits}
use Rattle.tree_read.specs.Nodes.{is_page}

-- pages of the kind are those of a table tree
abbrev pub is_table : Kind → Bool
is_table IndexInner = false
is_table TableInner = true
is_table IndexLeaf = false
is_table TableLeaf = true

-- pages of the kind are those of a tree of this sort: of a table, or of an index
abbrev pub is_of : Bool → Kind → Bool
is_of table kind = if table then is_table kind else not (is_table kind)

-- where a page is named, it is one of the file's
abbrev pub is_link : ℕ → Option ℕ → Bool
is_link count None = true
is_link count (Some page) = is_page count page

-- each child and each first overflow page is a page of the file
abbrev pub are_links : ℕ → List Cell → Bool
are_links count [] = true
are_links count (cell ∷ cells) = (is_link count cell.left && is_link count cell.overflow) && are_links count cells

-- a rowid is greater than the lower limit, where there are both
abbrev pub is_above : Option ℤ → Option ℤ → Bool
is_above None rowid = true
is_above (Some low) None = true
is_above (Some low) (Some rowid) = int_lt low rowid

-- a rowid is the upper limit at most, where there are both
abbrev pub is_upto : Option ℤ → Option ℤ → Bool
is_upto None high = true
is_upto (Some rowid) None = true
is_upto (Some rowid) (Some high) = int_le rowid high

-- the rowids ascend strictly within the limits
abbrev pub ascend : Option ℤ → Option ℤ → List Cell → Bool
ascend low high [] = true
ascend low high (cell ∷ cells) = (is_above low cell.rowid && is_upto cell.rowid high) && ascend cell.rowid high cells

-- an interior page has a cell, unless it is page 1
abbrev pub has_least : ℕ → PageCells → Bool
has_least page node = not (is_some node.right) || page == 1 || not (length node.cells == 0)

-- the page, by itself, may stand here in a tree of the kind
abbrev pub may_stand : ℕ → Bool → Limits → ℕ → PageCells → Bool
may_stand count table limits page node =
    is_of table node.kind && has_least page node && is_link count node.right && are_links count node.cells && ascend limits.low limits.high node.cells
