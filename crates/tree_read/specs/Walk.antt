-- The order in which a tree is walked through, depth first in key order, and the first fault that a walk meets.
use Rattle.std.specs.Prelude.{ℕ, zero, suc, ◌+◌, ◌-◌, ◌==◌, Bool, if◌then◌else◌, ℤ, replicate, List, [], ◌∷◌, ◌++◌, Option, Some, None, slice_index_or, slice_set, true, false}
use Rattle.std.specs.Int.{div_ceil}
use Rattle.page_cells.specs.Layout.{local_payload}
use Rattle.page_cells.specs.declared.kind.Kind.{Kind}
use Rattle.page_cells.specs.declared.kind.Kind.TheVariants.{IndexInner}
use Rattle.page_cells.specs.declared.cell.Cell.{Cell}
use Rattle.page_cells.specs.declared.cell.PageCells.{PageCells}
use Rattle.tree_read.specs.declared.place.Limits.{Limits}
use Rattle.tree_read.specs.declared.place.Place.{Place}
use Rattle.tree_read.specs.Node.{is_table, may_stand}
use Rattle.tree_read.specs.Nodes.{Nodes, is_page}

-- a page is found; a page is a leaf with so many levels below the limit; a cell is held; a page breaks the format
pub data Event : Type 0 where
  Found : ℕ → Event
  Leaf : ℕ → ℕ → Event
  Holds : Place → Event
  Wrong : ℕ → Event

-- what a walk has found
pub record Walked : Type 0 where
  -- the owner of each page at the place of its number, 0 where it has none
  pub owners : List ℕ
  -- the owner of the pages that are found next
  pub owner : ℕ
  -- the level of the first leaf
  pub level : Option ℕ
  -- the pages and the cells in the order in which they were found
  pub found : List ℕ
  pub places : List Place

-- a walk is done, or meets its first fault at this page
pub data Outcome : Type 0 where
  Done : Walked → Outcome
  Fault : ℕ → Outcome

-- what comes next, unless there was a fault
abbrev pub on_done : Outcome → (Walked → Outcome) → Outcome
on_done (Done walk) next = next walk
on_done (Fault page) next = Fault page

-- the page is one of the file's and has no owner
abbrev pub is_free : Walked → ℕ → Bool
is_free walk page = slice_index_or walk.owners page 1 == 0

abbrev pub with_found : Walked → ℕ → Walked
with_found walk page = record walk { owners = slice_set walk.owners page walk.owner; found = walk.found ++ page ∷ [] }

-- the level is that of the first leaf, or this is the first
abbrev pub is_level : Option ℕ → ℕ → Bool
is_level None level = true
is_level (Some first) level = first == level

abbrev pub with_level : Walked → ℕ → Walked
with_level walk level = record walk { level = Some level }

abbrev pub with_place : Walked → Place → Walked
with_place walk place = record walk { places = walk.places ++ place ∷ [] }

-- a page found a second time is itself at fault, and so is a leaf that is not as deep as the first
unfoldable pub step : Walked → Event → Outcome
step walk (Found page) = if is_free walk page then Done (with_found walk page) else Fault page
step walk (Leaf page level) = if is_level walk.level level then Done (with_level walk level) else Fault page
step walk (Holds place) = Done (with_place walk place)
step walk (Wrong page) = Fault page

-- what a walk with these events comes to
unfoldable pub run : Walked → List Event → Outcome
run walk [] = Done walk
run walk (event ∷ events) = on_done (step walk event) (λ next. run next events)

-- the number of overflow pages of a payload of so many bytes ("Cell Payload Overflow Pages")
abbrev pub overflow_pages : Kind → ℕ → ℕ → ℕ
overflow_pages kind usable payload = div_ceil (payload - local_payload kind usable payload) (usable - 4)

-- the link of an overflow page behind which so many stand: a page, or 0 at the end
abbrev pub is_next : ℕ → ℕ → ℕ → Bool
is_next count left next = if left == 0 then next == 0 else is_page count next

-- a chain of so many overflow pages; the page that holds a wrong link is at fault
unfoldable pub chain : Nodes → ℕ → ℕ → List Event
chain nodes zero page = []
chain nodes (suc left) page = Found page ∷ (if is_next nodes.count left (nodes.next page) then chain nodes left (nodes.next page) else Wrong page ∷ [])

-- the chain of a cell, where it has one
abbrev pub overflow : Nodes → Kind → Cell → List Event
overflow nodes kind cell = elim cell.overflow [ None ↦ [] | Some first ↦ chain nodes (overflow_pages kind nodes.usable cell.payload) first ]

-- a cell, behind the pages of its chain
abbrev pub held : Nodes → Kind → Place → Cell → List Event
held nodes kind place cell = overflow nodes kind cell ++ Holds place ∷ []

-- the cells of a leaf from place i on
unfoldable pub leaf_cells : Nodes → Kind → ℕ → ℕ → List Cell → List Event
leaf_cells nodes kind page i [] = []
leaf_cells nodes kind page i (cell ∷ cells) = held nodes kind (record { page = page; cell = i }) cell ++ leaf_cells nodes kind page (suc i) cells

-- a walk through a child, given its limits
abbrev pub ChildWalk : Type 0
ChildWalk = Limits → ℕ → List Event

abbrev pub between : Option ℤ → Option ℤ → Limits
between low high = record { low = low; high = high }

-- the child of a cell of an interior page, whose rowids are at most the cell's
abbrev pub child_by : ChildWalk → Option ℤ → Cell → List Event
child_by child low cell = elim cell.left [ None ↦ [] | Some page ↦ child (between low cell.rowid) page ]

-- the child of a cell and then the cell, which is an entry in an index alone
abbrev pub left_by : Nodes → ChildWalk → Bool → Option ℤ → Place → Cell → List Event
left_by nodes child table low place cell = child_by child low cell ++ (if table then [] else held nodes IndexInner place cell)

-- the children of an interior page with its cells between them, from place i on; the rowids behind a cell are greater
unfoldable pub children_by : Nodes → ChildWalk → Bool → ℕ → ℕ → Option ℤ → Option ℤ → List Cell → ℕ → List Event
children_by nodes child table page i low high [] right = child (between low high) right
children_by nodes child table page i low high (cell ∷ cells) right =
    left_by nodes child table low (record { page = page; cell = i }) cell ++ children_by nodes child table page (suc i) cell.rowid high cells right

-- below a page with so many levels left: its cells, or its children
abbrev pub below : Nodes → ChildWalk → Bool → ℕ → Limits → ℕ → PageCells → List Event
below nodes child table levels limits page node = elim node.right [
  | None ↦ Leaf page levels ∷ leaf_cells nodes node.kind page 0 node.cells
  | Some right ↦ children_by nodes child table page 0 limits.low limits.high node.cells right
]

-- a page that may stand here, and what is below it
abbrev pub visit : Nodes → ChildWalk → Bool → ℕ → Limits → ℕ → Option PageCells → List Event
visit nodes child table levels limits page None = Wrong page ∷ []
visit nodes child table levels limits page (Some node) = if may_stand nodes.count table limits page node then below nodes child table levels limits page node else Wrong page ∷ []

-- the tree below a page that has so many levels at most
unfoldable pub trace : Nodes → Bool → ℕ → Limits → ℕ → List Event
trace nodes table zero limits page = Wrong page ∷ []
trace nodes table (suc levels) limits page = Found page ∷ visit nodes (trace nodes table levels) table levels limits page (nodes.cells page)

-- the child of a cell, the child and the cell, and all children of an interior page
abbrev pub child_part : Nodes → Bool → ℕ → Option ℤ → Cell → List Event
child_part nodes table levels low cell = child_by (trace nodes table levels) low cell

abbrev pub left_part : Nodes → Bool → ℕ → Option ℤ → Place → Cell → List Event
left_part nodes table levels low place cell = left_by nodes (trace nodes table levels) table low place cell

abbrev pub children : Nodes → Bool → ℕ → Limits → ℕ → List Cell → ℕ → List Event
children nodes table levels limits page cells right = children_by nodes (trace nodes table levels) table page 0 limits.low limits.high cells right

-- a tree has 20 levels at most
abbrev pub most_levels : ℕ
most_levels = 20

abbrev pub no_limits : Limits
no_limits = record { low = None; high = None }

-- the whole tree at a root
abbrev pub tree_trace : Nodes → Bool → ℕ → List Event
tree_trace nodes table root = trace nodes table most_levels no_limits root

-- no page of a file of so many was found
abbrev pub unwalked : ℕ → Walked
unwalked count = record { owners = replicate (count + 1) 0; owner = 1; level = None; found = []; places = [] }

-- a walk at its next tree
abbrev pub begun : ℕ → Walked → Walked
begun root walk = record { owners = walk.owners; owner = root; level = None; found = []; places = [] }

-- the walk through the tree at a root, behind those through others
abbrev pub walk_tree : Nodes → Bool → ℕ → Walked → Outcome
walk_tree nodes table root walk = run (begun root walk) (tree_trace nodes table root)

-- the root's kind decides whether a tree is one of a table
abbrev pub is_table_at : Nodes → ℕ → Bool
is_table_at nodes root = elim (nodes.cells root) [ None ↦ false | Some node ↦ is_table node.kind ]

-- the walk through the tree at a root alone
abbrev pub walk_found : Nodes → ℕ → Outcome
walk_found nodes root = walk_tree nodes (is_table_at nodes root) root (unwalked nodes.count)
