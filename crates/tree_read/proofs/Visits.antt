-- The walk through a page, a cell or a child at a time.
use Rattle.std.proofs.Common.{◌≡◌, ◌≤◌, ◌<◌, ℕ, ℤ, zero, suc, ◌+◌, ◌-◌, Bool, true, false, if◌then◌else◌, ◌&&◌, nat_le, ◌==◌, slice_index_or, replicate, ap₂, Result, List, [], ◌∷◌, ◌++◌, length, get_or, drop, Option, Some, None, refl, sym, ap, ◌∙◌, subst, arith}
use Rattle.std.proofs.Math.Seq.{drop-cons}
use Rattle.std.proofs.lemmas.Bool.{leb-true}
use Rattle.std.proofs.lemmas.List.{drop-drop, drop_all, get_or-replicate}
use Rattle.page_cells.specs.declared.kind.Kind.{Kind}
use Rattle.page_cells.specs.declared.kind.Kind.TheVariants.{IndexInner}
use Rattle.page_cells.specs.declared.cell.Cell.{Cell}
use Rattle.page_cells.specs.declared.cell.PageCells.{PageCells}
use Rattle.tree_read.specs.declared.error.WalkError.{WalkError}
use Rattle.tree_read.specs.declared.error.WalkError.TheVariants.{Memory, Failed, Corrupt}
use Rattle.tree_read.specs.declared.place.Limits.{Limits}
use Rattle.tree_read.specs.declared.place.Place.{Place}
use Rattle.tree_read.specs.Answers.{AnswersFault, AnswersNone, Meets}
use Rattle.tree_read.specs.Node.{are_links, ascend, has_least, is_link, is_of, is_table, may_stand}
use Rattle.tree_read.specs.Nodes.{Nodes}
use Rattle.tree_read.specs.Walk.{ChildWalk, Done, Event, Fault, Found, Leaf, Walked, Wrong, begun, below, between, child_part, children, children_by, held, is_table_at, leaf_cells, left_by, left_part, most_levels, no_limits, run, step, trace, unwalked, visit, walk_found, walk_tree, with_found}
use Rattle.tree_read.proofs.Runs.{answers_front, answers_same, answers_step, goes_on, goes_on_step, meets_on, run-none, stops_step}

and_right : (a b : Bool) → a && b ≡ true → b ≡ true
and_right true b is = is
and_right false b is = absurd (cc)

and_left : (a b : Bool) → a && b ≡ true → a ≡ true
and_left true b is = refl
and_left false b is = absurd (cc)

-- the links of the cells behind one
links_tail : (count : ℕ) (cells : List Cell) → are_links count cells ≡ true → are_links count (drop 1 cells) ≡ true
links_tail count [] are = are
links_tail count (cell ∷ cells) are = and_right (is_link count cell.left && is_link count cell.overflow) (are_links count cells) are

pub links_more : (count i : ℕ) (cells : List Cell) → are_links count (drop i cells) ≡ true → are_links count (drop (i + 1) cells) ≡ true
links_more count i cells are = subst (λ (rest : List Cell). are_links count rest ≡ true) (drop-drop 1 i cells) (links_tail count (drop i cells) are)

-- the links of a page that may stand in a tree
module _ (count : ℕ) (table : Bool) (limits : Limits) (page : ℕ) (node : PageCells) (stands : may_stand count table limits page node ≡ true) where
  stands_front : (is_of table node.kind && has_least page node && is_link count node.right) && are_links count node.cells ≡ true
  stands_front =
      and_left ((is_of table node.kind && has_least page node && is_link count node.right) && are_links count node.cells) (ascend limits.low limits.high node.cells) stands

  pub stands_links : are_links count node.cells ≡ true
  stands_links = and_right (is_of table node.kind && has_least page node && is_link count node.right) (are_links count node.cells) stands_front

  pub stands_right : (right : ℕ) → node.right ≡ Some right → (1 ≤ right) × (right ≤ count)
  stands_right right is =
      let link = and_right (is_of table node.kind && has_least page node) (is_link count node.right)
      (and_left (is_of table node.kind && has_least page node && is_link count node.right) (are_links count node.cells) stands_front) in
      let page = subst (λ (link : Option ℕ). is_link count link ≡ true) is link in
      (leb-true 1 right (and_left (nat_le 1 right) (nat_le right count) page), leb-true right count (and_right (nat_le 1 right) (nat_le right count) page))

-- the cells of a leaf: one more, and none left
leaf-cons : (nodes : Nodes) (kind : Kind) (page i : ℕ) (cells : List Cell) (d : Cell) → i < length cells
    → leaf_cells nodes kind page i (drop i cells) ≡ held nodes kind (record { page = page; cell = i }) (get_or cells i d) ++ leaf_cells nodes kind page (i + 1) (drop (i + 1) cells)
unfolding leaf_cells
leaf-cons nodes kind page i cells d bound = let e : i + 1 ≡ suc i = omega arith in rw e (ap (leaf_cells nodes kind page i) (drop-cons cells i d bound))

pub leaf_goes_on : (nodes : Nodes) (kind : Kind) (page i : ℕ) (cells : List Cell) (d : Cell) (walk mid : Walked) → i < length cells
    → run walk (held nodes kind (record { page = page; cell = i }) (get_or cells i d)) ≡ Done mid
    → run walk (leaf_cells nodes kind page i (drop i cells)) ≡ run mid (leaf_cells nodes kind page (i + 1) (drop (i + 1) cells))
leaf_goes_on nodes kind page i cells d walk mid bound done =
    ap (run walk) (leaf-cons nodes kind page i cells d bound)
    ∙ goes_on walk mid (held nodes kind (record { page = page; cell = i }) (get_or cells i d)) (leaf_cells nodes kind page (i + 1) (drop (i + 1) cells)) done

pub leaf_stops : (nodes : Nodes) (kind : Kind) (page i : ℕ) (cells : List Cell) (d : Cell) (walk : Walked) (error : WalkError) → i < length cells
    → AnswersFault error (run walk (held nodes kind (record { page = page; cell = i }) (get_or cells i d)))
    → AnswersFault error (run walk (leaf_cells nodes kind page i (drop i cells)))
leaf_stops nodes kind page i cells d walk error bound answers =
    answers_same error _ (run walk (leaf_cells nodes kind page i (drop i cells))) (ap (run walk) (leaf-cons nodes kind page i cells d bound))
    (answers_front error walk (held nodes kind (record { page = page; cell = i }) (get_or cells i d)) (leaf_cells nodes kind page (i + 1) (drop (i + 1) cells)) answers)

pub leaf-none : (nodes : Nodes) (kind : Kind) (page i : ℕ) (cells : List Cell) (walk : Walked) → length cells ≤ i → run walk (leaf_cells nodes kind page i (drop i cells)) ≡ Done walk
unfolding leaf_cells
leaf-none nodes kind page i cells walk bound = ap (λ (cs : List Cell). run walk (leaf_cells nodes kind page i cs)) (drop_all i cells bound) ∙ run-none walk

-- the children of an interior page: one more, and none left but the right-most
children-cons : (nodes : Nodes) (child : ChildWalk) (table : Bool) (page i : ℕ) (low high : Option ℤ) (cells : List Cell) (right : ℕ) (d : Cell) → i < length cells
    → children_by nodes child table page i low high (drop i cells) right
    ≡ left_by nodes child table low (record { page = page; cell = i }) (get_or cells i d) ++ children_by nodes child table page (i + 1) (get_or cells i d).rowid high (drop (i + 1) cells) right
unfolding children_by
children-cons nodes child table page i low high cells right d bound =
    let e : i + 1 ≡ suc i = omega arith in rw e (ap (λ (cs : List Cell). children_by nodes child table page i low high cs right) (drop-cons cells i d bound))

pub children_go_on : (nodes : Nodes) (child : ChildWalk) (table : Bool) (page i : ℕ) (low high : Option ℤ) (cells : List Cell) (right : ℕ) (d : Cell) (walk mid : Walked) → i < length cells
    → run walk (left_by nodes child table low (record { page = page; cell = i }) (get_or cells i d)) ≡ Done mid
    → run walk (children_by nodes child table page i low high (drop i cells) right) ≡ run mid (children_by nodes child table page (i + 1) (get_or cells i d).rowid high (drop (i + 1) cells) right)
children_go_on nodes child table page i low high cells right d walk mid bound done =
    ap (run walk) (children-cons nodes child table page i low high cells right d bound)
    ∙ goes_on walk mid (left_by nodes child table low (record { page = page; cell = i }) (get_or cells i d))
    (children_by nodes child table page (i + 1) (get_or cells i d).rowid high (drop (i + 1) cells) right) done

pub children_stop : (nodes : Nodes) (child : ChildWalk) (table : Bool) (page i : ℕ) (low high : Option ℤ) (cells : List Cell) (right : ℕ) (d : Cell) (walk : Walked) (error : WalkError) → i < length cells
    → AnswersFault error (run walk (left_by nodes child table low (record { page = page; cell = i }) (get_or cells i d)))
    → AnswersFault error (run walk (children_by nodes child table page i low high (drop i cells) right))
children_stop nodes child table page i low high cells right d walk error bound answers =
    answers_same error _ (run walk (children_by nodes child table page i low high (drop i cells) right)) (ap (run walk) (children-cons nodes child table page i low high cells right d bound))
    (answers_front error walk (left_by nodes child table low (record { page = page; cell = i }) (get_or cells i d))
    (children_by nodes child table page (i + 1) (get_or cells i d).rowid high (drop (i + 1) cells) right) answers)

pub children-none : (nodes : Nodes) (child : ChildWalk) (table : Bool) (page i : ℕ) (low high : Option ℤ) (cells : List Cell) (right : ℕ) → length cells ≤ i
    → children_by nodes child table page i low high (drop i cells) right ≡ child (between low high) right
unfolding children_by
children-none nodes child table page i low high cells right bound = ap (λ (cs : List Cell). children_by nodes child table page i low high cs right) (drop_all i cells bound)

-- the child of a cell that has none
pub child-none : (nodes : Nodes) (table : Bool) (levels : ℕ) (low : Option ℤ) (cell : Cell) (walk : Walked) → cell.left ≡ None → run walk (child_part nodes table levels low cell) ≡ Done walk
child-none nodes table levels low cell walk is = by cell.left is
  where
    by : (left : Option ℕ) → left ≡ None → run walk (elim left [ None ↦ [] | Some page ↦ trace nodes table levels (between low cell.rowid) page ]) ≡ Done walk
    by None is = run-none walk
    by (Some page) is = absurd (cc)

-- a cell behind its child, in a table and in an index
pub left_of_table : (nodes : Nodes) (table : Bool) (levels : ℕ) (low : Option ℤ) (place : Place) (cell : Cell) (walk mid : Walked) → table ≡ true
    → run walk (child_part nodes table levels low cell) ≡ Done mid → run walk (left_part nodes table levels low place cell) ≡ Done mid
left_of_table nodes true levels low place cell walk mid is done = goes_on walk mid (child_part nodes true levels low cell) [] done ∙ run-none mid
left_of_table nodes false levels low place cell walk mid is done = absurd (cc)

pub left_of_index : {T : Type 0} (result : Result T WalkError) (nodes : Nodes) (table : Bool) (levels : ℕ) (low : Option ℤ) (place : Place) (cell : Cell) (walk mid last : Walked) → table ≡ false
    → run walk (child_part nodes table levels low cell) ≡ Done mid → Meets result last (run mid (held nodes IndexInner place cell))
    → Meets result last (run walk (left_part nodes table levels low place cell))
left_of_index result nodes true levels low place cell walk mid last is done meets = absurd (cc)
left_of_index result nodes false levels low place cell walk mid last is done meets =
    meets_on result walk mid last (child_part nodes false levels low cell) (held nodes IndexInner place cell) done meets

pub left_stops : (nodes : Nodes) (table : Bool) (levels : ℕ) (low : Option ℤ) (place : Place) (cell : Cell) (walk : Walked) (error : WalkError)
    → AnswersFault error (run walk (child_part nodes table levels low cell)) → AnswersFault error (run walk (left_part nodes table levels low place cell))
left_stops nodes table levels low place cell walk error answers =
    answers_front error walk (child_part nodes table levels low cell) (if table then [] else held nodes IndexInner place cell) answers

-- a page too deep
wrong_page : (walk : Walked) (page : ℕ) → run walk (Wrong page ∷ []) ≡ Fault page
unfolding step
wrong_page walk page = stops_step walk page (Wrong page) [] refl

pub too_deep : (nodes : Nodes) (table : Bool) (levels : ℕ) (limits : Limits) (page : ℕ) (walk : Walked) → levels ≡ 0 → run walk (trace nodes table levels limits page) ≡ Fault page
unfolding trace
too_deep nodes table levels limits page walk is = rw is (wrong_page walk page)

module _ (nodes : Nodes) (table : Bool) (levels : ℕ) (limits : Limits) (page : ℕ) (walk : Walked) (some : 0 < levels) where
  trace-some : trace nodes table levels limits page ≡ Found page ∷ visit nodes (trace nodes table (levels - 1)) table (levels - 1) limits page (nodes.cells page)
  unfolding trace
  trace-some = by levels some
    where
      by : (n : ℕ) → 0 < n → trace nodes table n limits page ≡ Found page ∷ visit nodes (trace nodes table (n - 1)) table (n - 1) limits page (nodes.cells page)
      by zero some = absurd (omega arith)
      by (suc n) some = let e : suc n - 1 ≡ n = omega arith in rw e refl

  -- a fault where the page is found
  pub page_stops : (error : WalkError) → AnswersFault error (step walk (Found page)) → AnswersFault error (run walk (trace nodes table levels limits page))
  page_stops error answers =
      answers_same error _ (run walk (trace nodes table levels limits page)) (ap (run walk) trace-some)
      (answers_step error walk (Found page) (visit nodes (trace nodes table (levels - 1)) table (levels - 1) limits page (nodes.cells page)) answers)

  -- what comes behind it
  page_found : (mid : Walked) → step walk (Found page) ≡ Done mid
      → run walk (trace nodes table levels limits page) ≡ run mid (visit nodes (trace nodes table (levels - 1)) table (levels - 1) limits page (nodes.cells page))
  page_found mid found = ap (run walk) trace-some ∙ goes_on_step walk mid (Found page) (visit nodes (trace nodes table (levels - 1)) table (levels - 1) limits page (nodes.cells page)) found

  -- a page without cells
  pub no_cells_stop : (mid : Walked) (error : WalkError) → step walk (Found page) ≡ Done mid → AnswersNone page error (nodes.cells page) → AnswersFault error (run walk (trace nodes table levels limits page))
  no_cells_stop mid (Memory fault) found none = tt
  no_cells_stop mid Failed found none = tt
  no_cells_stop mid (Corrupt at) found none =
      page_found mid found ∙ ap (λ (cells : Option PageCells). run mid (visit nodes (trace nodes table (levels - 1)) table (levels - 1) limits page cells)) none.1
      ∙ wrong_page mid page ∙ ap Fault (sym none.0)

  -- a page with cells
  module _ (mid : Walked) (node : PageCells) (found : step walk (Found page) ≡ Done mid) (cells : nodes.cells page ≡ Some node) where
    below_if : Bool → List Event
    below_if stands = if stands then below nodes (trace nodes table (levels - 1)) table (levels - 1) limits page node else Wrong page ∷ []

    page_visited : (stands : Bool) → may_stand nodes.count table limits page node ≡ stands → run walk (trace nodes table levels limits page) ≡ run mid (below_if stands)
    unfolding below_if
    page_visited stands is =
        page_found mid found ∙ ap (λ (cs : Option PageCells). run mid (visit nodes (trace nodes table (levels - 1)) table (levels - 1) limits page cs)) cells
        ∙ ap (λ (b : Bool). run mid (below_if b)) is

    pub stands_not : may_stand nodes.count table limits page node ≡ false → run walk (trace nodes table levels limits page) ≡ Fault page
    unfolding below_if
    stands_not is = page_visited false is ∙ wrong_page mid page

    pub stands_leaf : may_stand nodes.count table limits page node ≡ true → node.right ≡ None
        → run walk (trace nodes table levels limits page) ≡ run mid (Leaf page (levels - 1) ∷ leaf_cells nodes node.kind page 0 node.cells)
    unfolding below_if
    stands_leaf is none = page_visited true is ∙ ap (λ (right : Option ℕ). run mid (elim right [
      | None ↦ Leaf page (levels - 1) ∷ leaf_cells nodes node.kind page 0 node.cells
      | Some right ↦ children nodes table (levels - 1) limits page node.cells right
    ])) none

    pub stands_inner : (right : ℕ) → may_stand nodes.count table limits page node ≡ true → node.right ≡ Some right
        → run walk (trace nodes table levels limits page) ≡ run mid (children nodes table (levels - 1) limits page node.cells right)
    unfolding below_if
    stands_inner right is some_right = page_visited true is ∙ ap (λ (right : Option ℕ). run mid (elim right [
      | None ↦ Leaf page (levels - 1) ∷ leaf_cells nodes node.kind page 0 node.cells
      | Some right ↦ children nodes table (levels - 1) limits page node.cells right
    ])) some_right

-- the root of a walk of its own
root_found : (count root : ℕ) → 1 ≤ root → root ≤ count → step (begun root (unwalked count)) (Found root) ≡ Done (with_found (begun root (unwalked count)) root)
unfolding step
root_found count root low high =
    let none : slice_index_or (replicate (count + 1) 0) root 1 ≡ 0 = get_or-replicate (count + 1) root 0 1 (omega arith) in
    ap (λ (owner : ℕ). if owner == 0 then Done (with_found (begun root (unwalked count)) root) else Fault root) none

pub no_root : (nodes : Nodes) (root : ℕ) (error : WalkError) → 1 ≤ root → root ≤ nodes.count → AnswersNone root error (nodes.cells root) → AnswersFault error (walk_found nodes root)
no_root nodes root error low high none =
    no_cells_stop nodes (is_table_at nodes root) most_levels no_limits root (begun root (unwalked nodes.count)) (omega arith) (with_found (begun root (unwalked nodes.count)) root) error
    (root_found nodes.count root low high) none

-- the walk of the root's kind
pub walk_of_root : (nodes : Nodes) (root count : ℕ) (node : PageCells) → nodes.count ≡ count → nodes.cells root ≡ Some node
    → walk_found nodes root ≡ walk_tree nodes (is_table node.kind) root (unwalked count)
walk_of_root nodes root count node same cells =
    let table : is_table_at nodes root ≡ is_table node.kind = ap (λ (found : Option PageCells). elim found [ None ↦ false | Some page ↦ is_table page.kind ]) cells in
    ap₂ (λ (t : Bool) (n : ℕ). walk_tree nodes t root (unwalked n)) table same
