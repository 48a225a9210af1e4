-- The cells at the first pointers: there is one list of them, which the marks follow.
use Rattle.std.proofs.Common.{◌≡◌, ℕ, zero, suc, ◌+◌, ◌-◌, ◌*◌, ◌<◌, ◌≤◌, ◌⊎◌, inl, inr, slice_index, Bool, true, false, List, [], ◌∷◌, ◌++◌, length, take, drop, replicate, get_or, Option, Some, None, Result, Err, refl, sym, ap, subst, ◌∙◌, arith, length-append, length-drop, max, nat_eq, if◌then◌else◌}
use Rattle.std.proofs.lemmas.Bool.{cases_lt}
use Rattle.std.proofs.lemmas.List.{get_or_default, get_or-append_right, get_or-drop, get_or-replicate, get_or-take, get_or_append_left, length-replicate, length-take-le, take-append-le, take_all, take_at}
use Rattle.std.proofs.lemmas.Option.{slice_get_within}
use Rattle.std.specs.List.{slice_get}
use Rattle.common_laws.specs.Results.{Yields}
use Rattle.common_laws.proofs.Places.{element_at, slice_get-append_left, slice_get-push_cases, slice_get-push_last}
use Rattle.page_cells.specs.Layout.{cell_count, header_start, kind_byte, page_header_len, pointer, pointers_end}
use Rattle.page_cells.specs.Cells.{AreCells, FirstFault, HasCells, HasChild, IsNextCell, cell_end}
use Rattle.page_cells.specs.Errors.{IsFaultAt, IsMemory, OnBounds}
use Rattle.page_cells.specs.Taken.{IsFault, IsFreeCell, marked}
use Rattle.page_cells.specs.declared.kind.Kind as kinds
use Rattle.page_cells.specs.declared.kind.Kind.TheVariants.{IndexInner, TableInner, IndexLeaf, TableLeaf}
use Rattle.page_cells.specs.declared.error.CellError.{CellError}
use Rattle.page_cells.specs.declared.error.CellError.TheVariants.{Bounds, Kind, Memory}
use Rattle.page_cells.specs.declared.cell.Cell.{Cell}
use Rattle.page_cells.specs.declared.cell.PageCells.{PageCells}
use Rattle.page_cells.proofs.CellLemmas.{IsCellAt-nonempty, one_cell, one_child}

-- there is at most one next cell
pub one_next : (page : List ℕ) (first : Bool) (kind : kinds.Kind) (usable : ℕ) (earlier : List Cell) (c d : Cell)
    → IsNextCell page first kind usable earlier c → IsNextCell page first kind usable earlier d → c ≡ d
one_next page first kind usable earlier c d h k = one_cell page kind usable (pointer page first kind (length earlier)) c d h.stands k.stands

-- one more cell at the end
pub AreCells-push : (page : List ℕ) (first : Bool) (kind : kinds.Kind) (usable : ℕ) (cells : List Cell) (c : Cell)
    → AreCells page first kind usable cells → IsNextCell page first kind usable cells c → AreCells page first kind usable (cells ++ c ∷ [])
AreCells-push page first kind usable cells c are next = λ i d at. elim (slice_get-push_cases cells c d i at) [
  | inl old ↦
      subst (λ l. IsNextCell page first kind usable l d) (sym (take-append-le i cells (c ∷ []) (omega (arith, slice_get_within cells i d old)))) (are i d old)
  | inr new ↦
      subst (λ l. IsNextCell page first kind usable l d) (sym (take_at cells (c ∷ []) i (sym new.0)))
      (subst (λ e. IsNextCell page first kind usable cells e) new.1 next)
]

-- two lists of such cells have the same fronts
pub same_fronts : (page : List ℕ) (first : Bool) (kind : kinds.Kind) (usable : ℕ) (xs ys : List Cell) → AreCells page first kind usable xs → AreCells page first kind usable ys
    → (k : ℕ) → k ≤ length xs → k ≤ length ys → take k xs ≡ take k ys
same_fronts page first kind usable xs ys are be zero h g = refl
same_fronts page first kind usable xs ys are be (suc k) h g =
    let x = element_at xs k (omega arith) in
    let y = element_at ys k (omega arith) in
    let front = same_fronts page first kind usable xs ys are be k (omega arith) (omega arith) in
    let same : x.0 ≡ y.0 =
    one_next page first kind usable (take k ys) x.0 y.0
    (subst (λ l. IsNextCell page first kind usable l x.0) front (are k x.0 x.1)) (be k y.0 y.1) in
    x.2 ∙ ap (λ l. l ++ x.0 ∷ []) front ∙ ap (λ e. take k ys ++ e ∷ []) same ∙ sym y.2

-- where no cell comes next, no list of them is longer
pub none_longer : (page : List ℕ) (first : Bool) (kind : kinds.Kind) (usable : ℕ) (xs ys : List Cell) → AreCells page first kind usable xs → AreCells page first kind usable ys
    → ((c : Cell) → IsNextCell page first kind usable xs c → ⊥) → length xs < length ys → ⊥
none_longer page first kind usable xs ys are be none longer =
    let y = element_at ys (length xs) longer in
    let front = sym (take_all (length xs) xs (omega arith)) ∙ same_fronts page first kind usable xs ys are be (length xs) (omega arith) (omega arith) in
    none y.0 (subst (λ l. IsNextCell page first kind usable l y.0) (sym front) (be (length xs) y.0 y.1))

-- a page has one list of cells
pub one_page : (page : List ℕ) (first : Bool) (kind : kinds.Kind) (usable : ℕ) (c d : PageCells) → HasCells page first kind usable c → HasCells page first kind usable d → c ≡ d
one_page page first kind usable c d h k =
    let size : length c.cells ≡ length d.cells = h.count ∙ sym k.count in
    let cells : c.cells ≡ d.cells =
    sym (take_all (length c.cells) c.cells (omega arith))
    ∙ same_fronts page first kind usable c.cells d.cells h.cells k.cells (length c.cells) (omega arith) (omega arith)
    ∙ take_all (length c.cells) d.cells (omega arith) in
    same_page c d (h.of_kind ∙ sym k.of_kind) (one_child kind page (header_start first + 8) c.right d.right h.right k.right) cells
  where
    same_page : (c d : PageCells) → c.kind ≡ d.kind → c.right ≡ d.right → c.cells ≡ d.cells → c ≡ d
    same_page c d k r l =
        let of : kinds.Kind → Option ℕ → List Cell → PageCells = λ kind right cells. record { kind = kind; right = right; cells = cells } in
        ap (λ x. of x c.right c.cells) k ∙ ap (λ x. of d.kind x c.cells) r ∙ ap (λ x. of d.kind d.right x) l

-- a page with cells has no fault, and a page has one first fault
pub no_fault : (page : List ℕ) (first : Bool) (kind : kinds.Kind) (usable at : ℕ) (c : PageCells) → HasCells page first kind usable c → FirstFault page first kind usable at → ⊥
no_fault page first kind usable at c h f = elim f.fault [
  | inl full ↦ omega (arith, h.room, full.1)
  | inr stuck ↦ none_longer page first kind usable stuck.0 c.cells stuck.4 h.cells stuck.5 (omega (arith, h.count, stuck.2))
]

pub one_fault : (page : List ℕ) (first : Bool) (kind : kinds.Kind) (usable at place : ℕ) → FirstFault page first kind usable at → FirstFault page first kind usable place → at ≡ place
one_fault page first kind usable at place f g = elim f.fault [
  | inl full ↦ elim g.fault [ inl also ↦ full.0 ∙ sym also.0 | inr stuck ↦ absurd (omega (arith, full.1, stuck.1)) ]
  | inr stuck ↦ elim g.fault [
    | inl full ↦ absurd (omega (arith, full.1, stuck.1))
    | inr also ↦ elim (cases_lt (length stuck.0) (length also.0)) [
      | inl shorter ↦ absurd (none_longer page first kind usable stuck.0 also.0 stuck.4 also.4 stuck.5 shorter)
      | inr longer ↦ elim (cases_lt (length also.0) (length stuck.0)) [
        | inl shorter ↦ absurd (none_longer page first kind usable also.0 stuck.0 also.4 stuck.4 also.5 shorter)
        | inr same ↦ omega (arith, stuck.3, also.3, same, longer)
      ]
    ]
  ]
]

-- the kind of a page by its byte
kind_of : ℕ → kinds.Kind
kind_of byte = if nat_eq byte 2 then IndexInner else (if nat_eq byte 5 then TableInner else (if nat_eq byte 10 then IndexLeaf else TableLeaf))

kind_of-byte : (kind : kinds.Kind) → kind_of (kind_byte kind) ≡ kind
unfolding kind_of
kind_of-byte IndexInner = refl
kind_of-byte TableInner = refl
kind_of-byte IndexLeaf = refl
kind_of-byte TableLeaf = refl

one_kind : (byte : ℕ) (kind other : kinds.Kind) → byte ≡ kind_byte kind → byte ≡ kind_byte other → other ≡ kind
one_kind byte kind other is also = sym (kind_of-byte other) ∙ ap kind_of (sym also ∙ is) ∙ kind_of-byte kind

-- what is said of a page as one of another kind is said of its own
pub has_of_kind : (page : List ℕ) (first : Bool) (kind : kinds.Kind) (usable : ℕ) → slice_index page (header_start first) ≡ kind_byte kind
    → (other : kinds.Kind) (c : PageCells) → HasCells page first other usable c → HasCells page first kind usable c
has_of_kind page first kind usable byte other c has =
    subst (λ k. HasCells page first k usable c) (one_kind (slice_index page (header_start first)) kind other byte has.byte) has

pub fault_of_kind : (page : List ℕ) (first : Bool) (kind : kinds.Kind) (usable : ℕ) → slice_index page (header_start first) ≡ kind_byte kind
    → (other : kinds.Kind) (at : ℕ) → FirstFault page first other usable at → FirstFault page first kind usable at
fault_of_kind page first kind usable byte other at fault =
    subst (λ k. FirstFault page first k usable at) (one_kind (slice_index page (header_start first)) kind other byte fault.byte) fault

-- a mark is set where one of the cells takes its place
pub record Marks (page : List ℕ) (first : Bool) (kind : kinds.Kind) (usable : ℕ) (cells : List Cell) (taken : List Bool) : Type 0 where
  pub size : length taken ≡ usable
  pub set : (k : ℕ) → k < usable → get_or taken k false ≡ true
      → (j : ℕ) × (d : Cell) × (slice_get cells j ≡ Some d) × (pointer page first kind j ≤ k) × (k < cell_end kind usable d)
  pub clear : (k : ℕ) → k < usable → get_or taken k false ≡ false → (j : ℕ) (d : Cell) → slice_get cells j ≡ Some d
      → (k < pointer page first kind j) ⊎ (cell_end kind usable d ≤ k)

pub Marks-none : (page : List ℕ) (first : Bool) (kind : kinds.Kind) (usable : ℕ) → Marks page first kind usable [] (replicate usable false)
Marks-none page first kind usable = record {
  size = length-replicate usable false;
  set = λ k h t. absurd (apart (sym t ∙ get_or-replicate usable k false false h));
  clear = λ k h t j d e. absurd (nothing d e);
}
  where
    apart : true ≡ false → ⊥
    apart e = cc

    nothing : (d : Cell) → ◌≡◌ {A = Option Cell} None (Some d) → ⊥
    nothing d e = cc

-- a place of the marks with those from start to end set
marked_inside : (taken : List Bool) (start end k : ℕ) → start ≤ k → k < end → end ≤ length taken → get_or (marked taken start end) k false ≡ true
marked_inside taken start end k low high within =
    let front : length (take start taken) ≡ start = length-take-le start taken (omega arith) in
    let size : length (replicate (end - start) true) ≡ end - start = length-replicate (end - start) true in
    get_or-append_right (take start taken) (replicate (end - start) true ++ drop end taken) start k false front low
    ∙ get_or_append_left (replicate (end - start) true) (drop end taken) false (k - start) (omega arith)
    ∙ get_or-replicate (end - start) (k - start) true false (omega arith)

marked_before : (taken : List Bool) (start end k : ℕ) → k < start → start ≤ length taken → get_or (marked taken start end) k false ≡ get_or taken k false
marked_before taken start end k low within =
    let front : length (take start taken) ≡ start = length-take-le start taken within in
    get_or_append_left (take start taken) (replicate (end - start) true ++ drop end taken) false k (omega arith)
    ∙ get_or-take start taken k false low

marked_behind : (taken : List Bool) (start end k : ℕ) → start ≤ end → end ≤ k → end ≤ length taken → get_or (marked taken start end) k false ≡ get_or taken k false
marked_behind taken start end k order high within =
    let front : length (take start taken) ≡ start = length-take-le start taken (omega arith) in
    let size : length (replicate (end - start) true) ≡ end - start = length-replicate (end - start) true in
    let at : end + (k - start - (end - start)) ≡ k = omega arith in
    get_or-append_right (take start taken) (replicate (end - start) true ++ drop end taken) start k false front (omega arith)
    ∙ get_or-append_right (replicate (end - start) true) (drop end taken) (end - start) (k - start) false size (omega arith)
    ∙ get_or-drop end taken (k - start - (end - start)) false ∙ ap (λ i. get_or taken i false) at

length-marked : (taken : List Bool) (start end : ℕ) → start ≤ end → end ≤ length taken → length (marked taken start end) ≡ length taken
length-marked taken start end order within =
    let whole = length-append (take start taken) (replicate (end - start) true ++ drop end taken) in
    let back = length-append (replicate (end - start) true) (drop end taken) in
    omega (arith, whole, back, length-take-le start taken (omega arith), length-replicate (end - start) true, length-drop end taken)

-- a place before, among and behind those from start to end
data Side (start end k : ℕ) : Type 0 where
  before : k < start → Side start end k
  inside : start ≤ k → k < end → Side start end k
  behind : end ≤ k → Side start end k

side : (start end k : ℕ) → Side start end k
side start end k = elim (cases_lt k start) [
  | inl low ↦ before low
  | inr high ↦ elim (cases_lt k end) [ inl low ↦ inside high low | inr past ↦ behind past ]
]

-- one more cell, and its marks
module _ (page : List ℕ) (first : Bool) (kind : kinds.Kind) (usable : ℕ) (cells : List Cell) (taken : List Bool) (c : Cell) (marks : Marks page first kind usable cells taken)
    (next : IsNextCell page first kind usable cells c) where
  set_more : (k : ℕ) → k < usable → Side (pointer page first kind (length cells)) (cell_end kind usable c) k
      → get_or (marked taken (pointer page first kind (length cells)) (cell_end kind usable c)) k false ≡ true
      → (j : ℕ) × (d : Cell) × (slice_get (cells ++ c ∷ []) j ≡ Some d) × (pointer page first kind j ≤ k) × (k < cell_end kind usable d)
  set_more k small (before low) is =
      let some = IsCellAt-nonempty page kind usable (pointer page first kind (length cells)) c next.stands in
      let old = marks.set k small
      (sym (marked_before taken (pointer page first kind (length cells)) (cell_end kind usable c) k low (omega (arith, marks.size, next.below))) ∙ is) in
      (old.0, old.1, slice_get-append_left cells (c ∷ []) old.1 old.0 old.2, old.3, old.4)
  set_more k small (inside low high) is = (length cells, c, slice_get-push_last cells c, low, high)
  set_more k small (behind high) is =
      let some = IsCellAt-nonempty page kind usable (pointer page first kind (length cells)) c next.stands in
      let old = marks.set k small
      (sym (marked_behind taken (pointer page first kind (length cells)) (cell_end kind usable c) k (omega arith) high (omega (arith, marks.size, next.below))) ∙ is) in
      (old.0, old.1, slice_get-append_left cells (c ∷ []) old.1 old.0 old.2, old.3, old.4)

  clear_more : (k : ℕ) → k < usable → Side (pointer page first kind (length cells)) (cell_end kind usable c) k
      → get_or (marked taken (pointer page first kind (length cells)) (cell_end kind usable c)) k false ≡ false
      → (j : ℕ) (d : Cell) → slice_get (cells ++ c ∷ []) j ≡ Some d → (k < pointer page first kind j) ⊎ (cell_end kind usable d ≤ k)
  clear_more k small (before low) is j d at =
      let some = IsCellAt-nonempty page kind usable (pointer page first kind (length cells)) c next.stands in
      elim (slice_get-push_cases cells c d j at) [
        | inl old ↦
            marks.clear k small
            (sym (marked_before taken (pointer page first kind (length cells)) (cell_end kind usable c) k low (omega (arith, marks.size, next.below))) ∙ is) j d old
        | inr new ↦ inl (subst (λ i. k < pointer page first kind i) (sym new.0) low)
      ]
  clear_more k small (inside low high) is j d at =
      absurd (apart_marks
      (sym (marked_inside taken (pointer page first kind (length cells)) (cell_end kind usable c) k low high (omega (arith, marks.size, next.below))) ∙ is))
    where
      apart_marks : true ≡ false → ⊥
      apart_marks e = cc
  clear_more k small (behind high) is j d at =
      let some = IsCellAt-nonempty page kind usable (pointer page first kind (length cells)) c next.stands in
      elim (slice_get-push_cases cells c d j at) [
        | inl old ↦
            marks.clear k small
            (sym (marked_behind taken (pointer page first kind (length cells)) (cell_end kind usable c) k (omega arith) high (omega (arith, marks.size, next.below)))
            ∙ is) j d old
        | inr new ↦ inr (subst (λ e. cell_end kind usable e ≤ k) new.1 high)
      ]

  pub Marks-more : Marks page first kind usable (cells ++ c ∷ []) (marked taken (pointer page first kind (length cells)) (cell_end kind usable c))
  Marks-more =
      let some = IsCellAt-nonempty page kind usable (pointer page first kind (length cells)) c next.stands in
      record {
        size = length-marked taken (pointer page first kind (length cells)) (cell_end kind usable c) (omega arith) (omega (arith, marks.size, next.below)) ∙ marks.size;
        set = λ k small is. set_more k small (side (pointer page first kind (length cells)) (cell_end kind usable c) k) is;
        clear = λ k small is j d at. clear_more k small (side (pointer page first kind (length cells)) (cell_end kind usable c) k) is j d at;
      }

-- where the marks follow the cells, a cell on free places is a next cell
module _ (page : List ℕ) (first : Bool) (kind : kinds.Kind) (usable : ℕ) (cells : List Cell) (taken : List Bool) (c : Cell) (are : AreCells page first kind usable cells)
    (marks : Marks page first kind usable cells taken) where
  pub next_from_free : IsFreeCell page kind usable (pointers_end page first kind) (pointer page first kind (length cells)) taken c → IsNextCell page first kind usable cells c
  next_from_free free = record {
    stands = free.stands;
    above = free.above;
    below = free.below;
    apart = λ j d at. elim (cases_lt (pointer page first kind (length cells)) (cell_end kind usable d)) [
      | inr done ↦ inl done
      | inl over ↦ elim (cases_lt (pointer page first kind j) (cell_end kind usable c)) [
        | inr done ↦ inr done
        | inl also ↦ absurd (meet j d at over also)
      ]
    ];
  }
    where
      meet : (j : ℕ) (d : Cell) → slice_get cells j ≡ Some d → pointer page first kind (length cells) < cell_end kind usable d
          → pointer page first kind j < cell_end kind usable c → ⊥
      meet j d at over also =
          let some = IsCellAt-nonempty page kind usable (pointer page first kind (length cells)) c free.stands in
          let within = (are j d at).below in
          let leaf = (are j d at).stands in
          let size : length (take j cells) ≡ j = length-take-le j cells (omega (arith, slice_get_within cells j d at)) in
          let nonempty : pointer page first kind j < cell_end kind usable d =
          subst (λ i. pointer page first kind i < cell_end kind usable d) size (IsCellAt-nonempty page kind usable (pointer page first kind (length (take j cells))) d leaf) in
          let k = max (pointer page first kind (length cells)) (pointer page first kind j) in
          let below_both : (k < cell_end kind usable c) × (k < cell_end kind usable d) × (pointer page first kind (length cells) ≤ k) × (pointer page first kind j ≤ k) =
          (omega arith, omega arith, omega arith, omega arith) in
          let none = free.free k false below_both.2 below_both.0 in
          elim (marks.clear k (omega arith) none j d at) [ inl low ↦ omega arith | inr high ↦ omega arith ]

  pub free_from_next : IsNextCell page first kind usable cells c → IsFreeCell page kind usable (pointers_end page first kind) (pointer page first kind (length cells)) taken c
  free_from_next next = record {
    stands = next.stands;
    above = next.above;
    below = next.below;
    free = λ k d low high. unmarked k d low high (get_or taken k false) refl;
  }
    where
      unmarked : (k : ℕ) (d : Bool) → pointer page first kind (length cells) ≤ k → k < cell_end kind usable c → (b : Bool) → get_or taken k false ≡ b
          → get_or taken k d ≡ false
      unmarked k d low high false is = get_or_default taken k d false (omega (arith, marks.size, next.below)) ∙ is
      unmarked k d low high true is =
          let some = marks.set k (omega (arith, next.below)) is in
          absurd (elim (next.apart some.0 some.1 some.2) [ inl e ↦ omega (arith, some.3, some.4) | inr e ↦ omega (arith, some.3, some.4) ])

-- what an answered fault says of the whole result
pub fault_only : (page : List ℕ) (first : Bool) (kind : kinds.Kind) (usable : ℕ) (e : CellError) → IsFault page first kind usable e → (c : PageCells)
    → HasCells page first kind usable c → Yields IsMemory (λ found. found ≡ c) (Err e)
fault_only page first kind usable (Memory fault) f c has = tt
fault_only page first kind usable Kind f c has = f
fault_only page first kind usable (Bounds at) f c has = no_fault page first kind usable at c has f

pub fault_bounds : (page : List ℕ) (first : Bool) (kind : kinds.Kind) (usable : ℕ) (e : CellError) → IsFault page first kind usable e → OnBounds (Err e) (FirstFault page first kind usable)
fault_bounds page first kind usable (Memory fault) f = tt
fault_bounds page first kind usable Kind f = tt
fault_bounds page first kind usable (Bounds at) f = f

pub fault_first : (page : List ℕ) (first : Bool) (kind : kinds.Kind) (usable : ℕ) (e : CellError) → IsFault page first kind usable e → (at : ℕ)
    → FirstFault page first kind usable at → IsFaultAt at (Err e)
fault_first page first kind usable (Memory fault) f at is = tt
fault_first page first kind usable Kind f at is = f
fault_first page first kind usable (Bounds place) f at is = one_fault page first kind usable place at f is

pub fault_kind : (page : List ℕ) (first : Bool) (kind : kinds.Kind) (usable : ℕ) (e : CellError) → IsFault page first kind usable e
    → ◌≡◌ {A = Result PageCells CellError} (Err e) (Err Kind) → ⊥
fault_kind page first kind usable (Memory fault) f is = cc
fault_kind page first kind usable Kind f is = f
fault_kind page first kind usable (Bounds place) f is = cc

-- the page whose cells were all read
pub made_page : (page : List ℕ) (first : Bool) (kind : kinds.Kind) (right : Option ℕ) (usable count : ℕ) (cells : List Cell)
    → slice_index page (header_start first) ≡ kind_byte kind → HasChild kind page (header_start first + 8) right
    → count ≡ cell_count page first → header_start first + page_header_len kind + 2 * count ≤ usable → AreCells page first kind usable cells
    → length cells ≡ count → HasCells page first kind usable (record { kind = kind; right = right; cells = cells })
made_page page first kind right usable count cells byte child is_count room are size = record {
  byte = byte;
  of_kind = refl;
  right = child;
  room = subst (λ n. header_start first + page_header_len kind + 2 * n ≤ usable) is_count room;
  count = size ∙ is_count;
  cells = are;
}
