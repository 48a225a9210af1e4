-- The cells of a page, and the rows that they hold.
use Rattle.std.proofs.Common.{◌≡◌, ◌≤◌, ◌<◌, ℕ, zero, suc, ◌+◌, ◌^◌, true, Some, Option, None, List, [], ◌∷◌, ◌++◌, length, get_or, take, refl, sym, ◌∙◌, ap, subst, arith, IsSomeAnd}
use Rattle.std.proofs.lemmas.List.{take_all, take_more}
use Rattle.std.specs.List.{AllByRecursion, slice_get}
use Rattle.page_cells.specs.declared.kind.Kind.TheVariants.{TableLeaf}
use Rattle.page_cells.specs.declared.cell.Cell.{Cell}
use Rattle.page_cells.specs.declared.cell.PageCells.{PageCells}
use Rattle.page_cells.specs.Cells.{HasCells}
use Rattle.page_cells.specs.Layout.{IsUsable}
use Rattle.schema_rows.specs.declared.schema.SchemaRow.{SchemaRow}
use Rattle.plain_schema.specs.FirstPage.{HoldsRow, HoldRows, IsOnPage, leaf_of}
use Rattle.common_laws.proofs.Each.{all_from_get}

-- the cells lie on the page
pub within : (page : List ℕ) (usable : ℕ) (cells : List Cell) → IsUsable usable (length page) → HasCells page true TableLeaf usable (leaf_of cells)
    → AllByRecursion (IsOnPage page) cells
within page usable cells size has = all_from_get (IsOnPage page) cells on
  where
    on : (i : ℕ) (c : Cell) → slice_get cells i ≡ Some c → IsOnPage page c
    on i c at =
        let next = has.cells i c at in
        let start = next.stands.start in
        let end = next.stands.end in
        let below = next.below in
        let most = size.within in
        record { start = omega arith; end = omega arith }

-- as many rows as cells
pub length-held : (page : List ℕ) (cells : List Cell) (rows : List SchemaRow) → HoldRows page cells rows → length rows ≡ length cells
length-held page [] [] held = refl
length-held page (c ∷ cells) (row ∷ rows) held = ap suc (length-held page cells rows held.1)
length-held page [] (row ∷ rows) held = absurd held
length-held page (c ∷ cells) [] held = absurd held

-- one more cell with its row
pub held_more : (page : List ℕ) (cells : List Cell) (rows : List SchemaRow) (c : Cell) (row : SchemaRow) → HoldRows page cells rows → HoldsRow page c row
    → HoldRows page (cells ++ c ∷ []) (rows ++ row ∷ [])
held_more page [] [] c row held one = (one, tt)
held_more page (d ∷ cells) (other ∷ rows) c row held one = (held.0, held_more page cells rows c row held.1 one)
held_more page [] (other ∷ rows) c row held one = absurd held
held_more page (d ∷ cells) [] c row held one = absurd held

-- the next cell with its row
pub held_next : (page : List ℕ) (cells : List Cell) (i : ℕ) (d : Cell) (rows : List SchemaRow) (row : SchemaRow) → HoldRows page (take i cells) rows
    → i < length cells → HoldsRow page (get_or cells i d) row → HoldRows page (take (i + 1) cells) (rows ++ row ∷ [])
held_next page cells i d rows row held inside one =
    subst (λ (l : List Cell). HoldRows page l (rows ++ row ∷ [])) (sym (take_more cells i d inside))
    (held_more page (take i cells) rows (get_or cells i d) row held one)

-- the row that the cell of an index holds, which is the next one
pub record IsNext (page : List ℕ) (c : Cell) (i : ℕ) (rows : List SchemaRow) : Type 0 where
  pub row : SchemaRow
  pub small : row.root < 2 ^ 31
  pub holds : HoldsRow page c row
  pub next : take (i + 1) rows ≡ take i rows ++ row ∷ []

-- the next row is there
pub next_row : (page : List ℕ) (cells : List Cell) (rows : List SchemaRow) (i : ℕ) (d : Cell) → HoldRows page cells rows
    → AllByRecursion (λ row. row.root < 2 ^ 31) rows → i < length cells → IsNext page (get_or cells i d) i rows
next_row page [] rows i d held small inside = absurd (omega arith)
next_row page (c ∷ cells) [] i d held small inside = absurd held
next_row page (c ∷ cells) (row ∷ rows) zero d held small inside = record { row = row; small = small.0; holds = held.0; next = refl }
next_row page (c ∷ cells) (row ∷ rows) (suc i) d held small inside =
    let later = next_row page cells rows i d held.1 small.1 (omega arith) in
    let one : suc i + 1 ≡ suc (i + 1) = omega arith in
    record {
      row = later.row;
      small = later.small;
      holds = later.holds;
      next = ap (λ n. take n (row ∷ rows)) one ∙ ap (λ (l : List SchemaRow). row ∷ l) later.next;
    }

-- the rows so far are the first ones of all that the cells may hold
abbrev pub AreFirst : List ℕ → List Cell → ℕ → List SchemaRow → Type 0
AreFirst page cells i rows = (list : List SchemaRow) → AllByRecursion (λ row. row.root < 2 ^ 31) list → HoldRows page cells list → take i list ≡ rows

-- the cell was read exactly so
abbrev pub OnlyRow : List ℕ → Cell → Option SchemaRow → Type 0
OnlyRow page c read = (row : SchemaRow) → row.root < 2 ^ 31 → HoldsRow page c row → IsSomeAnd read (λ r. r ≡ row)

-- the row that was read is the next of them
pub first_more : (page : List ℕ) (cells : List Cell) (i : ℕ) (d : Cell) (rows : List SchemaRow) (read : Option SchemaRow) (row : SchemaRow)
    → AreFirst page cells i rows → i < length cells → OnlyRow page (get_or cells i d) read → read ≡ Some row
    → AreFirst page cells (i + 1) (rows ++ row ∷ [])
first_more page cells i d rows read row first inside only some = λ list small held.
    let next = next_row page cells list i d held small inside in
    let same : row ≡ next.row = subst (λ r. IsSomeAnd r (λ x. x ≡ next.row)) some (only next.row next.small next.holds) in
    next.next ∙ ap (λ (l : List SchemaRow). l ++ next.row ∷ []) (first list small held) ∙ ap (λ r. rows ++ r ∷ []) (sym same)

-- a cell that holds no row
pub no_rows : (page : List ℕ) (cells : List Cell) (i : ℕ) (d : Cell) (read : Option SchemaRow) (list : List SchemaRow) → i < length cells
    → OnlyRow page (get_or cells i d) read → read ≡ None → AllByRecursion (λ row. row.root < 2 ^ 31) list → HoldRows page cells list → ⊥
no_rows page cells i d read list inside only none small held =
    let next = next_row page cells list i d held small inside in
    subst (λ r. IsSomeAnd r (λ x. x ≡ next.row)) none (only next.row next.small next.holds)

-- the first ones are all
pub first_all : (page : List ℕ) (cells : List Cell) (i : ℕ) (rows list : List SchemaRow) → AreFirst page cells i rows → length cells ≤ i
    → AllByRecursion (λ row. row.root < 2 ^ 31) list → HoldRows page cells list → rows ≡ list
first_all page cells i rows list first all small held =
    let many = length-held page cells list held in
    sym (first list small held) ∙ take_all i list (omega arith)

-- what has cells is a leaf page of them
pub as_leaf : (page : List ℕ) (usable : ℕ) (found : PageCells) → found.kind ≡ TableLeaf → HasCells page true found.kind usable found
    → HasCells page true TableLeaf usable (leaf_of found.cells)
as_leaf page usable found is has =
    let of_kind = subst (λ k. HasCells page true k usable found) is has in
    record {
      byte = of_kind.byte;
      of_kind = refl;
      right = refl;
      room = of_kind.room;
      count = of_kind.count;
      cells = of_kind.cells;
    }
