-- The cells of rows as they are written, and the page that holds them.
use Rattle.std.proofs.Common.{◌≡◌, ◌<◌, ◌≤◌, ℕ, ◌+◌, ◌-◌, ◌^◌, Bool, true, false, ◌&&◌, nat_le, List, [], ◌∷◌, ◌++◌, length, map, take, drop, get_or, length-drop, refl, sym, ◌∙◌, ap, ap₂, subst, arith, append-nil, append_assoc, None}
use Rattle.std.proofs.Math.Bool.{and-true}
use Rattle.std.proofs.lemmas.Bool.{and_from, le-leb}
use Rattle.std.proofs.lemmas.List.{drop-drop, drop-map, get_or-map, length-map, map-append, take-map, take_all}
use Rattle.std.proofs.lemmas.List.Folds.{list_all-append, list_all_at}
use Rattle.page_cells.specs.declared.kind.Kind.TheVariants.{TableLeaf}
use Rattle.page_cells.specs.Layout.{pointer_place}
use Rattle.page_cells.specs.Write.{Fits, IsWholeCell, rooms}
use Rattle.page_cells.proofs.LayoutLemmas.{local_payload-whole, overflow_size-none}
use Rattle.schema_rows.specs.declared.schema.SchemaRow.{SchemaRow}
use Rattle.schema_rows.specs.Schema.{row_cell, row_record}
use Rattle.schema_rows.proofs.RowWritten.{IsSmall, row_cell-is}
use Rattle.plain_schema.specs.declared.table.Table.{Table}
use Rattle.plain_schema.specs.FirstForm.{rows_of}
use Rattle.plain_schema.specs.Plan.{put_at}
use Rattle.plain_schema.specs.Step.{are_local, is_built}

-- the parts of a whole cell that has nothing on overflow pages
pub regroup : (a b c : List ℕ) → a ++ b ++ c ≡ a ++ (b ++ (c ++ []))
regroup a b c = simp (append_assoc, append-nil)

-- the cell of a row whose record is all local is whole
abbrev pub whole_row : (usable : ℕ) (row : SchemaRow) → IsSmall row → row.rowid < 2 ^ 64 → length (row_record row) ≤ usable - 35
    → IsWholeCell TableLeaf usable (row_cell row)
whole_row usable row small id fits =
    let leaf = row_cell-is row small id in
    let local = local_payload-whole TableLeaf usable (length (row_record row)) fits in
    record {
      left = None;
      payload = length (row_record row);
      rowid = row.rowid;
      length_part = leaf.size_field;
      rowid_part = leaf.rowid_field;
      local_part = row_record row;
      overflow_part = [];
      whole = leaf.whole ∙ regroup leaf.size_field leaf.rowid_field (row_record row);
      is_left = refl;
      is_length = leaf.size;
      is_rowid = leaf.id;
      local = sym local;
      overflow = sym (overflow_size-none TableLeaf usable (length (row_record row)) (omega (arith, local)));
    }

-- whether the payload of one more row is local
abbrev pub is_local : ℕ → SchemaRow → Bool
is_local usable row = nat_le (length (row_record row)) (usable - 35)

-- one row whose payload is not local decides
pub not_local : (usable : ℕ) (tables : List Table) (i : ℕ) (table : Table) (local : Bool) → i < length tables → table ≡ get_or tables i table
    → local ≡ are_local usable (table.row ∷ []) → local ≡ false → false ≡ are_local usable (rows_of tables)
not_local usable tables i table local within at is none =
    let row : get_or (rows_of tables) i table.row ≡ table.row =
    get_or-map (λ (t : Table). t.row) tables i table table.row within ∙ sym (ap (λ (t : Table). t.row) at) in
    let here : is_local usable table.row ≡ false = sym (and-true (is_local usable table.row)) ∙ sym is ∙ none in
    let inside : i < length (rows_of tables) = omega (arith, length-map tables (λ (t : Table). t.row)) in
    sym (list_all_at (is_local usable) (rows_of tables) i table.row inside (ap (is_local usable) row ∙ here))

-- the rows, with another in place of one, by the tables in front of it and behind it
pub rows_split : (place : ℕ) (row : SchemaRow) (tables front back : List Table) → front ≡ take place tables → back ≡ drop place tables
    → put_at place row (rows_of tables) ≡ rows_of front ++ row ∷ rows_of (take (length back - 1) (drop 1 back))
rows_split place row tables front back before behind =
    let here : drop (place + 1) tables ≡ take (length back - 1) (drop 1 back) =
    ap (λ (n : ℕ). drop n tables) (omega arith) ∙ sym (drop-drop 1 place tables) ∙ ap (drop 1) (sym behind)
    ∙ sym (take_all (length back - 1) (drop 1 back) (omega (arith, length-drop 1 back))) in
    ap₂ (λ (a b : List SchemaRow). a ++ row ∷ b)
    (take-map (λ (t : Table). t.row) place tables ∙ ap rows_of (sym before))
    (drop-map (λ (t : Table). t.row) (place + 1) tables ∙ ap rows_of here)

-- whether the payloads of the rows are all local
pub local_split : (usable place : ℕ) (row : SchemaRow) (tables front back : List Table) (first one last : Bool)
    → front ≡ take place tables → back ≡ drop place tables → first ≡ are_local usable (rows_of front) → one ≡ are_local usable (row ∷ [])
    → last ≡ are_local usable (rows_of (take (length back - 1) (drop 1 back)))
    → are_local usable (put_at place row (rows_of tables)) ≡ (first && (one && last))
local_split usable place row tables front back first one last before behind a b c =
    let rest = rows_of (take (length back - 1) (drop 1 back)) in
    ap (are_local usable) (rows_split place row tables front back before behind)
    ∙ list_all-append (is_local usable) (rows_of front) (row ∷ rest)
    ∙ ap₂ (λ (x y : Bool). x && y) (sym a)
    (ap₂ (λ (x y : Bool). x && y) (sym (b ∙ and-true (is_local usable row))) (sym c))

-- the first of three fails
pub none_first : (a b c : Bool) → a ≡ false → (a && (b && c)) ≡ false
none_first a b c none = rw none refl

-- the second of three fails
pub none_second : (a b c : Bool) → b ≡ false → (a && (b && c)) ≡ false
none_second true b c none = rw none refl
none_second false b c none = refl

-- the third of three fails
pub none_third : (a b c : Bool) → c ≡ false → (a && (b && c)) ≡ false
none_third true true c none = none
none_third true false c none = refl
none_third false b c none = refl

-- none of three fails
pub all_three : (a b c : Bool) → a ≡ true → b ≡ true → c ≡ true → (a && (b && c)) ≡ true
all_three a b c e f g = rw (e, f, g) refl

-- the cells of the rows, pushed part by part
pub cells_split : (place : ℕ) (row : SchemaRow) (tables front back : List Table) (none first one last : List (List ℕ))
    → front ≡ take place tables → back ≡ drop place tables → none ≡ [] → first ≡ none ++ map row_cell (rows_of front) → one ≡ first ++ row_cell row ∷ []
    → last ≡ one ++ map row_cell (rows_of (take (length back - 1) (drop 1 back)))
    → last ≡ map row_cell (put_at place row (rows_of tables))
cells_split place row tables front back none first one last before behind a b c d =
    let rest = rows_of (take (length back - 1) (drop 1 back)) in
    let pushed = c ∙ ap (λ (l : List (List ℕ)). l ++ row_cell row ∷ []) (b ∙ ap (λ (l : List (List ℕ)). l ++ map row_cell (rows_of front)) a) in
    d ∙ ap (λ (l : List (List ℕ)). l ++ map row_cell rest) pushed
    ∙ append_assoc (map row_cell (rows_of front)) (row_cell row ∷ []) (map row_cell rest)
    ∙ sym (ap (map row_cell) (rows_split place row tables front back before behind) ∙ map-append row_cell (rows_of front) (row ∷ rest))

-- rows that are local and have room, by their cells
pub built : (usable : ℕ) (rows : List SchemaRow) (cells : List (List ℕ)) → are_local usable rows ≡ true → cells ≡ map row_cell rows → Fits true TableLeaf usable cells
    → is_built usable rows ≡ true
built usable rows cells local is fits =
    let room = pointer_place true TableLeaf (length rows) + rooms (map row_cell rows) in
    let within : Fits true TableLeaf usable (map row_cell rows) = subst (Fits true TableLeaf usable) is fits in
    and_from (are_local usable rows) (nat_le room usable) local (le-leb room usable (omega (arith, length-map rows row_cell)))
