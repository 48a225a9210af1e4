-- A table of a row is the one that its text was read as, and so are the tables of rows.
use Rattle.std.proofs.Common.{◌≡◌, ℕ, suc, ◌+◌, List, [], ◌∷◌, ◌++◌, length, take, Option, Some, None, Ok, refl, sym, ◌∙◌, ap, subst, arith, length-append, AllPairs, ◌≢◌, IsSomeAnd}
use Rattle.std.proofs.lemmas.List.{length-map, take_all}
use Rattle.std.specs.List.{AllByRecursion}
use Rattle.sql_token.specs.Names.{folded}
use Rattle.schema_rows.specs.declared.schema.SchemaRow.{SchemaRow}
use Rattle.plain_schema.specs.declared.table.Table.{Table}
use Rattle.plain_sql.specs.declared.table.TableText.{TableText}
use Rattle.plain_sql.specs.TableText.{SpellsTable, IsTableReadAs}
use Rattle.plain_schema.specs.FirstForm.{IsSpelled, HasItsName, rows_of}

-- the text was read exactly so
abbrev pub Only : List ℕ → Option TableText → Type 0
Only bytes read = (name : List ℕ) (columns : List (List ℕ)) (end : ℕ) → SpellsTable bytes name columns end → IsTableReadAs name columns end (Ok read)

-- so the text of the row was read as the table's
spelled_read : (row : SchemaRow) (table : Table) (read : Option TableText) (bytes : List ℕ) → bytes ≡ row.text → table.row ≡ row
    → (is : IsSpelled table) → Only bytes read → IsTableReadAs is.name table.columns table.columns_end (Ok read)
spelled_read row table read bytes text same is only =
    only is.name table.columns table.columns_end
    (subst (λ (b : List ℕ). SpellsTable b is.name table.columns table.columns_end) (ap (λ (r : SchemaRow). r.text) same ∙ sym text) is.text)

-- no text was read, so no table has the row
pub unread : (row : SchemaRow) (table : Table) (read : Option TableText) (bytes : List ℕ) → bytes ≡ row.text → table.row ≡ row
    → IsSpelled table → Only bytes read → read ≡ None → ⊥
unread row table read bytes text same is only none =
    subst (λ r. IsTableReadAs is.name table.columns table.columns_end (Ok r)) none (spelled_read row table read bytes text same is only)

-- the text that was read is that of the table
pub record IsItsText (row : SchemaRow) (table : Table) (text : TableText) : Type 0 where
  pub columns : text.columns ≡ table.columns
  pub end : text.columns_end ≡ table.columns_end
  pub its_name : HasItsName text.name row
  pub apart : AllPairs (λ a b. folded a ≢ folded b) text.columns

-- what was read is its text
pub its_text : (row : SchemaRow) (table : Table) (read : Option TableText) (found_text : TableText) (bytes : List ℕ) → bytes ≡ row.text
    → table.row ≡ row → IsSpelled table → Only bytes read → read ≡ Some found_text → IsItsText row table found_text
its_text row table read found_text bytes text same is only some =
    let found = subst (λ r. IsTableReadAs is.name table.columns table.columns_end (Ok r)) some (spelled_read row table read bytes text same is only) in
    record {
      columns = found.1;
      end = found.2;
      its_name = subst (λ n. HasItsName n row) (sym found.0) (subst (λ r. HasItsName is.name r) same is.its_name);
      apart = subst (λ (names : List (List ℕ)). AllPairs (λ a b. folded a ≢ folded b) names) (sym found.1) is.columns_apart;
    }

-- a table with this row and this text is the table
pub is_table : (row : SchemaRow) (table : Table) (text : TableText) → table.row ≡ row → IsItsText row table text
    → record { row = row; columns = text.columns; columns_end = text.columns_end } ≡ table
is_table row table text same its =
    ap (λ (r : SchemaRow). record { row = r; columns = text.columns; columns_end = text.columns_end }) (sym same)
    ∙ ap (λ (names : List (List ℕ)). record { row = table.row; columns = names; columns_end = text.columns_end }) its.columns
    ∙ ap (λ (end : ℕ). record { row = table.row; columns = table.columns; columns_end = end }) its.end

-- the tables so far are the first ones of all that the rows may have
abbrev pub AreFirst : List SchemaRow → List SchemaRow → List Table → Type 0
AreFirst rows so_far tables = (list : List Table) → rows_of list ≡ rows → AllByRecursion IsSpelled list → take (length so_far) list ≡ tables

-- the table of a row, which is the next one
pub record IsNext (row : SchemaRow) (n : ℕ) (tables : List Table) : Type 0 where
  pub table : Table
  pub has_row : table.row ≡ row
  pub spelled : IsSpelled table
  pub next : take (n + 1) tables ≡ take n tables ++ table ∷ []

-- the next table is there
pub next_table : (tables : List Table) (front : List SchemaRow) (row : SchemaRow) (behind : List SchemaRow) → rows_of tables ≡ front ++ row ∷ behind
    → AllByRecursion IsSpelled tables → IsNext row (length front) tables
next_table [] [] row behind same spelled = cc
next_table [] (other ∷ front) row behind same spelled = cc
next_table (table ∷ tables) [] row behind same spelled = record { table = table; has_row = cc; spelled = spelled.0; next = refl }
next_table (table ∷ tables) (other ∷ front) row behind same spelled =
    let later = next_table tables front row behind (cc) spelled.1 in
    let one : suc (length front) + 1 ≡ suc (length front + 1) = omega arith in
    record {
      table = later.table;
      has_row = later.has_row;
      spelled = later.spelled;
      next = ap (λ n. take n (table ∷ tables)) one ∙ ap (λ (l : List Table). table ∷ l) later.next;
    }

-- the row was read as a table exactly so
abbrev pub OnlyTable : SchemaRow → Option Table → Type 0
OnlyTable row read = (table : Table) → table.row ≡ row → IsSpelled table → IsSomeAnd read (λ r. r ≡ table)

-- the table that was read is the next of them
pub first_more : (rows so_far : List SchemaRow) (row : SchemaRow) (behind : List SchemaRow) (tables : List Table) (read : Option Table) (table : Table)
    → AreFirst rows so_far tables → so_far ++ row ∷ behind ≡ rows → OnlyTable row read → read ≡ Some table
    → AreFirst rows (so_far ++ row ∷ []) (tables ++ table ∷ [])
first_more rows so_far row behind tables read table first split only some = λ list same spelled.
    let next = next_table list so_far row behind (same ∙ sym split) spelled in
    let is : table ≡ next.table = subst (λ r. IsSomeAnd r (λ x. x ≡ next.table)) some (only next.table next.has_row next.spelled) in
    ap (λ n. take n list) (length-append so_far (row ∷ [])) ∙ next.next ∙ ap (λ (l : List Table). l ++ next.table ∷ []) (first list same spelled)
    ∙ ap (λ t. tables ++ t ∷ []) (sym is)

-- a row whose text is none that is served
pub no_tables : (rows so_far : List SchemaRow) (row : SchemaRow) (behind : List SchemaRow) (read : Option Table) (list : List Table)
    → so_far ++ row ∷ behind ≡ rows → OnlyTable row read → read ≡ None → rows_of list ≡ rows → AllByRecursion IsSpelled list → ⊥
no_tables rows so_far row behind read list split only none same spelled =
    let next = next_table list so_far row behind (same ∙ sym split) spelled in
    subst (λ r. IsSomeAnd r (λ x. x ≡ next.table)) none (only next.table next.has_row next.spelled)

-- the first ones are all
pub first_all : (rows : List SchemaRow) (tables list : List Table) → AreFirst rows rows tables → rows_of list ≡ rows → AllByRecursion IsSpelled list
    → tables ≡ list
first_all rows tables list first same spelled =
    let many : length rows ≡ length list = sym (ap length same) ∙ length-map list (λ (table : Table). table.row) in
    sym (first list same spelled) ∙ take_all (length rows) list (omega arith)

-- one more table and its row
pub rows_more : (tables : List Table) (rows : List SchemaRow) (table : Table) (row : SchemaRow) → rows_of tables ≡ rows → table.row ≡ row
    → rows_of (tables ++ table ∷ []) ≡ rows ++ row ∷ []
rows_more [] rows table row same one = ap (λ (r : SchemaRow). r ∷ []) one ∙ ap (λ (l : List SchemaRow). l ++ row ∷ []) same
rows_more (other ∷ tables) rows table row same one =
    ap (λ (l : List SchemaRow). other.row ∷ l) (rows_more tables (rows_of tables) table row refl one) ∙ ap (λ (l : List SchemaRow). l ++ row ∷ []) same
