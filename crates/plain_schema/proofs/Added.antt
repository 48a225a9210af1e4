-- What a command that is done makes of an image.
use Rattle.std.proofs.Common.{◌≡◌, ◌<◌, ◌≤◌, ℕ, suc, ◌-◌, ◌*◌, ◌/◌, true, Option, IsSomeAnd, List, [], ◌∷◌, ◌++◌, length, map, take, drop, refl, sym, ◌∙◌, ap, ap₂, subst, arith, length-append, length-drop, None}
use Rattle.std.proofs.Math.Nat.{mul-div_cancel}
use Rattle.std.proofs.lemmas.List.{length-take-le, take_at}
use Rattle.std.specs.List.{AllByRecursion, slice_get}
use Rattle.page_cells.specs.declared.kind.Kind.TheVariants.{TableLeaf}
use Rattle.page_cells.specs.Layout.{IsUsable}
use Rattle.page_cells.specs.Write.{written_page}
use Rattle.page_cells.specs.declared.cell.Cell.{Cell}
use Rattle.page_cells.proofs.WriteLemmas.{length-written_page, take-written_page}
use Rattle.plain_sql.specs.declared.script.Command.{Command}
use Rattle.schema_rows.specs.declared.schema.SchemaRow.{SchemaRow}
use Rattle.schema_rows.specs.Schema.{row_cell}
use Rattle.plain_schema.specs.declared.table.Table.{Table}
use Rattle.plain_schema.specs.FirstForm.{HasRoot, IsSpelled, IsStored, first_page, header_of, rows_of}
use Rattle.plain_schema.specs.FirstPage.{HoldRows, HoldsRows, IsEmptyTable, IsRowid}
use Rattle.pager_core.specs.Header.{page_count, page_size, usable_size}
use Rattle.pager_core.proofs.Sound.{accepted_count, accepted_size, accepted_usable, page_large, page_small}
use Rattle.plain_schema.specs.Header.{IsHeader, committed}
use Rattle.plain_schema.specs.Image.{Image, Page}
use Rattle.plain_schema.specs.Step.{IsAdded, after, is_built}
use Rattle.plain_schema.proofs.CommittedLemmas.{committed-is, length-committed, page_size-committed, usable_size-committed}
use Rattle.plain_schema.proofs.Held.{HaveRoom, have_room, holds_rows, writable}
use Rattle.plain_schema.proofs.ImageLemmas.{length-first, some_page}
use Rattle.plain_schema.proofs.Retold.{IsRetold, all_after, apart_after}

-- page 1 with a committed header
abbrev pub old_page : Image → Page
old_page image = committed (length image) 3 (header_of image) ++ drop 100 (first_page image)

-- page 1 with a committed header and the cells of these rows
abbrev pub new_page : Image → List SchemaRow → Page
new_page image rows = written_page (old_page image) true TableLeaf None (usable_size (header_of image)) (map row_cell rows)

-- the image with another page 1
abbrev pub new_image : Image → List SchemaRow → Image
new_image image rows = new_page image rows ∷ drop 1 image

-- the page of a root stays where another first page is put
root_stays : (image : Image) (page : Page) (root usable now : ℕ) → 2 ≤ root → now ≡ usable
    → IsSomeAnd (slice_get image (root - 1)) (IsEmptyTable usable) → IsSomeAnd (slice_get (page ∷ drop 1 image) (root - 1)) (IsEmptyTable now)
root_stays [] page root usable now behind same empty = absurd empty
root_stays (first ∷ others) page root usable now behind same empty =
    let place : root - 1 ≡ suc (root - 2) = omega arith in
    let there : slice_get (first ∷ others) (root - 1) ≡ slice_get (page ∷ others) (root - 1) =
    ap (slice_get (first ∷ others)) place ∙ sym (ap (slice_get (page ∷ others)) place) in
    subst (λ (n : ℕ). IsSomeAnd (slice_get (page ∷ others) (root - 1)) (IsEmptyTable n)) (sym same)
    (subst (λ (p : Option Page). IsSomeAnd p (IsEmptyTable usable)) there empty)

-- what holds of an image whose first page is whole
pub record IsSound (image : Image) : Type 0 where
  pub some : 0 < length image
  pub header : length (header_of image) ≡ 100
  pub count : length image ≡ page_count (header_of image) (length image * page_size (header_of image))
  pub few : length image ≤ 65536
  pub usable : IsUsable (usable_size (header_of image)) (length (old_page image))
  pub extent : length (old_page image) ≡ page_size (header_of image)

-- the first page of an image with a header that is allowed is whole
pub is_sound : (image : Image) → IsHeader (header_of image) (length image * page_size (header_of image))
    → length (first_page image) ≡ page_size (header_of image) → IsSound image
is_sound image is whole =
    let head = header_of image in
    let size = page_size head in
    let allowed = accepted_size head (length image * size) is.accepted in
    let large = page_large size allowed in
    let small = page_small size allowed in
    let header : length head ≡ 100 = length-take-le 100 (first_page image) (omega arith) in
    let positive : 0 < size = omega arith in
    let count : length image ≡ page_count head (length image * size) =
    sym (mul-div_cancel (length image) positive) ∙ ap (λ (n : ℕ). n / size) is.exact
    ∙ mul-div_cancel (page_count head (length image * size)) positive in
    let extent : length (old_page image) ≡ size =
    length-append (committed (length image) 3 head) (drop 100 (first_page image))
    ∙ omega (arith, length-committed (length image) head header, length-drop 100 (first_page image)) in
    record {
      some = some_page image is;
      header = header;
      count = count;
      few = omega (arith, count, (accepted_count head (length image * size) is.accepted).1);
      usable = record {
        least = accepted_usable head (length image * size) is.accepted;
        most = omega arith;
        within = omega arith;
      };
      extent = extent;
    }

-- the new page 1, and the header of the new image
pub record IsNewPage (image : Image) (rows : List SchemaRow) : Type 0 where
  pub extent : length (new_page image rows) ≡ page_size (header_of image)
  pub header : take 100 (new_page image rows) ≡ committed (length image) 3 (header_of image)
  pub size : page_size (header_of (new_image image rows)) ≡ page_size (header_of image)
  pub usable : usable_size (header_of (new_image image rows)) ≡ usable_size (header_of image)
  pub count : length (new_image image rows) ≡ length image

-- page 1 is written in place of that of a sound image
pub is_new_page : (image : Image) (rows : List SchemaRow) → IsSound image → HaveRoom (usable_size (header_of image)) rows → IsNewPage image rows
is_new_page image rows sound room =
    let head = committed (length image) 3 (header_of image) in
    let usable = usable_size (header_of image) in
    let header : take 100 (new_page image rows) ≡ head =
    take-written_page (old_page image) true TableLeaf None usable (map row_cell rows) sound.usable room.fits
    ∙ take_at head (drop 100 (first_page image)) 100 (length-committed (length image) (header_of image) sound.header) in
    record {
      extent = length-written_page (old_page image) true TableLeaf None usable (map row_cell rows) sound.usable room.fits ∙ sound.extent;
      header = header;
      size = ap page_size header ∙ page_size-committed (length image) (header_of image) sound.header;
      usable = ap usable_size header ∙ usable_size-committed (length image) (header_of image) sound.header;
      count = length-first (new_page image rows) image sound.some;
    }

-- the rowids of rows that are held
held_numbers : (page : List ℕ) (rows : List SchemaRow) (usable : ℕ) → HoldsRows page usable rows → AllByRecursion (λ row. IsRowid row.rowid) rows
held_numbers page rows usable holds = by holds.cells rows holds.held
  where
    by : (cells : List Cell) (rows : List SchemaRow) → HoldRows page cells rows → AllByRecursion (λ row. IsRowid row.rowid) rows
    by [] [] held = tt
    by (cell ∷ cells) (row ∷ rows) held = (held.0.numbered, by cells rows held.1)
    by [] (row ∷ rows) held = absurd held
    by (cell ∷ cells) [] held = absurd held

-- the root of a row stays
root_after : (image : Image) (rows : List SchemaRow) (old new : SchemaRow) → IsNewPage image rows → IsRetold old new → HasRoot image old
    → HasRoot (new_image image rows) new
root_after image rows old new page retold has =
    let same = retold.root in
    let behind = has.behind in
    let there = has.there in
    let many = page.count in
    let now = usable_size (header_of (new_image image rows)) in
    record {
      behind = omega arith;
      there = omega arith;
      empty = subst (λ (r : ℕ). IsSomeAnd (slice_get (new_image image rows) (r - 1)) (IsEmptyTable now)) (sym same)
          (root_stays image (new_page image rows) old.root (usable_size (header_of image)) now behind page.usable has.empty);
    }

-- the new image is sound, with the rows of the tables after the command
pub stored : (image : Image) (tables : List Table) (command : Command) → IsStored image (rows_of tables)
    → length (first_page image) ≡ page_size (header_of image) → HaveRoom (usable_size (header_of image)) (rows_of (after command tables))
    → IsStored (new_image image (rows_of (after command tables))) (rows_of (after command tables))
stored image tables command old whole room =
    let head = header_of image in
    let rows = rows_of (after command tables) in
    let len = length image * page_size head in
    let new = new_image image rows in
    let sound = is_sound image old.header whole in
    let page = is_new_page image rows sound room in
    let few = sound.few in
    let is = committed-is (length image) len head old.header sound.header sound.count in
    let size : len ≡ length new * page_size (committed (length image) 3 head) =
    ap₂ (λ (n s : ℕ). n * s) (sym page.count) (sym (page_size-committed (length image) head sound.header)) in
    let numbered = all_after (λ row. IsRowid row.rowid) (λ row. IsRowid row.rowid) command tables
    (λ a b retold id. subst IsRowid (sym retold.rowid) id) (held_numbers (first_page image) (rows_of tables) (usable_size head) old.held) in
    let roots = all_after (HasRoot image) (λ row. row.root ≤ 65536) command tables (λ a b retold root. low a b few retold root) old.rooted in
    let are = writable (usable_size head) rows sound.usable.most numbered roots room.local in
    let holds = holds_rows (old_page image) (usable_size head) rows sound.usable are room.fits in
    record {
      header = subst (λ (h : List ℕ). IsHeader h (length new * page_size h)) (sym page.header)
          (subst (IsHeader (committed (length image) 3 head)) size is);
      held = subst (λ (n : ℕ). HoldsRows (new_page image rows) n rows) (sym page.usable) holds;
      apart = apart_after command tables old.apart;
      rooted = all_after (HasRoot image) (HasRoot new) command tables (λ a b retold root. root_after image rows a b page retold root) old.rooted;
    }
  where
    low : (a b : SchemaRow) → length image ≤ 65536 → IsRetold a b → HasRoot image a → b.root ≤ 65536
    low a b few retold root = omega (arith, retold.root, root.there)

-- a command that is done, on an image of these tables
pub added : (image : Image) (tables : List Table) (command : Command) → IsStored image (rows_of tables)
    → length (first_page image) ≡ page_size (header_of image) → is_built (usable_size (header_of image)) (rows_of (after command tables)) ≡ true
    → AllByRecursion IsSpelled (after command tables) → IsAdded image tables command (new_image image (rows_of (after command tables)))
added image tables command old whole built spelled =
    let rows = rows_of (after command tables) in
    let room = have_room (usable_size (header_of image)) rows built in
    let page = is_new_page image rows (is_sound image old.header whole) room in
    record {
      others = refl;
      extent = page.count;
      header = page.header;
      page = refl;
      form = record { stored = stored image tables command old whole room; spelled = spelled };
    }
