-- What was read off the pages of an image, and what the image holds.
use Rattle.std.proofs.Common.{◌≡◌, ◌⊎◌, inl, inr, ◌≤◌, ◌<◌, ◌↔◌, ℕ, ◌^◌, Bool, false, IsTrue, Option, Some, None, IfNone, IfSome, IsSome, IsSomeAnd, Vec, Global, List, [], ◌∷◌, length, refl, sym, ap, ◌∙◌, subst, arith, AllPairs}
use Rattle.std.proofs.lemmas.Bool.{false≢true}
use Rattle.std.specs.List.{AllByRecursion}
use Rattle.common_laws.proofs.Each.{all_weaker}
use Rattle.alter_disk.specs.declared.disk.Disk.{Ghosts}
use Rattle.pager_core.specs.declared.file_shape.FileShape.{FileShape}
use Rattle.pager_core.specs.declared.pages.Pages.{Pages}
use Rattle.pager_core.specs.Header.{number_at, usable_size}
use Rattle.alter_disk.proofs.Moments.{reads_none, reads_on}
use Rattle.pager_core.specs.Pages.{StayAll, disk_of, shape_of, shown}
use Rattle.schema_rows.specs.declared.schema.SchemaRow.{SchemaRow}
use Rattle.plain_schema.specs.declared.form.Form.{Form}
use Rattle.plain_schema.specs.declared.table.Table.{Table}
use Rattle.plain_schema.specs.FirstForm.{AreApart, HasRoot, IsFirstForm, IsSpelled, first_page, header_of, rows_of}
use Rattle.plain_schema.specs.FirstPage.{HoldsRows, IsEmptyTable}
use Rattle.plain_schema.specs.Image.{Image, Page}
use Rattle.plain_schema.specs.Served.{IsFormOf, IsReady, IsReadyTable, IsShortRow, IsSoundShape}
use Rattle.alter_session.specs.declared.reading.First.{First}
use Rattle.alter_session.specs.Opening.{IsOpenable}
use Rattle.alter_session.specs.Reading.{HasNoFreelist, IsFirst, IsImageOf, OnlyRows}
use Rattle.alter_session.proofs.Carried.{header_number}
use Rattle.alter_session.proofs.Images.{image_count, image_first, image_shown, image_stays}

module _ {D : Type 0} (disk : Ghosts D) where
  -- a root that is none of the pages behind the first
  pub root_out : (image : Image) (pages : Pages D) (row : SchemaRow) → IsImageOf disk image pages → (row.root < 2) ⊎ ((shape_of pages).count < row.root) → IsTrue false ↔ HasRoot image row
  root_out image pages row is out = (λ no. absurd (false≢true no), λ has. absurd (outside has out))
    where
      outside : HasRoot image row → (row.root < 2) ⊎ ((shape_of pages).count < row.root) → ⊥
      outside has (inl low) = omega (arith, has.behind, low)
      outside has (inr high) = omega (arith, has.there, high, image_count disk image pages is)

  -- a root whose page was read
  pub root_read : (image : Image) (old new : Pages D) (row : SchemaRow) (bytes : List ℕ) (empty : Bool) (usable : ℕ) → IsImageOf disk image old → StayAll disk old new → 2 ≤ row.root
      → row.root ≤ (shape_of old).count → shown new row.root ≡ Some bytes → usable ≡ (shape_of old).usable → (IsTrue empty ↔ IsEmptyTable usable bytes) → IsTrue empty ↔ HasRoot image row
  root_read image old new row bytes empty usable is stay from to there same tells =
      let count : (shape_of new).count ≡ (shape_of old).count = ap (λ (s : FileShape). s.count) stay.shape in
      let at = image_shown disk image new row.root bytes (image_stays disk image old new stay is) (omega (arith, from)) (omega (arith, to, count)) there in
      let size = same ∙ is.usable in (
        λ yes. record {
          behind = from;
          there = omega (arith, to, image_count disk image old is);
          empty = subst (λ (o : Option Page). IsSomeAnd o (IsEmptyTable (usable_size (header_of image)))) (sym at) (subst (λ (u : ℕ). IsEmptyTable u bytes) size (tells.0 yes));
        },
        λ has. tells.1 (subst (λ (u : ℕ). IsEmptyTable u bytes) (sym size) (subst (λ (o : Option Page). IsSomeAnd o (IsEmptyTable (usable_size (header_of image)))) at has.empty)),
      )

  -- the rows that were read are those of each form of the image
  rows_read : (image : Image) (pages : Pages D) (tables : List Table) (read : Option First) → IsOpenable (shape_of pages) → IsImageOf disk image pages
      → OnlyRows (shape_of pages).usable (first_page image) read → IsFirstForm image tables → IsSomeAnd read (λ first. first.rows.items ≡ rows_of tables)
  rows_read image pages tables read openable is only form =
      let none : HasNoFreelist (first_page image) = record {
        first_trunk = sym (header_number 4 32 (first_page image) (omega arith)) ∙ form.stored.header.first_trunk;
        free_pages = sym (header_number 4 36 (first_page image) (omega arith)) ∙ form.stored.header.free_pages;
      } in
      let small = all_weaker (HasRoot image) (λ row. row.root < 2 ^ 31) (rows_of tables) (λ row root. omega (arith, root.there, image_count disk image pages is, openable.served.few)) form.stored.rooted in
      only (rows_of tables) none small (subst (λ (u : ℕ). HoldsRows (first_page image) u (rows_of tables)) (sym is.usable) form.stored.held)

  -- no page 1 was read
  pub unserved_first : (image : Image) (old new : Pages D) (tables : List Table) → IsOpenable (shape_of old) → IsImageOf disk image old → StayAll disk old new → IsSome (shown new 1)
      → ((page : List ℕ) → shown new 1 ≡ Some page → OnlyRows (shape_of old).usable page None) → IsFirstForm image tables → ⊥
  unserved_first image old new tables openable is stay there only form = by (shown new 1) refl there
    where
      by : (o : Option (List ℕ)) → shown new 1 ≡ o → IsSome o → ⊥
      by None e some = absurd (cc)
      by (Some page) e some =
          let count : (shape_of new).count ≡ (shape_of old).count = ap (λ (s : FileShape). s.count) stay.shape in
          let first = image_first disk image new page (image_stays disk image old new stay is) (omega (arith, count, openable.held.some)) e in
          rows_read image old tables None openable is (subst (λ (p : List ℕ). OnlyRows (shape_of old).usable p None) (sym first) (only page e)) form

  module _ (pages : Pages D) (first : First) (openable : IsOpenable (shape_of pages)) where
    -- what is so of no image whose page 1 was read
    abbrev pub IsUnservedBy : Type 0
    IsUnservedBy = (image : Image) (tables : List Table) → IsImageOf disk image pages → OnlyRows (shape_of pages).usable (first_page image) (Some first) → IsFirstForm image tables → ⊥

    -- the rows that were read are not apart
    pub unserved_apart : (AllPairs AreApart first.rows.items → ⊥) → IsUnservedBy
    unserved_apart none image tables is only form =
        none (subst (λ (l : List SchemaRow). AllPairs AreApart l) (sym (rows_read image pages tables (Some first) openable is only form)) form.stored.apart)

    -- a root of them is none
    pub unserved_roots : ((image : Image) → IsImageOf disk image pages → IsTrue false ↔ AllByRecursion (HasRoot image) first.rows.items) → IsUnservedBy
    unserved_roots roots image tables is only form =
        false≢true ((roots image is).1 (subst (λ (l : List SchemaRow). AllByRecursion (HasRoot image) l) (sym (rows_read image pages tables (Some first) openable is only form)) form.stored.rooted))

    -- the text of one of them is none that is served
    pub unserved_text : (read : Option (Vec Table Global)) → read ≡ None
        → ((list : List Table) → rows_of list ≡ first.rows.items → AllByRecursion IsSpelled list → IsSomeAnd read (λ tables. tables.items ≡ list)) → IsUnservedBy
    unserved_text read none texts image tables is only form =
        subst (λ r. IsSomeAnd r (λ (x : Vec Table Global). x.items ≡ tables)) none
        (texts tables (sym (rows_read image pages tables (Some first) openable is only form)) form.spelled)

  -- all that was read is the form of the image
  pub form_is : (image : Image) (pages : Pages D) (first : First) (form : Form) → IsImageOf disk image pages → IsFirst (shape_of pages) first → first.page ≡ first_page image
      → form.shape ≡ shape_of pages → form.page ≡ first.page → rows_of form.tables.items ≡ first.rows.items → AllPairs AreApart first.rows.items
      → AllByRecursion (HasRoot image) first.rows.items → AllByRecursion IsSpelled form.tables.items → IsFormOf image form
  form_is image pages first form is read page shape bytes rows apart rooted spelled = record {
    first = record {
      stored = record {
        header = record {
          accepted = is.accepted;
          exact = is.exact;
          first_trunk = header_number 4 32 (first_page image) (omega arith) ∙ subst (λ (p : List ℕ). number_at 4 32 p ≡ 0) page read.no_freelist.first_trunk;
          free_pages = header_number 4 36 (first_page image) (omega arith) ∙ subst (λ (p : List ℕ). number_at 4 36 p ≡ 0) page read.no_freelist.free_pages;
        };
        held = subst (λ (l : List SchemaRow). HoldsRows (first_page image) (usable_size (header_of image)) l) (sym rows)
            (subst (λ (p : List ℕ). HoldsRows p (usable_size (header_of image)) first.rows.items) page
            (subst (λ (u : ℕ). HoldsRows first.page u first.rows.items) is.usable read.held));
        apart = subst (λ (l : List SchemaRow). AllPairs AreApart l) (sym rows) apart;
        rooted = subst (λ (l : List SchemaRow). AllByRecursion (HasRoot image) l) (sym rows) rooted;
      };
      spelled = spelled;
    };
    size = ap (λ (s : FileShape). s.page) shape ∙ is.page;
    usable = ap (λ (s : FileShape). s.usable) shape ∙ is.usable;
    count = ap (λ (s : FileShape). s.count) shape ∙ sym (image_count disk image pages is);
    page = bytes ∙ page;
  }

-- what follows of a value that is there, and where there is none
pub some_so : {X : Type 0} (o : Option X) (P Q : X → Type 0) → ((x : X) → P x → Q x) → IfSome o P → IfSome o Q
some_so None P Q follows so = tt
some_so (Some x) P Q follows so = follows x so

pub none_so : {X : Type 0} (o : Option X) (P Q : Type 0) → (P → Q) → IfNone o P → IfNone o Q
none_so None P Q follows so = follows so
none_so (Some x) P Q follows so = tt

-- a table of a short row, whose root is there
ready_tables : (page : List ℕ) (shape : FileShape) (tables : List Table) → IsSoundShape shape → length page ≡ shape.page
    → AllByRecursion (IsShortRow page) (rows_of tables) → AllByRecursion (λ row. (2 ≤ row.root) × (row.root ≤ shape.count)) (rows_of tables)
    → AllByRecursion (λ table. table.columns_end ≤ length table.row.text) tables → AllByRecursion IsReadyTable tables
ready_tables page shape [] sound extent short there inside = tt
ready_tables page shape (table ∷ tables) sound extent short there inside =
    let most = sound.page in
    let few = sound.few in
    let long = short.0 in
    let root = there.0.1 in (
      record { inside = inside.0; root = omega arith; name = omega arith; owner = omega arith; text = omega arith },
      ready_tables page shape tables sound extent short.1 there.1 inside.1,
    )

-- all that was read is ready
pub form_ready : (shape : FileShape) (first : First) (form : Form) → IsOpenable shape → IsFirst shape first → form.shape ≡ shape → form.page ≡ first.page
    → rows_of form.tables.items ≡ first.rows.items → AllPairs AreApart first.rows.items
    → AllByRecursion (λ row. (2 ≤ row.root) × (row.root ≤ shape.count)) first.rows.items
    → AllByRecursion (λ table. table.columns_end ≤ length table.row.text) form.tables.items → IsReady form
form_ready shape first form openable read same bytes rows apart there inside = record {
  sound = subst IsSoundShape (sym same) openable.served;
  page = ap length bytes ∙ read.extent ∙ ap (λ (s : FileShape). s.page) (sym same);
  tables = ready_tables first.page shape form.tables.items openable.served read.extent
      (subst (λ (l : List SchemaRow). AllByRecursion (IsShortRow first.page) l) (sym rows) read.lengths)
      (subst (λ (l : List SchemaRow). AllByRecursion (λ row. (2 ≤ row.root) × (row.root ≤ shape.count)) l) (sym rows) there) inside;
  apart = subst (λ (l : List SchemaRow). AllPairs AreApart l) (sym rows) apart;
}

module _ {D : Type 0} (disk : Ghosts D) where
  -- no read, and one run of reads and then another
  pub stay_none : (pages : Pages D) → StayAll disk pages pages
  stay_none pages = record {
    shape = refl;
    before = refl;
    pages = λ n. record { kept = λ bytes is. is; known = λ bytes is. is; original = λ bytes is. is; changed = refl };
    reads = reads_none disk (disk_of pages);
  }

  pub stay_on : (old mid new : Pages D) → StayAll disk old mid → StayAll disk mid new → StayAll disk old new
  stay_on old mid new first then_ = record {
    shape = then_.shape ∙ first.shape;
    before = then_.before ∙ first.before;
    pages = λ n. record {
      kept = λ bytes is. (then_.pages n).kept bytes ((first.pages n).kept bytes is);
      known = λ bytes is. (then_.pages n).known bytes ((first.pages n).known bytes is);
      original = λ bytes is. (then_.pages n).original bytes ((first.pages n).original bytes is);
      changed = (then_.pages n).changed ∙ (first.pages n).changed;
    };
    reads = reads_on disk (disk_of old) (disk_of mid) (disk_of new) first.reads then_.reads;
  }
