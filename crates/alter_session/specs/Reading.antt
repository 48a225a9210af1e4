-- What a database holds, read off its pages.
use Rattle.std.specs.Prelude.{◌≡◌, ◌<◌, ℕ, ◌*◌, ◌^◌, List, length, Option, Some, None, IsSomeAnd}
use Rattle.std.specs.List.{AllByRecursion}
use Rattle.alter_disk.specs.declared.disk.Disk.{Ghosts}
use Rattle.pager_core.specs.declared.file_shape.FileShape.{FileShape}
use Rattle.pager_core.specs.declared.pages.Pages.{Pages}
use Rattle.pager_core.specs.Header.{number_at, page_count, page_size, usable_size}
use Rattle.pager_core.specs.Image.{known_image}
use Rattle.pager_core.specs.Pages.{shape_of}
use Rattle.pager_core.specs.Refusals.{first_refusal}
use Rattle.schema_rows.specs.declared.schema.SchemaRow.{SchemaRow}
use Rattle.plain_schema.specs.FirstForm.{header_of}
use Rattle.plain_schema.specs.FirstPage.{HoldsRows}
use Rattle.plain_schema.specs.Image.{Image}
use Rattle.plain_schema.specs.Served.{IsShortRow}
use Rattle.alter_session.specs.declared.reading.First.{First}

-- both fields of a database without a free page are 0 (fileformat2.html, "The Freelist")
pub record HasNoFreelist (page : List ℕ) : Type 0 where
  pub first_trunk : number_at 4 32 page ≡ 0
  pub free_pages : number_at 4 36 page ≡ 0

-- page 1 of a database of this shape, with its rows
pub record IsFirst (shape : FileShape) (first : First) : Type 0 where
  pub extent : length first.page ≡ shape.page
  pub no_freelist : HasNoFreelist first.page
  pub held : HoldsRows first.page shape.usable first.rows.items
  pub lengths : AllByRecursion (IsShortRow first.page) first.rows.items

-- the rows whose roots are numbers of pages are those that were read, if this page holds such
abbrev pub OnlyRows : ℕ → List ℕ → Option First → Type 0
OnlyRows usable page read = (rows : List SchemaRow) → HasNoFreelist page → AllByRecursion (λ row. row.root < 2 ^ 31) rows → HoldsRows page usable rows
    → IsSomeAnd read (λ first. first.rows.items ≡ rows)

-- the pages have this image, whose header gives their sizes, and is that of a database that is not refused
pub record IsImageOf {D : Type 0} (disk : Ghosts D) (image : Image) (pages : Pages D) : Type 0 where
  pub all : known_image disk pages ≡ Some image
  pub page : (shape_of pages).page ≡ page_size (header_of image)
  pub usable : (shape_of pages).usable ≡ usable_size (header_of image)
  pub accepted : first_refusal (header_of image) (length image * page_size (header_of image)) ≡ None
  pub exact : length image * page_size (header_of image) ≡ page_count (header_of image) (length image * page_size (header_of image)) * page_size (header_of image)
