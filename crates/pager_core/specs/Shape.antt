-- The sizes of a database file that is not refused.
use Rattle.std.specs.Prelude.{◌≡◌, ◌≤◌, ℕ, ◌*◌, ◌^◌, IsTrue, List}
use Rattle.pager_core.specs.declared.file_shape.FileShape.{FileShape}
use Rattle.pager_core.specs.Header.{is_page_size, page_count, page_size, schema_format, usable_size}

-- these are the sizes and the schema format of a file of this length with this header
pub record HasShape (header : List ℕ) (file_length : ℕ) (shape : FileShape) : Type 0 where
  pub page : shape.page ≡ page_size header
  pub usable : shape.usable ≡ usable_size header
  pub count : shape.count ≡ page_count header file_length
  pub format : shape.format ≡ schema_format header

-- the sizes of a file whose pages can be held: at most 2^18 of them and 2^29 bytes
pub record IsShape (shape : FileShape) : Type 0 where
  pub size : IsTrue (is_page_size shape.page)
  pub least : 480 ≤ shape.usable
  pub usable : shape.usable ≤ shape.page
  pub some : 1 ≤ shape.count
  pub few : shape.count ≤ 2 ^ 18
  pub small : shape.count * shape.page ≤ 2 ^ 29
