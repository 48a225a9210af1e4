-- The rows of the schema table that stand for tables (fileformat2.html, "Storage Of The SQL Database Schema").
use Rattle.std.specs.Prelude.{ℕ, pos, List, [], ◌∷◌, ◌++◌, length, codes}
use Rattle.alter_bytes.specs.Varint.{varint}
use Rattle.record_codec.specs.declared.value.Value.{Value}
use Rattle.record_codec.specs.declared.value.Value.TheVariants.{Int, Text}
use Rattle.record_codec.specs.Written.{record_of}
use Rattle.schema_rows.specs.declared.schema.SchemaRow.{SchemaRow}

-- what the record of a table's row says: type, name, tbl_name, rootpage and sql
abbrev pub table_values : List ℕ → List ℕ → ℕ → List ℕ → List Value
table_values name table root text = Text (codes "table") ∷ Text name ∷ Text table ∷ Int (pos root) ∷ Text text ∷ []

abbrev pub row_values : SchemaRow → List Value
row_values row = table_values row.name row.table row.root row.text

-- the record of a row in its shortest form, under serial types that every schema format has
unfoldable pub row_record : SchemaRow → List ℕ
row_record row = record_of 1 (row_values row)

-- the cell of a row, where its payload is all local
abbrev pub row_cell : SchemaRow → List ℕ
row_cell row = varint (length (row_record row)) ++ varint row.rowid ++ row_record row
