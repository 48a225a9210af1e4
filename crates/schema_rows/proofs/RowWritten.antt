-- The record and the cell that are written for a row.
use Rattle.std.proofs.Common.{◌≡◌, ℕ, ◌+◌, ◌^◌, ◌<◌, ◌≤◌, ℤ, pos, List, [], ◌++◌, length, codes, refl, arith, length-append}
use Rattle.std.proofs.lemmas.Bool.Decides.{nat_tests}
use Rattle.std.specs.List.{AllByRecursion}
use Rattle.std.specs.Int.{w64}
use Rattle.byteorder.specs.Endian.{low_bytes}
use Rattle.alter_bytes.specs.Varint.{IsVarint, varint}
use Rattle.alter_bytes.proofs.Fields.{length-big_bytes}
use Rattle.alter_bytes.proofs.VarintLemmas.{length-varint-le, varint-is}
use Rattle.record_codec.specs.declared.value.Value.{Value}
use Rattle.record_codec.specs.declared.value.Value.TheVariants.{Int, Text}
use Rattle.record_codec.specs.Serial.{body_size}
use Rattle.record_codec.specs.Record.{IsRecord}
use Rattle.record_codec.specs.Written.{IsWritable, bodies_of, body_of, integer_serial, record_of, serial_of, size_len, types_of}
use Rattle.record_codec.proofs.Writable.{integer_serial-le, integer_writable, record_is, text_writable}
use Rattle.schema_rows.specs.Schema.{row_cell, row_record, row_values}
use Rattle.schema_rows.specs.declared.schema.SchemaRow.{SchemaRow}

-- a row whose root and lengths are small enough to be written
pub record IsSmall (row : SchemaRow) : Type 0 where
  pub root : row.root < 2 ^ 23
  pub name : length row.name < 2 ^ 40
  pub table : length row.table < 2 ^ 40
  pub text : length row.text < 2 ^ 40

-- five serial types take at most 45 bytes
length-row_types : (row : SchemaRow) → length (types_of 1 (row_values row)) ≤ 45
length-row_types row =
    let of : Value → List ℕ = λ v. varint (serial_of 1 v) in
    let root = of (Int (pos row.root)) ++ (of (Text row.text) ++ []) in
    let table = of (Text row.table) ++ root in
    let name = of (Text row.name) ++ table in
    omega (
      arith,
      length-append (of (Text (codes "table"))) name,
      length-append (of (Text row.name)) table,
      length-append (of (Text row.table)) root,
      length-append (of (Int (pos row.root))) (of (Text row.text) ++ []),
      length-append (of (Text row.text)) [],
      length-varint-le (serial_of 1 (Text (codes "table"))),
      length-varint-le (serial_of 1 (Text row.name)),
      length-varint-le (serial_of 1 (Text row.table)),
      length-varint-le (serial_of 1 (Int (pos row.root))),
      length-varint-le (serial_of 1 (Text row.text)),
    )

-- each value of a small row can be written
writable : (row : SchemaRow) → IsSmall row → AllByRecursion (IsWritable 1) (row_values row)
writable row small = (
  text_writable 1 (codes "table") (omega arith),
  (
    text_writable 1 row.name (omega (arith, small.name)),
    (
      text_writable 1 row.table (omega (arith, small.table)),
      (integer_writable 1 (pos row.root) (omega (arith, small.root)), (text_writable 1 row.text (omega (arith, small.text)), tt)),
    ),
  ),
)

-- the record of a row is one
pub row_record-is : (row : SchemaRow) → IsSmall row → IsRecord (row_record row) (row_values row)
unfolding row_record
row_record-is row small = record_is 1 (row_values row) (writable row small) (omega (arith, length-row_types row))

-- an integer's body has at most eight bytes
body_size-le : (serial : ℕ) → serial ≤ 9 → body_size serial ≤ 8
unfolding body_size
body_size-le serial few = grind (arith, nat_tests)

length-integer : (z : ℤ) → length (body_of 1 (Int z)) ≤ 8
unfolding body_of
length-integer z =
    let size = body_size (integer_serial 1 z) in
    omega (arith, length-big_bytes size (low_bytes w64 size z), body_size-le (integer_serial 1 z) (integer_serial-le 1 z))

-- how long the bodies are
length-row_bodies : (row : SchemaRow)
    → length (bodies_of 1 (row_values row)) ≡ 5 + length row.name + length row.table + length (body_of 1 (Int (pos row.root))) + length row.text
unfolding body_of
length-row_bodies row =
    let number = body_of 1 (Int (pos row.root)) in
    omega (
      arith,
      length-append (codes "table") (row.name ++ (row.table ++ (number ++ (row.text ++ [])))),
      length-append row.name (row.table ++ (number ++ (row.text ++ []))),
      length-append row.table (number ++ (row.text ++ [])),
      length-append number (row.text ++ []),
      length-append row.text [],
    )

-- how long the record is
record RowLengths (row : SchemaRow) : Type 0 where
  header : ℕ
  few : header ≤ 54
  whole : length (row_record row) ≡ header + length (bodies_of 1 (row_values row))

row_lengths : (row : SchemaRow) → RowLengths row
unfolding row_record record_of
row_lengths row =
    let types = types_of 1 (row_values row) in
    let size = varint (size_len (length types) + length types) in
    record {
      header = length size + length types;
      few = omega (arith, length-varint-le (size_len (length types) + length types), length-row_types row);
      whole = omega (arith, length-append (size ++ types) (bodies_of 1 (row_values row)), length-append size types);
    }

-- its texts are no longer
pub row_record-ge : (row : SchemaRow) → length row.name + length row.table + length row.text ≤ length (row_record row)
row_record-ge row = omega (arith, (row_lengths row).whole, length-row_bodies row)

row_record-lt : (row : SchemaRow) → IsSmall row → length (row_record row) < 2 ^ 42
row_record-lt row small =
    let lengths = row_lengths row in
    omega (arith, lengths.few, lengths.whole, length-row_bodies row, length-integer (pos row.root), small.name, small.table, small.text)

-- A whole cell of a leaf page of a table tree: the payload's length, the rowid and the payload.
pub record IsLeafCell (cell : List ℕ) (rowid : ℕ) (payload : List ℕ) : Type 0 where
  pub size_field : List ℕ
  pub rowid_field : List ℕ
  pub whole : cell ≡ size_field ++ rowid_field ++ payload
  pub size : IsVarint size_field (length payload)
  pub id : IsVarint rowid_field rowid

pub row_cell-is : (row : SchemaRow) → IsSmall row → row.rowid < 2 ^ 64 → IsLeafCell (row_cell row) row.rowid (row_record row)
row_cell-is row small id = record {
  size_field = varint (length (row_record row));
  rowid_field = varint row.rowid;
  whole = refl;
  size = varint-is (length (row_record row)) (omega (arith, row_record-lt row small));
  id = varint-is row.rowid id;
}
