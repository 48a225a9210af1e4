-- A row against the values of its record.
use Rattle.std.proofs.Common.{[], ◌∷◌, ◌++◌, ◌+◌, ◌==◌, ◌%◌, ◌≤◌, length-append, length, arith, pos, nat_lt, if◌then◌else◌, ◌≡◌, ℕ, ℤ, Bool, true, false, List, sym, ap, subst, ◌∙◌}
use Rattle.record_codec.specs.declared.value.Value.{Value}
use Rattle.record_codec.specs.declared.value.Value.TheVariants.{Null, Int, Real, Text, Blob}
use Rattle.record_codec.specs.Serial.{value_of}
use Rattle.record_codec.specs.Record.{AreBodies, IsRecord}
use Rattle.record_codec.proofs.Only.{one_record}
use Rattle.schema_rows.specs.Schema.{row_values, table_values}
use Rattle.schema_rows.specs.declared.schema.SchemaRow.{SchemaRow}

-- how many bytes a text has
abbrev pub text_length : Value → ℕ
text_length (Text bytes) = length bytes
text_length other = 0

abbrev pub text_lengths : List Value → ℕ
text_lengths [] = 0
text_lengths (value ∷ values) = text_length value + text_lengths values

-- what holds of both values holds of the chosen one
either : (P : Value → Type 0) (test : Bool) (a b : Value) → P a → P b → P (if test then a else b)
either P true a b is or = is
either P false a b is or = or

-- a text is no longer than its body
value-le : (serial : ℕ) (body : List ℕ) → text_length (value_of serial body) ≤ length body
unfolding value_of
value-le serial body =
    let P : Value → Type 0 = λ value. text_length value ≤ length body in
    let none : 0 ≤ length body = omega arith in
    let same : length body ≤ length body = omega arith in
    either P (serial == 0) Null _ none
    (either P (nat_lt serial 7) _ _ none
    (either P (serial == 7) (Real body) _ none
    (either P (serial == 8) (Int (pos 0)) _ none
    (either P (serial == 9) (Int (pos 1)) _ none (either P (serial % 2 == 0) (Blob body) (Text body) none same)))))

bodies-le : (serials : List ℕ) (values : List Value) (bytes : List ℕ) → AreBodies serials values bytes → text_lengths values ≤ length bytes
bodies-le [] [] bytes are = omega arith
bodies-le (serial ∷ serials) (value ∷ values) bytes are =
    omega (arith, ap length are.2, length-append are.0 are.1, subst (λ (v : Value). text_length v ≤ length are.0) (sym are.3.meaning) (value-le serial are.0), bodies-le serials values are.1 are.4)
bodies-le [] (value ∷ values) bytes are = absurd are
bodies-le (serial ∷ serials) [] bytes are = absurd are

pub texts-le : (payload name table : List ℕ) (root : ℕ) (text : List ℕ) → IsRecord payload (table_values name table root text)
    → length name + length table + length text ≤ length payload
texts-le payload name table root text is =
    omega (arith, ap length is.header.whole, length-append (is.header.size_field ++ is.types) is.bodies, bodies-le is.serials (table_values name table root text) is.bodies is.bodies_are)

-- the parts of equal values are equal
pub same_text : (a b : List ℕ) → Text a ≡ Text b → a ≡ b
same_text a b same = cc

pub same_integer : (a b : ℤ) → Int a ≡ Int b → a ≡ b
same_integer a b same = cc

-- rows of the same record are the same
same_row : (rowid : ℕ) (name table : List ℕ) (root : ℕ) (text : List ℕ) (row : SchemaRow) → rowid ≡ row.rowid → table_values name table root text ≡ row_values row
    → record { rowid = rowid; name = name; table = table; root = root; text = text } ≡ row
same_row rowid name table root text row at same =
    let of : ℕ → List ℕ → List ℕ → ℕ → List ℕ → SchemaRow = λ r n t o x. record { rowid = r; name = n; table = t; root = o; text = x } in
    let names : name ≡ row.name = cc in
    let tables : table ≡ row.table = cc in
    let roots : root ≡ row.root = cc in
    let texts : text ≡ row.text = cc in
    ap (λ r. of r name table root text) at ∙ ap (λ n. of row.rowid n table root text) names ∙ ap (λ t. of row.rowid row.name t root text) tables
    ∙ ap (λ o. of row.rowid row.name row.table o text) roots ∙ ap (of row.rowid row.name row.table row.root) texts

pub one_row : (payload : List ℕ) (rowid root : ℕ) (name table text n t x : List ℕ) (row : SchemaRow) → name ≡ n → table ≡ t → text ≡ x
    → IsRecord payload (table_values n t root x) → row.rowid ≡ rowid → IsRecord payload (row_values row)
    → record { rowid = rowid; name = name; table = table; root = root; text = text } ≡ row
one_row payload rowid root name table text n t x row names tables texts is at also =
    let same : table_values n t root x ≡ row_values row = one_record payload (table_values n t root x) (row_values row) is also in
    same_row rowid name table root text row (sym at) cc
