-- Lists of tables: which of them a command is about, and what it makes of them.
use Rattle.std.proofs.Common.{◌≡◌, ◌<◌, ℕ, suc, ◌+◌, Bool, true, false, ◌||◌, ◌≤◌, nat_le, if◌then◌else◌, Some, None, List, [], ◌∷◌, ◌++◌, length, take, drop, get_or, AllPairs, refl, sym, ◌∙◌, ap, ap₂, subst, arith, length-append, Option}
use Rattle.std.proofs.Math.Seq.{get_or-append_seam}
use Rattle.std.proofs.lemmas.Bool.{or_parts, cond-false, cond-true, false_from_ne_true, le-leb, lt-leb}
use Rattle.std.proofs.lemmas.List.{drop_more, length-map, length-take-le, map-append, take-append-drop, take_at}
use Rattle.std.proofs.lemmas.List.Folds.{find-append, list_any_more}
use Rattle.std.specs.Cmp.Lexicographic.{bytes_decides}
use Rattle.std.specs.List.{AllByRecursion, find, list_any}
use Rattle.std.specs.Option.{option_or}
use Rattle.common_laws.proofs.Pairs.{pairs_head, pairs_tail}
use Rattle.sql_token.specs.Names.{folded}
use Rattle.plain_sql.specs.declared.script.Command.{Command}
use Rattle.plain_schema.specs.declared.table.Table.{Table}
use Rattle.plain_schema.specs.FirstForm.{AreApart, rows_of}
use Rattle.plain_schema.specs.Plan.{HasPlace, IsPlaceOf, put_at}
use Rattle.plain_schema.specs.Step.{added, after, has_column, is_built, is_named, refusal_at, refusal_of}
use Rattle.plain_schema.specs.declared.verdict.Refusal.TheVariants.{ColumnTaken, NoSuchTable, TooManyColumns, Unbuilt}

-- a table of the command's name
is_named-true : (command : Command) (table : Table) → folded command.table ≡ folded table.row.name → is_named command table ≡ true
is_named-true command table same = (bytes_decides (folded command.table) (folded table.row.name)).1 same

-- the command's name is that of the table
is_named-same : (command : Command) (table : Table) → is_named command table ≡ true → folded command.table ≡ folded table.row.name
is_named-same command table named = (bytes_decides (folded command.table) (folded table.row.name)).0 named

-- a table of that name, and none before it
pub place_here : (command : Command) (tables : List Table) (place : ℕ) (table : Table) → place < length tables → table ≡ get_or tables place table
    → list_any (is_named command) (take place tables) ≡ false → folded command.table ≡ folded table.row.name → HasPlace command tables place
place_here command tables place table within is none same = (
  table,
  record {
    front = take place tables;
    behind = drop (place + 1) tables;
    whole =
        sym (take-append-drop place tables)
        ∙ ap (λ (l : List Table). take place tables ++ l)
        (drop_more tables place table within ∙ ap (λ (t : Table). t ∷ drop (place + 1) tables) (sym is));
    at = sym (length-take-le place tables (omega arith));
    named = is_named-true command table same;
    none_before = none;
  },
)

-- one more table of another name
pub place_further : (command : Command) (tables : List Table) (place : ℕ) (table : Table) → place < length tables → table ≡ get_or tables place table
    → list_any (is_named command) (take place tables) ≡ false → (folded command.table ≡ folded table.row.name → ⊥)
    → list_any (is_named command) (take (place + 1) tables) ≡ false
place_further command tables place table within is none other =
    let unnamed : is_named command table ≡ false = false_from_ne_true (is_named command table) (λ named. other (is_named-same command table named)) in
    list_any_more (is_named command) tables place table within
    ∙ ap₂ (λ (a b : Bool). a || b) none (sym (ap (is_named command) is) ∙ unnamed)

-- no row that is apart from that of a table has its name
pub none_behind : (command : Command) (table : Table) (behind : List Table) → is_named command table ≡ true
    → AllByRecursion (AreApart table.row) (rows_of behind) → list_any (is_named command) behind ≡ false
none_behind command table [] named apart = refl
none_behind command table (next ∷ behind) named apart =
    let same = is_named-same command table named in
    let unnamed : is_named command next ≡ false =
    false_from_ne_true (is_named command next) (λ also. apart.0.named (sym same ∙ is_named-same command next also)) in
    ap₂ (λ (a b : Bool). a || b) unnamed (none_behind command table behind named apart.1)

-- no table behind the one that the command is about has its name
none_later : (command : Command) (front behind : List Table) (table : Table) → is_named command table ≡ true
    → AllPairs AreApart (rows_of (front ++ table ∷ behind)) → list_any (is_named command) behind ≡ false
none_later command [] behind table named apart =
    none_behind command table behind named (pairs_head AreApart table.row (rows_of behind) apart)
none_later command (first ∷ front) behind table named apart =
    none_later command front behind table named (pairs_tail AreApart first.row (rows_of (front ++ table ∷ behind)) apart)

-- tables of which none has the command's name stay
pub after-none : (command : Command) (tables : List Table) → list_any (is_named command) tables ≡ false → after command tables ≡ tables
after-none command [] none = refl
after-none command (table ∷ tables) none =
    let (here, others) = or_parts (is_named command table) (list_any (is_named command) tables) none in
    ap₂ (λ (t : Table) (l : List Table). t ∷ l) (cond-false (is_named command table) (added command table) table here) (after-none command tables others)

-- none of them is found
pub find-none : (command : Command) (tables : List Table) → list_any (is_named command) tables ≡ false → find (is_named command) tables ≡ None
find-none command [] none = refl
find-none command (table ∷ tables) none =
    let (here, others) = or_parts (is_named command table) (list_any (is_named command) tables) none in
    cond-false (is_named command table) (Some table) (find (is_named command) tables) here ∙ find-none command tables others

-- another value at the place of one
pub put_at-is : {A : Type 0} (front : List A) (old new : A) (behind : List A) (place : ℕ) → place ≡ length front
    → put_at place new (front ++ old ∷ behind) ≡ front ++ new ∷ behind
put_at-is {A = A} front old new behind place at =
    let rest : drop (place + 1) (front ++ old ∷ behind) ≡ behind =
    ap (λ (n : ℕ). drop n (front ++ old ∷ behind)) (ap (λ (n : ℕ). n + 1) at) ∙ behind_it front old behind in
    ap₂ (λ (a b : List A). a ++ new ∷ b) (take_at front (old ∷ behind) place (sym at)) rest
  where
    behind_it : {A : Type 0} (front : List A) (old : A) (behind : List A) → drop (length front + 1) (front ++ old ∷ behind) ≡ behind
    behind_it [] old behind = refl
    behind_it (x ∷ front) old behind =
        let more : suc (length front) + 1 ≡ suc (length front + 1) = omega arith in
        ap (λ (n : ℕ). drop n (x ∷ front ++ old ∷ behind)) more ∙ behind_it front old behind

-- what the table at a place is, if it is the one that the command is about
pub record IsAbout (command : Command) (tables : List Table) (place : ℕ) (table : Table) : Type 0 where
  pub within : place < length tables
  pub at : (d : Table) → get_or tables place d ≡ table
  pub found : find (is_named command) tables ≡ Some table
  pub put : put_at place (added command table) tables ≡ after command tables
  pub rows : put_at place (added command table).row (rows_of tables) ≡ rows_of (after command tables)

-- the table between two parts of a list
about : (command : Command) (front behind : List Table) (place : ℕ) (table : Table) → place ≡ length front → is_named command table ≡ true
    → list_any (is_named command) front ≡ false → AllPairs AreApart (rows_of (front ++ table ∷ behind))
    → IsAbout command (front ++ table ∷ behind) place table
about command front behind place table at named none apart =
    let tables = front ++ table ∷ behind in
    let new = added command table in
    let split : after command tables ≡ front ++ new ∷ behind =
    map-append (λ (t : Table). if is_named command t then added command t else t) front (table ∷ behind)
    ∙ ap₂ (λ (a b : List Table). a ++ b) (after-none command front none)
    (ap₂ (λ (t : Table) (l : List Table). t ∷ l) (cond-true (is_named command table) new table named)
    (after-none command behind (none_later command front behind table named apart))) in
    let rows : (t : Table) → rows_of (front ++ t ∷ behind) ≡ rows_of front ++ t.row ∷ rows_of behind =
    λ t. map-append (λ (t : Table). t.row) front (t ∷ behind) in
    record {
      within = omega (arith, length-append front (table ∷ behind));
      at = λ d. ap (λ (n : ℕ). get_or tables n d) at ∙ get_or-append_seam front table behind d;
      found =
          find-append (is_named command) front (table ∷ behind)
          ∙ ap₂ option_or (find-none command front none) (cond-true (is_named command table) (Some table) (find (is_named command) behind) named);
      put = put_at-is front table new behind place at ∙ sym split;
      rows =
          ap (put_at place new.row) (rows table)
          ∙ put_at-is (rows_of front) table.row new.row (rows_of behind) place (at ∙ sym (length-map front (λ (t : Table). t.row)))
          ∙ sym (ap rows_of split ∙ rows new);
    }

-- the table at the place of it
pub is_about : (command : Command) (tables : List Table) (place : ℕ) (table : Table) → IsPlaceOf command tables place table
    → AllPairs AreApart (rows_of tables) → IsAbout command tables place table
is_about command tables place table is apart =
    subst (λ (l : List Table). IsAbout command l place table) (sym is.whole)
    (about command is.front is.behind place table is.at is.named is.none_before
    (subst (λ (l : List Table). AllPairs AreApart (rows_of l)) is.whole apart))

-- the table that is read at the place
pub about_it : (command : Command) (tables : List Table) (place : ℕ) (table : Table) → HasPlace command tables place → table ≡ get_or tables place table
    → AllPairs AreApart (rows_of tables) → IsAbout command tables place table
about_it command tables place table has is apart =
    let it = is_about command tables place has.0 has.1 apart in
    subst (IsAbout command tables place) (sym (is ∙ it.at table)) it

-- a command about no table
pub no_table : (usable : ℕ) (tables : List Table) (command : Command) → list_any (is_named command) tables ≡ false
    → refusal_of usable tables command ≡ Some NoSuchTable
no_table usable tables command none = ap (refusal_at usable tables command) (find-none command tables none)

-- the table has the column
pub column_taken : (usable : ℕ) (tables : List Table) (command : Command) (table : Table) → find (is_named command) tables ≡ Some table
    → has_column command table ≡ true → refusal_of usable tables command ≡ Some ColumnTaken
column_taken usable tables command table found taken =
    ap (refusal_at usable tables command) found ∙ cond-true (has_column command table) (Some ColumnTaken) _ taken

-- the verdict by its three tests
tested : (usable : ℕ) (tables : List Table) (command : Command) (table : Table) (many room : Bool) → find (is_named command) tables ≡ Some table
    → has_column command table ≡ false → nat_le 2000 (length table.columns) ≡ many → is_built usable (rows_of (after command tables)) ≡ room
    → refusal_of usable tables command ≡ (if many then Some TooManyColumns else if room then None else Some Unbuilt)
tested usable tables command table many room found other columns built =
    ap (refusal_at usable tables command) found
    ∙ cond-false (has_column command table) (Some ColumnTaken) _ other
    ∙ ap₂ (λ (a b : Bool). if a then Some TooManyColumns else if b then None else Some Unbuilt) columns built

-- the table has as many columns as a table may have
pub too_many : (usable : ℕ) (tables : List Table) (command : Command) (table : Table) → find (is_named command) tables ≡ Some table
    → has_column command table ≡ false → 2000 ≤ length table.columns → refusal_of usable tables command ≡ Some TooManyColumns
too_many usable tables command table found other many =
    tested usable tables command table true (is_built usable (rows_of (after command tables))) found other (le-leb 2000 (length table.columns) many) refl

-- the rows have no room
pub no_room : (usable : ℕ) (tables : List Table) (command : Command) (table : Table) → find (is_named command) tables ≡ Some table
    → has_column command table ≡ false → length table.columns < 2000 → is_built usable (rows_of (after command tables)) ≡ false
    → refusal_of usable tables command ≡ Some Unbuilt
no_room usable tables command table found other few built =
    tested usable tables command table false false found other (lt-leb 2000 (length table.columns) few) built

-- no restriction is broken
pub unrefused : (usable : ℕ) (tables : List Table) (command : Command) (table : Table) → find (is_named command) tables ≡ Some table
    → has_column command table ≡ false → length table.columns < 2000 → is_built usable (rows_of (after command tables)) ≡ true
    → refusal_of usable tables command ≡ None
unrefused usable tables command table found other few built =
    tested usable tables command table false true found other (lt-leb 2000 (length table.columns) few) built

-- what holds where no restriction is broken
pub record IsUnbroken (usable : ℕ) (tables : List Table) (command : Command) (at : Option Table) : Type 0 where
  pub table : Table
  pub found : at ≡ Some table
  pub other : has_column command table ≡ false
  pub built : is_built usable (rows_of (after command tables)) ≡ true

-- the tests of a command that breaks no restriction
tests : (taken many room : Bool) → (if taken then Some ColumnTaken else if many then Some TooManyColumns else if room then None else Some Unbuilt) ≡ None
    → (taken ≡ false) × (room ≡ true)
tests true many room none = absurd cc
tests false true room none = absurd cc
tests false false true none = (refl, refl)
tests false false false none = absurd cc

-- a command that breaks no restriction is about a table
pub unbroken : (usable : ℕ) (tables : List Table) (command : Command) (at : Option Table) → refusal_at usable tables command at ≡ None
    → IsUnbroken usable tables command at
unbroken usable tables command None none = absurd cc
unbroken usable tables command (Some table) none =
    let (other, built) = tests (has_column command table) (nat_le 2000 (length table.columns)) (is_built usable (rows_of (after command tables))) none in
    record { table = table; found = refl; other = other; built = built }
