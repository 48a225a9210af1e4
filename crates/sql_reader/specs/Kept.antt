-- What a cursor keeps.
use Rattle.std.specs.Prelude.{◌≡◌}
use Rattle.sql_reader.specs.declared.cursor.Cursor.TheInside.{Inside}
use Rattle.sql_reader.specs.Input.{Input, first_sort, second_sort, third_sort}

-- the text and the tokens that are left
abbrev pub input_of : Inside → Input
input_of c = record { text = c.text.now; left = c.left.now }

-- the sorts of the next three tokens are kept
abbrev pub KeepsSorts : Inside → Type 0
KeepsSorts c =
    (c.first ≡ first_sort (input_of c)) × (c.second ≡ second_sort (input_of c)) × (c.third ≡ third_sort (input_of c))
