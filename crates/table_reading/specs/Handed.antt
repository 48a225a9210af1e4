-- What is handed in: the text, the trees that stand inside, and how high they are.
use Rattle.std.specs.Prelude.{List, ℕ}
use Rattle.query_reading.specs.Exprs.{Inner}

-- the text whose words are looked at, the bound of the height of the trees inside, and their readings
pub record Outer : Type 0 where
  pub text : List ℕ
  pub height : ℕ
  pub inner : Inner

-- what is handed in, made of its parts
abbrev pub over : List ℕ → ℕ → Inner → Outer
over text height inner = record { text = text; height = height; inner = inner }
