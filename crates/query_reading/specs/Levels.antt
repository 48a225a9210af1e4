-- What is read where trees nest less deep than a bound.
use Rattle.std.specs.Prelude.{None, suc, zero, ℕ}
use Rattle.sql_token.specs.declared.token.Token.{Token}
use Rattle.sql_reader.specs.declared.sort.Sort.{Sort}
use Rattle.query_reading.specs.Exprs.{Inner}
use Rattle.query_reading.specs.Operands.{read_expr_level}
use Rattle.query_reading.specs.Selects.{read_select_level}
use Rattle.query_reading.specs.Sources.{read_sources_level}

-- one level of each tree whose inner trees are read so
abbrev pub level : (Token → Sort) → Inner → Inner
level sort inner =
    record { expr = read_expr_level sort inner; select = read_select_level sort inner; sources = read_sources_level sort inner }

-- trees that nest less deep than the bound
abbrev pub read_at : (Token → Sort) → ℕ → Inner
read_at sort zero = record { expr = λ _. None; select = λ _. None; sources = λ _. None }
read_at sort (suc n) = level sort (read_at sort n)
