-- What is read in a turn of a loop takes a token, also where trees stand in it.
use Rattle.std.proofs.Common.{List, refl, ℕ}
use Rattle.sql_reader.proofs.Laws.{leaf_reads}
use Rattle.sql_reader.proofs.Turns.{TakesToken}
use Rattle.sql_reader.specs.Reading.{read_leaf}
use Rattle.sql_reader.specs.Sorts.{sort_of}
use Rattle.query_reading.proofs.CallLaws.{when_reads}
use Rattle.query_reading.proofs.LeafLaws.{prefix_fits}
use Rattle.query_reading.proofs.LevelLaws.{nested_at}
use Rattle.query_reading.proofs.OperandLaws.{infix_part_reads, postfix_reads}
use Rattle.query_reading.proofs.WindowLaws.{next_expr_reads, next_term_reads}
use Rattle.query_reading.specs.Calls.{read_when}
use Rattle.query_reading.specs.Levels.{read_at}
use Rattle.query_reading.specs.Operands.{prefix, read_infix_part, read_postfix}
use Rattle.query_reading.specs.Windows.{read_next_expr, read_next_term}

-- "-" | "+" | "~" | NOT
pub prefix_takes : (text : List ℕ) → TakesToken (read_leaf (sort_of text) prefix)
prefix_takes text = let laws = leaf_reads {bound = 0} (prefix_fits text) in laws.size refl

module _ (n : ℕ) (text : List ℕ) where
  -- "," expr
  pub next_expr_takes : TakesToken (read_next_expr (sort_of text) (read_at (sort_of text) n))
  next_expr_takes = let laws = next_expr_reads (nested_at text n) in laws.size refl

  -- "," term
  pub next_term_takes : TakesToken (read_next_term (sort_of text) (read_at (sort_of text) n))
  next_term_takes = let laws = next_term_reads (nested_at text n) in laws.size refl

  -- WHEN expr THEN expr
  pub when_takes : TakesToken (read_when (sort_of text) (read_at (sort_of text) n))
  when_takes = let laws = when_reads (nested_at text n) in laws.size refl

  -- postfix
  pub postfix_takes : TakesToken (read_postfix (sort_of text) (read_at (sort_of text) n))
  postfix_takes = let laws = postfix_reads (nested_at text n) in laws.size refl

  -- infix part
  pub infix_part_takes : TakesToken (read_infix_part (sort_of text) (read_at (sort_of text) n))
  infix_part_takes = let laws = infix_part_reads (nested_at text n) in laws.size refl
