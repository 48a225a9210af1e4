-- What is read in a turn of a loop takes a token.
use Rattle.std.proofs.Common.{List, refl, ℕ}
use Rattle.sql_reader.proofs.Turns.{TakesToken}
use Rattle.sql_reader.specs.Sorts.{sort_of}
use Rattle.query_reading.proofs.LevelLaws.{nested_at}
use Rattle.query_reading.proofs.SelectLaws.{compound_arm_reads, next_cte_reads, next_named_window_reads, next_result_item_reads, next_values_row_reads}
use Rattle.query_reading.proofs.SourceLaws.{joined_source_reads}
use Rattle.query_reading.specs.Levels.{read_at}
use Rattle.query_reading.specs.Selects.{read_compound_arm, read_next_cte, read_next_named_window, read_next_result_item, read_next_values_row}
use Rattle.query_reading.specs.Sources.{read_joined_source}

module _ (n : ℕ) (text : List ℕ) where
  -- join source
  pub joined_source_takes : TakesToken (read_joined_source (sort_of text) (read_at (sort_of text) n))
  joined_source_takes = let laws = joined_source_reads (nested_at text n) in laws.size refl

  -- compound arm
  pub compound_arm_takes : TakesToken (read_compound_arm (sort_of text) (read_at (sort_of text) n))
  compound_arm_takes = let laws = compound_arm_reads (nested_at text n) in laws.size refl

  -- "," named-window
  pub next_named_window_takes : TakesToken (read_next_named_window (sort_of text) (read_at (sort_of text) n))
  next_named_window_takes = let laws = next_named_window_reads (nested_at text n) in laws.size refl

  -- "," item
  pub next_result_item_takes : TakesToken (read_next_result_item (sort_of text) (read_at (sort_of text) n))
  next_result_item_takes = let laws = next_result_item_reads (nested_at text n) in laws.size refl

  -- "," row
  pub next_values_row_takes : TakesToken (read_next_values_row (sort_of text) (read_at (sort_of text) n))
  next_values_row_takes = let laws = next_values_row_reads (nested_at text n) in laws.size refl

  -- "," cte
  pub next_cte_takes : TakesToken (read_next_cte (sort_of text) (read_at (sort_of text) n))
  next_cte_takes = let laws = next_cte_reads (nested_at text n) in laws.size refl
