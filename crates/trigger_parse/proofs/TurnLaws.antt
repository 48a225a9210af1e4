-- What is read in a turn of a loop takes a token.
use Rattle.std.proofs.Common.{List, refl, ℕ}
use Rattle.sql_reader.proofs.Turns.{TakesToken}
use Rattle.sql_reader.specs.Sorts.{sort_of}
use Rattle.query_reading.specs.Levels.{read_at}
use Rattle.trigger_reading.proofs.StatementLaws.{next_assignment_reads, next_plain_indexed_reads, upsert_reads}
use Rattle.trigger_reading.proofs.TriggerLaws.{ended_statement_reads}
use Rattle.trigger_reading.proofs.WholeLaws.{given_at}
use Rattle.trigger_reading.specs.Statements.{read_next_assignment, read_next_plain_indexed, read_upsert}
use Rattle.trigger_reading.specs.Triggers.{read_ended_statement}

module _ (n : ℕ) (text : List ℕ) where
  -- "," set
  pub next_assignment_takes : TakesToken (read_next_assignment (sort_of text) (read_at (sort_of text) n))
  next_assignment_takes = let laws = next_assignment_reads (given_at text n) in laws.size refl

  -- "," indexed
  pub next_plain_indexed_takes : TakesToken (read_next_plain_indexed (sort_of text) (read_at (sort_of text) n))
  next_plain_indexed_takes = let laws = next_plain_indexed_reads (given_at text n) in laws.size refl

  -- an upsert
  pub upsert_takes : TakesToken (read_upsert (sort_of text) (read_at (sort_of text) n))
  upsert_takes = let laws = upsert_reads (given_at text n) in laws.size refl

  -- statement ";"
  pub ended_statement_takes : TakesToken (read_ended_statement (sort_of text) (read_at (sort_of text) n))
  ended_statement_takes = let laws = ended_statement_reads (given_at text n) in laws.size refl
