-- What is free to come instead of an answer.
use Rattle.sql_reader.specs.declared.error.ReadError.{ReadError}
use Rattle.sql_reader.specs.declared.error.ReadError.TheVariants.{Memory, Syntax}

-- the error is want of memory
abbrev pub IsWant : ReadError → Type 0
IsWant (Memory fault) = Unit {0}
IsWant Syntax = ⊥
