-- The lines of the output.
use Rattle.std.specs.Prelude.{ℕ, ◌+◌, List, [], ◌∷◌, ◌++◌, codes}
use Rattle.plain_schema.specs.declared.verdict.Verdict.{Verdict}
use Rattle.plain_schema.specs.Verdicts.{verdict_line}

-- the text and a line feed
abbrev pub line : List ℕ → List ℕ
line text = text ++ 10 ∷ []

-- the lines of the commands from this number on
abbrev pub verdict_lines : ℕ → List Verdict → List ℕ
verdict_lines number [] = []
verdict_lines number (verdict ∷ verdicts) = verdict_line number verdict ++ verdict_lines (number + 1) verdicts

abbrev pub usage_line : List ℕ
usage_line = line (codes "usage: sqlalter FILE")

abbrev pub too_long_line : List ℕ
too_long_line = line (codes "script 1048576 too-long")

abbrev pub script_unbuilt_line : List ℕ
script_unbuilt_line = line (codes "script 0 unbuilt")

abbrev pub fault_read_line : List ℕ
fault_read_line = line (codes "fault read")

abbrev pub fault_write_line : List ℕ
fault_write_line = line (codes "fault write")

abbrev pub memory_line : List ℕ
memory_line = line (codes "memory")
