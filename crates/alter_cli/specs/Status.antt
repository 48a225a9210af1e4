-- Exit codes.
use Rattle.std.specs.Prelude.{ℕ}
use Rattle.alter_cli.specs.declared.status.Status.{Status}
use Rattle.alter_cli.specs.declared.status.Status.TheVariants.{Done, Refused, Script, File, Fault, Memory, Usage}

-- the process's exit code
abbrev pub code_of : Status → ℕ
code_of Done = 0
code_of Refused = 1
code_of Script = 2
code_of File = 3
code_of Fault = 4
code_of Memory = 5
code_of Usage = 64
