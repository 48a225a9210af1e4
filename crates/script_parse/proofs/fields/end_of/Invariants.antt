use Rattle.std.proofs.Common.{◌≡◌, drop}
use Rattle.script_parse.specs.Command.{end_of}
use Rattle.script_parse.proofs.fields.end_of.Given as goal

-- the end of what is left is that of all
abbrev pub invariant-loop-token : goal.invariant-loop-token
invariant-loop-token l = end_of l.last (drop l.token-index l.tokens) ≡ end_of l.fn.end l.tokens
