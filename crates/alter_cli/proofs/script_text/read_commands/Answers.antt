use Rattle.std.proofs.Common.{ap, length, arith}
use Rattle.alter_cli.proofs.RunLemmas.{small_columns}
use Rattle.alter_cli.proofs.script_text.read_commands.Goals as goal

pub returns-in-Some-clause-small : goal.returns-in-Some-clause-small
returns-in-Some-clause-small g c =
    small_columns c.as_slice.result.now c.in-Some.commands.items (omega (arith, c.in_ok-text.ensures.limit, ap length c.as_slice.ensures.value))
    (rw c.in-Some.is at c.in_ok-commands.ensures.within)
