use Rattle.std.proofs.Common.{length, ap, arith}
use Rattle.plain_sql.proofs.Spelled.{plain_commands, short_commands}
use Rattle.common_laws.proofs.Options.{read_none, read_some, if_some}
use Rattle.plain_sql.proofs.script.read_script.Goals as goal

pub returns-in_default-clause-only : goal.returns-in_default-clause-only
returns-in_default-clause-only c = λ commands is. read_none _ _ c.in_default.is (c.in_ok-commands.ensures.only commands is.listed)

pub returns-then-len-le-MAX_COMMANDS-clause-only : goal.returns-then-len-le-MAX_COMMANDS-clause-only
returns-then-len-le-MAX_COMMANDS-clause-only c = λ commands is. read_some _ _ _ c.in-Some.is (c.in_ok-commands.ensures.only commands is.listed)

pub returns-else-len-le-MAX_COMMANDS-clause-only : goal.returns-else-len-le-MAX_COMMANDS-clause-only
returns-else-len-le-MAX_COMMANDS-clause-only c = λ commands is.
    let same = ap length (read_some _ _ _ c.in-Some.is (c.in_ok-commands.ensures.only commands is.listed)) in
    let len = c.len.ensures in
    let few = is.few in
    let many = c.if-len-le-MAX_COMMANDS.false in
    omega arith

pub returns-then-len-le-MAX_COMMANDS-clause-plain : goal.returns-then-len-le-MAX_COMMANDS-clause-plain
returns-then-len-le-MAX_COMMANDS-clause-plain c = plain_commands _ _ (if_some _ _ _ c.in-Some.is c.in_ok-commands.ensures.found)

pub returns-then-len-le-MAX_COMMANDS-clause-within : goal.returns-then-len-le-MAX_COMMANDS-clause-within
returns-then-len-le-MAX_COMMANDS-clause-within c = short_commands _ _ (if_some _ _ _ c.in-Some.is c.in_ok-commands.ensures.found)
