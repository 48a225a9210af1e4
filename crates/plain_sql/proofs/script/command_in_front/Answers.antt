use Rattle.std.proofs.Common.{◌≡◌, ◌++◌, List, sym, subst}
use Rattle.sql_token.specs.declared.token.Token.{Token}
use Rattle.plain_sql.specs.declared.script.Command.{Command}
use Rattle.plain_sql.specs.Words.{IsPlainName}
use Rattle.plain_sql.specs.Script.{SpellsCommand}
use Rattle.plain_sql.proofs.ColumnsLemmas.{blank}
use Rattle.plain_sql.proofs.CommandsLemmas.{made_of_command, begins_command, same_column}
use Rattle.common_laws.proofs.Options.{if_none_so}
use Rattle.common_laws.proofs.Lists.{first_or, four_and_rest}
use Rattle.plain_sql.proofs.script.command_in_front.Goals as goal

pub returns-in_err-table-clause-none : goal.returns-in_err-table-clause-none
returns-in_err-table-clause-none c =
    let none : (piece others : List Token) (command : Command) → c.args.tokens.now ≡ piece ++ others → SpellsCommand c.args.text.now piece command → ⊥ =
    λ piece others command cut spells.
    let made = made_of_command _ _ _ _ _ _ _ piece others command (four_and_rest c.args.tokens.now _ c.in-len4-up.len_at_least) cut spells in
    c.in_err-table.ensures.none _ made.table_name in
    if_none_so _ _ none

pub returns-in_err-column-clause-none : goal.returns-in_err-column-clause-none
returns-in_err-column-clause-none c =
    let none : (piece others : List Token) (command : Command) → c.args.tokens.now ≡ piece ++ others → SpellsCommand c.args.text.now piece command → ⊥ =
    λ piece others command cut spells.
    let made = made_of_command _ _ _ _ _ _ _ piece others command (four_and_rest c.args.tokens.now blank c.in-len4-up.len_at_least) cut spells in
    let same = c.behind_column_word.ensures.only made.word others made.column _ made.whole made.column_fixed made.column_name in
    let P : Token → Type 0 = λ t. IsPlainName c.args.text.now t command.column in
    c.in_err-column.ensures.none _
    (subst P (sym (same_column _ _ _ _ _ (first_or c.behind_column_word.result.now blank c.in-len1-up.len_at_least) same)) made.column_name) in
    if_none_so _ _ none

pub returns-clause-found : goal.returns-clause-found
returns-clause-found c =
    begins_command _ _ _ _ _ _ _ _ _ _ _ _ (four_and_rest c.args.tokens.now _ c.in-len4-up.len_at_least) (c.is_add.ensures.0 c.if-not-is_add.false)
    c.in_ok-table.ensures.found c.behind_column_word.ensures.found (first_or c.behind_column_word.result.now _ c.in-len1-up.len_at_least)
    c.in_ok-column.ensures.found
