-- The names that are spelled in a text are plain words, and no longer than it.
use Rattle.std.proofs.Common.{ℕ, ◌≤◌, ◌≢◌, arith, length, List, [], ◌∷◌, ◌++◌, sym, subst, ap}
use Rattle.std.specs.List.{AllByRecursion}
use Rattle.sql_token.specs.declared.token.Token.{Token}
use Rattle.sql_token.specs.Form.{IsWord}
use Rattle.sql_token.specs.Keyword.{spelling}
use Rattle.sql_token.specs.Names.{folded}
use Rattle.sql_token.specs.Token.{IsTokenAt, AreTokensIn}
use Rattle.common_laws.proofs.Lists.{range_length}
use Rattle.sql_token.proofs.Stands.{word_form}
use Rattle.plain_sql.specs.declared.script.Command.{Command}
use Rattle.plain_sql.specs.Words.{IsPlainName, IsPlainWord}
use Rattle.plain_sql.specs.Script.{SpellsCommand, SpellsCommands, IsCommandList, IsPlainCommand, IsWithin}
use Rattle.common_laws.proofs.Each.{all_at, all_before, all_behind}

-- each of the tokens stands in the text
all_stand : (text : List ℕ) (from to : ℕ) (list : List Token) → AreTokensIn text from to list → AllByRecursion (IsTokenAt text) list
all_stand text from to [] tokens = tt
all_stand text from to (t ∷ list) tokens = (tokens.1, all_stand text t.end to list tokens.2)

-- a name that is spelled in the text is a plain word
name_plain : (text name : List ℕ) (t : Token) → IsTokenAt text t → IsPlainName text t name → IsPlainWord name
name_plain text name t token is = record {
  word = subst IsWord (sym is.spelled) (word_form text t token is.kind);
  free = λ word. let P : List ℕ → Type 0 = λ bytes. folded bytes ≢ spelling word in subst P (sym is.spelled) (is.free word);
}

-- a name that is spelled in the text is no longer than the text
name_within : (text name : List ℕ) (t : Token) → IsTokenAt text t → IsPlainName text t name → length name ≤ length text
name_within text name t token is = omega (arith, ap length is.spelled, range_length text t.start t.end token.within, token.within)

-- both names of a command are plain words
command_plain : (text : List ℕ) (piece : List Token) (command : Command) → AllByRecursion (IsTokenAt text) piece → SpellsCommand text piece command → IsPlainCommand command
command_plain text piece command stand spells =
    let all = subst (AllByRecursion (IsTokenAt text)) spells.whole stand in
    record {
      table = name_plain text command.table spells.table all.1.1.0 spells.table_name;
      column = name_plain text command.column spells.column (all_at (IsTokenAt text) spells.column_word spells.column [] all.1.1.1.1) spells.column_name;
    }

-- both names of a command are no longer than the text
command_within : (text : List ℕ) (piece : List Token) (command : Command) → AllByRecursion (IsTokenAt text) piece → SpellsCommand text piece command → IsWithin text command
command_within text piece command stand spells =
    let all = subst (AllByRecursion (IsTokenAt text)) spells.whole stand in
    record {
      table = name_within text command.table spells.table all.1.1.0 spells.table_name;
      column = name_within text command.column spells.column (all_at (IsTokenAt text) spells.column_word spells.column [] all.1.1.1.1) spells.column_name;
    }

-- what holds of each command that is spelled by tokens of the text holds of all of them
all_commands : (P : Command → Type 0) (text : List ℕ) (tokens : List Token) (commands : List Command)
    → ((piece : List Token) (command : Command) → AllByRecursion (IsTokenAt text) piece → SpellsCommand text piece command → P command)
    → AllByRecursion (IsTokenAt text) tokens → SpellsCommands text tokens commands → AllByRecursion P commands
all_commands P text tokens [] each stand spells = tt
all_commands P text tokens (c ∷ cs) each stand (before, piece, others, whole, been, spells, ended, those) =
    let all = subst (AllByRecursion (IsTokenAt text)) whole stand in
    let front = all_behind (IsTokenAt text) before piece (all_before (IsTokenAt text) (before ++ piece) others all) in
    (each piece c front spells, all_commands P text others cs each (all_behind (IsTokenAt text) (before ++ piece) others all) those)

-- the names of a text's commands are plain words
pub plain_commands : (text : List ℕ) (commands : List Command) → IsCommandList text commands → AllByRecursion IsPlainCommand commands
plain_commands text commands is =
    all_commands IsPlainCommand text is.list commands (command_plain text) (all_stand text 0 (length text) is.list is.tokens) is.spelled

-- the names of a text's commands are no longer than the text
pub short_commands : (text : List ℕ) (commands : List Command) → IsCommandList text commands → AllByRecursion (IsWithin text) commands
short_commands text commands is =
    all_commands (IsWithin text) text is.list commands (command_within text) (all_stand text 0 (length text) is.list is.tokens) is.spelled
