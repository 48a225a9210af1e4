-- Commands with a text: which one is made, and that none is where the text is refused.
use Rattle.std.proofs.Common.{◌≡◌, ◌≤◌, ◌-◌, ◌++◌, ℕ, List, Result, Err, length, get_or, take, drop, sym, subst, ◌∙◌, codes}
use Rattle.common_laws.proofs.Lists.{four_and_rest}
use Rattle.sql_token.specs.declared.token.Token.{Token}
use Rattle.sql_reader.specs.declared.error.ReadError.{ReadError}
use Rattle.sql_reader.specs.declared.error.ReadError.TheVariants.{Memory, Syntax}
use Rattle.sql_tree.specs.declared.command.Command.{Command}
use Rattle.sql_tree.specs.declared.command.Command.TheVariants.{RenameTable, RenameColumn, Add, Drop, Rebuild}
use Rattle.sql_tree.specs.declared.table.Column.{Column as ColumnTree}
use Rattle.sql_tree.specs.declared.table.CreateTable.{CreateTable}
use Rattle.ddl_parse.specs.Given.{IsReadAs}
use Rattle.script_parse.specs.Command.{IsAdded, IsColumnText, IsDefined, IsRebuilt, IsTableText, Names, bytes_of_all}

-- an error that is allowed in place of one tree is allowed in place of any
unread : {A B : Type 0} (a : A) (b : B) (error : ReadError) → IsReadAs {A = A} a (Err error) → IsReadAs {A = B} b (Err error)
unread a b (Memory fault) is = tt
unread a b Syntax is = is

pub added_unread : (text : List ℕ) (table : Token) (tokens : List Token) (bytes : List ℕ) (error : ReadError) → bytes ≡ bytes_of_all text tokens
    → ((column : ColumnTree) → IsColumnText bytes column → IsReadAs {A = ColumnTree} column (Err error))
    → (command : Command) → IsAdded text table tokens command → IsReadAs {A = Command} command (Err error)
added_unread text table tokens bytes error same only (RenameTable of new) is = absurd is
added_unread text table tokens bytes error same only (RenameColumn of old new bare) is = absurd is
added_unread text table tokens bytes error same only (Add of body column) is =
    unread column (Add of body column) error (only column (subst (λ b. IsColumnText b column) (is.1 ∙ sym same) is.2))
added_unread text table tokens bytes error same only (Drop of old) is = absurd is
added_unread text table tokens bytes error same only (Rebuild of body definition) is = absurd is

pub added_one : (text : List ℕ) (table : Token) (tokens : List Token) (name bytes copy : List ℕ) (tree : ColumnTree) → bytes ≡ bytes_of_all text tokens
    → copy ≡ bytes → ((spelled : List ℕ) → Names text table spelled → name ≡ spelled) → ((column : ColumnTree) → IsColumnText bytes column → tree ≡ column)
    → (command : Command) → IsAdded text table tokens command → Add name copy tree ≡ command
added_one text table tokens name bytes copy tree same copied named only (RenameTable of new) is = absurd is
added_one text table tokens name bytes copy tree same copied named only (RenameColumn of old new bare) is = absurd is
added_one text table tokens name bytes copy tree same copied named only (Add of body column) is =
    let name_is = named of is.0 in
    let body_is = copied ∙ same ∙ sym is.1 in
    let tree_is = only column (subst (λ b. IsColumnText b column) (is.1 ∙ sym same) is.2) in
    cc
added_one text table tokens name bytes copy tree same copied named only (Drop of old) is = absurd is
added_one text table tokens name bytes copy tree same copied named only (Rebuild of body definition) is = absurd is

pub defined_unread : (text : List ℕ) (table : Token) (tokens : List Token) (bytes : List ℕ) (error : ReadError)
    → bytes ≡ codes "CREATE TABLE " ++ bytes_of_all text tokens
    → ((definition : CreateTable) → IsTableText bytes definition → IsReadAs {A = CreateTable} definition (Err error))
    → (command : Command) → IsDefined text table tokens command → IsReadAs {A = Command} command (Err error)
defined_unread text table tokens bytes error same only (RenameTable of new) is = absurd is
defined_unread text table tokens bytes error same only (RenameColumn of old new bare) is = absurd is
defined_unread text table tokens bytes error same only (Add of body column) is = absurd is
defined_unread text table tokens bytes error same only (Drop of old) is = absurd is
defined_unread text table tokens bytes error same only (Rebuild of body definition) is =
    unread definition (Rebuild of body definition) error (only definition (subst (λ b. IsTableText b definition) (is.1 ∙ sym same) is.2))

pub defined_one : (text : List ℕ) (table : Token) (tokens : List Token) (name bytes copy : List ℕ) (tree : CreateTable)
    → bytes ≡ copy → copy ≡ codes "CREATE TABLE " ++ bytes_of_all text tokens
    → ((spelled : List ℕ) → Names text table spelled → name ≡ spelled) → ((definition : CreateTable) → IsTableText bytes definition → tree ≡ definition)
    → (command : Command) → IsDefined text table tokens command → Rebuild name copy tree ≡ command
defined_one text table tokens name bytes copy tree copied same named only (RenameTable of new) is = absurd is
defined_one text table tokens name bytes copy tree copied same named only (RenameColumn of old new bare) is = absurd is
defined_one text table tokens name bytes copy tree copied same named only (Add of body column) is = absurd is
defined_one text table tokens name bytes copy tree copied same named only (Drop of old) is = absurd is
defined_one text table tokens name bytes copy tree copied same named only (Rebuild of body definition) is =
    let name_is = named of is.0 in
    let body_is = same ∙ sym is.1 in
    let tree_is = only definition (subst (λ b. IsTableText b definition) (is.1 ∙ sym (copied ∙ same)) is.2) in
    cc

-- what the definition behind four tokens is, all tokens are
pub rebuilt_only : (text : List ℕ) (tokens : List Token) (other : Token) (answer : Result Command ReadError) → 4 ≤ length tokens
    → ((command : Command) → IsDefined text (get_or tokens 0 other) (take (length tokens - 4) (drop 4 tokens)) command → IsReadAs {A = Command} command answer)
    → (command : Command) → IsRebuilt text tokens command → IsReadAs {A = Command} command answer
rebuilt_only text tokens other answer some only command is =
    only command (subst (λ ts. IsRebuilt text ts command) (four_and_rest tokens other some) is).3
