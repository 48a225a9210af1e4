use Rattle.std.specs.Prelude.{List, ◌++◌}
use Rattle.sql_token.specs.declared.token.Token.{Token}
use Rattle.sql_token.specs.Spelled.{one, maybe, flat}
use Rattle.sql_expr.specs.Tokens.{action_tokens, after_tokens, column_type_tokens, commas_tokens, in_parens_tokens, literal_tokens, object_tokens, token_pair_tokens}
use Rattle.sql_expr.specs.Tree.{expr_tokens, select_tokens, sources_tokens}
use Rattle.sql_tree.specs.declared.conflict.Resolution.{Resolution}
use Rattle.sql_tree.specs.declared.conflict.Resolution.TheVariants as Resolution'
use Rattle.sql_tree.specs.declared.conflict.Conflict.{Conflict}
use Rattle.sql_tree.specs.declared.conflict.OrAction.{OrAction}
use Rattle.sql_tree.specs.declared.conflict.ReferenceAction.{ReferenceAction}
use Rattle.sql_tree.specs.declared.conflict.ReferenceAction.TheVariants as ReferenceAction'
use Rattle.sql_tree.specs.declared.conflict.ReferenceClause.{ReferenceClause}
use Rattle.sql_tree.specs.declared.conflict.ReferenceClause.TheVariants as ReferenceClause'
use Rattle.sql_tree.specs.declared.conflict.Deferral.{Deferral}
use Rattle.sql_tree.specs.declared.conflict.References.{References}
use Rattle.sql_tree.specs.declared.table.TableOption.{TableOption}
use Rattle.sql_tree.specs.declared.table.TableOption.TheVariants as TableOption'
use Rattle.sql_tree.specs.declared.table.DefaultValue.{DefaultValue}
use Rattle.sql_tree.specs.declared.table.DefaultValue.TheVariants as DefaultValue'
use Rattle.sql_tree.specs.declared.table.Indexed.{Indexed}
use Rattle.sql_tree.specs.declared.table.ColumnCons.{ColumnCons}
use Rattle.sql_tree.specs.declared.table.ColumnCons.TheVariants as ColumnCons'
use Rattle.sql_tree.specs.declared.table.Column.{Column}
use Rattle.sql_tree.specs.declared.table.TableCons.{TableCons}
use Rattle.sql_tree.specs.declared.table.TableCons.TheVariants as TableCons'
use Rattle.sql_tree.specs.declared.table.NextTableCons.{NextTableCons}
use Rattle.sql_tree.specs.declared.table.TableConstraints.{TableConstraints}
use Rattle.sql_tree.specs.declared.table.TableBody.{TableBody}
use Rattle.sql_tree.specs.declared.table.IfNotExists.{IfNotExists}
use Rattle.sql_tree.specs.declared.table.CreateTable.{CreateTable}
use Rattle.sql_tree.specs.declared.index.CreateIndex.{CreateIndex}
use Rattle.sql_tree.specs.declared.index.CreateView.{CreateView}
use Rattle.sql_tree.specs.declared.statement.Target.{Target}
use Rattle.sql_tree.specs.declared.statement.Target.TheVariants as Target'
use Rattle.sql_tree.specs.declared.statement.Assignment.{Assignment}
use Rattle.sql_tree.specs.declared.statement.Sets.{Sets}
use Rattle.sql_tree.specs.declared.statement.UpsertTarget.{UpsertTarget}
use Rattle.sql_tree.specs.declared.statement.UpsertAction.{UpsertAction}
use Rattle.sql_tree.specs.declared.statement.UpsertAction.TheVariants as UpsertAction'
use Rattle.sql_tree.specs.declared.statement.Upsert.{Upsert}
use Rattle.sql_tree.specs.declared.statement.InsertVerb.{InsertVerb}
use Rattle.sql_tree.specs.declared.statement.InsertVerb.TheVariants as InsertVerb'
use Rattle.sql_tree.specs.declared.statement.Update.{Update}
use Rattle.sql_tree.specs.declared.statement.Insert.{Insert}
use Rattle.sql_tree.specs.declared.statement.Delete.{Delete}
use Rattle.sql_tree.specs.declared.statement.Statement.{Statement}
use Rattle.sql_tree.specs.declared.statement.Statement.TheVariants as Statement'
use Rattle.sql_tree.specs.declared.trigger.TriggerTime.{TriggerTime}
use Rattle.sql_tree.specs.declared.trigger.TriggerTime.TheVariants as TriggerTime'
use Rattle.sql_tree.specs.declared.trigger.TriggerEvent.{TriggerEvent}
use Rattle.sql_tree.specs.declared.trigger.TriggerEvent.TheVariants as TriggerEvent'
use Rattle.sql_tree.specs.declared.trigger.ForEachRow.{ForEachRow}
use Rattle.sql_tree.specs.declared.trigger.TriggerHead.{TriggerHead}
use Rattle.sql_tree.specs.declared.trigger.EndedStatement.{EndedStatement}
use Rattle.sql_tree.specs.declared.trigger.CreateTrigger.{CreateTrigger}
use Rattle.sql_tree.specs.declared.tree.Tree.{Tree}
use Rattle.sql_tree.specs.declared.tree.Tree.TheVariants as Tree'

-- action | IGNORE | REPLACE
abbrev pub resolution_tokens : Resolution → List Token
resolution_tokens (Resolution'.Action part) = action_tokens part
resolution_tokens (Resolution'.Ignore part) = one part
resolution_tokens (Resolution'.Replace part) = one part

-- ON CONFLICT (action | IGNORE | REPLACE)
abbrev pub conflict_tokens : Conflict → List Token
conflict_tokens x = one x.on ++ one x.conflict ++ resolution_tokens x.resolution

-- OR (action | IGNORE | REPLACE)
abbrev pub or_action_tokens : OrAction → List Token
or_action_tokens x = one x.or ++ resolution_tokens x.resolution

-- SET NULL | SET DEFAULT | CASCADE | RESTRICT | NO ACTION
abbrev pub reference_action_tokens : ReferenceAction → List Token
reference_action_tokens (ReferenceAction'.SetNull part) = token_pair_tokens part
reference_action_tokens (ReferenceAction'.SetDefault part) = token_pair_tokens part
reference_action_tokens (ReferenceAction'.Cascade part) = one part
reference_action_tokens (ReferenceAction'.Restrict part) = one part
reference_action_tokens (ReferenceAction'.NoAction part) = token_pair_tokens part

-- ON (DELETE|UPDATE) reference-action | MATCH name
abbrev pub reference_clause_tokens : ReferenceClause → List Token
reference_clause_tokens (ReferenceClause'.On on event action) = one on ++ one event ++ reference_action_tokens action
reference_clause_tokens (ReferenceClause'.Match matches name) = one matches ++ one name

-- [NOT] DEFERRABLE [INITIALLY (DEFERRED|IMMEDIATE)]
abbrev pub deferral_tokens : Deferral → List Token
deferral_tokens x = maybe one x.not ++ one x.deferrable ++ maybe token_pair_tokens x.initially

-- REFERENCES name ["(" names ")"] {reference-clause} [deferral]
abbrev pub references_tokens : References → List Token
references_tokens x =
    one x.references ++ one x.table ++ maybe (in_parens_tokens (commas_tokens one)) x.columns
    ++ flat reference_clause_tokens x.clauses ++ maybe deferral_tokens x.deferral

-- WITHOUT ROWID | STRICT
abbrev pub table_option_tokens : TableOption → List Token
table_option_tokens (TableOption'.WithoutRowid without rowid) = one without ++ one rowid
table_option_tokens (TableOption'.Strict part) = one part

-- ["+"|"-"] literal | name | "(" expr ")"
abbrev pub default_value_tokens : DefaultValue → List Token
default_value_tokens (DefaultValue'.Literal sign literal) = maybe one sign ++ literal_tokens literal
default_value_tokens (DefaultValue'.Name part) = one part
default_value_tokens (DefaultValue'.Expr part) = in_parens_tokens expr_tokens part

-- expr [ASC|DESC]
abbrev pub indexed_tokens : Indexed → List Token
indexed_tokens x = expr_tokens x.expr ++ maybe one x.direction

-- A constraint of a column.
abbrev pub column_cons_tokens : ColumnCons → List Token
column_cons_tokens (ColumnCons'.Constraint constraint name) = one constraint ++ one name
column_cons_tokens (ColumnCons'.PrimaryKey primary key direction conflict autoincrement) =
    one primary ++ one key ++ maybe one direction ++ maybe conflict_tokens conflict ++ maybe one autoincrement
column_cons_tokens (ColumnCons'.Null not null conflict) = maybe one not ++ one null ++ maybe conflict_tokens conflict
column_cons_tokens (ColumnCons'.Unique unique conflict) = one unique ++ maybe conflict_tokens conflict
column_cons_tokens (ColumnCons'.Check check expr) = one check ++ in_parens_tokens expr_tokens expr
column_cons_tokens (ColumnCons'.Default default value) = one default ++ default_value_tokens value
column_cons_tokens (ColumnCons'.Collate collate name) = one collate ++ one name
column_cons_tokens (ColumnCons'.References part) = references_tokens part
column_cons_tokens (ColumnCons'.Generated generated as_word expr storage) =
    maybe token_pair_tokens generated ++ one as_word ++ in_parens_tokens expr_tokens expr ++ maybe one storage

-- name [type] {column-cons}
abbrev pub column_tokens : Column → List Token
column_tokens x = one x.name ++ maybe column_type_tokens x.column_type ++ flat column_cons_tokens x.constraints

-- A constraint of a table.
abbrev pub table_cons_tokens : TableCons → List Token
table_cons_tokens (TableCons'.Constraint constraint name) = one constraint ++ one name
table_cons_tokens (TableCons'.PrimaryKey primary key opening indexeds autoincrement closing conflict) =
    one primary ++ one key ++ one opening ++ commas_tokens indexed_tokens indexeds ++ maybe one autoincrement
    ++ one closing ++ maybe conflict_tokens conflict
table_cons_tokens (TableCons'.Unique unique indexeds conflict) =
    one unique ++ in_parens_tokens (commas_tokens indexed_tokens) indexeds ++ maybe conflict_tokens conflict
table_cons_tokens (TableCons'.Check check expr conflict) =
    one check ++ in_parens_tokens expr_tokens expr ++ maybe conflict_tokens conflict
table_cons_tokens (TableCons'.ForeignKey foreign key names references) =
    one foreign ++ one key ++ in_parens_tokens (commas_tokens one) names ++ references_tokens references

-- [","] table-cons
abbrev pub next_table_cons_tokens : NextTableCons → List Token
next_table_cons_tokens x = maybe one x.comma ++ table_cons_tokens x.constraint

-- "," table-cons {[","] table-cons}
abbrev pub table_constraints_tokens : TableConstraints → List Token
table_constraints_tokens x = one x.comma ++ table_cons_tokens x.first ++ flat next_table_cons_tokens x.more

-- columns ["," table-cons {[","] table-cons}]
abbrev pub table_body_tokens : TableBody → List Token
table_body_tokens x = commas_tokens column_tokens x.columns ++ maybe table_constraints_tokens x.constraints

-- IF NOT EXISTS
abbrev pub if_not_exists_tokens : IfNotExists → List Token
if_not_exists_tokens x = one x.if_word ++ one x.not ++ one x.exists

-- CREATE TABLE [IF NOT EXISTS] name "(" columns ["," table-cons {[","] table-cons}] ")" [options]
abbrev pub create_table_tokens : CreateTable → List Token
create_table_tokens x =
    one x.create ++ one x.table ++ maybe if_not_exists_tokens x.if_not_exists ++ one x.name
    ++ in_parens_tokens table_body_tokens x.body ++ maybe (commas_tokens table_option_tokens) x.options

-- CREATE [UNIQUE] INDEX [IF NOT EXISTS] name ON name "(" indexeds ")" [WHERE expr]
abbrev pub create_index_tokens : CreateIndex → List Token
create_index_tokens x =
    one x.create ++ maybe one x.unique ++ one x.index ++ maybe if_not_exists_tokens x.if_not_exists ++ one x.name
    ++ one x.on ++ one x.table ++ in_parens_tokens (commas_tokens indexed_tokens) x.indexeds
    ++ maybe (after_tokens expr_tokens) x.filter

-- CREATE VIEW [IF NOT EXISTS] name ["(" names ")"] AS select
abbrev pub create_view_tokens : CreateView → List Token
create_view_tokens x =
    one x.create ++ one x.view ++ maybe if_not_exists_tokens x.if_not_exists ++ one x.name
    ++ maybe (in_parens_tokens (commas_tokens one)) x.columns ++ one x.as_word ++ select_tokens x.select

-- name | "(" names ")"
abbrev pub target_tokens : Target → List Token
target_tokens (Target'.Name part) = one part
target_tokens (Target'.Names part) = in_parens_tokens (commas_tokens one) part

-- (name | "(" names ")") "=" expr
abbrev pub assignment_tokens : Assignment → List Token
assignment_tokens x = target_tokens x.target ++ one x.equals ++ expr_tokens x.value

-- SET sets
abbrev pub sets_tokens : Sets → List Token
sets_tokens x = one x.set ++ commas_tokens assignment_tokens x.assignments

-- "(" indexeds ")" [WHERE expr]
abbrev pub upsert_target_tokens : UpsertTarget → List Token
upsert_target_tokens x =
    in_parens_tokens (commas_tokens indexed_tokens) x.indexeds ++ maybe (after_tokens expr_tokens) x.filter

-- NOTHING | UPDATE SET sets [WHERE expr]
abbrev pub upsert_action_tokens : UpsertAction → List Token
upsert_action_tokens (UpsertAction'.Nothing part) = one part
upsert_action_tokens (UpsertAction'.Update update sets filter) =
    one update ++ sets_tokens sets ++ maybe (after_tokens expr_tokens) filter

-- ON CONFLICT ["(" indexeds ")" [WHERE expr]] DO (NOTHING | UPDATE SET sets [WHERE expr])
abbrev pub upsert_tokens : Upsert → List Token
upsert_tokens x =
    one x.on ++ one x.conflict ++ maybe upsert_target_tokens x.target ++ one x.do_word ++ upsert_action_tokens x.action

-- INSERT [or] | REPLACE
abbrev pub insert_verb_tokens : InsertVerb → List Token
insert_verb_tokens (InsertVerb'.Insert insert or) = one insert ++ maybe or_action_tokens or
insert_verb_tokens (InsertVerb'.Replace part) = one part

-- UPDATE [or] name SET sets [FROM sources] [WHERE expr]
abbrev pub update_tokens : Update → List Token
update_tokens x =
    one x.update ++ maybe or_action_tokens x.or ++ one x.name ++ sets_tokens x.sets
    ++ maybe (after_tokens sources_tokens) x.from ++ maybe (after_tokens expr_tokens) x.filter

-- (INSERT [or] | REPLACE) INTO name ["(" names ")"] select {upsert}
abbrev pub insert_tokens : Insert → List Token
insert_tokens x =
    insert_verb_tokens x.verb ++ one x.into ++ one x.name ++ maybe (in_parens_tokens (commas_tokens one)) x.columns
    ++ select_tokens x.select ++ flat upsert_tokens x.upserts

-- DELETE FROM name [WHERE expr]
abbrev pub delete_tokens : Delete → List Token
delete_tokens x = one x.delete ++ one x.from ++ one x.name ++ maybe (after_tokens expr_tokens) x.filter

-- select | UPDATE .. | INSERT .. | DELETE ..
abbrev pub statement_tokens : Statement → List Token
statement_tokens (Statement'.Select part) = select_tokens part
statement_tokens (Statement'.Update part) = update_tokens part
statement_tokens (Statement'.Insert part) = insert_tokens part
statement_tokens (Statement'.Delete part) = delete_tokens part

-- BEFORE | AFTER | INSTEAD OF
abbrev pub trigger_time_tokens : TriggerTime → List Token
trigger_time_tokens (TriggerTime'.Before part) = one part
trigger_time_tokens (TriggerTime'.After part) = one part
trigger_time_tokens (TriggerTime'.InsteadOf part) = token_pair_tokens part

-- DELETE | INSERT | UPDATE [OF names]
abbrev pub trigger_event_tokens : TriggerEvent → List Token
trigger_event_tokens (TriggerEvent'.Delete part) = one part
trigger_event_tokens (TriggerEvent'.Insert part) = one part
trigger_event_tokens (TriggerEvent'.Update update columns) =
    one update ++ maybe (after_tokens (commas_tokens one)) columns

-- FOR EACH ROW
abbrev pub for_each_row_tokens : ForEachRow → List Token
for_each_row_tokens x = one x.for_word ++ one x.each ++ one x.row

-- [BEFORE|AFTER|INSTEAD OF] event ON object [FOR EACH ROW] [WHEN expr]
abbrev pub trigger_head_tokens : TriggerHead → List Token
trigger_head_tokens x =
    maybe trigger_time_tokens x.time ++ trigger_event_tokens x.event ++ one x.on ++ object_tokens x.object
    ++ maybe for_each_row_tokens x.for_each_row ++ maybe (after_tokens expr_tokens) x.condition

-- statement ";"
abbrev pub ended_statement_tokens : EndedStatement → List Token
ended_statement_tokens x = statement_tokens x.statement ++ one x.semicolon

-- CREATE TRIGGER [IF NOT EXISTS] name [BEFORE|AFTER|INSTEAD OF] event ON object [FOR EACH ROW] [WHEN expr] BEGIN
-- statement ";" {statement ";"} END
abbrev pub create_trigger_tokens : CreateTrigger → List Token
create_trigger_tokens x =
    one x.create ++ one x.trigger ++ maybe if_not_exists_tokens x.if_not_exists ++ one x.name
    ++ trigger_head_tokens x.head ++ one x.begin ++ ended_statement_tokens x.first
    ++ flat ended_statement_tokens x.more ++ one x.end

-- The text of an object of the schema.
abbrev pub tree_tokens : Tree → List Token
tree_tokens (Tree'.Table part) = create_table_tokens part
tree_tokens (Tree'.Index part) = create_index_tokens part
tree_tokens (Tree'.View part) = create_view_tokens part
tree_tokens (Tree'.Trigger part) = create_trigger_tokens part
