-- What a tree of each rule above expressions and selects may hold, at a height of these.
use Rattle.std.specs.Prelude.{◌≡◌, ◌⊎◌, ℕ, List, [], ◌∷◌, IfSome, IsTrue, codes}
use Rattle.std.specs.List.{AllByRecursion}
use Rattle.sql_token.specs.declared.token.Token.{Token}
use Rattle.sql_token.specs.declared.token.TokenKind.TheVariants as Kind
use Rattle.sql_token.specs.declared.keyword.Keyword.TheVariants as K
use Rattle.sql_token.specs.Fixed.{IsFixed, IsSign, IsName}
use Rattle.sql_expr.specs.Leaf.{IsSpelledWord, IsOneOf, IsNoneOf, AreFixed, current_words}
use Rattle.sql_expr.specs.Joined.{ends_in_joined}
use Rattle.sql_expr.specs.Rules.{UsualAt, IsExprAt, IsSelectAt, IsInParens, AreCommas, IsAfter, AreNames, IsObject, IsAction, IsLiteral, IsColumnType}
use Rattle.sql_tree.specs.Keys.{as_key}
use Rattle.sql_tree.specs.Tokens.{column_tokens, create_table_tokens, create_index_tokens, create_view_tokens, create_trigger_tokens}
use Rattle.sql_expr.specs.declared.expr.Expr.{Expr}
use Rattle.sql_tree.specs.declared.tree.Tree.{Tree}
use Rattle.sql_tree.specs.declared.tree.Tree.TheVariants as Tree'
use Rattle.sql_tree.specs.declared.conflict.Resolution.{Resolution}
use Rattle.sql_tree.specs.declared.conflict.Resolution.TheVariants as Resolution'
use Rattle.sql_tree.specs.declared.conflict.Conflict.{Conflict}
use Rattle.sql_tree.specs.declared.conflict.OrAction.{OrAction}
use Rattle.sql_tree.specs.declared.conflict.ReferenceAction.{ReferenceAction}
use Rattle.sql_tree.specs.declared.conflict.ReferenceAction.TheVariants as ReferenceAction'
use Rattle.sql_tree.specs.declared.conflict.ReferenceClause.{ReferenceClause}
use Rattle.sql_tree.specs.declared.conflict.ReferenceClause.TheVariants as ReferenceClause'
use Rattle.sql_tree.specs.declared.conflict.Deferral.{Deferral}
use Rattle.sql_tree.specs.declared.conflict.References.{References}
use Rattle.sql_tree.specs.declared.table.TableOption.{TableOption}
use Rattle.sql_tree.specs.declared.table.TableOption.TheVariants as TableOption'
use Rattle.sql_tree.specs.declared.table.DefaultValue.{DefaultValue}
use Rattle.sql_tree.specs.declared.table.DefaultValue.TheVariants as DefaultValue'
use Rattle.sql_tree.specs.declared.table.Indexed.{Indexed}
use Rattle.sql_tree.specs.declared.table.ColumnCons.{ColumnCons}
use Rattle.sql_tree.specs.declared.table.ColumnCons.TheVariants as ColumnCons'
use Rattle.sql_tree.specs.declared.table.Column.{Column}
use Rattle.sql_tree.specs.declared.table.TableCons.{TableCons}
use Rattle.sql_tree.specs.declared.table.TableCons.TheVariants as TableCons'
use Rattle.sql_tree.specs.declared.table.TableConstraints.{TableConstraints}
use Rattle.sql_tree.specs.declared.table.TableBody.{TableBody}
use Rattle.sql_tree.specs.declared.table.IfNotExists.{IfNotExists}
use Rattle.sql_tree.specs.declared.table.CreateTable.{CreateTable}
use Rattle.sql_tree.specs.declared.index.CreateIndex.{CreateIndex}
use Rattle.sql_tree.specs.declared.index.CreateView.{CreateView}
use Rattle.sql_tree.specs.declared.statement.Target.{Target}
use Rattle.sql_tree.specs.declared.statement.Target.TheVariants as Target'
use Rattle.sql_tree.specs.declared.statement.Assignment.{Assignment}
use Rattle.sql_tree.specs.declared.statement.Sets.{Sets}
use Rattle.sql_tree.specs.declared.statement.UpsertTarget.{UpsertTarget}
use Rattle.sql_tree.specs.declared.statement.UpsertAction.{UpsertAction}
use Rattle.sql_tree.specs.declared.statement.UpsertAction.TheVariants as UpsertAction'
use Rattle.sql_tree.specs.declared.statement.Upsert.{Upsert}
use Rattle.sql_tree.specs.declared.statement.InsertVerb.{InsertVerb}
use Rattle.sql_tree.specs.declared.statement.InsertVerb.TheVariants as InsertVerb'
use Rattle.sql_tree.specs.declared.statement.Update.{Update}
use Rattle.sql_tree.specs.declared.statement.Insert.{Insert}
use Rattle.sql_tree.specs.declared.statement.Delete.{Delete}
use Rattle.sql_tree.specs.declared.statement.Statement.{Statement}
use Rattle.sql_tree.specs.declared.statement.Statement.TheVariants as Statement'
use Rattle.sql_tree.specs.declared.trigger.TriggerTime.{TriggerTime}
use Rattle.sql_tree.specs.declared.trigger.TriggerTime.TheVariants as TriggerTime'
use Rattle.sql_tree.specs.declared.trigger.TriggerEvent.{TriggerEvent}
use Rattle.sql_tree.specs.declared.trigger.TriggerEvent.TheVariants as TriggerEvent'
use Rattle.sql_tree.specs.declared.trigger.ForEachRow.{ForEachRow}
use Rattle.sql_tree.specs.declared.trigger.TriggerHead.{TriggerHead}
use Rattle.sql_tree.specs.declared.trigger.EndedStatement.{EndedStatement}
use Rattle.sql_tree.specs.declared.trigger.CreateTrigger.{CreateTrigger}

-- action | IGNORE | REPLACE
abbrev pub IsResolution : List ℕ → Resolution → Type 0
IsResolution text (Resolution'.Action x) = IsAction text x
IsResolution text (Resolution'.Ignore t) = IsFixed text K.Ignore t
IsResolution text (Resolution'.Replace t) = IsFixed text K.Replace t

-- ON CONFLICT (action | IGNORE | REPLACE)
abbrev pub IsConflict : List ℕ → Conflict → Type 0
IsConflict text x = IsFixed text K.On x.on × IsFixed text K.Conflict x.conflict × IsResolution text x.resolution

-- OR (action | IGNORE | REPLACE)
abbrev pub IsOrAction : List ℕ → OrAction → Type 0
IsOrAction text x = IsFixed text K.Or x.or × IsResolution text x.resolution

-- SET NULL | SET DEFAULT | CASCADE | RESTRICT | NO ACTION
abbrev pub IsReferenceAction : List ℕ → ReferenceAction → Type 0
IsReferenceAction text (ReferenceAction'.SetNull pair) = AreFixed text K.Set K.Null pair
IsReferenceAction text (ReferenceAction'.SetDefault pair) = AreFixed text K.Set K.Default pair
IsReferenceAction text (ReferenceAction'.Cascade t) = IsFixed text K.Cascade t
IsReferenceAction text (ReferenceAction'.Restrict t) = IsFixed text K.Restrict t
IsReferenceAction text (ReferenceAction'.NoAction pair) = AreFixed text K.No K.Action pair

-- ON (DELETE|UPDATE) reference-action | MATCH name
abbrev pub IsReferenceClause : List ℕ → ReferenceClause → Type 0
IsReferenceClause text (ReferenceClause'.On on event action) =
    IsFixed text K.On on × IsOneOf text (K.Delete ∷ K.Update ∷ []) event × IsReferenceAction text action
IsReferenceClause text (ReferenceClause'.Match matches name) = IsFixed text K.Match matches × IsName text name

-- [NOT] DEFERRABLE [INITIALLY (DEFERRED|IMMEDIATE)]
abbrev pub IsDeferral : List ℕ → Deferral → Type 0
IsDeferral text x =
    IfSome x.not (IsFixed text K.Not) × IsFixed text K.Deferrable x.deferrable
    × IfSome x.initially
    (λ pair. IsFixed text K.Initially pair.first × IsOneOf text (K.Deferred ∷ K.Immediate ∷ []) pair.second)

-- REFERENCES name ["(" names ")"] {reference-clause} [deferral]
abbrev pub IsReferences : List ℕ → References → Type 0
IsReferences text x =
    IsFixed text K.References x.references × IsName text x.table × IfSome x.columns (AreNames text)
    × AllByRecursion (IsReferenceClause text) x.clauses × IfSome x.deferral (IsDeferral text)

-- WITHOUT ROWID | STRICT
abbrev pub IsTableOption : List ℕ → TableOption → Type 0
IsTableOption text (TableOption'.WithoutRowid without rowid) =
    IsFixed text K.Without without × IsSpelledWord text (codes "rowid") rowid
IsTableOption text (TableOption'.Strict t) = IsSpelledWord text (codes "strict") t

-- ["+"|"-"] literal | name | "(" expr ")"; a Str directly behind DEFAULT is a literal
abbrev pub IsDefaultValue : List ℕ → ℕ → DefaultValue → Type 0
IsDefaultValue text n (DefaultValue'.Literal sign literal) =
    IfSome sign (λ t. IsSign text (codes "+") t ⊎ IsSign text (codes "-") t) × IsLiteral text literal
IsDefaultValue text n (DefaultValue'.Name name) =
    IsName text name × (name.kind ≡ Kind.Str → ⊥)
    × IsNoneOf text current_words name
IsDefaultValue text n (DefaultValue'.Expr x) = IsInParens text (IsExprAt text n) x

-- an expression in a list of keys of a table or an index: where it is one Str, with COLLATE or not, the Str is a column
abbrev pub IsKeyExpr : List ℕ → ℕ → Expr → Type 0
IsKeyExpr text n x = (read : Expr) × IsExprAt text n read × (x ≡ as_key n read)

-- expr [ASC|DESC]
abbrev pub IsIndexed : List ℕ → (Expr → Type 0) → Indexed → Type 0
IsIndexed text P x = P x.expr × IfSome x.direction (IsOneOf text (K.Asc ∷ K.Desc ∷ []))

-- the indexeds of a table or an index
abbrev pub IsKey : List ℕ → ℕ → Indexed → Type 0
IsKey text n x = IsIndexed text (IsKeyExpr text n) x

-- CONSTRAINT name | PRIMARY KEY [ASC|DESC] [conflict] [AUTOINCREMENT] | [NOT] NULL [conflict] | UNIQUE [conflict]
-- | CHECK "(" expr ")" | DEFAULT default | COLLATE name | references
-- | [GENERATED ALWAYS] AS "(" expr ")" [STORED|VIRTUAL]
abbrev pub IsColumnCons : List ℕ → ℕ → ColumnCons → Type 0
IsColumnCons text n (ColumnCons'.Constraint constraint name) = IsFixed text K.Constraint constraint × IsName text name
IsColumnCons text n (ColumnCons'.PrimaryKey primary key direction conflict autoincrement) =
    IsFixed text K.Primary primary × IsFixed text K.Key key × IfSome direction (IsOneOf text (K.Asc ∷ K.Desc ∷ []))
    × IfSome conflict (IsConflict text) × IfSome autoincrement (IsFixed text K.AutoIncrement)
IsColumnCons text n (ColumnCons'.Null not null conflict) =
    IfSome not (IsFixed text K.Not) × IsFixed text K.Null null × IfSome conflict (IsConflict text)
IsColumnCons text n (ColumnCons'.Unique unique conflict) =
    IsFixed text K.Unique unique × IfSome conflict (IsConflict text)
IsColumnCons text n (ColumnCons'.Check check expr) = IsFixed text K.Check check × IsInParens text (IsExprAt text n) expr
IsColumnCons text n (ColumnCons'.Default default value) = IsFixed text K.Default default × IsDefaultValue text n value
IsColumnCons text n (ColumnCons'.Collate collate name) = IsFixed text K.Collate collate × IsName text name
IsColumnCons text n (ColumnCons'.References x) = IsReferences text x
IsColumnCons text n (ColumnCons'.Generated generated as_word expr storage) =
    IfSome generated (AreFixed text K.Generated K.Always) × IsFixed text K.As as_word
    × IsInParens text (IsExprAt text n) expr
    × IfSome storage (λ t. IsSpelledWord text (codes "stored") t ⊎ IsFixed text K.Virtual t)

-- name [type] {column-cons}
abbrev pub IsColumn : List ℕ → ℕ → Column → Type 0
IsColumn text n x =
    IsName text x.name × IfSome x.column_type (IsColumnType text) × AllByRecursion (IsColumnCons text n) x.constraints

-- CONSTRAINT name | PRIMARY KEY "(" indexeds [AUTOINCREMENT] ")" [conflict] | UNIQUE "(" indexeds ")" [conflict]
-- | CHECK "(" expr ")" [conflict] | FOREIGN KEY "(" names ")" references
abbrev pub IsTableCons : List ℕ → ℕ → TableCons → Type 0
IsTableCons text n (TableCons'.Constraint constraint name) = IsFixed text K.Constraint constraint × IsName text name
IsTableCons text n (TableCons'.PrimaryKey primary key opening indexeds autoincrement closing conflict) =
    IsFixed text K.Primary primary × IsFixed text K.Key key × IsSign text (codes "(") opening
    × AreCommas text (IsKey text n) indexeds × IfSome autoincrement (IsFixed text K.AutoIncrement)
    × IsSign text (codes ")") closing × IfSome conflict (IsConflict text)
IsTableCons text n (TableCons'.Unique unique indexeds conflict) =
    IsFixed text K.Unique unique × IsInParens text (AreCommas text (IsKey text n)) indexeds
    × IfSome conflict (IsConflict text)
IsTableCons text n (TableCons'.Check check expr conflict) =
    IsFixed text K.Check check × IsInParens text (IsExprAt text n) expr × IfSome conflict (IsConflict text)
IsTableCons text n (TableCons'.ForeignKey foreign key names references) =
    IsFixed text K.Foreign foreign × IsFixed text K.Key key × AreNames text names × IsReferences text references

-- "," table-cons {[","] table-cons}
abbrev pub AreTableConstraints : List ℕ → ℕ → TableConstraints → Type 0
AreTableConstraints text n x =
    IsSign text (codes ",") x.comma × IsTableCons text n x.first
    × AllByRecursion (λ next. IfSome next.comma (IsSign text (codes ",")) × IsTableCons text n next.constraint) x.more

-- columns ["," table-cons {[","] table-cons}]
abbrev pub IsTableBody : List ℕ → ℕ → TableBody → Type 0
IsTableBody text n x = AreCommas text (IsColumn text n) x.columns × IfSome x.constraints (AreTableConstraints text n)

-- IF NOT EXISTS
abbrev pub IsIfNotExists : List ℕ → IfNotExists → Type 0
IsIfNotExists text x = IsFixed text K.If x.if_word × IsFixed text K.Not x.not × IsFixed text K.Exists x.exists

-- CREATE TABLE [IF NOT EXISTS] name "(" columns ["," table-cons {[","] table-cons}] ")" [options]
abbrev pub IsCreateTable : List ℕ → ℕ → CreateTable → Type 0
IsCreateTable text n x =
    IsFixed text K.Create x.create × IsFixed text K.Table x.table × IfSome x.if_not_exists (IsIfNotExists text)
    × IsName text x.name × IsInParens text (IsTableBody text n) x.body
    × IfSome x.options (AreCommas text (IsTableOption text))

-- CREATE [UNIQUE] INDEX [IF NOT EXISTS] name ON name "(" indexeds ")" [WHERE expr]
abbrev pub IsCreateIndex : List ℕ → ℕ → CreateIndex → Type 0
IsCreateIndex text n x =
    IsFixed text K.Create x.create × IfSome x.unique (IsFixed text K.Unique) × IsFixed text K.Index x.index
    × IfSome x.if_not_exists (IsIfNotExists text) × IsName text x.name × IsFixed text K.On x.on × IsName text x.table
    × IsInParens text (AreCommas text (IsKey text n)) x.indexeds
    × IfSome x.filter (IsAfter text K.Where (IsExprAt text n))

-- CREATE VIEW [IF NOT EXISTS] name ["(" names ")"] AS select
abbrev pub IsCreateView : List ℕ → ℕ → CreateView → Type 0
IsCreateView text n x =
    IsFixed text K.Create x.create × IsFixed text K.View x.view × IfSome x.if_not_exists (IsIfNotExists text)
    × IsName text x.name × IfSome x.columns (AreNames text) × IsFixed text K.As x.as_word × IsSelectAt text n x.select

-- (name | "(" names ")") "=" expr
abbrev pub IsAssignment : List ℕ → ℕ → Assignment → Type 0
IsAssignment text n x = IsTarget x.target × IsSign text (codes "=") x.equals × IsExprAt text n x.value
  where
    IsTarget : Target → Type 0
    IsTarget (Target'.Name name) = IsName text name
    IsTarget (Target'.Names names) = AreNames text names

-- SET sets
abbrev pub AreSets : List ℕ → ℕ → Sets → Type 0
AreSets text n x = IsFixed text K.Set x.set × AreCommas text (IsAssignment text n) x.assignments

-- "(" indexeds ")" [WHERE expr]
abbrev pub IsUpsertTarget : List ℕ → ℕ → UpsertTarget → Type 0
IsUpsertTarget text n x =
    IsInParens text (AreCommas text (IsIndexed text (IsExprAt text n))) x.indexeds
    × IfSome x.filter (IsAfter text K.Where (IsExprAt text n))

-- NOTHING | UPDATE SET sets [WHERE expr]
abbrev pub IsUpsertAction : List ℕ → ℕ → UpsertAction → Type 0
IsUpsertAction text n (UpsertAction'.Nothing t) = IsFixed text K.Nothing t
IsUpsertAction text n (UpsertAction'.Update update sets filter) =
    IsFixed text K.Update update × AreSets text n sets × IfSome filter (IsAfter text K.Where (IsExprAt text n))

-- ON CONFLICT ["(" indexeds ")" [WHERE expr]] DO (NOTHING | UPDATE SET sets [WHERE expr])
abbrev pub IsUpsert : List ℕ → ℕ → Upsert → Type 0
IsUpsert text n x =
    IsFixed text K.On x.on × IsFixed text K.Conflict x.conflict × IfSome x.target (IsUpsertTarget text n)
    × IsFixed text K.Do x.do_word × IsUpsertAction text n x.action

-- INSERT [or] | REPLACE
abbrev pub IsInsertVerb : List ℕ → InsertVerb → Type 0
IsInsertVerb text (InsertVerb'.Insert insert or) = IsFixed text K.Insert insert × IfSome or (IsOrAction text)
IsInsertVerb text (InsertVerb'.Replace t) = IsFixed text K.Replace t

-- (INSERT [or] | REPLACE) INTO name ["(" names ")"] select {upsert}; ON directly behind a joined source begins no upsert
abbrev pub IsInsert : List ℕ → ℕ → Insert → Type 0
IsInsert text n x =
    IsInsertVerb text x.verb × IsFixed text K.Into x.into × IsName text x.name × IfSome x.columns (AreNames text)
    × IsSelectAt text n x.select × AllByRecursion (IsUpsert text n) x.upserts × (IsTrue (ends_in_joined x.select) → x.upserts ≡ [])

-- UPDATE [or] name SET sets [FROM sources] [WHERE expr]
abbrev pub IsUpdate : List ℕ → ℕ → Update → Type 0
IsUpdate text n x =
    IsFixed text K.Update x.update × IfSome x.or (IsOrAction text) × IsName text x.name × AreSets text n x.sets
    × IfSome x.from (IsAfter text K.From (UsualAt text n).sources)
    × IfSome x.filter (IsAfter text K.Where (IsExprAt text n))

-- DELETE FROM name [WHERE expr]
abbrev pub IsDelete : List ℕ → ℕ → Delete → Type 0
IsDelete text n x =
    IsFixed text K.Delete x.delete × IsFixed text K.From x.from × IsName text x.name
    × IfSome x.filter (IsAfter text K.Where (IsExprAt text n))

-- select | UPDATE .. | INSERT .. | DELETE ..
abbrev pub IsStatement : List ℕ → ℕ → Statement → Type 0
IsStatement text n (Statement'.Select x) = IsSelectAt text n x
IsStatement text n (Statement'.Update x) = IsUpdate text n x
IsStatement text n (Statement'.Insert x) = IsInsert text n x
IsStatement text n (Statement'.Delete x) = IsDelete text n x

-- BEFORE | AFTER | INSTEAD OF
abbrev pub IsTriggerTime : List ℕ → TriggerTime → Type 0
IsTriggerTime text (TriggerTime'.Before t) = IsFixed text K.Before t
IsTriggerTime text (TriggerTime'.After t) = IsFixed text K.After t
IsTriggerTime text (TriggerTime'.InsteadOf pair) = AreFixed text K.Instead K.Of pair

-- DELETE | INSERT | UPDATE [OF names]
abbrev pub IsTriggerEvent : List ℕ → TriggerEvent → Type 0
IsTriggerEvent text (TriggerEvent'.Delete t) = IsFixed text K.Delete t
IsTriggerEvent text (TriggerEvent'.Insert t) = IsFixed text K.Insert t
IsTriggerEvent text (TriggerEvent'.Update update columns) =
    IsFixed text K.Update update × IfSome columns (IsAfter text K.Of (AreCommas text (IsName text)))

-- FOR EACH ROW
abbrev pub IsForEachRow : List ℕ → ForEachRow → Type 0
IsForEachRow text x = IsFixed text K.For x.for_word × IsFixed text K.Each x.each × IsFixed text K.Row x.row

-- [BEFORE|AFTER|INSTEAD OF] event ON object [FOR EACH ROW] [WHEN expr]
abbrev pub IsTriggerHead : List ℕ → ℕ → TriggerHead → Type 0
IsTriggerHead text n x =
    IfSome x.time (IsTriggerTime text) × IsTriggerEvent text x.event × IsFixed text K.On x.on × IsObject text x.object
    × IfSome x.for_each_row (IsForEachRow text) × IfSome x.condition (IsAfter text K.When (IsExprAt text n))

-- statement ";"
abbrev pub IsEndedStatement : List ℕ → ℕ → EndedStatement → Type 0
IsEndedStatement text n x = IsStatement text n x.statement × IsSign text (codes ";") x.semicolon

-- CREATE TRIGGER [IF NOT EXISTS] name [BEFORE|AFTER|INSTEAD OF] event ON object [FOR EACH ROW] [WHEN expr]
-- BEGIN statement ";" {statement ";"} END
abbrev pub IsCreateTrigger : List ℕ → ℕ → CreateTrigger → Type 0
IsCreateTrigger text n x =
    IsFixed text K.Create x.create × IsFixed text K.Trigger x.trigger × IfSome x.if_not_exists (IsIfNotExists text)
    × IsName text x.name × IsTriggerHead text n x.head × IsFixed text K.Begin x.begin × IsEndedStatement text n x.first
    × AllByRecursion (IsEndedStatement text n) x.more × IsFixed text K.End x.end

-- The tree is one of its rule, at some height of its expressions and selects, and spells the tokens of the text.

abbrev pub SpellsColumn : List ℕ → Column → List Token → Type 0
SpellsColumn text x tokens = ((n : ℕ) × IsColumn text n x) × (tokens ≡ column_tokens x)

abbrev pub SpellsTable : List ℕ → CreateTable → List Token → Type 0
SpellsTable text x tokens = ((n : ℕ) × IsCreateTable text n x) × (tokens ≡ create_table_tokens x)

abbrev pub SpellsIndex : List ℕ → CreateIndex → List Token → Type 0
SpellsIndex text x tokens = ((n : ℕ) × IsCreateIndex text n x) × (tokens ≡ create_index_tokens x)

abbrev pub SpellsView : List ℕ → CreateView → List Token → Type 0
SpellsView text x tokens = ((n : ℕ) × IsCreateView text n x) × (tokens ≡ create_view_tokens x)

abbrev pub SpellsTrigger : List ℕ → CreateTrigger → List Token → Type 0
SpellsTrigger text x tokens = ((n : ℕ) × IsCreateTrigger text n x) × (tokens ≡ create_trigger_tokens x)

abbrev pub SpellsTree : List ℕ → Tree → List Token → Type 0
SpellsTree text (Tree'.Table x) tokens = SpellsTable text x tokens
SpellsTree text (Tree'.Index x) tokens = SpellsIndex text x tokens
SpellsTree text (Tree'.View x) tokens = SpellsView text x tokens
SpellsTree text (Tree'.Trigger x) tokens = SpellsTrigger text x tokens
