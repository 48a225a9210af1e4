-- The rules above expressions and selects admit no less at a greater height of these.
use Rattle.std.proofs.Common.{ℕ, ◌≤◌, List, IfSome}
use Rattle.std.specs.Prelude.{codes}
use Rattle.sql_token.specs.declared.keyword.Keyword.TheVariants as K
use Rattle.sql_token.specs.Fixed.{IsSign}
use Rattle.sql_expr.specs.Rules.{IsExprAt, IsSelectAt}
use Rattle.sql_expr.specs.declared.expr.Expr.{Expr}
use Rattle.sql_expr.specs.declared.select.Select.{Select}
use Rattle.sql_expr.proofs.Heights.{some_more, all_more, in_parens_more, commas_more, after_more, higher}
use Rattle.sql_tree.specs.Rules.{IsDefaultValue, IsIndexed, IsKey, IsColumnCons, IsColumn, IsTableCons, AreTableConstraints, IsTableBody, IsCreateTable, IsCreateIndex, IsCreateView, IsAssignment, AreSets, IsUpsertTarget, IsUpsertAction, IsUpsert, IsInsert, IsUpdate, IsDelete, IsStatement, IsTriggerHead, IsEndedStatement, IsCreateTrigger}
use Rattle.sql_tree.specs.declared.table.DefaultValue.{DefaultValue}
use Rattle.sql_tree.specs.declared.table.DefaultValue.TheVariants as DefaultValue'
use Rattle.sql_tree.specs.declared.table.Indexed.{Indexed}
use Rattle.sql_tree.specs.declared.table.ColumnCons.{ColumnCons}
use Rattle.sql_tree.specs.declared.table.ColumnCons.TheVariants as ColumnCons'
use Rattle.sql_tree.specs.declared.table.Column.{Column}
use Rattle.sql_tree.specs.declared.table.TableCons.{TableCons}
use Rattle.sql_tree.specs.declared.table.TableCons.TheVariants as TableCons'
use Rattle.sql_tree.specs.declared.table.NextTableCons.{NextTableCons}
use Rattle.sql_tree.specs.declared.table.TableConstraints.{TableConstraints}
use Rattle.sql_tree.specs.declared.table.TableBody.{TableBody}
use Rattle.sql_tree.specs.declared.table.CreateTable.{CreateTable}
use Rattle.sql_tree.specs.declared.index.CreateIndex.{CreateIndex}
use Rattle.sql_tree.specs.declared.index.CreateView.{CreateView}
use Rattle.sql_tree.specs.declared.statement.Assignment.{Assignment}
use Rattle.sql_tree.specs.declared.statement.Sets.{Sets}
use Rattle.sql_tree.specs.declared.statement.UpsertTarget.{UpsertTarget}
use Rattle.sql_tree.specs.declared.statement.UpsertAction.{UpsertAction}
use Rattle.sql_tree.specs.declared.statement.UpsertAction.TheVariants as UpsertAction'
use Rattle.sql_tree.specs.declared.statement.Upsert.{Upsert}
use Rattle.sql_tree.specs.declared.statement.Update.{Update}
use Rattle.sql_tree.specs.declared.statement.Insert.{Insert}
use Rattle.sql_tree.specs.declared.statement.Delete.{Delete}
use Rattle.sql_tree.specs.declared.statement.Statement.{Statement}
use Rattle.sql_tree.specs.declared.statement.Statement.TheVariants as Statement'
use Rattle.sql_tree.specs.declared.trigger.TriggerHead.{TriggerHead}
use Rattle.sql_tree.specs.declared.trigger.EndedStatement.{EndedStatement}
use Rattle.sql_tree.specs.declared.trigger.CreateTrigger.{CreateTrigger}
use Rattle.sql_tree.proofs.KeysSaid.{key_higher}

module _ (text : List ℕ) (n m : ℕ) (fewer : n ≤ m) where
  pub expr_higher : (x : Expr) → IsExprAt text n x → IsExprAt text m x
  expr_higher = (higher text n m fewer).expr

  pub select_higher : (x : Select) → IsSelectAt text n x → IsSelectAt text m x
  select_higher = (higher text n m fewer).select

  pub default_value_higher : (x : DefaultValue) → IsDefaultValue text n x → IsDefaultValue text m x
  default_value_higher (DefaultValue'.Literal sign literal) h = h
  default_value_higher (DefaultValue'.Name name) h = h
  default_value_higher (DefaultValue'.Expr x) h = in_parens_more text expr_higher x h

  pub indexed_key_higher : (x : Indexed) → IsKey text n x → IsKey text m x
  indexed_key_higher x h = (key_higher text n m x.expr fewer h.0, h.1)

  pub indexed_higher : (x : Indexed) → IsIndexed text (IsExprAt text n) x → IsIndexed text (IsExprAt text m) x
  indexed_higher x h = (expr_higher x.expr h.0, h.1)

  pub column_cons_higher : (x : ColumnCons) → IsColumnCons text n x → IsColumnCons text m x
  column_cons_higher (ColumnCons'.Constraint constraint name) h = h
  column_cons_higher (ColumnCons'.PrimaryKey primary key direction conflict autoincrement) h = h
  column_cons_higher (ColumnCons'.Null not null conflict) h = h
  column_cons_higher (ColumnCons'.Unique unique conflict) h = h
  column_cons_higher (ColumnCons'.Check check expr) h = (h.0, in_parens_more text expr_higher expr h.1)
  column_cons_higher (ColumnCons'.Default default value) h = (h.0, default_value_higher value h.1)
  column_cons_higher (ColumnCons'.Collate collate name) h = h
  column_cons_higher (ColumnCons'.References x) h = h
  column_cons_higher (ColumnCons'.Generated generated as_word expr storage) h = (h.0, h.1, in_parens_more text expr_higher expr h.2, h.3)

  pub column_higher : (x : Column) → IsColumn text n x → IsColumn text m x
  column_higher x h = (h.0, h.1, all_more column_cons_higher x.constraints h.2)

  pub table_cons_higher : (x : TableCons) → IsTableCons text n x → IsTableCons text m x
  table_cons_higher (TableCons'.Constraint constraint name) h = h
  table_cons_higher (TableCons'.PrimaryKey primary key opening indexeds autoincrement closing conflict) h =
      (h.0, h.1, h.2, commas_more text indexed_key_higher indexeds h.3, h.4, h.5, h.6)
  table_cons_higher (TableCons'.Unique unique indexeds conflict) h =
      (h.0, in_parens_more text (commas_more text indexed_key_higher) indexeds h.1, h.2)
  table_cons_higher (TableCons'.Check check expr conflict) h = (h.0, in_parens_more text expr_higher expr h.1, h.2)
  table_cons_higher (TableCons'.ForeignKey foreign key names references) h = h

  pub table_constraints_higher : (x : TableConstraints) → AreTableConstraints text n x → AreTableConstraints text m x
  table_constraints_higher x h =
      let next_higher : (next : NextTableCons) → IfSome next.comma (IsSign text (codes ",")) × IsTableCons text n next.constraint
      → IfSome next.comma (IsSign text (codes ",")) × IsTableCons text m next.constraint =
      λ next k. (k.0, table_cons_higher next.constraint k.1) in
      (h.0, table_cons_higher x.first h.1, all_more next_higher x.more h.2)

  pub table_body_higher : (x : TableBody) → IsTableBody text n x → IsTableBody text m x
  table_body_higher x h = (commas_more text column_higher x.columns h.0, some_more table_constraints_higher x.constraints h.1)

  pub create_table_higher : (x : CreateTable) → IsCreateTable text n x → IsCreateTable text m x
  create_table_higher x h = (h.0, h.1, h.2, h.3, in_parens_more text table_body_higher x.body h.4, h.5)

  pub create_index_higher : (x : CreateIndex) → IsCreateIndex text n x → IsCreateIndex text m x
  create_index_higher x h = (
    h.0,
    h.1,
    h.2,
    h.3,
    h.4,
    h.5,
    h.6,
    in_parens_more text (commas_more text indexed_key_higher) x.indexeds h.7,
    some_more (after_more text K.Where expr_higher) x.filter h.8,
  )

  pub create_view_higher : (x : CreateView) → IsCreateView text n x → IsCreateView text m x
  create_view_higher x h = (h.0, h.1, h.2, h.3, h.4, h.5, select_higher x.select h.6)

  pub assignment_higher : (x : Assignment) → IsAssignment text n x → IsAssignment text m x
  assignment_higher x h = (h.0, h.1, expr_higher x.value h.2)

  pub sets_higher : (x : Sets) → AreSets text n x → AreSets text m x
  sets_higher x h = (h.0, commas_more text assignment_higher x.assignments h.1)

  pub upsert_target_higher : (x : UpsertTarget) → IsUpsertTarget text n x → IsUpsertTarget text m x
  upsert_target_higher x h = (
    in_parens_more text (commas_more text indexed_higher) x.indexeds h.0,
    some_more (after_more text K.Where expr_higher) x.filter h.1,
  )

  pub upsert_action_higher : (x : UpsertAction) → IsUpsertAction text n x → IsUpsertAction text m x
  upsert_action_higher (UpsertAction'.Nothing t) h = h
  upsert_action_higher (UpsertAction'.Update update sets filter) h =
      (h.0, sets_higher sets h.1, some_more (after_more text K.Where expr_higher) filter h.2)

  pub upsert_higher : (x : Upsert) → IsUpsert text n x → IsUpsert text m x
  upsert_higher x h = (h.0, h.1, some_more upsert_target_higher x.target h.2, h.3, upsert_action_higher x.action h.4)

  pub insert_higher : (x : Insert) → IsInsert text n x → IsInsert text m x
  insert_higher x h = (h.0, h.1, h.2, h.3, select_higher x.select h.4, all_more upsert_higher x.upserts h.5, h.6)

  pub update_higher : (x : Update) → IsUpdate text n x → IsUpdate text m x
  update_higher x h = (
    h.0,
    h.1,
    h.2,
    sets_higher x.sets h.3,
    some_more (after_more text K.From (higher text n m fewer).sources) x.from h.4,
    some_more (after_more text K.Where expr_higher) x.filter h.5,
  )

  pub delete_higher : (x : Delete) → IsDelete text n x → IsDelete text m x
  delete_higher x h = (h.0, h.1, h.2, some_more (after_more text K.Where expr_higher) x.filter h.3)

  pub statement_higher : (x : Statement) → IsStatement text n x → IsStatement text m x
  statement_higher (Statement'.Select x) h = select_higher x h
  statement_higher (Statement'.Update x) h = update_higher x h
  statement_higher (Statement'.Insert x) h = insert_higher x h
  statement_higher (Statement'.Delete x) h = delete_higher x h

  pub trigger_head_higher : (x : TriggerHead) → IsTriggerHead text n x → IsTriggerHead text m x
  trigger_head_higher x h = (h.0, h.1, h.2, h.3, h.4, some_more (after_more text K.When expr_higher) x.condition h.5)

  pub ended_statement_higher : (x : EndedStatement) → IsEndedStatement text n x → IsEndedStatement text m x
  ended_statement_higher x h = (statement_higher x.statement h.0, h.1)

  pub create_trigger_higher : (x : CreateTrigger) → IsCreateTrigger text n x → IsCreateTrigger text m x
  create_trigger_higher x h = (
    h.0,
    h.1,
    h.2,
    h.3,
    trigger_head_higher x.head h.4,
    h.5,
    ended_statement_higher x.first h.6,
    all_more ended_statement_higher x.more h.7,
    h.8,
  )
