-- The rules admit no less where more is admitted inside: at a greater height, and where more names of a column may stand alone.
use Rattle.std.proofs.Common.{ℕ, zero, suc, ◌≤◌, ◌⊎◌, List, [], ◌∷◌, Option, Some, None, IfSome, arith}
use Rattle.std.specs.Prelude.{codes}
use Rattle.std.specs.List.{AllByRecursion}
use Rattle.sql_token.specs.declared.token.Token.{Token}
use Rattle.sql_token.specs.declared.keyword.Keyword.{Keyword}
use Rattle.sql_token.specs.declared.keyword.Keyword.TheVariants as K
use Rattle.sql_token.specs.Fixed.{IsFixed, IsSign}
use Rattle.sql_expr.specs.Levels.{OpenInSet, OpenOperand, OpenPostfix, OpenArm, OpenTableSource, OpenSelectArm}
use Rattle.sql_expr.specs.Rules.{Inside, IsInParens, AreCommas, IsAfter, IsBy, IsColumnUse, IsTerm, IsBound, IsFrameExtent, IsFrame, IsWindow, IsNamedWindow, IsCallArguments, IsOver, IsCall, IsWhen, IsCase, IsCast, IsRaiseAction, IsRaise, IsRow, AreArguments, IsInSet, IsOperand, IsPostfix, IsPart, IsInfixPart, IsExpr, IsJoinConstraint, IsTableSource, IsJoinedSource, IsSources, IsCte, IsWith, IsLimit, IsResultItem, IsValuesRow, IsSelectArm, IsArm, IsCompoundArm, IsSelect, InsideAt, UsualAt}
use Rattle.sql_expr.specs.declared.lists.After.{After}
use Rattle.sql_expr.specs.declared.lists.InParens.{InParens}
use Rattle.sql_expr.specs.declared.lists.NextItem.{NextItem}
use Rattle.sql_expr.specs.declared.lists.Commas.{Commas}
use Rattle.sql_expr.specs.declared.lists.By.{By}
use Rattle.sql_expr.specs.declared.names.ColumnUse.{ColumnUse}
use Rattle.sql_expr.specs.declared.names.ColumnUse.TheVariants as ColumnUse'
use Rattle.sql_expr.specs.declared.window.Term.{Term}
use Rattle.sql_expr.specs.declared.window.Bound.{Bound}
use Rattle.sql_expr.specs.declared.window.Bound.TheVariants as Bound'
use Rattle.sql_expr.specs.declared.window.FrameExtent.{FrameExtent}
use Rattle.sql_expr.specs.declared.window.FrameExtent.TheVariants as FrameExtent'
use Rattle.sql_expr.specs.declared.window.Frame.{Frame}
use Rattle.sql_expr.specs.declared.window.Window.{Window}
use Rattle.sql_expr.specs.declared.window.NamedWindow.{NamedWindow}
use Rattle.sql_expr.specs.declared.call.CallArguments.{CallArguments}
use Rattle.sql_expr.specs.declared.call.CallArguments.TheVariants as CallArguments'
use Rattle.sql_expr.specs.declared.call.Over.{Over}
use Rattle.sql_expr.specs.declared.call.Over.TheVariants as Over'
use Rattle.sql_expr.specs.declared.call.Call.{Call}
use Rattle.sql_expr.specs.declared.call.When.{When}
use Rattle.sql_expr.specs.declared.call.Case.{Case}
use Rattle.sql_expr.specs.declared.call.Cast.{Cast}
use Rattle.sql_expr.specs.declared.call.RaiseAction.{RaiseAction}
use Rattle.sql_expr.specs.declared.call.RaiseAction.TheVariants as RaiseAction'
use Rattle.sql_expr.specs.declared.call.Raise.{Raise}
use Rattle.sql_expr.specs.declared.expr.Expr.{Expr, out-Expr}
use Rattle.sql_expr.specs.declared.expr.InfixPart.{InfixPart, out-InfixPart}
use Rattle.sql_expr.specs.declared.expr.Part.{Part, out-Part}
use Rattle.sql_expr.specs.declared.expr.Postfix.{Postfix, out-Postfix}
use Rattle.sql_expr.specs.declared.expr.InSet.{out-InSet}
use Rattle.sql_expr.specs.declared.expr.Operand.{out-Operand}
use Rattle.sql_expr.specs.declared.expr.InSet.TheOpen.{InSet-F, Operand-F, Postfix-F, Arm-F, TableSource-F}
use Rattle.sql_expr.specs.declared.source.JoinConstraint.{JoinConstraint}
use Rattle.sql_expr.specs.declared.source.JoinConstraint.TheVariants as JoinConstraint'
use Rattle.sql_expr.specs.declared.source.Sources.{Sources, out-Sources}
use Rattle.sql_expr.specs.declared.source.JoinedSource.{JoinedSource, out-JoinedSource}
use Rattle.sql_expr.specs.declared.source.TableSource.{out-TableSource}
use Rattle.sql_expr.specs.declared.select.Cte.{Cte}
use Rattle.sql_expr.specs.declared.select.With.{With}
use Rattle.sql_expr.specs.declared.select.Limit.{Limit}
use Rattle.sql_expr.specs.declared.select.ResultItem.{ResultItem}
use Rattle.sql_expr.specs.declared.select.ResultItem.TheVariants as ResultItem'
use Rattle.sql_expr.specs.declared.select.ValuesRow.{ValuesRow}
use Rattle.sql_expr.specs.declared.select.SelectArm.{out-SelectArm}
use Rattle.sql_expr.specs.declared.select.Arm.{out-Arm}
use Rattle.sql_expr.specs.declared.select.CompoundArm.{CompoundArm, out-CompoundArm}
use Rattle.sql_expr.specs.declared.select.Select.{Select, out-Select}

-- the other admits all that the one admits inside
pub record Wider (inside other : Inside) : Type 0 where
  pub column : (t : Token) → inside.column t → other.column t
  pub expr : (x : Expr) → inside.expr x → other.expr x
  pub select : (x : Select) → inside.select x → other.select x
  pub sources : (x : Sources) → inside.sources x → other.sources x

-- ---- parts that many rules have

pub some_more : {A : Type 0} {P Q : A → Type 0} → ((a : A) → P a → Q a) → (o : Option A) → IfSome o P → IfSome o Q
some_more more None h = tt
some_more more (Some a) h = more a h

pub all_more : {A : Type 0} {P Q : A → Type 0} → ((a : A) → P a → Q a) → (xs : List A) → AllByRecursion P xs → AllByRecursion Q xs
all_more more [] h = tt
all_more more (x ∷ xs) h = (more x h.0, all_more more xs h.1)

module _ (text : List ℕ) where
  pub in_parens_more : {A : Type 0} {P Q : A → Type 0} → ((a : A) → P a → Q a) → (x : InParens A) → IsInParens text P x → IsInParens text Q x
  in_parens_more more x h = (h.0, more x.inner h.1, h.2)

  pub commas_more : {A : Type 0} {P Q : A → Type 0} → ((a : A) → P a → Q a) → (x : Commas A) → AreCommas text P x → AreCommas text Q x
  commas_more {A} {P} {Q} more x h =
      let next_more : (next : NextItem A) → IsSign text (codes ",") next.comma × P next.item → IsSign text (codes ",") next.comma × Q next.item =
      λ next k. (k.0, more next.item k.1) in
      (more x.first h.0, all_more next_more x.more h.1)

  pub after_more : (keyword : Keyword) {A : Type 0} {P Q : A → Type 0} → ((a : A) → P a → Q a) → (x : After A) → IsAfter text keyword P x
      → IsAfter text keyword Q x
  after_more keyword more x h = (h.0, more x.part h.1)

  pub by_more : (keyword : Keyword) {A : Type 0} {P Q : A → Type 0} → ((a : A) → P a → Q a) → (x : By A) → IsBy text keyword P x
      → IsBy text keyword Q x
  by_more keyword more x h = (h.0, h.1, commas_more more x.items h.2)

-- ---- each rule

module _ (text : List ℕ) {inside other : Inside} (wider : Wider inside other) where
  pub column_use_more : (x : ColumnUse) → IsColumnUse text inside x → IsColumnUse text other x
  column_use_more (ColumnUse'.One name) h = wider.column name h
  column_use_more (ColumnUse'.Two table dot column) h = h
  column_use_more (ColumnUse'.Three schema first_dot table second_dot column) h = h

  pub term_more : (x : Term Expr) → IsTerm text inside x → IsTerm text other x
  term_more x h = (wider.expr x.expr h.0, h.1, h.2)

  pub bound_more : (x : Bound Expr) → IsBound text inside x → IsBound text other x
  bound_more (Bound'.Unbounded unbounded way) h = h
  bound_more (Bound'.CurrentRow current row) h = h
  bound_more (Bound'.Expr expr way) h = (wider.expr expr h.0, h.1, h.2)

  pub frame_extent_more : (x : FrameExtent Expr) → IsFrameExtent text inside x → IsFrameExtent text other x
  frame_extent_more (FrameExtent'.From bound) h = bound_more bound h
  frame_extent_more (FrameExtent'.Between between start and end) h = (h.0, bound_more start h.1, h.2, bound_more end h.3)

  pub frame_more : (x : Frame Expr) → IsFrame text inside x → IsFrame text other x
  frame_more x h = (h.0, frame_extent_more x.extent h.1, h.2)

  pub window_more : (x : Window Expr) → IsWindow text inside x → IsWindow text other x
  window_more x h = (
    h.0,
    h.1,
    some_more (by_more text K.Partition wider.expr) x.partition h.2,
    some_more (by_more text K.Order term_more) x.order h.3,
    some_more frame_more x.frame h.4,
    h.5,
  )

  pub named_window_more : (x : NamedWindow Expr) → IsNamedWindow text inside x → IsNamedWindow text other x
  named_window_more x h = (h.0, h.1, window_more x.window h.2)

  pub call_arguments_more : (x : CallArguments Expr) → IsCallArguments text inside x → IsCallArguments text other x
  call_arguments_more (CallArguments'.Star t) h = h
  call_arguments_more (CallArguments'.Exprs distinct exprs order) h =
      (h.0, commas_more text wider.expr exprs h.1, some_more (by_more text K.Order term_more) order h.2)

  pub over_more : (x : Over Expr) → IsOver text inside x → IsOver text other x
  over_more (Over'.Name over name) h = h
  over_more (Over'.Window over window) h = (h.0, window_more window h.1)

  pub call_more : (x : Call Expr) → IsCall text inside x → IsCall text other x
  call_more x h = (
    h.0,
    in_parens_more text (some_more call_arguments_more) x.arguments h.1,
    some_more (after_more text K.Filter (in_parens_more text (after_more text K.Where wider.expr))) x.filter h.2,
    some_more over_more x.over h.3,
  )

  pub when_more : (x : When Expr) → IsWhen text inside x → IsWhen text other x
  when_more x h = (h.0, wider.expr x.condition h.1, h.2, wider.expr x.result h.3)

  pub case_more : (x : Case Expr) → IsCase text inside x → IsCase text other x
  case_more x h = (
    h.0,
    some_more wider.expr x.subject h.1,
    when_more x.first h.2,
    all_more when_more x.more h.3,
    some_more (after_more text K.Else wider.expr) x.otherwise h.4,
    h.5,
  )

  pub cast_more : (x : Cast Expr) → IsCast text inside x → IsCast text other x
  cast_more x h = (h.0, h.1, wider.expr x.expr h.2, h.3, h.4, h.5)

  pub raise_action_more : (x : RaiseAction Expr) → IsRaiseAction text inside x → IsRaiseAction text other x
  raise_action_more (RaiseAction'.Ignore t) h = h
  raise_action_more (RaiseAction'.Action action message) h = (h.0, h.1, wider.expr message.item h.2)

  pub raise_more : (x : Raise Expr) → IsRaise text inside x → IsRaise text other x
  raise_more x h = (h.0, in_parens_more text raise_action_more x.action h.1)

  pub row_more : (x : Commas Expr) → IsRow text inside x → IsRow text other x
  row_more x h = (commas_more text wider.expr x h.0, h.1)

  pub arguments_more : (x : InParens (Option (Commas Expr))) → AreArguments text inside x → AreArguments text other x
  arguments_more x h = in_parens_more text (some_more (commas_more text wider.expr)) x h

  pub in_set_more : (x : OpenInSet) → IsInSet text inside x → IsInSet text other x
  in_set_more (InSet-F.List x) h = in_parens_more text (some_more row_more) x h
  in_set_more (InSet-F.Query x) h = in_parens_more text wider.select x h
  in_set_more (InSet-F.Object x) h = h
  in_set_more (InSet-F.Function name arguments) h = (h.0, arguments_more arguments h.1)

  pub operand_more : (x : OpenOperand) → IsOperand text inside x → IsOperand text other x
  operand_more (Operand-F.Literal x) h = h
  operand_more (Operand-F.Column x) h = column_use_more x h
  operand_more (Operand-F.Call x) h = call_more x h
  operand_more (Operand-F.Exprs x) h = in_parens_more text row_more x h
  operand_more (Operand-F.Subquery exists select) h = (h.0, in_parens_more text wider.select select h.1)
  operand_more (Operand-F.Case x) h = case_more x h
  operand_more (Operand-F.Cast x) h = cast_more x h
  operand_more (Operand-F.Raise x) h = raise_more x h

  pub postfix_more : (x : OpenPostfix) → IsPostfix text inside x → IsPostfix text other x
  postfix_more (Postfix-F.Collate collate name) h = h
  postfix_more (Postfix-F.IsNull t) h = h
  postfix_more (Postfix-F.NotNull t) h = h
  postfix_more (Postfix-F.NotNullWords not null) h = h
  postfix_more (Postfix-F.In not in_word set) h = (h.0, h.1, in_set_more (out-InSet set) h.2)

  pub part_more : (x : Part) → IsPart text inside x → IsPart text other x
  part_more x h =
      let postfixes_more : (y : Postfix) → IsPostfix text inside (out-Postfix y) → IsPostfix text other (out-Postfix y) =
      λ y k. postfix_more (out-Postfix y) k in
      (h.0, operand_more (out-Operand (out-Part x).operand) h.1, all_more postfixes_more (out-Part x).postfixes h.2)

  pub infix_part_more : (x : InfixPart) → IsInfixPart text inside x → IsInfixPart text other x
  infix_part_more x h = (h.0, part_more (out-InfixPart x).part h.1, h.2)

  pub expr_more : (x : Expr) → IsExpr text inside x → IsExpr text other x
  expr_more x h = (part_more (out-Expr x).first h.0, all_more infix_part_more (out-Expr x).more h.1)

  pub join_constraint_more : (x : JoinConstraint Expr) → IsJoinConstraint text inside x → IsJoinConstraint text other x
  join_constraint_more (JoinConstraint'.On x) h = after_more text K.On wider.expr x h
  join_constraint_more (JoinConstraint'.Using using names) h = h

  pub table_source_more : (x : OpenTableSource) → IsTableSource text inside x → IsTableSource text other x
  table_source_more (TableSource-F.Table object alias indexing) h = h
  table_source_more (TableSource-F.TableFunction name arguments alias) h = (h.0, arguments_more arguments h.1, h.2)
  table_source_more (TableSource-F.Derived select alias) h = (in_parens_more text wider.select select h.0, h.1)
  table_source_more (TableSource-F.Sources x) h = (h.0, (wider.sources x.inner h.1.0, h.1.1), h.2)

  pub joined_source_more : (x : JoinedSource) → IsJoinedSource text inside x → IsJoinedSource text other x
  joined_source_more x h = (
    h.0,
    table_source_more (out-TableSource (out-JoinedSource x).source) h.1,
    some_more join_constraint_more (out-JoinedSource x).constraint h.2,
  )

  pub sources_more : (x : Sources) → IsSources text inside x → IsSources text other x
  sources_more x h =
      (table_source_more (out-TableSource (out-Sources x).first) h.0, all_more joined_source_more (out-Sources x).more h.1)

  pub cte_more : (x : Cte Select) → IsCte text inside x → IsCte text other x
  cte_more x h = (h.0, h.1, h.2, h.3, in_parens_more text wider.select x.select h.4)

  pub with_more : (x : With Select) → IsWith text inside x → IsWith text other x
  with_more x h = (h.0, h.1, commas_more text cte_more x.ctes h.2, h.3)

  pub limit_more : (x : Limit Expr) → IsLimit text inside x → IsLimit text other x
  limit_more x h =
      let second_more : (y : After Expr) → (IsFixed text K.Offset y.word ⊎ IsSign text (codes ",") y.word) × inside.expr y.part
      → (IsFixed text K.Offset y.word ⊎ IsSign text (codes ",") y.word) × other.expr y.part =
      λ y k. (k.0, wider.expr y.part k.1) in
      (h.0, wider.expr x.count h.1, some_more second_more x.second h.2)

  pub result_item_more : (x : ResultItem Expr) → IsResultItem text inside x → IsResultItem text other x
  result_item_more (ResultItem'.Star t) h = h
  result_item_more (ResultItem'.AllOf name dot star) h = h
  result_item_more (ResultItem'.Expr expr alias) h = (wider.expr expr h.0, h.1)

  pub values_row_more : (x : ValuesRow Expr) → IsValuesRow text inside x → IsValuesRow text other x
  values_row_more x h = in_parens_more text (commas_more text wider.expr) x.exprs h

  pub select_arm_more : (x : OpenSelectArm) → IsSelectArm text inside x → IsSelectArm text other x
  select_arm_more x h = (
    h.0,
    h.1,
    commas_more text result_item_more x.items h.2,
    some_more (after_more text K.From wider.sources) x.from h.3,
    some_more (after_more text K.Where wider.expr) x.filter h.4,
    some_more (by_more text K.Group wider.expr) x.group h.5,
    some_more (after_more text K.Having wider.expr) x.having h.6,
    some_more (after_more text K.Window (commas_more text named_window_more)) x.windows h.7,
  )

  pub arm_more : (x : OpenArm) → IsArm text inside x → IsArm text other x
  arm_more (Arm-F.Select x) h = select_arm_more (out-SelectArm x) h
  arm_more (Arm-F.Values values rows) h = (h.0, commas_more text values_row_more rows h.1)

  pub compound_arm_more : (x : CompoundArm) → IsCompoundArm text inside x → IsCompoundArm text other x
  compound_arm_more x h = (h.0, arm_more (out-Arm (out-CompoundArm x).arm) h.1)

  pub select_more : (x : Select) → IsSelect text inside x → IsSelect text other x
  select_more x h = (
    some_more with_more (out-Select x).with_clause h.0,
    arm_more (out-Arm (out-Select x).arm) h.1,
    all_more compound_arm_more (out-Select x).compounds h.2,
    some_more (by_more text K.Order term_more) (out-Select x).order h.3,
    some_more limit_more (out-Select x).limit h.4,
  )

-- ---- by height

-- where more names of a column may stand alone, and the height is no less, no less is admitted inside
pub inside_more : (text : List ℕ) {P Q : Token → Type 0} → ((t : Token) → P t → Q t) → (n m : ℕ) → n ≤ m
    → Wider (InsideAt text P n) (InsideAt text Q m)
inside_more text columns zero zero fewer =
    record { column = columns; expr = λ x h. absurd h; select = λ x h. absurd h; sources = λ x h. absurd h }
inside_more text columns zero (suc m) fewer =
    record { column = columns; expr = λ x h. absurd h; select = λ x h. absurd h; sources = λ x h. absurd h }
inside_more text columns (suc n) zero fewer = absurd (omega arith)
inside_more text columns (suc n) (suc m) fewer =
    let below = inside_more text columns n m (omega arith) in
    record { column = columns; expr = expr_more text below; select = select_more text below; sources = sources_more text below }

-- a greater height admits no less
pub higher : (text : List ℕ) (n m : ℕ) → n ≤ m → Wider (UsualAt text n) (UsualAt text m)
higher text n m fewer = inside_more text (λ t h. h) n m fewer
