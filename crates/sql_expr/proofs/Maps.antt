use Rattle.std.specs.Prelude.{List, [], ◌∷◌, ◌++◌, ◌≡◌, Option, Some, None, map}
use mathlib.Core.Path.{refl}
use mathlib.Core.Logic.{◌⊎◌, inl, inr}
use Rattle.sql_token.specs.declared.token.Token.{Token}
use Rattle.sql_token.specs.Spelled.{one, maybe, flat}
use Rattle.sql_expr.specs.Tokens.{action_tokens, after_tokens, alias_tokens, bound_tokens, by_tokens, call_arguments_tokens, call_tokens, case_tokens, cast_tokens, column_type_tokens, commas_tokens, cte_tokens, excluded_tokens, frame_extent_tokens, frame_tokens, in_parens_tokens, join_constraint_tokens, limit_tokens, materialized_tokens, named_window_tokens, next_item_tokens, over_tokens, raise_action_tokens, raise_tokens, result_item_tokens, term_tokens, token_pair_tokens, values_row_tokens, when_tokens, window_tokens, with_tokens}
use Rattle.sql_expr.specs.declared.lists.After.{After}
use Rattle.sql_expr.specs.declared.lists.InParens.{InParens}
use Rattle.sql_expr.specs.declared.lists.NextItem.{NextItem}
use Rattle.sql_expr.specs.declared.lists.Commas.{Commas}
use Rattle.sql_expr.specs.declared.lists.By.{By}
use Rattle.sql_expr.specs.declared.window.Term.{Term}
use Rattle.sql_expr.specs.declared.window.Bound.{Bound}
use Rattle.sql_expr.specs.declared.window.Bound.TheVariants as Bound'
use Rattle.sql_expr.specs.declared.window.FrameExtent.{FrameExtent}
use Rattle.sql_expr.specs.declared.window.FrameExtent.TheVariants as FrameExtent'
use Rattle.sql_expr.specs.declared.window.Frame.{Frame}
use Rattle.sql_expr.specs.declared.window.Window.{Window}
use Rattle.sql_expr.specs.declared.window.NamedWindow.{NamedWindow}
use Rattle.sql_expr.specs.declared.call.CallArguments.{CallArguments}
use Rattle.sql_expr.specs.declared.call.CallArguments.TheVariants as CallArguments'
use Rattle.sql_expr.specs.declared.call.Over.{Over}
use Rattle.sql_expr.specs.declared.call.Over.TheVariants as Over'
use Rattle.sql_expr.specs.declared.call.Call.{Call}
use Rattle.sql_expr.specs.declared.call.When.{When}
use Rattle.sql_expr.specs.declared.call.Case.{Case}
use Rattle.sql_expr.specs.declared.call.Cast.{Cast}
use Rattle.sql_expr.specs.declared.call.RaiseAction.{RaiseAction}
use Rattle.sql_expr.specs.declared.call.RaiseAction.TheVariants as RaiseAction'
use Rattle.sql_expr.specs.declared.call.Raise.{Raise}
use Rattle.sql_expr.specs.declared.source.JoinConstraint.{JoinConstraint}
use Rattle.sql_expr.specs.declared.source.JoinConstraint.TheVariants as JoinConstraint'
use Rattle.sql_expr.specs.declared.select.Cte.{Cte}
use Rattle.sql_expr.specs.declared.select.With.{With}
use Rattle.sql_expr.specs.declared.select.Limit.{Limit}
use Rattle.sql_expr.specs.declared.select.ResultItem.{ResultItem}
use Rattle.sql_expr.specs.declared.select.ResultItem.TheVariants as ResultItem'
use Rattle.sql_expr.specs.declared.select.ValuesRow.{ValuesRow}
use Rattle.sql_expr.specs.declared.expr.InSet.TheShapes as Shapes

-- `Option`'s map, made as the fold makes it
abbrev split : {X : Type 0} → Option X → Unit {0} ⊎ ((X × Unit {0}) ⊎ ⊥)
split None = inl tt
split (Some x) = inr (inl (x, tt))

abbrev join : {X : Type 0} → Unit {0} ⊎ ((X × Unit {0}) ⊎ ⊥) → Option X
join (inl x) = None
join (inr (inl x)) = Some x.0
join (inr (inr z)) = absurd z

abbrev or_map : {A B C D : Type 0} → (A → C) → (B → D) → A ⊎ B → C ⊎ D
or_map f g (inl x) = inl (f x)
or_map f g (inr x) = inr (g x)

abbrev pub option_map : {X Y : Type 0} → (X → Y) → Option X → Option Y
option_map m x = join (or_map (λ u. u) (or_map (λ p. (m p.0, p.1)) (λ z. z)) (split x))

pub flat-map : {A B : Type 0} (g : B → List Token) (h : A → List Token) (m : A → B) → ((x : A) → g (m x) ≡ h x)
    → (xs : List A) → flat g (map m xs) ≡ flat h xs
flat-map g h m at [] = refl
flat-map g h m at (x ∷ xs) = λ i. at x i ++ flat-map g h m at xs i

pub maybe-map : {A B : Type 0} (g : B → List Token) (h : A → List Token) (m : A → B) → ((x : A) → g (m x) ≡ h x)
    → (x : Option A) → maybe g (option_map m x) ≡ maybe h x
maybe-map g h m at None = refl
maybe-map g h m at (Some x) = at x

abbrev pub after_map : {A B : Type 0} → (A → B) → After A → After B
after_map m x = record { word = x.word; part = m x.part }

pub after-map : {A B : Type 0} (g : B → List Token) (h : A → List Token) (m : A → B) → ((x : A) → g (m x) ≡ h x)
    → (x : After A) → after_tokens g (after_map m x) ≡ after_tokens h x
after-map g h m at x = λ i. one x.word ++ at x.part i

abbrev pub in_parens_map : {A B : Type 0} → (A → B) → InParens A → InParens B
in_parens_map m x = record { opening = x.opening; inner = m x.inner; closing = x.closing }

pub in_parens-map : {A B : Type 0} (g : B → List Token) (h : A → List Token) (m : A → B) → ((x : A) → g (m x) ≡ h x)
    → (x : InParens A) → in_parens_tokens g (in_parens_map m x) ≡ in_parens_tokens h x
in_parens-map g h m at x = λ i. one x.opening ++ at x.inner i ++ one x.closing

abbrev pub next_item_map : {A B : Type 0} → (A → B) → NextItem A → NextItem B
next_item_map m x = record { comma = x.comma; item = m x.item }

pub next_item-map : {A B : Type 0} (g : B → List Token) (h : A → List Token) (m : A → B) → ((x : A) → g (m x) ≡ h x)
    → (x : NextItem A) → next_item_tokens g (next_item_map m x) ≡ next_item_tokens h x
next_item-map g h m at x = λ i. one x.comma ++ at x.item i

abbrev pub commas_map : {A B : Type 0} → (A → B) → Commas A → Commas B
commas_map m x = record { first = m x.first; more = map (next_item_map m) x.more }

pub commas-map : {A B : Type 0} (g : B → List Token) (h : A → List Token) (m : A → B) → ((x : A) → g (m x) ≡ h x)
    → (x : Commas A) → commas_tokens g (commas_map m x) ≡ commas_tokens h x
commas-map g h m at x =
    λ i. at x.first i
    ++ flat-map (next_item_tokens g) (next_item_tokens h) (next_item_map m) (next_item-map g h m at) x.more i

abbrev pub by_map : {A B : Type 0} → (A → B) → By A → By B
by_map m x = record { word = x.word; by = x.by; items = commas_map m x.items }

pub by-map : {A B : Type 0} (g : B → List Token) (h : A → List Token) (m : A → B) → ((x : A) → g (m x) ≡ h x)
    → (x : By A) → by_tokens g (by_map m x) ≡ by_tokens h x
by-map g h m at x = λ i. one x.word ++ one x.by ++ commas-map g h m at x.items i

abbrev pub term_map : {A B : Type 0} → (A → B) → Term A → Term B
term_map m x = record { expr = m x.expr; direction = x.direction; nulls = x.nulls }

pub term-map : {A B : Type 0} (g : B → List Token) (h : A → List Token) (m : A → B) → ((x : A) → g (m x) ≡ h x)
    → (x : Term A) → term_tokens g (term_map m x) ≡ term_tokens h x
term-map g h m at x = λ i. at x.expr i ++ maybe one x.direction ++ maybe token_pair_tokens x.nulls

abbrev pub bound_map : {A B : Type 0} → (A → B) → Bound A → Bound B
bound_map m x = (Shapes.former-Operand-Call-0-at-77).map _ _ m x

pub bound-map : {A B : Type 0} (g : B → List Token) (h : A → List Token) (m : A → B) → ((x : A) → g (m x) ≡ h x)
    → (x : Bound A) → bound_tokens g (bound_map m x) ≡ bound_tokens h x
bound-map g h m at (Bound'.Unbounded unbounded way) = refl
bound-map g h m at (Bound'.CurrentRow current row) = refl
bound-map g h m at (Bound'.Expr expr way) = λ i. at expr i ++ one way

abbrev pub frame_extent_map : {A B : Type 0} → (A → B) → FrameExtent A → FrameExtent B
frame_extent_map m x = (Shapes.former-Operand-Call-0-at-94).map _ _ m x

pub frame_extent-map : {A B : Type 0} (g : B → List Token) (h : A → List Token) (m : A → B) → ((x : A) → g (m x) ≡ h x)
    → (x : FrameExtent A) → frame_extent_tokens g (frame_extent_map m x) ≡ frame_extent_tokens h x
frame_extent-map g h m at (FrameExtent'.From part) = λ i. bound-map g h m at part i
frame_extent-map g h m at (FrameExtent'.Between between start and end) =
    λ i. one between ++ bound-map g h m at start i ++ one and ++ bound-map g h m at end i

abbrev pub frame_map : {A B : Type 0} → (A → B) → Frame A → Frame B
frame_map m x = record { unit = x.unit; extent = frame_extent_map m x.extent; exclude = x.exclude }

pub frame-map : {A B : Type 0} (g : B → List Token) (h : A → List Token) (m : A → B) → ((x : A) → g (m x) ≡ h x)
    → (x : Frame A) → frame_tokens g (frame_map m x) ≡ frame_tokens h x
frame-map g h m at x =
    λ i. one x.unit ++ frame_extent-map g h m at x.extent i ++ maybe (after_tokens excluded_tokens) x.exclude

abbrev pub window_map : {A B : Type 0} → (A → B) → Window A → Window B
window_map m x =
    record {
      opening = x.opening;
      base = x.base;
      partition = option_map (by_map m) x.partition;
      order = option_map
          (by_map (term_map m)) x.order;
      frame = option_map (frame_map m) x.frame;
      closing = x.closing;
    }

pub window-map : {A B : Type 0} (g : B → List Token) (h : A → List Token) (m : A → B) → ((x : A) → g (m x) ≡ h x)
    → (x : Window A) → window_tokens g (window_map m x) ≡ window_tokens h x
window-map g h m at x =
    λ i. one x.opening ++ maybe one x.base
    ++ maybe-map (by_tokens g) (by_tokens h) (by_map m) (by-map g h m at) x.partition i
    ++ maybe-map (by_tokens (term_tokens g)) (by_tokens (term_tokens h)) (by_map (term_map m))
    (by-map (term_tokens g) (term_tokens h) (term_map m) (term-map g h m at)) x.order i
    ++ maybe-map (frame_tokens g) (frame_tokens h) (frame_map m) (frame-map g h m at) x.frame i ++ one x.closing

abbrev pub named_window_map : {A B : Type 0} → (A → B) → NamedWindow A → NamedWindow B
named_window_map m x = record { name = x.name; as_word = x.as_word; window = window_map m x.window }

pub named_window-map : {A B : Type 0} (g : B → List Token) (h : A → List Token) (m : A → B) → ((x : A) → g (m x) ≡ h x)
    → (x : NamedWindow A) → named_window_tokens g (named_window_map m x) ≡ named_window_tokens h x
named_window-map g h m at x = λ i. one x.name ++ one x.as_word ++ window-map g h m at x.window i

abbrev pub call_arguments_map : {A B : Type 0} → (A → B) → CallArguments A → CallArguments B
call_arguments_map m x = (Shapes.former-Operand-Call-0-at-26).map _ _ m x

pub call_arguments-map : {A B : Type 0} (g : B → List Token) (h : A → List Token) (m : A → B)
    → ((x : A) → g (m x) ≡ h x) → (x : CallArguments A)
    → call_arguments_tokens g (call_arguments_map m x) ≡ call_arguments_tokens h x
call_arguments-map g h m at (CallArguments'.Star part) = refl
call_arguments-map g h m at (CallArguments'.Exprs distinct exprs order) =
    λ i. maybe one distinct ++ commas-map g h m at exprs i
    ++ maybe-map (by_tokens (term_tokens g)) (by_tokens (term_tokens h)) (by_map (term_map m))
    (by-map (term_tokens g) (term_tokens h) (term_map m) (term-map g h m at)) order i

abbrev pub over_map : {A B : Type 0} → (A → B) → Over A → Over B
over_map m x = (Shapes.former-Operand-Call-0-at-101).map _ _ m x

pub over-map : {A B : Type 0} (g : B → List Token) (h : A → List Token) (m : A → B) → ((x : A) → g (m x) ≡ h x)
    → (x : Over A) → over_tokens g (over_map m x) ≡ over_tokens h x
over-map g h m at (Over'.Name over name) = refl
over-map g h m at (Over'.Window over window) = λ i. one over ++ window-map g h m at window i

abbrev pub call_map : {A B : Type 0} → (A → B) → Call A → Call B
call_map m x =
    record {
      name = x.name;
      arguments = in_parens_map (option_map (call_arguments_map m)) x.arguments;
      filter =
          option_map (after_map (in_parens_map (after_map m))) x.filter;
      over = option_map (over_map m) x.over;
    }

pub call-map : {A B : Type 0} (g : B → List Token) (h : A → List Token) (m : A → B) → ((x : A) → g (m x) ≡ h x)
    → (x : Call A) → call_tokens g (call_map m x) ≡ call_tokens h x
call-map g h m at x =
    λ i. one x.name
    ++ in_parens-map (maybe (call_arguments_tokens g)) (maybe (call_arguments_tokens h))
    (option_map (call_arguments_map m))
    (maybe-map (call_arguments_tokens g) (call_arguments_tokens h) (call_arguments_map m)
    (call_arguments-map g h m at)) x.arguments i
    ++ maybe-map (after_tokens (in_parens_tokens (after_tokens g))) (after_tokens (in_parens_tokens (after_tokens h)))
    (after_map (in_parens_map (after_map m)))
    (after-map (in_parens_tokens (after_tokens g)) (in_parens_tokens (after_tokens h)) (in_parens_map (after_map m))
    (in_parens-map (after_tokens g) (after_tokens h) (after_map m) (after-map g h m at))) x.filter i
    ++ maybe-map (over_tokens g) (over_tokens h) (over_map m) (over-map g h m at) x.over i

abbrev pub when_map : {A B : Type 0} → (A → B) → When A → When B
when_map m x = record { when = x.when; condition = m x.condition; then_word = x.then_word; result = m x.result }

pub when-map : {A B : Type 0} (g : B → List Token) (h : A → List Token) (m : A → B) → ((x : A) → g (m x) ≡ h x)
    → (x : When A) → when_tokens g (when_map m x) ≡ when_tokens h x
when-map g h m at x = λ i. one x.when ++ at x.condition i ++ one x.then_word ++ at x.result i

abbrev pub case_map : {A B : Type 0} → (A → B) → Case A → Case B
case_map m x =
    record {
      case = x.case;
      subject = option_map m x.subject;
      first = when_map m x.first;
      more = map (when_map m)
          x.more;
      otherwise = option_map (after_map m) x.otherwise;
      end = x.end;
    }

pub case-map : {A B : Type 0} (g : B → List Token) (h : A → List Token) (m : A → B) → ((x : A) → g (m x) ≡ h x)
    → (x : Case A) → case_tokens g (case_map m x) ≡ case_tokens h x
case-map g h m at x =
    λ i. one x.case ++ maybe-map g h m at x.subject i ++ when-map g h m at x.first i
    ++ flat-map (when_tokens g) (when_tokens h) (when_map m) (when-map g h m at) x.more i
    ++ maybe-map (after_tokens g) (after_tokens h) (after_map m) (after-map g h m at) x.otherwise i ++ one x.end

abbrev pub cast_map : {A B : Type 0} → (A → B) → Cast A → Cast B
cast_map m x =
    record {
      cast = x.cast;
      opening = x.opening;
      expr = m x.expr;
      as_word = x.as_word;
      column_type = x.column_type;
      closing = x.closing;
    }

pub cast-map : {A B : Type 0} (g : B → List Token) (h : A → List Token) (m : A → B) → ((x : A) → g (m x) ≡ h x)
    → (x : Cast A) → cast_tokens g (cast_map m x) ≡ cast_tokens h x
cast-map g h m at x =
    λ i. one x.cast ++ one x.opening ++ at x.expr i ++ one x.as_word ++ maybe column_type_tokens x.column_type
    ++ one x.closing

abbrev pub raise_action_map : {A B : Type 0} → (A → B) → RaiseAction A → RaiseAction B
raise_action_map m x = (Shapes.former-Operand-Raise-0-at-7).map _ _ m x

pub raise_action-map : {A B : Type 0} (g : B → List Token) (h : A → List Token) (m : A → B) → ((x : A) → g (m x) ≡ h x)
    → (x : RaiseAction A) → raise_action_tokens g (raise_action_map m x) ≡ raise_action_tokens h x
raise_action-map g h m at (RaiseAction'.Ignore part) = refl
raise_action-map g h m at (RaiseAction'.Action action message) =
    λ i. action_tokens action ++ next_item-map g h m at message i

abbrev pub raise_map : {A B : Type 0} → (A → B) → Raise A → Raise B
raise_map m x = record { raise = x.raise; action = in_parens_map (raise_action_map m) x.action }

pub raise-map : {A B : Type 0} (g : B → List Token) (h : A → List Token) (m : A → B) → ((x : A) → g (m x) ≡ h x)
    → (x : Raise A) → raise_tokens g (raise_map m x) ≡ raise_tokens h x
raise-map g h m at x =
    λ i. one x.raise
    ++ in_parens-map (raise_action_tokens g) (raise_action_tokens h) (raise_action_map m) (raise_action-map g h m at)
    x.action i

abbrev pub join_constraint_map : {A B : Type 0} → (A → B) → JoinConstraint A → JoinConstraint B
join_constraint_map m x = (Shapes.former-JoinedSource-constraint-at-5).map _ _ m x

pub join_constraint-map : {A B : Type 0} (g : B → List Token) (h : A → List Token) (m : A → B)
    → ((x : A) → g (m x) ≡ h x) → (x : JoinConstraint A)
    → join_constraint_tokens g (join_constraint_map m x) ≡ join_constraint_tokens h x
join_constraint-map g h m at (JoinConstraint'.On part) = λ i. after-map g h m at part i
join_constraint-map g h m at (JoinConstraint'.Using using names) = refl

abbrev pub cte_map : {A B : Type 0} → (A → B) → Cte A → Cte B
cte_map m x =
    record {
      name = x.name;
      columns = x.columns;
      as_word = x.as_word;
      materialized = x.materialized;
      select =
          in_parens_map m x.select;
    }

pub cte-map : {A B : Type 0} (g : B → List Token) (h : A → List Token) (m : A → B) → ((x : A) → g (m x) ≡ h x)
    → (x : Cte A) → cte_tokens g (cte_map m x) ≡ cte_tokens h x
cte-map g h m at x =
    λ i. one x.name ++ maybe (in_parens_tokens (commas_tokens one)) x.columns ++ one x.as_word
    ++ maybe materialized_tokens x.materialized ++ in_parens-map g h m at x.select i

abbrev pub with_map : {A B : Type 0} → (A → B) → With A → With B
with_map m x = record { with_word = x.with_word; recursive = x.recursive; ctes = commas_map (cte_map m) x.ctes }

pub with-map : {A B : Type 0} (g : B → List Token) (h : A → List Token) (m : A → B) → ((x : A) → g (m x) ≡ h x)
    → (x : With A) → with_tokens g (with_map m x) ≡ with_tokens h x
with-map g h m at x =
    λ i. one x.with_word ++ maybe one x.recursive
    ++ commas-map (cte_tokens g) (cte_tokens h) (cte_map m) (cte-map g h m at) x.ctes i

abbrev pub limit_map : {A B : Type 0} → (A → B) → Limit A → Limit B
limit_map m x = record { limit = x.limit; count = m x.count; second = option_map (after_map m) x.second }

pub limit-map : {A B : Type 0} (g : B → List Token) (h : A → List Token) (m : A → B) → ((x : A) → g (m x) ≡ h x)
    → (x : Limit A) → limit_tokens g (limit_map m x) ≡ limit_tokens h x
limit-map g h m at x =
    λ i. one x.limit ++ at x.count i
    ++ maybe-map (after_tokens g) (after_tokens h) (after_map m) (after-map g h m at) x.second i

abbrev pub result_item_map : {A B : Type 0} → (A → B) → ResultItem A → ResultItem B
result_item_map m x = (Shapes.former-SelectArm-items-at-6).map _ _ m x

pub result_item-map : {A B : Type 0} (g : B → List Token) (h : A → List Token) (m : A → B) → ((x : A) → g (m x) ≡ h x)
    → (x : ResultItem A) → result_item_tokens g (result_item_map m x) ≡ result_item_tokens h x
result_item-map g h m at (ResultItem'.Star part) = refl
result_item-map g h m at (ResultItem'.AllOf name dot star) = refl
result_item-map g h m at (ResultItem'.Expr expr alias) = λ i. at expr i ++ maybe alias_tokens alias

abbrev pub values_row_map : {A B : Type 0} → (A → B) → ValuesRow A → ValuesRow B
values_row_map m x = record { exprs = in_parens_map (commas_map m) x.exprs }

pub values_row-map : {A B : Type 0} (g : B → List Token) (h : A → List Token) (m : A → B) → ((x : A) → g (m x) ≡ h x)
    → (x : ValuesRow A) → values_row_tokens g (values_row_map m x) ≡ values_row_tokens h x
values_row-map g h m at x =
    λ i. in_parens-map (commas_tokens g) (commas_tokens h) (commas_map m) (commas-map g h m at) x.exprs i
