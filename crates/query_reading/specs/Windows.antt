-- What is read as lists of expressions, terms of ORDER BY and parts of a window.
use Rattle.std.specs.Prelude.{List, Option, [], ◌∷◌}
use Rattle.sql_token.specs.declared.keyword.Keyword.{Keyword}
use Rattle.sql_token.specs.declared.token.Token.{Token}
use Rattle.sql_expr.specs.declared.expr.Expr.{Expr}
use Rattle.sql_expr.specs.declared.lists.After.{After}
use Rattle.sql_expr.specs.declared.lists.By.{By}
use Rattle.sql_expr.specs.declared.lists.Commas.{Commas}
use Rattle.sql_expr.specs.declared.lists.NextItem.{NextItem}
use Rattle.sql_expr.specs.declared.lists.TokenPair.{TokenPair}
use Rattle.sql_expr.specs.declared.window.Bound.{Bound}
use Rattle.sql_expr.specs.declared.window.Excluded.{Excluded}
use Rattle.sql_expr.specs.declared.window.Frame.{Frame}
use Rattle.sql_expr.specs.declared.window.FrameExtent.{FrameExtent}
use Rattle.sql_expr.specs.declared.window.NamedWindow.{NamedWindow}
use Rattle.sql_expr.specs.declared.window.Term.{Term}
use Rattle.sql_expr.specs.declared.window.Window.{Window}
use Rattle.sql_reader.specs.Looks.{Set, both, name, none_of, sign, word, words}
use Rattle.sql_reader.specs.Reading.{Read, Reading, begun, choice, formed, leaf, many, opt, sealed, seq, without}
use Rattle.sql_reader.specs.declared.sort.Mark.TheVariants.{Closing, Opening}
use Rattle.sql_reader.specs.declared.sort.Sort.{Sort}
use Rattle.query_reading.specs.Exprs.{Inner, expr}
use Rattle.query_reading.specs.Lists.{after, by, next_item, opt_leaf, pair}
use Rattle.sql_expr.specs.declared.window.Bound.TheVariants as Bound'
use Rattle.sql_expr.specs.declared.window.Excluded.TheVariants as Excluded'
use Rattle.sql_expr.specs.declared.window.FrameExtent.TheVariants as FrameExtent'
use Rattle.sql_token.specs.declared.keyword.Keyword.TheVariants as K

-- "," expr
abbrev next_expr_form : (sort : Token → Sort) → Inner → Reading sort (NextItem Expr)
next_expr_form sort inner = next_item (expr inner)

unfoldable pub read_next_expr : (Token → Sort) → Inner → Read (NextItem Expr)
read_next_expr sort inner = (next_expr_form sort inner).read

abbrev pub next_expr : (sort : Token → Sort) → Inner → Reading sort (NextItem Expr)
next_expr sort inner = sealed (next_expr_form sort inner) (read_next_expr sort inner)

-- {"," expr}
abbrev more_exprs_form : (sort : Token → Sort) → Inner → Reading sort (List (NextItem Expr))
more_exprs_form sort inner = many (next_expr sort inner)

unfoldable pub read_more_exprs : (Token → Sort) → Inner → Read (List (NextItem Expr))
read_more_exprs sort inner = (more_exprs_form sort inner).read

abbrev pub more_exprs : (sort : Token → Sort) → Inner → Reading sort (List (NextItem Expr))
more_exprs sort inner = sealed (more_exprs_form sort inner) (read_more_exprs sort inner)

-- expr {"," expr}
abbrev exprs_form : (sort : Token → Sort) → Inner → Reading sort (Commas Expr)
exprs_form sort inner = formed (λ v. record { first = v.0; more = v.1 }) (seq (expr inner) (more_exprs sort inner))

unfoldable pub read_exprs : (Token → Sort) → Inner → Read (Commas Expr)
read_exprs sort inner = (exprs_form sort inner).read

abbrev pub exprs : (sort : Token → Sort) → Inner → Reading sort (Commas Expr)
exprs sort inner = sealed (exprs_form sort inner) (read_exprs sort inner)

-- [WORD expr]
abbrev opt_after_form : (sort : Token → Sort) → Inner → Keyword → Reading sort (Option (After Expr))
opt_after_form sort inner k = opt (after k (expr inner))

unfoldable pub read_opt_after : (Token → Sort) → Inner → Keyword → Read (Option (After Expr))
read_opt_after sort inner k = (opt_after_form sort inner k).read

abbrev pub opt_after : (sort : Token → Sort) → Inner → Keyword → Reading sort (Option (After Expr))
opt_after sort inner k = sealed (opt_after_form sort inner k) (read_opt_after sort inner k)

-- [WORD BY exprs]
abbrev opt_by_form : (sort : Token → Sort) → Inner → Keyword → Reading sort (Option (By Expr))
opt_by_form sort inner k = opt (by k (exprs sort inner))

unfoldable pub read_opt_by : (Token → Sort) → Inner → Keyword → Read (Option (By Expr))
read_opt_by sort inner k = (opt_by_form sort inner k).read

abbrev pub opt_by : (sort : Token → Sort) → Inner → Keyword → Reading sort (Option (By Expr))
opt_by sort inner k = sealed (opt_by_form sort inner k) (read_opt_by sort inner k)

-- PRECEDING | FOLLOWING
abbrev pub ways : List Keyword
ways = K.Preceding ∷ K.Following ∷ []

-- [NULLS (FIRST|LAST)]
abbrev nulls_form : (sort : Token → Sort) → Reading sort (Option TokenPair)
nulls_form sort = opt (pair (word K.Nulls) (words (K.First ∷ K.Last ∷ [])))

unfoldable pub read_nulls : (Token → Sort) → Read (Option TokenPair)
read_nulls sort = (nulls_form sort).read

abbrev pub nulls : (sort : Token → Sort) → Reading sort (Option TokenPair)
nulls sort = sealed (nulls_form sort) (read_nulls sort)

-- expr [ASC|DESC] [NULLS (FIRST|LAST)]
abbrev term_form : (sort : Token → Sort) → Inner → Reading sort (Term Expr)
term_form sort inner =
    formed (λ v. record { expr = v.0.0; direction = v.0.1; nulls = v.1 })
    (seq (seq (expr inner) (opt_leaf sort (words (K.Asc ∷ K.Desc ∷ [])))) (nulls sort))

unfoldable pub read_term : (Token → Sort) → Inner → Read (Term Expr)
read_term sort inner = (term_form sort inner).read

abbrev pub term : (sort : Token → Sort) → Inner → Reading sort (Term Expr)
term sort inner = sealed (term_form sort inner) (read_term sort inner)

-- "," term
abbrev next_term_form : (sort : Token → Sort) → Inner → Reading sort (NextItem (Term Expr))
next_term_form sort inner = next_item (term sort inner)

unfoldable pub read_next_term : (Token → Sort) → Inner → Read (NextItem (Term Expr))
read_next_term sort inner = (next_term_form sort inner).read

abbrev pub next_term : (sort : Token → Sort) → Inner → Reading sort (NextItem (Term Expr))
next_term sort inner = sealed (next_term_form sort inner) (read_next_term sort inner)

-- {"," term}
abbrev more_terms_form : (sort : Token → Sort) → Inner → Reading sort (List (NextItem (Term Expr)))
more_terms_form sort inner = many (next_term sort inner)

unfoldable pub read_more_terms : (Token → Sort) → Inner → Read (List (NextItem (Term Expr)))
read_more_terms sort inner = (more_terms_form sort inner).read

abbrev pub more_terms : (sort : Token → Sort) → Inner → Reading sort (List (NextItem (Term Expr)))
more_terms sort inner = sealed (more_terms_form sort inner) (read_more_terms sort inner)

-- term {"," term}
abbrev terms_form : (sort : Token → Sort) → Inner → Reading sort (Commas (Term Expr))
terms_form sort inner = formed (λ v. record { first = v.0; more = v.1 }) (seq (term sort inner) (more_terms sort inner))

unfoldable pub read_terms : (Token → Sort) → Inner → Read (Commas (Term Expr))
read_terms sort inner = (terms_form sort inner).read

abbrev pub terms : (sort : Token → Sort) → Inner → Reading sort (Commas (Term Expr))
terms sort inner = sealed (terms_form sort inner) (read_terms sort inner)

-- [ORDER BY terms]
abbrev opt_order_form : (sort : Token → Sort) → Inner → Reading sort (Option (By (Term Expr)))
opt_order_form sort inner = opt (by K.Order (terms sort inner))

unfoldable pub read_opt_order : (Token → Sort) → Inner → Read (Option (By (Term Expr)))
read_opt_order sort inner = (opt_order_form sort inner).read

abbrev pub opt_order : (sort : Token → Sort) → Inner → Reading sort (Option (By (Term Expr)))
opt_order sort inner = sealed (opt_order_form sort inner) (read_opt_order sort inner)

-- UNBOUNDED (PRECEDING|FOLLOWING) | CURRENT ROW
abbrev plain_bound_form : (sort : Token → Sort) → Reading sort (Bound Expr)
plain_bound_form sort =
    choice (formed (λ v. Bound'.Unbounded v.0 v.1) (begun (word K.Unbounded) (leaf (words ways))))
    (formed (λ v. Bound'.CurrentRow v.0 v.1) (begun (word K.Current) (leaf (word K.Row))))

unfoldable pub read_plain_bound : (Token → Sort) → Read (Bound Expr)
read_plain_bound sort = (plain_bound_form sort).read

abbrev pub plain_bound : (sort : Token → Sort) → Reading sort (Bound Expr)
plain_bound sort = sealed (plain_bound_form sort) (read_plain_bound sort)

-- an expression that does not begin with UNBOUNDED or CURRENT
abbrev bound_expr_form : (sort : Token → Sort) → Inner → Reading sort Expr
bound_expr_form sort inner = without (words (K.Unbounded ∷ K.Current ∷ [])) (expr inner)

unfoldable pub read_bound_expr : (Token → Sort) → Inner → Read Expr
read_bound_expr sort inner = (bound_expr_form sort inner).read

abbrev pub bound_expr : (sort : Token → Sort) → Inner → Reading sort Expr
bound_expr sort inner = sealed (bound_expr_form sort inner) (read_bound_expr sort inner)

-- UNBOUNDED (PRECEDING|FOLLOWING) | CURRENT ROW | expr (PRECEDING|FOLLOWING)
abbrev bound_form : (sort : Token → Sort) → Inner → Reading sort (Bound Expr)
bound_form sort inner = choice (plain_bound sort) (formed (λ v. Bound'.Expr v.0 v.1) (seq (bound_expr sort inner) (leaf (words ways))))

unfoldable pub read_bound : (Token → Sort) → Inner → Read (Bound Expr)
read_bound sort inner = (bound_form sort inner).read

abbrev pub bound : (sort : Token → Sort) → Inner → Reading sort (Bound Expr)
bound sort inner = sealed (bound_form sort inner) (read_bound sort inner)

-- bound | BETWEEN bound AND bound
abbrev frame_extent_form : (sort : Token → Sort) → Inner → Reading sort (FrameExtent Expr)
frame_extent_form sort inner =
    choice
    (formed (λ v. FrameExtent'.Between v.0.0 v.0.1.0 v.0.1.1 v.1)
    (seq (begun (word K.Between) (seq (bound sort inner) (leaf (word K.And)))) (bound sort inner)))
    (formed (λ v. FrameExtent'.From v) (bound sort inner))

unfoldable pub read_frame_extent : (Token → Sort) → Inner → Read (FrameExtent Expr)
read_frame_extent sort inner = (frame_extent_form sort inner).read

abbrev pub frame_extent : (sort : Token → Sort) → Inner → Reading sort (FrameExtent Expr)
frame_extent sort inner = sealed (frame_extent_form sort inner) (read_frame_extent sort inner)

-- NO OTHERS | CURRENT ROW | GROUP | TIES
abbrev excluded_form : (sort : Token → Sort) → Reading sort Excluded
excluded_form sort =
    choice (formed (λ v. Excluded'.NoOthers v.0 v.1) (begun (word K.No) (leaf (word K.Others))))
    (choice (formed (λ v. Excluded'.CurrentRow v.0 v.1) (begun (word K.Current) (leaf (word K.Row))))
    (choice (formed (λ t. Excluded'.Group t) (leaf (word K.Group))) (formed (λ t. Excluded'.Ties t) (leaf (word K.Ties)))))

unfoldable pub read_excluded : (Token → Sort) → Read Excluded
read_excluded sort = (excluded_form sort).read

abbrev pub excluded : (sort : Token → Sort) → Reading sort Excluded
excluded sort = sealed (excluded_form sort) (read_excluded sort)

-- [EXCLUDE excluded]
abbrev opt_exclude_form : (sort : Token → Sort) → Reading sort (Option (After Excluded))
opt_exclude_form sort = opt (after K.Exclude (excluded sort))

unfoldable pub read_opt_exclude : (Token → Sort) → Read (Option (After Excluded))
read_opt_exclude sort = (opt_exclude_form sort).read

abbrev pub opt_exclude : (sort : Token → Sort) → Reading sort (Option (After Excluded))
opt_exclude sort = sealed (opt_exclude_form sort) (read_opt_exclude sort)

-- the words that begin a frame
abbrev pub frame_units : List Keyword
frame_units = K.Range ∷ K.Rows ∷ K.Groups ∷ []

-- (RANGE|ROWS|GROUPS) extent [EXCLUDE excluded]
abbrev frame_form : (sort : Token → Sort) → Inner → Reading sort (Frame Expr)
frame_form sort inner =
    formed (λ v. record { unit = v.0.0; extent = v.0.1; exclude = v.1 })
    (seq (begun (words frame_units) (frame_extent sort inner)) (opt_exclude sort))

unfoldable pub read_frame : (Token → Sort) → Inner → Read (Frame Expr)
read_frame sort inner = (frame_form sort inner).read

abbrev pub frame : (sort : Token → Sort) → Inner → Reading sort (Frame Expr)
frame sort inner = sealed (frame_form sort inner) (read_frame sort inner)

-- [frame]
abbrev opt_frame_form : (sort : Token → Sort) → Inner → Reading sort (Option (Frame Expr))
opt_frame_form sort inner = opt (frame sort inner)

unfoldable pub read_opt_frame : (Token → Sort) → Inner → Read (Option (Frame Expr))
read_opt_frame sort inner = (opt_frame_form sort inner).read

abbrev pub opt_frame : (sort : Token → Sort) → Inner → Reading sort (Option (Frame Expr))
opt_frame sort inner = sealed (opt_frame_form sort inner) (read_opt_frame sort inner)

-- a name of a window on which this one stands
abbrev pub base_name : Set
base_name = both name (none_of (words (K.Partition ∷ frame_units)))

-- "(" [name] [PARTITION BY exprs] [ORDER BY terms] [frame] ")"
abbrev window_form : (sort : Token → Sort) → Inner → Reading sort (Window Expr)
window_form sort inner =
    formed
    (λ v. record { opening = v.0.0.0.0.0; base = v.0.0.0.0.1; partition = v.0.0.0.1; order = v.0.0.1; frame = v.0.1; closing = v.1 })
    (seq (seq (seq (seq (begun (sign Opening) (opt_leaf sort base_name)) (opt_by sort inner K.Partition)) (opt_order sort inner))
    (opt_frame sort inner)) (leaf (sign Closing)))

unfoldable pub read_window : (Token → Sort) → Inner → Read (Window Expr)
read_window sort inner = (window_form sort inner).read

abbrev pub window : (sort : Token → Sort) → Inner → Reading sort (Window Expr)
window sort inner = sealed (window_form sort inner) (read_window sort inner)

-- name AS window
abbrev named_window_form : (sort : Token → Sort) → Inner → Reading sort (NamedWindow Expr)
named_window_form sort inner = formed (λ v. record { name = v.0; as_word = v.1.0; window = v.1.1 }) (begun name (begun (word K.As) (window sort inner)))

unfoldable pub read_named_window : (Token → Sort) → Inner → Read (NamedWindow Expr)
read_named_window sort inner = (named_window_form sort inner).read

abbrev pub named_window : (sort : Token → Sort) → Inner → Reading sort (NamedWindow Expr)
named_window sort inner = sealed (named_window_form sort inner) (read_named_window sort inner)
