-- The laws of what is read as lists of expressions, terms of ORDER BY and parts of a window.
use Rattle.std.proofs.Common.{IfSome, List, Option, [], inl, inr, refl, ℕ, ◌∷◌}
use Rattle.std.specs.Prelude.{codes}
use Rattle.sql_token.specs.Fixed.{IsFixed, IsSign}
use Rattle.sql_token.specs.Spelled.{maybe}
use Rattle.sql_token.specs.declared.keyword.Keyword.{Keyword}
use Rattle.sql_expr.specs.Leaf.{IsOneOf}
use Rattle.sql_expr.specs.Rules.{AreCommas, Inside, IsAfter, IsBound, IsBy, IsExcluded, IsFrame, IsFrameExtent, IsNamedWindow, IsTerm, IsWindow}
use Rattle.sql_expr.specs.Tokens.{after_tokens, bound_tokens, by_tokens, commas_tokens, excluded_tokens, frame_extent_tokens, frame_tokens, named_window_tokens, next_item_tokens, term_tokens, token_pair_tokens, window_tokens}
use Rattle.sql_expr.specs.Tree.{expr_tokens}
use Rattle.sql_expr.specs.declared.expr.Expr.{Expr}
use Rattle.sql_expr.specs.declared.lists.After.{After}
use Rattle.sql_expr.specs.declared.lists.By.{By}
use Rattle.sql_expr.specs.declared.lists.Commas.{Commas}
use Rattle.sql_expr.specs.declared.lists.NextItem.{NextItem}
use Rattle.sql_expr.specs.declared.lists.TokenPair.{TokenPair}
use Rattle.sql_expr.specs.declared.window.Bound.{Bound}
use Rattle.sql_expr.specs.declared.window.Excluded.{Excluded}
use Rattle.sql_expr.specs.declared.window.Frame.{Frame}
use Rattle.sql_expr.specs.declared.window.FrameExtent.{FrameExtent}
use Rattle.sql_expr.specs.declared.window.NamedWindow.{NamedWindow}
use Rattle.sql_expr.specs.declared.window.Term.{Term}
use Rattle.sql_expr.specs.declared.window.Window.{Window}
use Rattle.sql_reader.proofs.Choices.{choice_reads, opt_reads}
use Rattle.sql_reader.proofs.Forms.{begun_reads, formed_reads, ruled, variant_reads, without_reads}
use Rattle.sql_reader.proofs.Laws.{Reads, leaf_reads, seq_reads}
use Rattle.sql_reader.proofs.Leaves.{name_fits, no_words_fit, sign_fits, word_fits, words_fit}
use Rattle.sql_reader.proofs.SortTests.{no_word}
use Rattle.sql_reader.specs.Looks.{words}
use Rattle.sql_reader.specs.Sorts.{sort_of}
use Rattle.sql_reader.specs.declared.sort.Mark.TheVariants.{Closing, Opening}
use Rattle.query_reading.proofs.LeafLaws.{Nested, base_name_fits}
use Rattle.query_reading.proofs.ListLaws.{after_reads, by_reads, commas_reads, next_item_reads, opt_leaf_reads, pair_reads}
use Rattle.query_reading.specs.Exprs.{Inner}
use Rattle.query_reading.specs.Operands.{row}
use Rattle.query_reading.specs.Windows.{bound, excluded, exprs, frame, frame_extent, frame_units, named_window, next_expr, next_term, nulls, opt_after, opt_by, opt_exclude, opt_frame, opt_order, read_bound, read_bound_expr, read_excluded, read_exprs, read_frame, read_frame_extent, read_more_exprs, read_more_terms, read_named_window, read_next_expr, read_next_term, read_nulls, read_opt_after, read_opt_by, read_opt_exclude, read_opt_frame, read_opt_order, read_plain_bound, read_term, read_terms, read_window, term, terms, window}
use Rattle.sql_expr.specs.declared.window.Bound.TheVariants as Bound'
use Rattle.sql_expr.specs.declared.window.Excluded.TheVariants as Excluded'
use Rattle.sql_expr.specs.declared.window.FrameExtent.TheVariants as FrameExtent'
use Rattle.sql_token.specs.declared.keyword.Keyword.TheVariants as K

module _ (text : List ℕ) {n : ℕ} where
  -- [NULLS (FIRST|LAST)]
  pub nulls_reads : Reads (sort_of text) (Option TokenPair) (λ x. IfSome x (λ pair. IsFixed text K.Nulls pair.first × IsOneOf text (K.First ∷ K.Last ∷ []) pair.second)) (λ x. IfSome x (λ pair. IsFixed text K.Nulls pair.first × IsOneOf text (K.First ∷ K.Last ∷ []) pair.second)) (maybe token_pair_tokens) n
      (nulls (sort_of text)) (read_nulls (sort_of text))
  unfolding read_nulls
  nulls_reads = opt_reads (pair_reads (word_fits text K.Nulls) (words_fit text (K.First ∷ K.Last ∷ []))) refl

  -- NO OTHERS | CURRENT ROW | GROUP | TIES
  pub excluded_reads : Reads (sort_of text) Excluded (IsExcluded text) (IsExcluded text) excluded_tokens n
      (excluded (sort_of text)) (read_excluded (sort_of text))
  unfolding read_excluded
  excluded_reads =
      ruled
      (choice_reads (variant_reads (begun_reads (word_fits text K.No) (leaf_reads (word_fits text K.Others))) (λ v. refl) (λ v h. h))
      (choice_reads (variant_reads (begun_reads (word_fits text K.Current) (leaf_reads (word_fits text K.Row))) (λ v. refl) (λ v h. h))
      (choice_reads (variant_reads (leaf_reads (word_fits text K.Group)) (λ t. refl) (λ t h. h))
      (variant_reads (leaf_reads (word_fits text K.Ties)) (λ t. refl) (λ t h. h))
      refl refl refl) refl refl refl) refl refl refl)
      (λ x h. h)
      (elim [
        | Excluded'.NoOthers no_word others ↦ λ h. inl ((no_word, others), refl, h)
        | Excluded'.CurrentRow current row ↦ λ h. inr (inl ((current, row), refl, h))
        | Excluded'.Group t ↦ λ h. inr (inr (inl (t, refl, h)))
        | Excluded'.Ties t ↦ λ h. inr (inr (inr (t, refl, h)))
      ])

  -- [EXCLUDE excluded]
  pub opt_exclude_reads : Reads (sort_of text) (Option (After Excluded)) (λ x. IfSome x (IsAfter text K.Exclude (IsExcluded text))) (λ x. IfSome x (IsAfter text K.Exclude (IsExcluded text))) (maybe (after_tokens excluded_tokens)) n
      (opt_exclude (sort_of text)) (read_opt_exclude (sort_of text))
  unfolding read_opt_exclude
  opt_exclude_reads = opt_reads (after_reads K.Exclude excluded_reads) refl

module _ {text : List ℕ} {n : ℕ} {inside : Inside} {inner twin : Inner} where
  -- "," expr
  pub next_expr_reads : Nested text n inside inner twin → Reads (sort_of text) (NextItem Expr) (λ x. IsSign text (codes ",") x.comma × inside.expr x.item) (λ x. IsSign text (codes ",") x.comma × inside.expr x.item) (next_item_tokens expr_tokens) n
      (next_expr (sort_of text) inner) (read_next_expr (sort_of text) twin)
  unfolding read_next_expr
  next_expr_reads nested = next_item_reads nested.expr

  -- expr {"," expr}
  pub exprs_reads : Nested text n inside inner twin → Reads (sort_of text) (Commas Expr) (AreCommas text inside.expr) (AreCommas text inside.expr) (commas_tokens expr_tokens) n
      (exprs (sort_of text) inner) (read_exprs (sort_of text) twin)
  unfolding read_exprs read_more_exprs read_next_expr
  exprs_reads nested = commas_reads nested.expr refl

  -- [WORD expr]
  pub opt_after_reads : Nested text n inside inner twin → (k : Keyword) → Reads (sort_of text) (Option (After Expr)) (λ x. IfSome x (IsAfter text k inside.expr)) (λ x. IfSome x (IsAfter text k inside.expr)) (maybe (after_tokens expr_tokens)) n
      (opt_after (sort_of text) inner k) (read_opt_after (sort_of text) twin k)
  unfolding read_opt_after
  opt_after_reads nested k = opt_reads (after_reads k nested.expr) refl

  -- [WORD BY exprs]
  pub opt_by_reads : Nested text n inside inner twin → (k : Keyword) → Reads (sort_of text) (Option (By Expr)) (λ x. IfSome x (IsBy text k inside.expr)) (λ x. IfSome x (IsBy text k inside.expr)) (maybe (by_tokens expr_tokens)) n
      (opt_by (sort_of text) inner k) (read_opt_by (sort_of text) twin k)
  unfolding read_opt_by
  opt_by_reads nested k = opt_reads (by_reads k (exprs_reads nested)) refl

  -- expr [ASC|DESC] [NULLS (FIRST|LAST)]
  pub term_reads : Nested text n inside inner twin → Reads (sort_of text) (Term Expr) (IsTerm text inside) (IsTerm text inside) (term_tokens expr_tokens) n
      (term (sort_of text) inner) (read_term (sort_of text) twin)
  unfolding read_term
  term_reads nested =
      formed_reads
      (seq_reads (seq_reads nested.expr (opt_leaf_reads text (words_fit text (K.Asc ∷ K.Desc ∷ []))) refl) (nulls_reads text) refl)
      (record {
        spelled = λ v. refl;
        meets = λ v h. (h.0.0, h.0.1, h.1);
        covers = λ x h. (((x.expr, x.direction), x.nulls), refl, ((h.0, h.1), h.2));
      })

  -- "," term
  pub next_term_reads : Nested text n inside inner twin → Reads (sort_of text) (NextItem (Term Expr)) (λ x. IsSign text (codes ",") x.comma × IsTerm text inside x.item) (λ x. IsSign text (codes ",") x.comma × IsTerm text inside x.item) (next_item_tokens (term_tokens expr_tokens)) n
      (next_term (sort_of text) inner) (read_next_term (sort_of text) twin)
  unfolding read_next_term
  next_term_reads nested = next_item_reads (term_reads nested)

  -- term {"," term}
  pub terms_reads : Nested text n inside inner twin → Reads (sort_of text) (Commas (Term Expr)) (AreCommas text (IsTerm text inside)) (AreCommas text (IsTerm text inside)) (commas_tokens (term_tokens expr_tokens)) n
      (terms (sort_of text) inner) (read_terms (sort_of text) twin)
  unfolding read_terms read_more_terms read_next_term
  terms_reads nested = commas_reads (term_reads nested) refl

  -- [ORDER BY terms]
  pub opt_order_reads : Nested text n inside inner twin → Reads (sort_of text) (Option (By (Term Expr))) (λ x. IfSome x (IsBy text K.Order (IsTerm text inside))) (λ x. IfSome x (IsBy text K.Order (IsTerm text inside))) (maybe (by_tokens (term_tokens expr_tokens))) n
      (opt_order (sort_of text) inner) (read_opt_order (sort_of text) twin)
  unfolding read_opt_order
  opt_order_reads nested = opt_reads (by_reads K.Order (terms_reads nested)) refl

  -- UNBOUNDED (PRECEDING|FOLLOWING) | CURRENT ROW | expr (PRECEDING|FOLLOWING)
  pub bound_reads : Nested text n inside inner twin → Reads (sort_of text) (Bound Expr) (IsBound text inside) (IsBound text inside) (bound_tokens expr_tokens) n
      (bound (sort_of text) inner) (read_bound (sort_of text) twin)
  unfolding read_bound read_plain_bound read_bound_expr
  bound_reads nested =
      let way = leaf_reads (words_fit text (K.Preceding ∷ K.Following ∷ [])) in
      let barred = K.Unbounded ∷ K.Current ∷ [] in
      ruled
      (choice_reads
      (choice_reads
      (variant_reads (begun_reads (word_fits text K.Unbounded) way) (λ v. refl) (λ v h. h))
      (variant_reads (begun_reads (word_fits text K.Current) (leaf_reads (word_fits text K.Row))) (λ v. refl) (λ v h. h))
      refl refl refl)
      (variant_reads (seq_reads (without_reads (words barred) nested.expr (no_words_fit text barred) refl) way refl) (λ v. refl)
      (λ v h. (h.0.0, h.0.1, h.1)))
      refl refl refl)
      (λ x h. h)
      (elim [
        | Bound'.Unbounded unbounded way ↦ λ h. inl (inl ((unbounded, way), refl, h))
        | Bound'.CurrentRow current row ↦ λ h. inl (inr ((current, row), refl, h))
        | Bound'.Expr x way ↦ λ h. inr ((x, way), refl, ((h.0, h.1), h.2))
      ])

  -- bound | BETWEEN bound AND bound
  pub frame_extent_reads : Nested text n inside inner twin → Reads (sort_of text) (FrameExtent Expr) (IsFrameExtent text inside) (IsFrameExtent text inside) (frame_extent_tokens expr_tokens) n
      (frame_extent (sort_of text) inner) (read_frame_extent (sort_of text) twin)
  unfolding read_frame_extent
  frame_extent_reads nested =
      ruled
      (choice_reads
      (variant_reads
      (seq_reads (begun_reads (word_fits text K.Between) (seq_reads (bound_reads nested) (leaf_reads (word_fits text K.And)) refl))
      (bound_reads nested) refl)
      (λ v. refl) (λ v h. (h.0.0, h.0.1.0, h.0.1.1, h.1)))
      (variant_reads (bound_reads nested) (λ v. refl) (λ v h. h))
      refl refl refl)
      (λ x h. h)
      (elim [
        | FrameExtent'.From start ↦ λ h. inr (start, refl, h)
        | FrameExtent'.Between between start and end ↦ λ h. inl (((between, (start, and)), end), refl, ((h.0, (h.1, h.2)), h.3))
      ])

  -- (RANGE|ROWS|GROUPS) extent [EXCLUDE excluded]
  pub frame_reads : Nested text n inside inner twin → Reads (sort_of text) (Frame Expr) (IsFrame text inside) (IsFrame text inside) (frame_tokens expr_tokens) n
      (frame (sort_of text) inner) (read_frame (sort_of text) twin)
  unfolding read_frame
  frame_reads nested =
      formed_reads
      (seq_reads (begun_reads (words_fit text frame_units) (frame_extent_reads nested)) (opt_exclude_reads text) refl)
      (record {
        spelled = λ v. refl;
        meets = λ v h. (h.0.0, h.0.1, h.1);
        covers = λ x h. (((x.unit, x.extent), x.exclude), refl, ((h.0, h.1), h.2));
      })

  -- [frame]
  pub opt_frame_reads : Nested text n inside inner twin → Reads (sort_of text) (Option (Frame Expr)) (λ x. IfSome x (IsFrame text inside)) (λ x. IfSome x (IsFrame text inside)) (maybe (frame_tokens expr_tokens)) n
      (opt_frame (sort_of text) inner) (read_opt_frame (sort_of text) twin)
  unfolding read_opt_frame
  opt_frame_reads nested = opt_reads (frame_reads nested) refl

  -- "(" [name] [PARTITION BY exprs] [ORDER BY terms] [frame] ")"
  pub window_reads : Nested text n inside inner twin → Reads (sort_of text) (Window Expr) (IsWindow text inside) (IsWindow text inside) (window_tokens expr_tokens) n
      (window (sort_of text) inner) (read_window (sort_of text) twin)
  unfolding read_window
  window_reads nested =
      formed_reads
      (seq_reads (seq_reads (seq_reads (seq_reads (begun_reads (sign_fits text Opening 40 refl refl) (opt_leaf_reads text (base_name_fits text)))
      (opt_by_reads nested K.Partition) refl) (opt_order_reads nested) refl) (opt_frame_reads nested) refl)
      (leaf_reads (sign_fits text Closing 41 refl refl)) refl)
      (record {
        spelled = λ v. refl;
        meets = λ v h. (h.0.0.0.0.0, h.0.0.0.0.1, h.0.0.0.1, h.0.0.1, h.0.1, h.1);
        covers = λ x h. (
          (((((x.opening, x.base), x.partition), x.order), x.frame), x.closing),
          refl,
          (((((h.0, h.1), h.2), h.3), h.4), h.5),
        );
      })

  -- name AS window
  pub named_window_reads : Nested text n inside inner twin → Reads (sort_of text) (NamedWindow Expr) (IsNamedWindow text inside) (IsNamedWindow text inside) (named_window_tokens expr_tokens) n
      (named_window (sort_of text) inner) (read_named_window (sort_of text) twin)
  unfolding read_named_window
  named_window_reads nested =
      formed_reads (begun_reads (name_fits text) (begun_reads (word_fits text K.As) (window_reads nested)))
      (record {
        spelled = λ v. refl;
        meets = λ v h. (h.0, h.1.0, h.1.1);
        covers = λ x h. ((x.name, (x.as_word, x.window)), refl, (h.0, (h.1, h.2)));
      })
