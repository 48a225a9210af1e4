-- The laws of what is read as literals, actions and operators between parts.
use Rattle.std.proofs.Common.{IfSome, List, None, Option, Some, [], inl, inr, not, refl, ℕ, ◌∷◌}
use Rattle.sql_token.specs.Spelled.{maybe}
use Rattle.sql_expr.specs.Leaf.{AreFixed}
use Rattle.sql_expr.specs.Rules.{IsAction, IsInfix, IsLiteral}
use Rattle.sql_expr.specs.Tokens.{action_tokens, infix_tokens, literal_tokens, token_pair_tokens}
use Rattle.sql_expr.specs.declared.lists.TokenPair.{TokenPair}
use Rattle.sql_expr.specs.declared.operators.Action.{Action}
use Rattle.sql_expr.specs.declared.operators.Infix.{Infix}
use Rattle.sql_expr.specs.declared.operators.Literal.{Literal}
use Rattle.sql_reader.proofs.Choices.{choice_reads, opt_reads}
use Rattle.sql_reader.proofs.Forms.{begun_reads, lead_reads, leaf_before_reads, ruled, variant_reads, widened_reads}
use Rattle.sql_reader.proofs.Laws.{Reads, leaf_reads}
use Rattle.sql_reader.proofs.Leaves.{blob_fits, number_fits, str_fits, word_fits, words_fit}
use Rattle.sql_reader.specs.Looks.{word}
use Rattle.sql_reader.specs.Sorts.{sort_of}
use Rattle.query_reading.proofs.LeafLaws.{infix_sign_fits}
use Rattle.query_reading.proofs.ListLaws.{maybe_not_reads, pair_reads}
use Rattle.query_reading.specs.Lists.{pair}
use Rattle.query_reading.specs.Operators.{action, comparing_words, distinct_from, literal, operator, read_action, read_distinct_from, read_is_distinct, read_is_not, read_literal, read_operator, read_word_literal}
use Rattle.sql_expr.specs.declared.operators.Action.TheVariants as Action'
use Rattle.sql_expr.specs.declared.operators.Infix.TheVariants as Infix'
use Rattle.sql_token.specs.declared.keyword.Keyword.TheVariants as K
use Rattle.sql_expr.specs.declared.operators.Literal.TheVariants as Literal'

-- an operator that is no bare IS
abbrev pub IsNotBare : Infix → Type 0
IsNotBare (Infix'.Is is None None) = ⊥
IsNotBare _ = Unit {0}

abbrev pub IsOtherInfix : List ℕ → Infix → Type 0
IsOtherInfix text x = IsInfix text x × IsNotBare x

module _ (text : List ℕ) {n : ℕ} where
  -- number | string | blob | NULL | CURRENT_DATE | CURRENT_TIME | CURRENT_TIMESTAMP
  pub literal_reads : Reads (sort_of text) Literal (IsLiteral text) (IsLiteral text) literal_tokens n
      (literal (sort_of text)) (read_literal (sort_of text))
  unfolding read_literal read_word_literal
  literal_reads =
      ruled
      (choice_reads (variant_reads (leaf_reads (number_fits text)) (λ t. refl) (λ t h. h))
      (choice_reads (variant_reads (leaf_before_reads (str_fits text)) (λ t. refl) (λ t h. h))
      (choice_reads (variant_reads (leaf_reads (blob_fits text)) (λ t. refl) (λ t h. h))
      (choice_reads (variant_reads (leaf_reads (word_fits text K.Null)) (λ t. refl) (λ t h. h))
      (choice_reads (variant_reads (leaf_reads (word_fits text K.CurrentDate)) (λ t. refl) (λ t h. h))
      (choice_reads (variant_reads (leaf_reads (word_fits text K.CurrentTime)) (λ t. refl) (λ t h. h))
      (variant_reads (leaf_reads (word_fits text K.CurrentTimestamp)) (λ t. refl) (λ t h. h))
      refl refl refl) refl refl refl) refl refl refl) refl refl refl) refl refl refl) refl refl refl)
      (λ x h. h)
      (elim [
        | Literal'.Number t ↦ λ h. inl (t, refl, h)
        | Literal'.Str t ↦ λ h. inr (inl (t, refl, h))
        | Literal'.Blob t ↦ λ h. inr (inr (inl (t, refl, h)))
        | Literal'.Null t ↦ λ h. inr (inr (inr (inl (t, refl, h))))
        | Literal'.CurrentDate t ↦ λ h. inr (inr (inr (inr (inl (t, refl, h)))))
        | Literal'.CurrentTime t ↦ λ h. inr (inr (inr (inr (inr (inl (t, refl, h))))))
        | Literal'.CurrentTimestamp t ↦ λ h. inr (inr (inr (inr (inr (inr (t, refl, h))))))
      ])

  -- ROLLBACK | ABORT | FAIL
  pub action_reads : Reads (sort_of text) Action (IsAction text) (IsAction text) action_tokens n
      (action (sort_of text)) (read_action (sort_of text))
  unfolding read_action
  action_reads =
      ruled
      (choice_reads (variant_reads (leaf_reads (word_fits text K.Rollback)) (λ t. refl) (λ t h. h))
      (choice_reads (variant_reads (leaf_reads (word_fits text K.Abort)) (λ t. refl) (λ t h. h))
      (variant_reads (leaf_reads (word_fits text K.Fail)) (λ t. refl) (λ t h. h))
      refl refl refl) refl refl refl)
      (λ x h. h)
      (elim [
        | Action'.Rollback t ↦ λ h. inl (t, refl, h)
        | Action'.Abort t ↦ λ h. inr (inl (t, refl, h))
        | Action'.Fail t ↦ λ h. inr (inr (t, refl, h))
      ])

  -- [DISTINCT FROM]
  pub distinct_from_reads : Reads (sort_of text) (Option TokenPair) (λ x. IfSome x (AreFixed text K.Distinct K.From)) (λ x. IfSome x (AreFixed text K.Distinct K.From)) (maybe token_pair_tokens) n
      (distinct_from (sort_of text)) (read_distinct_from (sort_of text))
  unfolding read_distinct_from
  distinct_from_reads = opt_reads (pair_reads (word_fits text K.Distinct) (word_fits text K.From)) refl

  -- any operator but a bare IS
  pub operator_reads : Reads (sort_of text) Infix (IsOtherInfix text) (IsOtherInfix text) infix_tokens n
      (operator (sort_of text)) (read_operator (sort_of text))
  unfolding read_operator read_is_not read_is_distinct
  operator_reads =
      ruled
      (choice_reads
      (variant_reads (lead_reads (word_fits text K.Is) (begun_reads (word_fits text K.Not) distinct_from_reads)) (λ v. refl)
      (λ v h. ((h.0, h.1.0, h.1.1), tt)))
      (choice_reads
      (widened_reads {starts = (word K.Is ∷ word K.Distinct ∷ []) ∷ []} {goes_on = []}
      (variant_reads (lead_reads (word_fits text K.Is) (pair_reads (word_fits text K.Distinct) (word_fits text K.From))) (λ v. refl)
      (λ v h. ((h.0, tt, h.1), tt)))
      refl refl)
      (choice_reads (variant_reads (leaf_reads (word_fits text K.And)) (λ t. refl) (λ t h. (h, tt)))
      (choice_reads (variant_reads (leaf_reads (word_fits text K.Or)) (λ t. refl) (λ t h. (h, tt)))
      (choice_reads (variant_reads (leaf_reads (word_fits text K.Escape)) (λ t. refl) (λ t h. (h, tt)))
      (choice_reads (variant_reads (leaf_reads (infix_sign_fits text)) (λ t. refl) (λ t h. (h, tt)))
      (variant_reads (maybe_not_reads text (words_fit text comparing_words) refl) (λ v. refl) (λ v h. (h, tt)))
      refl refl refl) refl refl refl) refl refl refl) refl refl refl) refl refl refl) refl refl refl)
      (λ x h. h)
      (elim [
        | Infix'.Sign t ↦ λ h. inr (inr (inr (inr (inr (inl (t, refl, h.0))))))
        | Infix'.And t ↦ λ h. inr (inr (inl (t, refl, h.0)))
        | Infix'.Or t ↦ λ h. inr (inr (inr (inl (t, refl, h.0))))
        | Infix'.Is is (Some not) pair ↦ λ h. inl ((is, (not, pair)), refl, (h.0.0, (h.0.1, h.0.2)))
        | Infix'.Is is None (Some pair) ↦ λ h. inr (inl ((is, pair), refl, (h.0.0, h.0.2)))
        | Infix'.Is is None None ↦ λ h. absurd h.1
        | Infix'.Escape t ↦ λ h. inr (inr (inr (inr (inl (t, refl, h.0)))))
        | Infix'.Compares not word ↦ λ h. inr (inr (inr (inr (inr (inr ((not, word), refl, h.0))))))
      ])
