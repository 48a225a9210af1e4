-- The laws of what is read as conflict clauses and as the foreign keys of REFERENCES.
use Rattle.std.proofs.Common.{IfSome, List, Option, [], inl, inr, refl, ℕ, ◌∷◌}
use Rattle.std.specs.List.{AllByRecursion}
use Rattle.sql_token.specs.Fixed.{IsFixed}
use Rattle.sql_token.specs.Spelled.{flat, maybe}
use Rattle.sql_expr.specs.Leaf.{IsOneOf}
use Rattle.sql_expr.specs.Tokens.{token_pair_tokens}
use Rattle.sql_expr.specs.declared.lists.TokenPair.{TokenPair}
use Rattle.sql_reader.proofs.Choices.{choice_reads, many_reads, opt_reads}
use Rattle.sql_reader.proofs.Forms.{begun_reads, formed_reads, lead_reads, ruled, variant_reads}
use Rattle.sql_reader.proofs.Laws.{Reads, leaf_reads, seq_reads}
use Rattle.sql_reader.proofs.Leaves.{name_fits, word_fits, words_fit}
use Rattle.sql_reader.proofs.Turns.{TakesToken}
use Rattle.sql_reader.specs.Sorts.{sort_of}
use Rattle.sql_tree.specs.Rules.{IsConflict, IsDeferral, IsReferenceAction, IsReferenceClause, IsReferences, IsResolution}
use Rattle.sql_tree.specs.Tokens.{conflict_tokens, deferral_tokens, reference_action_tokens, reference_clause_tokens, references_tokens, resolution_tokens}
use Rattle.sql_tree.specs.declared.conflict.Conflict.{Conflict}
use Rattle.sql_tree.specs.declared.conflict.Deferral.{Deferral}
use Rattle.sql_tree.specs.declared.conflict.ReferenceAction.{ReferenceAction}
use Rattle.sql_tree.specs.declared.conflict.ReferenceClause.{ReferenceClause}
use Rattle.sql_tree.specs.declared.conflict.References.{References}
use Rattle.sql_tree.specs.declared.conflict.Resolution.{Resolution}
use Rattle.query_reading.proofs.ListLaws.{maybe_not_reads, pair_reads}
use Rattle.query_reading.proofs.NameLaws.{opt_names_reads}
use Rattle.query_reading.proofs.OperatorLaws.{action_reads}
use Rattle.table_reading.specs.Conflicts.{conflict, deferral, events, initially, opt_conflict, opt_deferral, read_conflict, read_deferral, read_initially, read_opt_conflict, read_opt_deferral, read_reference_action, read_reference_clause, read_reference_clauses, read_references, read_resolution, reference_action, reference_clause, reference_clauses, references, resolution}
use Rattle.sql_token.specs.declared.keyword.Keyword.TheVariants as K
use Rattle.sql_tree.specs.declared.conflict.ReferenceAction.TheVariants as ReferenceAction'
use Rattle.sql_tree.specs.declared.conflict.ReferenceClause.TheVariants as ReferenceClause'
use Rattle.sql_tree.specs.declared.conflict.Resolution.TheVariants as Resolution'

-- INITIALLY and one of its words
abbrev pub IsInitially : List ℕ → Option TokenPair → Type 0
IsInitially text x =
    IfSome x (λ pair. IsFixed text K.Initially pair.first × IsOneOf text (K.Deferred ∷ K.Immediate ∷ []) pair.second)

module _ (text : List ℕ) {n : ℕ} where
  -- action | IGNORE | REPLACE
  pub resolution_reads : Reads (sort_of text) Resolution (IsResolution text) (IsResolution text) resolution_tokens n
      (resolution (sort_of text)) (read_resolution (sort_of text))
  unfolding read_resolution
  resolution_reads =
      ruled
      (choice_reads (variant_reads (leaf_reads (word_fits text K.Ignore)) (λ t. refl) (λ t h. h))
      (choice_reads (variant_reads (leaf_reads (word_fits text K.Replace)) (λ t. refl) (λ t h. h))
      (variant_reads (action_reads text) (λ v. refl) (λ v h. h))
      refl refl refl) refl refl refl)
      (λ x h. h)
      (elim [
        | Resolution'.Action v ↦ λ h. inr (inr (v, refl, h))
        | Resolution'.Ignore t ↦ λ h. inl (t, refl, h)
        | Resolution'.Replace t ↦ λ h. inr (inl (t, refl, h))
      ])

  -- ON CONFLICT (action | IGNORE | REPLACE)
  pub conflict_reads : Reads (sort_of text) Conflict (IsConflict text) (IsConflict text) conflict_tokens n
      (conflict (sort_of text)) (read_conflict (sort_of text))
  unfolding read_conflict
  conflict_reads =
      formed_reads (lead_reads (word_fits text K.On) (begun_reads (word_fits text K.Conflict) resolution_reads))
      (record {
        spelled = λ v. refl;
        meets = λ v h. (h.0, h.1.0, h.1.1);
        covers = λ x h. ((x.on, (x.conflict, x.resolution)), refl, (h.0, (h.1, h.2)));
      })

  -- [ON CONFLICT (action | IGNORE | REPLACE)]
  pub opt_conflict_reads : Reads (sort_of text) (Option Conflict) (λ x. IfSome x (IsConflict text)) (λ x. IfSome x (IsConflict text)) (maybe conflict_tokens) n
      (opt_conflict (sort_of text)) (read_opt_conflict (sort_of text))
  unfolding read_opt_conflict
  opt_conflict_reads = opt_reads conflict_reads refl

  -- SET NULL | SET DEFAULT | CASCADE | RESTRICT | NO ACTION
  pub reference_action_reads : Reads (sort_of text) ReferenceAction (IsReferenceAction text) (IsReferenceAction text) reference_action_tokens n
      (reference_action (sort_of text)) (read_reference_action (sort_of text))
  unfolding read_reference_action
  reference_action_reads =
      ruled
      (choice_reads (variant_reads (pair_reads (word_fits text K.Set) (word_fits text K.Null)) (λ v. refl) (λ v h. h))
      (choice_reads (variant_reads (pair_reads (word_fits text K.Set) (word_fits text K.Default)) (λ v. refl) (λ v h. h))
      (choice_reads (variant_reads (leaf_reads (word_fits text K.Cascade)) (λ t. refl) (λ t h. h))
      (choice_reads (variant_reads (leaf_reads (word_fits text K.Restrict)) (λ t. refl) (λ t h. h))
      (variant_reads (pair_reads (word_fits text K.No) (word_fits text K.Action)) (λ v. refl) (λ v h. h))
      refl refl refl) refl refl refl) refl refl refl) refl refl refl)
      (λ x h. h)
      (elim [
        | ReferenceAction'.SetNull v ↦ λ h. inl (v, refl, h)
        | ReferenceAction'.SetDefault v ↦ λ h. inr (inl (v, refl, h))
        | ReferenceAction'.Cascade t ↦ λ h. inr (inr (inl (t, refl, h)))
        | ReferenceAction'.Restrict t ↦ λ h. inr (inr (inr (inl (t, refl, h))))
        | ReferenceAction'.NoAction v ↦ λ h. inr (inr (inr (inr (v, refl, h))))
      ])

  -- ON (DELETE|UPDATE) reference-action | MATCH name
  pub reference_clause_reads : Reads (sort_of text) ReferenceClause (IsReferenceClause text) (IsReferenceClause text) reference_clause_tokens n
      (reference_clause (sort_of text)) (read_reference_clause (sort_of text))
  unfolding read_reference_clause
  reference_clause_reads =
      ruled
      (choice_reads
      (variant_reads (lead_reads (word_fits text K.On) (begun_reads (words_fit text events) reference_action_reads)) (λ v. refl)
      (λ v h. (h.0, h.1.0, h.1.1)))
      (variant_reads (begun_reads (word_fits text K.Match) (leaf_reads (name_fits text))) (λ v. refl) (λ v h. h))
      refl refl refl)
      (λ x h. h)
      (elim [
        | ReferenceClause'.On on event action ↦ λ h. inl ((on, (event, action)), refl, (h.0, (h.1, h.2)))
        | ReferenceClause'.Match matches name ↦ λ h. inr ((matches, name), refl, h)
      ])

  -- {ON (DELETE|UPDATE) reference-action | MATCH name}
  pub reference_clauses_reads : Reads (sort_of text) (List ReferenceClause) (AllByRecursion (IsReferenceClause text)) (AllByRecursion (IsReferenceClause text)) (flat reference_clause_tokens) n
      (reference_clauses (sort_of text)) (read_reference_clauses (sort_of text))
  unfolding read_reference_clauses
  reference_clauses_reads = many_reads reference_clause_reads refl refl

  -- [INITIALLY (DEFERRED|IMMEDIATE)]
  pub initially_reads : Reads (sort_of text) (Option TokenPair) (IsInitially text) (IsInitially text) (maybe token_pair_tokens) n
      (initially (sort_of text)) (read_initially (sort_of text))
  unfolding read_initially
  initially_reads =
      opt_reads (pair_reads (word_fits text K.Initially) (words_fit text (K.Deferred ∷ K.Immediate ∷ []))) refl

  -- [NOT] DEFERRABLE [INITIALLY (DEFERRED|IMMEDIATE)]
  pub deferral_reads : Reads (sort_of text) Deferral (IsDeferral text) (IsDeferral text) deferral_tokens n
      (deferral (sort_of text)) (read_deferral (sort_of text))
  unfolding read_deferral
  deferral_reads =
      formed_reads (seq_reads (maybe_not_reads text (word_fits text K.Deferrable) refl) initially_reads refl)
      (record {
        spelled = λ v. refl;
        meets = λ v h. (h.0.0, h.0.1, h.1);
        covers = λ x h. (((x.not, x.deferrable), x.initially), refl, ((h.0, h.1), h.2));
      })

  -- [[NOT] DEFERRABLE [INITIALLY (DEFERRED|IMMEDIATE)]]
  pub opt_deferral_reads : Reads (sort_of text) (Option Deferral) (λ x. IfSome x (IsDeferral text)) (λ x. IfSome x (IsDeferral text)) (maybe deferral_tokens) n
      (opt_deferral (sort_of text)) (read_opt_deferral (sort_of text))
  unfolding read_opt_deferral
  opt_deferral_reads = opt_reads deferral_reads refl

  -- REFERENCES name ["(" names ")"] {reference-clause} [deferral]
  pub references_reads : Reads (sort_of text) References (IsReferences text) (IsReferences text) references_tokens n
      (references (sort_of text)) (read_references (sort_of text))
  unfolding read_references
  references_reads =
      formed_reads
      (seq_reads
      (seq_reads (seq_reads (begun_reads (word_fits text K.References) (leaf_reads (name_fits text))) (opt_names_reads text) refl)
      reference_clauses_reads refl)
      opt_deferral_reads refl)
      (record {
        spelled = λ v. refl;
        meets = λ v h. (h.0.0.0.0, h.0.0.0.1, h.0.0.1, h.0.1, h.1);
        covers = λ x h. (((((x.references, x.table), x.columns), x.clauses), x.deferral), refl, ((((h.0, h.1), h.2), h.3), h.4));
      })

-- a clause of a reference takes a token
pub reference_clause_takes : (text : List ℕ) → TakesToken (read_reference_clause (sort_of text))
reference_clause_takes text = let laws = reference_clause_reads text {n = 0} in laws.size refl
