-- The laws of what is read as operands, the parts of an expression, and one level of it.
use Rattle.std.proofs.Common.{IfSome, List, None, Option, Some, [], ap, inl, inr, not, refl, subst, sym, ℕ, ◌++◌, ◌∙◌, ◌∷◌, ◌≡◌, ◌⊎◌}
use Rattle.std.specs.List.{AllByRecursion}
use Rattle.sql_token.specs.Byte.{in_word}
use Rattle.sql_token.specs.Fixed.{IsFixed, IsName}
use Rattle.sql_token.specs.Spelled.{flat, maybe, one}
use Rattle.sql_token.specs.declared.token.Token.{Token}
use Rattle.sql_expr.proofs.Opened.{in_set_tokens-Function, in_set_tokens-List, in_set_tokens-Object, in_set_tokens-Query, made_expr, made_infix_part, made_part, operand_tokens-Call, operand_tokens-Case, operand_tokens-Cast, operand_tokens-Column, operand_tokens-Exprs, operand_tokens-Literal, operand_tokens-Raise, operand_tokens-Subquery, postfix_tokens-Collate, postfix_tokens-In, postfix_tokens-IsNull, postfix_tokens-NotNull, postfix_tokens-NotNullWords}
use Rattle.sql_expr.specs.Leaf.{BeginsWithout}
use Rattle.sql_expr.specs.Levels.{OpenExpr, OpenInSet, OpenInfixPart, OpenOperand, OpenPart, OpenPostfix}
use Rattle.sql_expr.specs.Rules.{AreArguments, AreCommas, Inside, IsCall, IsCase, IsCast, IsColumnUse, IsExpr, IsInParens, IsInSet, IsInfix, IsInfixPart, IsLiteral, IsObject, IsOperand, IsPart, IsPostfix, IsPrefix, IsRaise, IsRow, LeavesNot}
use Rattle.sql_expr.specs.Tokens.{commas_tokens, in_parens_tokens}
use Rattle.sql_expr.specs.Tree.{expr_tokens, in_set_tokens, infix_part_tokens, operand_tokens, part_tokens, postfix_tokens, select_tokens}
use Rattle.sql_expr.specs.declared.expr.Expr.{Expr, out-Expr, out-roll-Expr, roll-out-Expr}
use Rattle.sql_expr.specs.declared.expr.InSet.{InSet, out-InSet, out-roll-InSet, roll-InSet, roll-out-InSet}
use Rattle.sql_expr.specs.declared.expr.InSet.TheOpen.{InSet-F, Operand-F, Postfix-F}
use Rattle.sql_expr.specs.declared.expr.InfixPart.{InfixPart, out-InfixPart, out-roll-InfixPart, roll-out-InfixPart}
use Rattle.sql_expr.specs.declared.expr.Operand.{Operand, out-Operand, out-roll-Operand, roll-Operand, roll-out-Operand}
use Rattle.sql_expr.specs.declared.expr.Part.{Part, out-Part, out-roll-Part, roll-out-Part}
use Rattle.sql_expr.specs.declared.expr.Postfix.{Postfix, out-Postfix, out-roll-Postfix, roll-Postfix, roll-out-Postfix}
use Rattle.sql_expr.specs.declared.lists.Commas.{Commas}
use Rattle.sql_expr.specs.declared.lists.InParens.{InParens}
use Rattle.sql_expr.specs.declared.operators.Infix.{Infix}
use Rattle.sql_expr.specs.declared.select.Select.{Select}
use Rattle.sql_reader.proofs.Choices.{choice_reads, many_reads, opt_reads}
use Rattle.sql_reader.proofs.Forms.{begun_reads, formed_reads, lead_reads, leaf_before_reads, ruled, variant_reads, widened_reads, without_reads}
use Rattle.sql_reader.proofs.Laws.{Reads, leaf_reads, seq_reads}
use Rattle.sql_reader.proofs.Leaves.{name_fits, no_words_fit, sign_fits, word_fits}
use Rattle.sql_reader.proofs.SortTests.{no_word}
use Rattle.sql_reader.specs.Looks.{name, words}
use Rattle.sql_reader.specs.Sorts.{sort_of}
use Rattle.sql_reader.specs.declared.sort.Mark.TheVariants.{Closing, Opening}
use Rattle.query_reading.proofs.CallLaws.{call_reads, case_reads, cast_reads, raise_reads}
use Rattle.query_reading.proofs.LeafLaws.{Nested, prefix_fits}
use Rattle.query_reading.proofs.ListLaws.{in_parens_reads, maybe_not_reads, opt_leaf_reads}
use Rattle.query_reading.proofs.NameLaws.{column_use_reads, object_reads}
use Rattle.query_reading.proofs.OperatorLaws.{IsNotBare, IsOtherInfix, literal_reads, operator_reads}
use Rattle.query_reading.proofs.WindowLaws.{exprs_reads}
use Rattle.query_reading.specs.Exprs.{Inner, select}
use Rattle.query_reading.specs.Lists.{pair}
use Rattle.query_reading.specs.Operands.{arguments, expr_level, in_set, infix_part, infix_part_of, infix_parts, is_part, list_parens, operand, opt_exprs, opt_row, parens_starts, part, postfix, postfixes, prefixes, query, read_arguments, read_expr_level, read_free_part, read_in_set, read_infix_part, read_infix_parts, read_is_part, read_list_parens, read_operand, read_opt_exprs, read_opt_row, read_other_operand, read_part, read_postfix, read_postfixes, read_prefixes, read_query, read_row, read_row_parens, read_subquery, row, row_parens, subquery}
use Rattle.sql_expr.specs.declared.expr.InSet.TheVariants as InSet'
use Rattle.sql_expr.specs.declared.operators.Infix.TheVariants as Infix'
use Rattle.sql_token.specs.declared.keyword.Keyword.TheVariants as K
use Rattle.sql_expr.specs.declared.expr.Operand.TheVariants as Operand'
use Rattle.sql_expr.specs.declared.expr.Postfix.TheVariants as Postfix'

-- what a rule covers of the trees that are made so
abbrev Covers : {A B : Type 0} → (A → B) → (A → Type 0) → B → Type 0
Covers {A} make C y = (x : A) × (y ≡ make x) × C x

abbrev IsSubquery : List ℕ → Inside → Option Token × InParens Select → Type 0
IsSubquery text inside v = IfSome v.0 (IsFixed text K.Exists) × IsInParens text inside.select v.1

in_set_is : (x : InSet) (o : OpenInSet) → out-InSet x ≡ o → x ≡ roll-InSet o
in_set_is x o e = sym (roll-out-InSet x) ∙ ap roll-InSet e

in_set_out : (x : InSet) (o : OpenInSet) → roll-InSet o ≡ x → o ≡ out-InSet x
in_set_out x o e = sym (out-roll-InSet o) ∙ ap out-InSet e

in_set_covers : (text : List ℕ) (inside : Inside) (x : InSet) (o : OpenInSet) → out-InSet x ≡ o → IsInSet text inside o
    → Covers (λ v. InSet'.Query v) (IsInParens text inside.select) x
    ⊎ (Covers (λ v. InSet'.List v) (IsInParens text (λ y. IfSome y (IsRow text inside))) x
    ⊎ (Covers (λ (v : Token × InParens (Option (Commas Expr))). InSet'.Function v.0 v.1) (λ v. IsName text v.0 × AreArguments text inside v.1) x
    ⊎ Covers (λ v. InSet'.Object v) (IsObject text) x))
in_set_covers text inside x (InSet-F.Query v) e h =
    inl (v, in_set_is x (InSet-F.Query v) e ∙ InSet'.rolls-Query v, h)
in_set_covers text inside x (InSet-F.List v) e h =
    inr (inl (v, in_set_is x (InSet-F.List v) e ∙ InSet'.rolls-List v, h))
in_set_covers text inside x (InSet-F.Function name arguments) e h =
    inr (inr (inl ((name, arguments), in_set_is x (InSet-F.Function name arguments) e ∙ InSet'.rolls-Function name arguments, (h.0, h.1))))
in_set_covers text inside x (InSet-F.Object v) e h =
    inr (inr (inr (v, in_set_is x (InSet-F.Object v) e ∙ InSet'.rolls-Object v, h)))

operand_is : (x : Operand) (o : OpenOperand) → out-Operand x ≡ o → x ≡ roll-Operand o
operand_is x o e = sym (roll-out-Operand x) ∙ ap roll-Operand e

operand_out : (x : Operand) (o : OpenOperand) → roll-Operand o ≡ x → o ≡ out-Operand x
operand_out x o e = sym (out-roll-Operand o) ∙ ap out-Operand e

operand_covers : (text : List ℕ) (inside : Inside) (x : Operand) (o : OpenOperand) → out-Operand x ≡ o → IsOperand text inside o
    → Covers (λ (v : Option Token × InParens Select). Operand'.Subquery v.0 v.1) (IsSubquery text inside) x
    ⊎ (Covers (λ v. Operand'.Call v) (IsCall text inside) x
    ⊎ (Covers (λ v. Operand'.Literal v) (IsLiteral text) x
    ⊎ (Covers (λ v. Operand'.Column v) (IsColumnUse text inside) x
    ⊎ (Covers (λ v. Operand'.Exprs v) (IsInParens text (IsRow text inside)) x
    ⊎ (Covers (λ v. Operand'.Case v) (IsCase text inside) x
    ⊎ (Covers (λ v. Operand'.Cast v) (IsCast text inside) x
    ⊎ Covers (λ v. Operand'.Raise v) (IsRaise text inside) x))))))
operand_covers text inside x (Operand-F.Subquery exists select) e h =
    inl ((exists, select), operand_is x (Operand-F.Subquery exists select) e ∙ Operand'.rolls-Subquery exists select, (h.0, h.1))
operand_covers text inside x (Operand-F.Call v) e h =
    inr (inl (v, operand_is x (Operand-F.Call v) e ∙ Operand'.rolls-Call v, h))
operand_covers text inside x (Operand-F.Literal v) e h =
    inr (inr (inl (v, operand_is x (Operand-F.Literal v) e ∙ Operand'.rolls-Literal v, h)))
operand_covers text inside x (Operand-F.Column v) e h =
    inr (inr (inr (inl (v, operand_is x (Operand-F.Column v) e ∙ Operand'.rolls-Column v, h))))
operand_covers text inside x (Operand-F.Exprs v) e h =
    inr (inr (inr (inr (inl (v, operand_is x (Operand-F.Exprs v) e ∙ Operand'.rolls-Exprs v, h)))))
operand_covers text inside x (Operand-F.Case v) e h =
    inr (inr (inr (inr (inr (inl (v, operand_is x (Operand-F.Case v) e ∙ Operand'.rolls-Case v, h))))))
operand_covers text inside x (Operand-F.Cast v) e h =
    inr (inr (inr (inr (inr (inr (inl (v, operand_is x (Operand-F.Cast v) e ∙ Operand'.rolls-Cast v, h)))))))
operand_covers text inside x (Operand-F.Raise v) e h =
    inr (inr (inr (inr (inr (inr (inr (v, operand_is x (Operand-F.Raise v) e ∙ Operand'.rolls-Raise v, h)))))))

postfix_is : (x : Postfix) (o : OpenPostfix) → out-Postfix x ≡ o → x ≡ roll-Postfix o
postfix_is x o e = sym (roll-out-Postfix x) ∙ ap roll-Postfix e

postfix_out : (x : Postfix) (o : OpenPostfix) → roll-Postfix o ≡ x → o ≡ out-Postfix x
postfix_out x o e = sym (out-roll-Postfix o) ∙ ap out-Postfix e

postfix_covers : (text : List ℕ) (inside : Inside) (x : Postfix) (o : OpenPostfix) → out-Postfix x ≡ o → IsPostfix text inside o
    → Covers (λ (v : Token × Token). Postfix'.Collate v.0 v.1) (λ v. IsFixed text K.Collate v.0 × IsName text v.1) x
    ⊎ (Covers (λ v. Postfix'.IsNull v) (IsFixed text K.IsNull) x
    ⊎ (Covers (λ v. Postfix'.NotNull v) (IsFixed text K.NotNull) x
    ⊎ (Covers (λ (v : Token × Token). Postfix'.NotNullWords v.0 v.1) (λ v. IsFixed text K.Not v.0 × IsFixed text K.Null v.1) x
    ⊎ Covers (λ (v : (Option Token × Token) × InSet). Postfix'.In v.0.0 v.0.1 v.1) (λ v. (IfSome v.0.0 (IsFixed text K.Not) × IsFixed text K.In v.0.1) × IsInSet text inside (out-InSet v.1)) x)))
postfix_covers text inside x (Postfix-F.Collate collate name) e h =
    inl ((collate, name), postfix_is x (Postfix-F.Collate collate name) e ∙ Postfix'.rolls-Collate collate name, (h.0, h.1))
postfix_covers text inside x (Postfix-F.IsNull v) e h =
    inr (inl (v, postfix_is x (Postfix-F.IsNull v) e ∙ Postfix'.rolls-IsNull v, h))
postfix_covers text inside x (Postfix-F.NotNull v) e h =
    inr (inr (inl (v, postfix_is x (Postfix-F.NotNull v) e ∙ Postfix'.rolls-NotNull v, h)))
postfix_covers text inside x (Postfix-F.NotNullWords not null) e h =
    inr (inr (inr (inl ((not, null), postfix_is x (Postfix-F.NotNullWords not null) e ∙ Postfix'.rolls-NotNullWords not null, (h.0, h.1)))))
postfix_covers text inside x (Postfix-F.In not in_word set) e h =
    inr (inr (inr (inr (((not, in_word), set), postfix_is x (Postfix-F.In not in_word set) e ∙ Postfix'.rolls-In not in_word set, ((h.0, h.1), h.2)))))

abbrev IsOpenPart : List ℕ → Inside → OpenPart → Type 0
IsOpenPart text inside x =
    AllByRecursion (IsPrefix text) x.prefixes × IsOperand text inside (out-Operand x.operand)
    × AllByRecursion (λ postfix. IsPostfix text inside (out-Postfix postfix)) x.postfixes

abbrev IsIsPart : List ℕ → Inside → Token × Part → Type 0
IsIsPart text inside v = IsFixed text K.Is v.0 × (IsPart text inside v.1 × BeginsWithout text (K.Not ∷ []) (part_tokens v.1))

abbrev IsOpenInfixPart : List ℕ → Inside → OpenInfixPart → Type 0
IsOpenInfixPart text inside x = IsInfix text x.operator × IsPart text inside x.part × LeavesNot text x.operator (part_tokens x.part)

leaves : (text : List ℕ) (operator : Infix) (tokens : List Token) → IsNotBare operator → LeavesNot text operator tokens
leaves text (Infix'.Is is None None) tokens other = absurd other
leaves text (Infix'.Is is None (Some words_two)) tokens other = tt
leaves text (Infix'.Is is (Some no_word) pair) tokens other = tt
leaves text (Infix'.Sign t) tokens other = tt
leaves text (Infix'.And t) tokens other = tt
leaves text (Infix'.Or t) tokens other = tt
leaves text (Infix'.Escape t) tokens other = tt
leaves text (Infix'.Compares no_word w) tokens other = tt

abbrev IsOtherPart : List ℕ → Inside → Infix × Part → Type 0
IsOtherPart text inside v = IsOtherInfix text v.0 × IsPart text inside v.1

infix_part_covers : (text : List ℕ) (inside : Inside) (x : InfixPart) (operator : Infix) (part : Part) → x ≡ infix_part_of operator part
    → IsInfix text operator × IsPart text inside part × LeavesNot text operator (part_tokens part)
    → Covers (λ (v : Token × Part). infix_part_of (Infix'.Is v.0 None None) v.1) (IsIsPart text inside) x
    ⊎ Covers (λ (v : Infix × Part). infix_part_of v.0 v.1) (IsOtherPart text inside) x
infix_part_covers text inside x (Infix'.Is is None None) part e h = inl ((is, part), e, (h.0.0, (h.1, h.2)))
infix_part_covers text inside x (Infix'.Is is None (Some words_two)) part e h = inr ((Infix'.Is is None (Some words_two), part), e, ((h.0, tt), h.1))
infix_part_covers text inside x (Infix'.Is is (Some no_word) pair) part e h = inr ((Infix'.Is is (Some no_word) pair, part), e, ((h.0, tt), h.1))
infix_part_covers text inside x (Infix'.Sign t) part e h = inr ((Infix'.Sign t, part), e, ((h.0, tt), h.1))
infix_part_covers text inside x (Infix'.And t) part e h = inr ((Infix'.And t, part), e, ((h.0, tt), h.1))
infix_part_covers text inside x (Infix'.Or t) part e h = inr ((Infix'.Or t, part), e, ((h.0, tt), h.1))
infix_part_covers text inside x (Infix'.Escape t) part e h = inr ((Infix'.Escape t, part), e, ((h.0, tt), h.1))
infix_part_covers text inside x (Infix'.Compares no_word w) part e h = inr ((Infix'.Compares no_word w, part), e, ((h.0, tt), h.1))

abbrev IsOpenExpr : List ℕ → Inside → OpenExpr → Type 0
IsOpenExpr text inside x = IsPart text inside x.first × AllByRecursion (IsInfixPart text inside) x.more

-- {"-" | "+" | "~" | NOT}
pub prefixes_reads : (text : List ℕ) {n : ℕ} → Reads (sort_of text) (List Token) (AllByRecursion (IsPrefix text)) (AllByRecursion (IsPrefix text)) (flat one) n
    (prefixes (sort_of text)) (read_prefixes (sort_of text))
unfolding read_prefixes
prefixes_reads text = many_reads (leaf_reads (prefix_fits text)) refl refl

module _ {text : List ℕ} {n : ℕ} {inside : Inside} {inner twin : Inner} where
  -- exprs, where a select would begin with WITH
  pub row_reads : Nested text n inside inner twin → Reads (sort_of text) (Commas Expr) (IsRow text inside) (IsRow text inside) (commas_tokens expr_tokens) n
      (row (sort_of text) inner) (read_row (sort_of text) twin)
  unfolding read_row
  row_reads nested = without_reads (words (K.With ∷ [])) (exprs_reads nested) (no_words_fit text (K.With ∷ [])) refl

  -- "(" exprs ")"
  pub row_parens_reads : Nested text n inside inner twin → Reads (sort_of text) (InParens (Commas Expr)) (IsInParens text (IsRow text inside)) (IsInParens text (IsRow text inside)) (in_parens_tokens (commas_tokens expr_tokens)) n
      (row_parens (sort_of text) inner) (read_row_parens (sort_of text) twin)
  unfolding read_row_parens
  row_parens_reads nested =
      formed_reads
      (lead_reads (sign_fits text Opening 40 refl refl) (seq_reads (row_reads nested) (leaf_reads (sign_fits text Closing 41 refl refl)) refl))
      (record {
        spelled = λ v. refl;
        meets = λ v h. (h.0, h.1.0, h.1.1);
        covers = λ x h. ((x.opening, (x.inner, x.closing)), refl, (h.0, (h.1, h.2)));
      })

  -- [exprs]
  pub opt_row_reads : Nested text n inside inner twin → Reads (sort_of text) (Option (Commas Expr)) (λ x. IfSome x (IsRow text inside)) (λ x. IfSome x (IsRow text inside)) (maybe (commas_tokens expr_tokens)) n
      (opt_row (sort_of text) inner) (read_opt_row (sort_of text) twin)
  unfolding read_opt_row
  opt_row_reads nested = opt_reads (row_reads nested) refl

  -- "(" [exprs] ")" of a set
  pub list_parens_reads : Nested text n inside inner twin → Reads (sort_of text) (InParens (Option (Commas Expr))) (IsInParens text (λ x. IfSome x (IsRow text inside))) (IsInParens text (λ x. IfSome x (IsRow text inside))) (in_parens_tokens (maybe (commas_tokens expr_tokens))) n
      (list_parens (sort_of text) inner) (read_list_parens (sort_of text) twin)
  unfolding read_list_parens
  list_parens_reads nested =
      formed_reads
      (lead_reads (sign_fits text Opening 40 refl refl) (seq_reads (opt_row_reads nested) (leaf_reads (sign_fits text Closing 41 refl refl)) refl))
      (record {
        spelled = λ v. refl;
        meets = λ v h. (h.0, h.1.0, h.1.1);
        covers = λ x h. ((x.opening, (x.inner, x.closing)), refl, (h.0, (h.1, h.2)));
      })

  -- [exprs] of a function
  pub opt_exprs_reads : Nested text n inside inner twin → Reads (sort_of text) (Option (Commas Expr)) (λ x. IfSome x (AreCommas text inside.expr)) (λ x. IfSome x (AreCommas text inside.expr)) (maybe (commas_tokens expr_tokens)) n
      (opt_exprs (sort_of text) inner) (read_opt_exprs (sort_of text) twin)
  unfolding read_opt_exprs
  opt_exprs_reads nested = opt_reads (exprs_reads nested) refl

  -- "(" [exprs] ")" of a function
  pub arguments_reads : Nested text n inside inner twin → Reads (sort_of text) (InParens (Option (Commas Expr))) (AreArguments text inside) (AreArguments text inside) (in_parens_tokens (maybe (commas_tokens expr_tokens))) n
      (arguments (sort_of text) inner) (read_arguments (sort_of text) twin)
  unfolding read_arguments
  arguments_reads nested = in_parens_reads (opt_exprs_reads nested) refl

  -- "(" select ")"
  pub query_reads : Nested text n inside inner twin → Reads (sort_of text) (InParens Select) (IsInParens text inside.select) (IsInParens text inside.select) (in_parens_tokens select_tokens) n
      (query (sort_of text) inner) (read_query (sort_of text) twin)
  unfolding read_query
  query_reads nested = in_parens_reads nested.select refl

  -- "(" select ")" | "(" [exprs] ")" | name "(" [exprs] ")" | object
  pub in_set_reads : Nested text n inside inner twin → Reads (sort_of text) InSet (λ x. IsInSet text inside (out-InSet x)) (λ x. IsInSet text inside (out-InSet x)) in_set_tokens n
      (in_set (sort_of text) inner) (read_in_set (sort_of text) twin)
  unfolding read_in_set
  in_set_reads nested =
      ruled
      (choice_reads
      (variant_reads (query_reads nested) (λ v. in_set_tokens-Query v)
      (λ v h. subst (IsInSet text inside) (in_set_out (InSet'.Query v) (InSet-F.Query v) (InSet'.rolls-Query v)) h))
      (choice_reads
      (variant_reads (widened_reads {starts = parens_starts} {goes_on = []} (list_parens_reads nested) refl refl) (λ v. in_set_tokens-List v)
      (λ v h. subst (IsInSet text inside) (in_set_out (InSet'.List v) (InSet-F.List v) (InSet'.rolls-List v)) h))
      (choice_reads
      (variant_reads (lead_reads (name_fits text) (arguments_reads nested)) (λ v. in_set_tokens-Function v.0 v.1)
      (λ v h. subst (IsInSet text inside) (in_set_out (InSet'.Function v.0 v.1) (InSet-F.Function v.0 v.1) (InSet'.rolls-Function v.0 v.1)) (h.0, h.1)))
      (variant_reads (object_reads text) (λ v. in_set_tokens-Object v)
      (λ v h. subst (IsInSet text inside) (in_set_out (InSet'.Object v) (InSet-F.Object v) (InSet'.rolls-Object v)) h))
      refl refl refl) refl refl refl) refl refl refl)
      (λ x h. h)
      (λ x h. in_set_covers text inside x (out-InSet x) refl h)

  -- [EXISTS] "(" select ")"
  pub subquery_reads : Nested text n inside inner twin → Reads (sort_of text) (Option Token × InParens Select) (IsSubquery text inside) (IsSubquery text inside) (λ v. maybe one v.0 ++ in_parens_tokens select_tokens v.1) n
      (subquery (sort_of text) inner) (read_subquery (sort_of text) twin)
  unfolding read_subquery
  subquery_reads nested = seq_reads (opt_leaf_reads text (word_fits text K.Exists)) (query_reads nested) refl

  -- [EXISTS] "(" select ")" | call | literal | column-use | "(" exprs ")" | CASE .. | CAST .. | RAISE ..
  pub operand_reads : Nested text n inside inner twin → Reads (sort_of text) Operand (λ x. IsOperand text inside (out-Operand x)) (λ x. IsOperand text inside (out-Operand x)) operand_tokens n
      (operand (sort_of text) inner) (read_operand (sort_of text) twin)
  unfolding read_operand read_other_operand
  operand_reads nested =
      ruled
      (choice_reads
      (variant_reads (subquery_reads nested) (λ v. operand_tokens-Subquery v.0 v.1)
      (λ v h. subst (IsOperand text inside) (operand_out (Operand'.Subquery v.0 v.1) (Operand-F.Subquery v.0 v.1) (Operand'.rolls-Subquery v.0 v.1)) (h.0, h.1)))
      (choice_reads
      (variant_reads (call_reads nested) (λ v. operand_tokens-Call v)
      (λ v h. subst (IsOperand text inside) (operand_out (Operand'.Call v) (Operand-F.Call v) (Operand'.rolls-Call v)) h))
      (choice_reads
      (variant_reads (literal_reads text) (λ v. operand_tokens-Literal v)
      (λ v h. subst (IsOperand text inside) (operand_out (Operand'.Literal v) (Operand-F.Literal v) (Operand'.rolls-Literal v)) h))
      (choice_reads
      (variant_reads (column_use_reads text inside nested.column) (λ v. operand_tokens-Column v)
      (λ v h. subst (IsOperand text inside) (operand_out (Operand'.Column v) (Operand-F.Column v) (Operand'.rolls-Column v)) h))
      (choice_reads
      (variant_reads (widened_reads {starts = parens_starts} {goes_on = []} (row_parens_reads nested) refl refl) (λ v. operand_tokens-Exprs v)
      (λ v h. subst (IsOperand text inside) (operand_out (Operand'.Exprs v) (Operand-F.Exprs v) (Operand'.rolls-Exprs v)) h))
      (choice_reads
      (variant_reads (case_reads nested) (λ v. operand_tokens-Case v)
      (λ v h. subst (IsOperand text inside) (operand_out (Operand'.Case v) (Operand-F.Case v) (Operand'.rolls-Case v)) h))
      (choice_reads
      (variant_reads (cast_reads nested) (λ v. operand_tokens-Cast v)
      (λ v h. subst (IsOperand text inside) (operand_out (Operand'.Cast v) (Operand-F.Cast v) (Operand'.rolls-Cast v)) h))
      (variant_reads (raise_reads nested) (λ v. operand_tokens-Raise v)
      (λ v h. subst (IsOperand text inside) (operand_out (Operand'.Raise v) (Operand-F.Raise v) (Operand'.rolls-Raise v)) h))
      refl refl refl) refl refl refl) refl refl refl) refl refl refl) refl refl refl) refl refl refl) refl refl refl)
      (λ x h. h)
      (λ x h. operand_covers text inside x (out-Operand x) refl h)

  -- COLLATE name | ISNULL | NOTNULL | NOT NULL | [NOT] IN set
  pub postfix_reads : Nested text n inside inner twin → Reads (sort_of text) Postfix (λ x. IsPostfix text inside (out-Postfix x)) (λ x. IsPostfix text inside (out-Postfix x)) postfix_tokens n
      (postfix (sort_of text) inner) (read_postfix (sort_of text) twin)
  unfolding read_postfix
  postfix_reads nested =
      ruled
      (choice_reads
      (variant_reads (begun_reads (word_fits text K.Collate) (leaf_reads (name_fits text))) (λ v. postfix_tokens-Collate v.0 v.1)
      (λ v h. subst (IsPostfix text inside) (postfix_out (Postfix'.Collate v.0 v.1) (Postfix-F.Collate v.0 v.1) (Postfix'.rolls-Collate v.0 v.1)) (h.0, h.1)))
      (choice_reads
      (variant_reads (leaf_reads (word_fits text K.IsNull)) (λ v. postfix_tokens-IsNull v)
      (λ v h. subst (IsPostfix text inside) (postfix_out (Postfix'.IsNull v) (Postfix-F.IsNull v) (Postfix'.rolls-IsNull v)) h))
      (choice_reads
      (variant_reads (leaf_reads (word_fits text K.NotNull)) (λ v. postfix_tokens-NotNull v)
      (λ v h. subst (IsPostfix text inside) (postfix_out (Postfix'.NotNull v) (Postfix-F.NotNull v) (Postfix'.rolls-NotNull v)) h))
      (choice_reads
      (variant_reads (lead_reads (word_fits text K.Not) (leaf_reads (word_fits text K.Null))) (λ v. postfix_tokens-NotNullWords v.0 v.1)
      (λ v h. subst (IsPostfix text inside) (postfix_out (Postfix'.NotNullWords v.0 v.1) (Postfix-F.NotNullWords v.0 v.1) (Postfix'.rolls-NotNullWords v.0 v.1)) (h.0, h.1)))
      (variant_reads (seq_reads (maybe_not_reads text (word_fits text K.In) refl) (in_set_reads nested) refl) (λ v. postfix_tokens-In v.0.0 v.0.1 v.1)
      (λ v h. subst (IsPostfix text inside) (postfix_out (Postfix'.In v.0.0 v.0.1 v.1) (Postfix-F.In v.0.0 v.0.1 v.1) (Postfix'.rolls-In v.0.0 v.0.1 v.1)) (h.0.0, h.0.1, h.1)))
      refl refl refl) refl refl refl) refl refl refl) refl refl refl)
      (λ x h. h)
      (λ x h. postfix_covers text inside x (out-Postfix x) refl h)

  -- {postfix}
  pub postfixes_reads : Nested text n inside inner twin → Reads (sort_of text) (List Postfix) (AllByRecursion (λ x. IsPostfix text inside (out-Postfix x))) (AllByRecursion (λ x. IsPostfix text inside (out-Postfix x))) (flat postfix_tokens) n
      (postfixes (sort_of text) inner) (read_postfixes (sort_of text) twin)
  unfolding read_postfixes
  postfixes_reads nested = many_reads (postfix_reads nested) refl refl

  -- {"-" | "+" | "~" | NOT} operand {postfix}
  pub part_reads : Nested text n inside inner twin → Reads (sort_of text) Part (IsPart text inside) (IsPart text inside) part_tokens n
      (part (sort_of text) inner) (read_part (sort_of text) twin)
  unfolding read_part
  part_reads nested =
      formed_reads (seq_reads (seq_reads (prefixes_reads text) (operand_reads nested) refl) (postfixes_reads nested) refl)
      (record {
        spelled = λ v. made_part (record { prefixes = v.0.0; operand = v.0.1; postfixes = v.1 });
        meets = λ v h. subst (IsOpenPart text inside) (sym (out-roll-Part (record { prefixes = v.0.0; operand = v.0.1; postfixes = v.1 }))) (h.0.0, h.0.1, h.1);
        covers = λ x h. (
          (((out-Part x).prefixes, (out-Part x).operand), (out-Part x).postfixes),
          sym (roll-out-Part x),
          ((h.0, h.1), h.2),
        );
      })

  -- IS part, where the part does not begin with NOT
  pub is_part_reads : Nested text n inside inner twin → Reads (sort_of text) (Token × Part) (IsIsPart text inside) (IsIsPart text inside) (λ v. one v.0 ++ part_tokens v.1) n
      (is_part (sort_of text) inner) (read_is_part (sort_of text) twin)
  unfolding read_is_part read_free_part
  is_part_reads nested =
      seq_reads (leaf_before_reads (word_fits text K.Is))
      (without_reads (words (K.Not ∷ [])) (part_reads nested) (no_words_fit text (K.Not ∷ [])) refl) refl

  -- infix part
  pub infix_part_reads : Nested text n inside inner twin → Reads (sort_of text) InfixPart (IsInfixPart text inside) (IsInfixPart text inside) infix_part_tokens n
      (infix_part (sort_of text) inner) (read_infix_part (sort_of text) twin)
  unfolding read_infix_part
  infix_part_reads nested =
      widened_reads
      (ruled
      (choice_reads
      (variant_reads (is_part_reads nested) (λ v. made_infix_part (record { operator = Infix'.Is v.0 None None; part = v.1 }))
      (λ v h. subst (IsOpenInfixPart text inside) (sym (out-roll-InfixPart (record { operator = Infix'.Is v.0 None None; part = v.1 })))
      ((h.0, tt, tt), h.1.0, h.1.1)))
      (variant_reads (seq_reads (operator_reads text) (part_reads nested) refl) (λ v. made_infix_part (record { operator = v.0; part = v.1 }))
      (λ v h. subst (IsOpenInfixPart text inside) (sym (out-roll-InfixPart (record { operator = v.0; part = v.1 })))
      (h.0.0, h.1, leaves text v.0 (part_tokens v.1) h.0.1)))
      refl refl refl)
      (λ x h. h)
      (λ x h. infix_part_covers text inside x (out-InfixPart x).operator (out-InfixPart x).part (sym (roll-out-InfixPart x)) h))
      refl refl

  -- {infix part}
  pub infix_parts_reads : Nested text n inside inner twin → Reads (sort_of text) (List InfixPart) (AllByRecursion (IsInfixPart text inside)) (AllByRecursion (IsInfixPart text inside)) (flat infix_part_tokens) n
      (infix_parts (sort_of text) inner) (read_infix_parts (sort_of text) twin)
  unfolding read_infix_parts
  infix_parts_reads nested = many_reads (infix_part_reads nested) refl refl

  -- part {infix part}
  pub expr_level_reads : Nested text n inside inner twin → Reads (sort_of text) Expr (IsExpr text inside) (IsExpr text inside) expr_tokens n
      (expr_level (sort_of text) inner) (read_expr_level (sort_of text) twin)
  unfolding read_expr_level
  expr_level_reads nested =
      widened_reads
      (formed_reads (seq_reads (part_reads nested) (infix_parts_reads nested) refl)
      (record {
        spelled = λ v. made_expr (record { first = v.0; more = v.1 });
        meets = λ v h. subst (IsOpenExpr text inside) (sym (out-roll-Expr (record { first = v.0; more = v.1 }))) h;
        covers = λ x h. (((out-Expr x).first, (out-Expr x).more), sym (roll-out-Expr x), h);
      }))
      refl refl
