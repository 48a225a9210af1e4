-- The laws of what is read as names.
use Rattle.std.proofs.Common.{IfSome, List, None, Option, Some, inl, inr, refl, ℕ, ◌++◌, ◌∷◌, ◌≡◌, ◌⊎◌}
use Rattle.std.specs.Prelude.{codes}
use Rattle.sql_token.specs.Fixed.{IsFixed, IsName, IsSign}
use Rattle.sql_token.specs.Spelled.{maybe, one}
use Rattle.sql_token.specs.declared.token.Token.{Token}
use Rattle.sql_expr.specs.Leaf.{IsBareAlias, IsOperandName}
use Rattle.sql_expr.specs.Rules.{AreCommas, AreNames, Inside, IsAlias, IsColumnUse, IsObject}
use Rattle.sql_expr.specs.Tokens.{alias_tokens, column_use_tokens, commas_tokens, in_parens_tokens, next_item_tokens, object_tokens, token_pair_tokens}
use Rattle.sql_expr.specs.declared.lists.Commas.{Commas}
use Rattle.sql_expr.specs.declared.lists.InParens.{InParens}
use Rattle.sql_expr.specs.declared.lists.NextItem.{NextItem}
use Rattle.sql_expr.specs.declared.lists.TokenPair.{TokenPair}
use Rattle.sql_expr.specs.declared.names.Alias.{Alias}
use Rattle.sql_expr.specs.declared.names.ColumnUse.{ColumnUse}
use Rattle.sql_expr.specs.declared.names.Object.{Object}
use Rattle.sql_reader.proofs.Choices.{choice_reads, opt_reads}
use Rattle.sql_reader.proofs.Forms.{begun_reads, formed_reads, lead_reads, leaf_before_reads, ruled, variant_reads}
use Rattle.sql_reader.proofs.Laws.{Fits, Reads, leaf_reads, seq_reads}
use Rattle.sql_reader.proofs.Leaves.{name_fits, sign_fits, word_fits}
use Rattle.sql_reader.proofs.Turns.{TakesToken}
use Rattle.sql_reader.specs.Sorts.{sort_of}
use Rattle.sql_reader.specs.declared.sort.Mark.TheVariants.{Dot}
use Rattle.query_reading.proofs.LeafLaws.{bare_alias_fits, operand_name_fits}
use Rattle.query_reading.proofs.ListLaws.{commas_reads, in_parens_reads, next_item_reads, pair_reads}
use Rattle.query_reading.specs.Exprs.{column_name}
use Rattle.query_reading.specs.Names.{alias, column_use, name_list, names, next_name, object, opt_alias, opt_names, qualified_use, qualifier, read_alias, read_column_use, read_long_use, read_more_names, read_name_list, read_names, read_next_name, read_object, read_opt_alias, read_opt_names, read_qualifier, read_third_name, third_name}
use Rattle.sql_expr.specs.declared.names.ColumnUse.TheVariants as ColumnUse'
use Rattle.sql_token.specs.declared.keyword.Keyword.TheVariants as K

-- an alias, made of its parts
abbrev alias_of : Option Token → Token → Alias
alias_of o t = record { as_word = o; name = t }

alias_covers : (text : List ℕ) (o : Option Token) (t : Token) → IsAlias text (alias_of o t)
    → ((v : Token × Token) × (alias_of o t ≡ alias_of (Some v.0) v.1) × (IsFixed text K.As v.0 × IsName text v.1))
    ⊎ ((v : Token) × (alias_of o t ≡ alias_of None v) × IsBareAlias text v)
alias_covers text (Some as_word) t h = inl ((as_word, t), refl, (h.0, h.1))
alias_covers text None t h = inr (t, refl, h.2)

-- what a use with names before it spells and holds
abbrev IsThird : List ℕ → Option TokenPair → Type 0
IsThird text x = IfSome x (λ pair. IsSign text (codes ".") pair.first × IsName text pair.second)

qualified_spelled : (a d b : Token) (more : Option TokenPair)
    → column_use_tokens (qualified_use a d b more) ≡ (a ∷ (d ∷ one b)) ++ maybe token_pair_tokens more
qualified_spelled a d b None = refl
qualified_spelled a d b (Some third) = refl

qualified_meets : (text : List ℕ) (inside : Inside) (a d b : Token) (more : Option TokenPair)
    → (IsOperandName text a × (IsSign text (codes ".") d × IsName text b)) × IsThird text more → IsColumnUse text inside (qualified_use a d b more)
qualified_meets text inside a d b None h = (h.0.0, h.0.1.0, h.0.1.1)
qualified_meets text inside a d b (Some third) h = (h.0.0, h.0.1.0, h.0.1.1, h.1.0, h.1.1)

module _ (text : List ℕ) {n : ℕ} where
  -- [name "."]
  pub qualifier_reads : Reads (sort_of text) (Option TokenPair) (λ x. IfSome x (λ pair. IsName text pair.first × IsSign text (codes ".") pair.second)) (λ x. IfSome x (λ pair. IsName text pair.first × IsSign text (codes ".") pair.second)) (maybe token_pair_tokens) n
      (qualifier (sort_of text)) (read_qualifier (sort_of text))
  unfolding read_qualifier
  qualifier_reads = opt_reads (pair_reads (name_fits text) (sign_fits text Dot 46 refl refl)) refl

  -- [name "."] name
  pub object_reads : Reads (sort_of text) Object (IsObject text) (IsObject text) object_tokens n
      (object (sort_of text)) (read_object (sort_of text))
  unfolding read_object
  object_reads =
      formed_reads (seq_reads qualifier_reads (leaf_before_reads (name_fits text)) refl)
      (record { spelled = λ v. refl; meets = λ v h. h; covers = λ x h. ((x.qualifier, x.name), refl, h) })

  -- "," name
  pub next_name_reads : Reads (sort_of text) (NextItem Token) (λ x. IsSign text (codes ",") x.comma × IsName text x.item) (λ x. IsSign text (codes ",") x.comma × IsName text x.item) (next_item_tokens one) n
      (next_name (sort_of text)) (read_next_name (sort_of text))
  unfolding read_next_name
  next_name_reads = next_item_reads (leaf_reads (name_fits text))

  -- name {"," name}
  pub name_list_reads : Reads (sort_of text) (Commas Token) (AreCommas text (IsName text)) (AreCommas text (IsName text)) (commas_tokens one) n
      (name_list (sort_of text)) (read_name_list (sort_of text))
  unfolding read_name_list read_more_names read_next_name
  name_list_reads = commas_reads (leaf_reads (name_fits text)) refl

  -- "(" names ")"
  pub names_reads : Reads (sort_of text) (InParens (Commas Token)) (AreNames text) (AreNames text) (in_parens_tokens (commas_tokens one)) n
      (names (sort_of text)) (read_names (sort_of text))
  unfolding read_names
  names_reads = in_parens_reads name_list_reads refl

  -- ["(" names ")"]
  pub opt_names_reads : Reads (sort_of text) (Option (InParens (Commas Token))) (λ x. IfSome x (AreNames text)) (λ x. IfSome x (AreNames text)) (maybe (in_parens_tokens (commas_tokens one))) n
      (opt_names (sort_of text)) (read_opt_names (sort_of text))
  unfolding read_opt_names
  opt_names_reads = opt_reads names_reads refl

  -- [AS] alias
  pub alias_reads : Reads (sort_of text) Alias (IsAlias text) (IsAlias text) alias_tokens n
      (alias (sort_of text)) (read_alias (sort_of text))
  unfolding read_alias
  alias_reads =
      ruled
      (choice_reads
      (variant_reads (begun_reads (word_fits text K.As) (leaf_reads (name_fits text))) (λ v. refl) (λ v h. (h.0, h.1, tt)))
      (variant_reads (leaf_reads (bare_alias_fits text)) (λ t. refl) (λ t h. (tt, h.0, h)))
      refl refl refl)
      (λ x h. h)
      (λ x h. alias_covers text x.as_word x.name h)

  -- [[AS] alias]
  pub opt_alias_reads : Reads (sort_of text) (Option Alias) (λ x. IfSome x (IsAlias text)) (λ x. IfSome x (IsAlias text)) (maybe alias_tokens) n
      (opt_alias (sort_of text)) (read_opt_alias (sort_of text))
  unfolding read_opt_alias
  opt_alias_reads = opt_reads alias_reads refl

  -- ["." name]
  pub third_name_reads : Reads (sort_of text) (Option TokenPair) (IsThird text) (IsThird text) (maybe token_pair_tokens) n
      (third_name (sort_of text)) (read_third_name (sort_of text))
  unfolding read_third_name
  third_name_reads = opt_reads (pair_reads (sign_fits text Dot 46 refl refl) (name_fits text)) refl

module _ (text : List ℕ) (inside : Inside) {n : ℕ} where
  -- name | name "." name | name "." name "." name
  pub column_use_reads : Fits (sort_of text) inside.column column_name
      → Reads (sort_of text) ColumnUse (IsColumnUse text inside) (IsColumnUse text inside) column_use_tokens n (column_use (sort_of text))
      (read_column_use (sort_of text))
  unfolding read_column_use read_long_use
  column_use_reads column =
      let dot = sign_fits text Dot 46 refl refl in
      ruled
      (choice_reads
      (variant_reads (leaf_before_reads column) (λ t. refl) (λ t h. h))
      (variant_reads
      (seq_reads (lead_reads (operand_name_fits text) (lead_reads dot (leaf_reads (name_fits text)))) (third_name_reads text) refl)
      (λ v. qualified_spelled v.0.0 v.0.1.0 v.0.1.1 v.1)
      (λ v h. qualified_meets text inside v.0.0 v.0.1.0 v.0.1.1 v.1 h))
      refl refl refl)
      (λ x h. h)
      (elim [
        | ColumnUse'.One t ↦ λ h. inl (t, refl, h)
        | ColumnUse'.Two first dot column ↦ λ h. inr (((first, (dot, column)), None), refl, ((h.0, (h.1, h.2)), tt))
        | ColumnUse'.Three schema first_dot second second_dot column ↦ λ h.
            inr (((schema, (first_dot, second)), Some (record { first = second_dot; second = column })), refl, ((h.0, (h.1, h.2)), (h.3, h.4)))
      ])

-- a name behind a comma takes a token
pub next_name_takes : (text : List ℕ) → TakesToken (read_next_name (sort_of text))
next_name_takes text = let laws = next_name_reads text {n = 0} in laws.size refl
