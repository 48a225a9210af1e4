-- What the leaves of queries ask of their tokens, as sets of sorts.
use Rattle.std.proofs.Common.{List, [], refl, true, ℕ, ◌∷◌}
use Rattle.std.specs.Prelude.{codes}
use Rattle.sql_token.specs.Fixed.{IsName, IsSign}
use Rattle.sql_token.specs.Keyword.{is_join_word}
use Rattle.sql_token.specs.declared.token.Token.{Token}
use Rattle.sql_expr.specs.Leaf.{IsBareAlias, IsColumnName, IsNoneOf, IsOperandName, IsOperatorSign, IsTypeName}
use Rattle.sql_expr.specs.Rules.{Inside, IsPrefix}
use Rattle.sql_expr.specs.Tree.{expr_tokens, select_tokens, sources_tokens}
use Rattle.sql_expr.specs.declared.expr.Expr.{Expr}
use Rattle.sql_expr.specs.declared.select.Select.{Select}
use Rattle.sql_expr.specs.declared.source.Sources.{Sources}
use Rattle.sql_reader.proofs.Laws.{Fits, Reads}
use Rattle.sql_reader.proofs.Leaves.{any_sign_fits, both_fits, either_fits, name_fits, no_words_fit, none_of_fits, same_fits, sign_fits, str_fits, tested_fits, word_fits}
use Rattle.sql_reader.specs.Sorts.{sort_of}
use Rattle.sql_reader.specs.declared.sort.Mark.TheVariants.{Closing, Comma, Dot, Minus, Opening, Plus, Semicolon, Tilde}
use Rattle.sql_reader.specs.declared.sort.Sort.{Sort}
use Rattle.query_reading.specs.Exprs.{Inner, bare_alias, column_name, expr, operand_name, operator_sign, select, sources}
use Rattle.query_reading.specs.Operands.{prefix}
use Rattle.query_reading.specs.Operators.{infix_sign}
use Rattle.query_reading.specs.Types.{type_name}
use Rattle.query_reading.specs.Windows.{base_name}
use Rattle.sql_token.specs.declared.keyword.Keyword.TheVariants as K

-- a name that may begin an operand, and a column's name that stands alone
pub operand_name_fits : (text : List ℕ) → Fits (sort_of text) (IsOperandName text) operand_name
operand_name_fits text =
    both_fits (name_fits text) (no_words_fit text (K.Cast ∷ K.Raise ∷ K.CurrentDate ∷ K.CurrentTime ∷ K.CurrentTimestamp ∷ []))

pub column_name_fits : (text : List ℕ) → Fits (sort_of text) (IsColumnName text) column_name
column_name_fits text = both_fits (operand_name_fits text) (none_of_fits (str_fits text))

-- any token
any_fits : {sort : Token → Sort} → Fits sort (λ t. Unit {0}) (λ s. true)
any_fits = record { meets = λ t here. tt; shows = λ t is. refl }

-- an operator sign, and one that may stand between parts
pub operator_sign_fits : (text : List ℕ) → Fits (sort_of text) (IsOperatorSign text) operator_sign
operator_sign_fits text =
    both_fits (any_sign_fits text) (both_fits (none_of_fits (sign_fits text Opening 40 refl refl))
    (both_fits (none_of_fits (sign_fits text Closing 41 refl refl)) (both_fits (none_of_fits (sign_fits text Comma 44 refl refl))
    (both_fits (none_of_fits (sign_fits text Semicolon 59 refl refl)) (both_fits (none_of_fits (sign_fits text Dot 46 refl refl)) any_fits)))))

pub infix_sign_fits : (text : List ℕ) → Fits (sort_of text) (λ t. IsOperatorSign text t × (IsSign text (codes "~") t → ⊥)) infix_sign
infix_sign_fits text = both_fits (operator_sign_fits text) (none_of_fits (sign_fits text Tilde 126 refl refl))

-- an alias without AS, and a name in a type
pub bare_alias_fits : (text : List ℕ) → Fits (sort_of text) (IsBareAlias text) bare_alias
bare_alias_fits text =
    same_fits
    (both_fits (name_fits text) (both_fits (tested_fits text is_join_word)
    (no_words_fit text (K.Window ∷ K.Over ∷ K.Filter ∷ K.Like ∷ K.Glob ∷ K.Regexp ∷ K.Match ∷ []))))
    (λ t h. (h.0, h.1.0, h.1.1)) (λ t h. (h.0, (h.1, h.2)))

pub type_name_fits : (text : List ℕ) → Fits (sort_of text) (IsTypeName text) type_name
type_name_fits text = both_fits (name_fits text) (tested_fits text is_join_word)

-- a name of a window on which another stands
pub base_name_fits : (text : List ℕ)
    → Fits (sort_of text) (λ t. IsName text t × IsNoneOf text (K.Partition ∷ K.Range ∷ K.Rows ∷ K.Groups ∷ []) t) base_name
base_name_fits text = both_fits (name_fits text) (no_words_fit text (K.Partition ∷ K.Range ∷ K.Rows ∷ K.Groups ∷ []))

-- a prefix
pub prefix_fits : (text : List ℕ) → Fits (sort_of text) (IsPrefix text) prefix
prefix_fits text =
    either_fits (sign_fits text Minus 45 refl refl) (either_fits (sign_fits text Plus 43 refl refl)
    (either_fits (sign_fits text Tilde 126 refl refl) (word_fits text K.Not)))

-- What is known of the readings that are handed in: what they read is as the rules of the inner trees say, and they agree with
-- their twins on as many tokens as the bound.
pub record Nested (text : List ℕ) (n : ℕ) (inside : Inside) (inner twin : Inner) : Type 0 where
  pub column : Fits (sort_of text) inside.column column_name
  pub expr : Reads (sort_of text) Expr inside.expr inside.expr expr_tokens n (expr inner) twin.expr
  pub select : Reads (sort_of text) Select inside.select inside.select select_tokens n (select inner) twin.select
  pub sources : Reads (sort_of text) Sources inside.sources inside.sources sources_tokens n (sources inner) twin.sources
