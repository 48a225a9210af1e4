-- Small trees of texts that the rules admit, and trees that they do not.
use Rattle.std.proofs.Common.{◌≡◌, ℕ, List, [], ◌∷◌, Some, None, refl, sym, ap, subst, ◌∙◌}
use Rattle.std.specs.Prelude.{codes}
use Rattle.sql_token.specs.declared.token.Token.{Token}
use Rattle.sql_token.specs.declared.token.TokenKind.TheVariants as Kind
use Rattle.sql_token.specs.declared.keyword.Keyword.TheVariants as K
use Rattle.std.proofs.lemmas.List.{append-nil}
use Rattle.sql_expr.specs.Leaf.{BeginsWithout}
use Rattle.sql_expr.specs.Tokens.{commas_tokens}
use Rattle.sql_expr.specs.Tree.{expr_tokens}
use Rattle.sql_expr.specs.Levels.{OpenExpr, OpenOperand, OpenPostfix}
use Rattle.sql_expr.specs.Rules.{UsualAt, IsExprAt, IsPostfix}
use Rattle.sql_expr.proofs.Made.{alone, alone_tokens, expr_levels, is_alone, is_expr, is_part, open_expr, part_of}
use Rattle.sql_expr.proofs.SmallTrees.{word, sign, plain_column}
use Rattle.sql_expr.specs.declared.operators.Literal.TheVariants as Literal'
use Rattle.sql_expr.specs.declared.names.ColumnUse.TheVariants as ColumnUse'
use Rattle.sql_expr.specs.declared.expr.InSet.TheOpen.{Operand-F, Postfix-F}
use Rattle.sql_expr.specs.declared.expr.Expr.{Expr, roll-Expr}
use Rattle.sql_expr.specs.declared.expr.Postfix.{Postfix, out-Postfix, roll-Postfix, out-roll-Postfix}
use Rattle.sql_tree.specs.Keys.{left_of}
use Rattle.sql_tree.specs.Rules.{IsCreateTable, IsKeyExpr}
use Rattle.sql_tree.specs.declared.table.TableCons.TheVariants as TableCons'
use Rattle.sql_tree.specs.declared.table.CreateTable.{CreateTable}
use Rattle.sql_tree.proofs.Keys.{as_it_is, collate_counts, collate_over, key_alone, no_text_is_key}

-- `CREATE TABLE t(a, UNIQUE('a'))`
abbrev text : List ℕ
text = codes "CREATE TABLE t(a, UNIQUE('a'))"

abbrev quoted : Token
quoted = record { kind = Kind.Str; start = 25; end = 28 }

-- the table whose key is this operand
abbrev table_with : OpenOperand → CreateTable
table_with key = record {
  create = word 0 6;
  table = word 7 12;
  if_not_exists = None;
  name = word 13 14;
  body = record {
    opening = sign 14;
    inner = record {
      columns = record { first = record { name = word 15 16; column_type = None; constraints = [] }; more = [] };
      constraints = Some (record {
        comma = sign 16;
        first = TableCons'.Unique (word 18 24)
            (record {
              opening = sign 24;
              inner = record { first = record { expr = alone key; direction = None }; more = [] };
              closing = sign 28;
            }) None;
        more = [];
      });
    };
    closing = sign 29;
  };
  options = None;
}

-- the Str as a text, as it is read, and as a column
abbrev as_text : OpenOperand
as_text = Operand-F.Literal (Literal'.Str quoted)

abbrev as_column : OpenOperand
as_column = Operand-F.Column (ColumnUse'.One quoted)

str_is_key : IsKeyExpr text 1 (alone as_column)
str_is_key = (alone as_text, is_alone text (UsualAt text 0) as_text refl, sym (key_alone 0 1 as_text))

-- the Str is a column
pub column_key_admitted : IsCreateTable text 1 (table_with as_column)
column_key_admitted = (
  record { kind = refl; spelled = refl },
  record { kind = refl; spelled = refl },
  tt,
  (plain_column text 13 14 refl).0.0,
  (
    record { kind = refl; spelled = refl },
    (
      (((plain_column text 15 16 refl).0.0, tt, tt), tt),
      (
        record { kind = refl; spelled = refl },
        (
          record { kind = refl; spelled = refl },
          (record { kind = refl; spelled = refl }, ((str_is_key, tt), tt), record { kind = refl; spelled = refl }),
          tt,
        ),
        tt,
      ),
    ),
    record { kind = refl; spelled = refl },
  ),
  tt,
)

-- and no text
pub text_key_refused : (n : ℕ) → IsCreateTable text n (table_with as_text) → ⊥
text_key_refused n h = no_text_is_key text n quoted h.4.1.1.1.1.1.0.0

-- `('a')`
abbrev parens_text : List ℕ
parens_text = codes "('a')"

abbrev in_parens : Expr → OpenOperand
in_parens x = Operand-F.Exprs (record { opening = sign 0; inner = record { first = x; more = [] }; closing = sign 4 })

abbrev inner_str : Token
inner_str = record { kind = Kind.Str; start = 1; end = 4 }

abbrev inner_text : OpenOperand
inner_text = Operand-F.Literal (Literal'.Str inner_str)

abbrev inner_column : OpenOperand
inner_column = Operand-F.Column (ColumnUse'.One inner_str)

without_with : BeginsWithout parens_text (K.With ∷ []) (commas_tokens expr_tokens (record { first = alone inner_text; more = [] }))
without_with t rest is = (
  λ fixed.
      let same : inner_str ∷ [] ≡ t ∷ rest = sym (append-nil (expr_tokens (alone inner_text)) ∙ alone_tokens inner_text) ∙ is in
      let head : inner_str ≡ t = cc in
      let clash : Kind.Str ≡ Kind.Word = ap (λ u. u.kind) head ∙ fixed.kind in
      cc,
  tt,
)

-- in parentheses the Str is a column too
pub str_in_parens_is_key : IsKeyExpr parens_text 2 (alone (in_parens (alone inner_column)))
str_in_parens_is_key = (
  alone (in_parens (alone inner_text)),
  is_alone parens_text (UsualAt parens_text 1) (in_parens (alone inner_text)) (
    record { kind = refl; spelled = refl },
    ((is_alone parens_text (UsualAt parens_text 0) inner_text refl, tt), without_with),
    record { kind = refl; spelled = refl },
  ),
  sym (key_alone 1 1 (in_parens (alone inner_text)) ∙ ap (λ x. alone (in_parens x)) (key_alone 0 1 inner_text)),
)

-- `'a' COLLATE x COLLATE y`
abbrev collates_text : List ℕ
collates_text = codes "'a' COLLATE x COLLATE y"

abbrev first_text : OpenOperand
first_text = Operand-F.Literal (Literal'.Str (record { kind = Kind.Str; start = 0; end = 3 }))

abbrev by_x : OpenPostfix
by_x = Postfix-F.Collate (word 4 11) (word 12 13)

abbrev by_y : OpenPostfix
by_y = Postfix-F.Collate (word 14 21) (word 22 23)

abbrev postfixes : List Postfix
postfixes = roll-Postfix by_x ∷ roll-Postfix by_y ∷ []

abbrev collated : OpenExpr
collated = open_expr (part_of [] first_text postfixes) []

postfix_admitted : (postfix : OpenPostfix) → IsPostfix collates_text (UsualAt collates_text 0) postfix
    → IsPostfix collates_text (UsualAt collates_text 0) (out-Postfix (roll-Postfix postfix))
postfix_admitted postfix h = subst (IsPostfix collates_text (UsualAt collates_text 0)) (sym (out-roll-Postfix postfix)) h

collated_is_expr : IsExprAt collates_text 1 (roll-Expr collated)
collated_is_expr =
    is_expr collates_text (UsualAt collates_text 0) collated (
      is_part collates_text (UsualAt collates_text 0) [] first_text postfixes (
        tt,
        refl,
        (
          postfix_admitted by_x (record { kind = refl; spelled = refl }, (plain_column collates_text 12 13 refl).0.0),
          (postfix_admitted by_y (record { kind = refl; spelled = refl }, (plain_column collates_text 22 23 refl).0.0), tt),
        ),
      ),
      tt,
    )

-- with two COLLATE the Str is a text
pub two_collates_are_a_text : IsKeyExpr collates_text 1 (roll-Expr collated)
two_collates_are_a_text = (
  roll-Expr collated,
  collated_is_expr,
  sym (as_it_is 0 1 (roll-Expr collated)
      (expr_levels [] first_text postfixes [] (λ e p o. left_of e.more p.prefixes p.postfixes 1 ≡ None)
      (collate_counts (word 4 11) (word 12 13) (roll-Postfix by_y ∷ []) 0 ∙ collate_over (word 14 21) (word 22 23) []))),
)
