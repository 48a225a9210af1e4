-- Small trees that the rules of expressions admit, and trees that they do not.
use Rattle.std.proofs.Common.{◌≡◌, ◌+◌, ℕ, zero, suc, true, false, List, [], ◌∷◌, length, nat_le, Some, None, refl, sym, ap, ◌∙◌}
use Rattle.std.specs.Prelude.{codes}
use Rattle.std.proofs.lemmas.List.{append-nil}
use Rattle.sql_token.specs.declared.token.Token.{Token}
use Rattle.sql_token.specs.declared.token.TokenKind.TheVariants as Kind
use Rattle.sql_token.specs.declared.keyword.Keyword.{Keyword}
use Rattle.sql_token.specs.declared.keyword.Keyword.TheVariants as K
use Rattle.sql_token.specs.Keyword.{spelling, is_reserved}
use Rattle.sql_token.specs.Names.{folded}
use Rattle.sql_token.specs.Token.{span}
use Rattle.sql_token.specs.Fixed.{IsFixed}
use Rattle.sql_token.proofs.Keywords.{spelling_apart}
use Rattle.sql_expr.specs.Leaf.{IsNoneOf, IsColumnName, current_words}
use Rattle.sql_expr.specs.Rules.{UsualAt, IsExprAt, IsValuesRow}
use Rattle.sql_expr.specs.Tokens.{commas_tokens}
use Rattle.sql_expr.specs.Tree.{expr_tokens, part_tokens}
use Rattle.sql_expr.proofs.Opened.{made_part, made_operand}
use Rattle.sql_expr.proofs.Made.{open_part, part_of, open_infix_part, open_expr, alone, is_part, is_infix_part, of_infix_part, is_expr, of_expr, is_alone, of_alone, alone_tokens}
use Rattle.sql_expr.specs.declared.lists.Commas.{Commas}
use Rattle.sql_expr.specs.declared.lists.InParens.{InParens}
use Rattle.sql_expr.specs.declared.operators.Infix.TheVariants as Infix'
use Rattle.sql_expr.specs.declared.names.ColumnUse.TheVariants as ColumnUse'
use Rattle.sql_expr.specs.declared.expr.Expr.{Expr, roll-Expr}
use Rattle.sql_expr.specs.declared.expr.InfixPart.{roll-InfixPart}
use Rattle.sql_expr.specs.declared.expr.InSet.TheOpen.{Operand-F}
use Rattle.sql_expr.specs.Levels.{OpenExpr, OpenInfixPart, OpenOperand}

-- a Word and a sign at a place of the text
abbrev pub word : ℕ → ℕ → Token
word start end = record { kind = Kind.Word; start = start; end = end }

abbrev pub sign : ℕ → Token
sign start = record { kind = Kind.Op; start = start; end = start + 1 }

none_of : (text : List ℕ) (t : Token) → ((keyword : Keyword) → IsFixed text keyword t → ⊥) → (keywords : List Keyword) → IsNoneOf text keywords t
none_of text t none [] = tt
none_of text t none (keyword ∷ more) = (none keyword, none_of text t none more)

-- no keyword has one letter
long : (keyword : Keyword) → nat_le 2 (length (spelling keyword)) ≡ true
long K.Abort = refl
long _ = refl

one_letter : (letters : List ℕ) (keyword : Keyword) → length letters ≡ 1 → letters ≡ spelling keyword → ⊥
one_letter letters keyword one same =
    let clash : false ≡ true = sym (ap (nat_le 2) one) ∙ ap (λ w. nat_le 2 (length w)) same ∙ long keyword in cc

-- a Word of one letter is a column's name
pub plain_column : (text : List ℕ) (start end : ℕ) → length (folded (span text (word start end))) ≡ 1 → IsColumnName text (word start end)
plain_column text start end one =
    let none : (keyword : Keyword) → IsFixed text keyword (word start end) → ⊥ =
    λ keyword fixed. one_letter (folded (span text (word start end))) keyword one fixed.spelled in
    ((record { kind = tt; free = λ keyword reserved. none keyword }, none_of text (word start end) none (K.Cast ∷ K.Raise ∷ current_words)), λ is_str. cc)

-- a Word that is a keyword, which is neither reserved nor begins an operand, is a column's name
pub keyword_column : (text : List ℕ) (start end : ℕ) (k : Keyword) → folded (span text (word start end)) ≡ spelling k → is_reserved k ≡ false
    → (K.Cast ≡ k → ⊥) → (K.Raise ≡ k → ⊥) → (K.CurrentDate ≡ k → ⊥) → (K.CurrentTime ≡ k → ⊥) → (K.CurrentTimestamp ≡ k → ⊥)
    → IsColumnName text (word start end)
keyword_column text start end k is free cast raise date time stamp =
    let same : (keyword : Keyword) → IsFixed text keyword (word start end) → keyword ≡ k =
    λ keyword fixed. spelling_apart keyword k (sym fixed.spelled ∙ is) in (
      (
        record { kind = tt; free = λ keyword reserved fixed. let clash : false ≡ true = sym (ap is_reserved (same keyword fixed) ∙ free) ∙ reserved in cc },
        (λ f. cast (same _ f), (λ f. raise (same _ f), (λ f. date (same _ f), (λ f. time (same _ f), (λ f. stamp (same _ f), tt))))),
      ),
      λ is_str. cc,
    )

-- `a IS NOT b`
abbrev is_not_text : List ℕ
is_not_text = codes "a IS NOT b"

abbrev a : OpenOperand
a = Operand-F.Column (ColumnUse'.One (word 0 1))

abbrev b : OpenOperand
b = Operand-F.Column (ColumnUse'.One (word 9 10))

-- NOT belongs to IS
abbrev is_not_b : OpenInfixPart
is_not_b = open_infix_part (Infix'.Is (word 2 4) (Some (word 5 8)) None) (part_of [] b [])

abbrev is_not : OpenExpr
is_not = open_expr (part_of [] a []) (roll-InfixPart is_not_b ∷ [])

pub is_not_admitted : IsExprAt is_not_text 1 (roll-Expr is_not)
is_not_admitted =
    is_expr is_not_text (UsualAt is_not_text 0) is_not (
      is_part is_not_text (UsualAt is_not_text 0) [] a [] (tt, plain_column is_not_text 0 1 refl, tt),
      (
        is_infix_part is_not_text (UsualAt is_not_text 0) is_not_b (
          (record { kind = refl; spelled = refl }, record { kind = refl; spelled = refl }, tt),
          is_part is_not_text (UsualAt is_not_text 0) [] b [] (tt, plain_column is_not_text 9 10 refl, tt),
          tt,
        ),
        tt,
      ),
    )

-- NOT as a prefix
abbrev not_b : OpenInfixPart
not_b = open_infix_part (Infix'.Is (word 2 4) None None) (part_of (word 5 8 ∷ []) b [])

abbrev prefixed : OpenExpr
prefixed = open_expr (part_of [] a []) (roll-InfixPart not_b ∷ [])

not_b_tokens : part_tokens (part_of (word 5 8 ∷ []) b []) ≡ word 5 8 ∷ word 9 10 ∷ []
not_b_tokens = made_part (open_part (word 5 8 ∷ []) b []) ∙ append-nil _ ∙ ap (λ l. word 5 8 ∷ l) (made_operand b)

pub prefixed_refused : (n : ℕ) → IsExprAt is_not_text n (roll-Expr prefixed) → ⊥
prefixed_refused zero h = h
prefixed_refused (suc n) h =
    let expr = of_expr is_not_text (UsualAt is_not_text n) prefixed h in
    let next = of_infix_part is_not_text (UsualAt is_not_text n) not_b expr.1.0 in
    (next.2 (word 5 8) (word 9 10 ∷ []) not_b_tokens).0 (record { kind = refl; spelled = refl })

-- `(with)`
abbrev with_text : List ℕ
with_text = codes "(with)"

abbrev with_column : OpenOperand
with_column = Operand-F.Column (ColumnUse'.One (word 1 5))

-- a column `with` in parentheses
abbrev in_parens : InParens (Commas Expr)
in_parens = record { opening = sign 0; inner = record { first = alone with_column; more = [] }; closing = sign 5 }

with_is_column : IsColumnName with_text (word 1 5)
with_is_column = keyword_column with_text 1 5 K.With refl refl (λ e. cc) (λ e. cc) (λ e. cc) (λ e. cc) (λ e. cc)

-- in a row of VALUES
pub row_admitted : IsValuesRow with_text (UsualAt with_text 1) (record { exprs = in_parens })
row_admitted = (
  record { kind = refl; spelled = refl },
  (is_alone with_text (UsualAt with_text 0) with_column with_is_column, tt),
  record { kind = refl; spelled = refl },
)

-- as an operand, which would be a select
pub operand_refused : (n : ℕ) → IsExprAt with_text n (alone (Operand-F.Exprs in_parens)) → ⊥
operand_refused zero h = h
operand_refused (suc n) h =
    let operand = of_alone with_text (UsualAt with_text n) (Operand-F.Exprs in_parens) h in
    let tokens : commas_tokens expr_tokens in_parens.inner ≡ word 1 5 ∷ [] =
    append-nil (expr_tokens (alone with_column)) ∙ alone_tokens with_column in
    (operand.1.1 (word 1 5) [] tokens).0 (record { kind = refl; spelled = refl })
