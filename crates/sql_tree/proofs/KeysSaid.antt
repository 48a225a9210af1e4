-- What a key is, said without a function: one Str that is a column, with one COLLATE at most and in parentheses or not,
-- or an expression in which no Str stands alone so as a text.
use Rattle.std.proofs.Common.{◌≡◌, ◌++◌, ◌+◌, ◌-◌, ◌≤◌, ℕ, zero, suc, List, [], ◌∷◌, Option, Some, None, ◌⊎◌, inl, inr, refl, sym, ap, subst, ◌∙◌, arith}
use Rattle.std.specs.Prelude.{◌↔◌}
use Rattle.std.specs.List.{AllByRecursion}
use Rattle.sql_token.specs.declared.token.Token.{Token}
use Rattle.sql_token.specs.declared.token.TokenKind.TheVariants as Kind
use Rattle.sql_token.specs.declared.keyword.Keyword.TheVariants as K
use Rattle.sql_expr.specs.Leaf.{BeginsWithout, IsColumnName}
use Rattle.sql_expr.specs.Levels.{OpenOperand, OpenPostfix}
use Rattle.sql_expr.specs.Rules.{Inside, InsideAt, UsualAt, IsExprAt, IsPrefix, IsOperand, IsPostfix, IsInfixPart, IsExpr}
use Rattle.sql_token.specs.Spelled.{flat}
use Rattle.sql_expr.specs.Tokens.{commas_tokens, next_item_tokens}
use Rattle.sql_expr.specs.Tree.{expr_tokens}
use Rattle.sql_expr.specs.declared.lists.Commas.{Commas}
use Rattle.sql_expr.specs.declared.lists.InParens.{InParens}
use Rattle.sql_expr.specs.declared.lists.NextItem.{NextItem}
use Rattle.sql_expr.specs.declared.operators.Literal.TheVariants as Literal'
use Rattle.sql_expr.specs.declared.names.ColumnUse.TheVariants as ColumnUse'
use Rattle.sql_expr.specs.declared.expr.Expr.{Expr, out-Expr, roll-Expr, out-roll-Expr, roll-out-Expr}
use Rattle.sql_expr.specs.declared.expr.InfixPart.{InfixPart}
use Rattle.sql_expr.specs.declared.expr.Part.{out-Part, roll-Part, out-roll-Part, roll-out-Part}
use Rattle.sql_expr.specs.declared.expr.Operand.{out-Operand, roll-Operand, out-roll-Operand, roll-out-Operand}
use Rattle.sql_expr.specs.declared.expr.Postfix.{Postfix, out-Postfix}
use Rattle.sql_expr.specs.declared.expr.InSet.TheOpen.{Operand-F, Postfix-F}
use Rattle.sql_tree.specs.Keys.{after_postfix, after_postfixes, and_then, operand_of, with_operand, with_first, left_of, left_inside, key_operand, key_inside, as_key_with, as_key}
use Rattle.sql_tree.specs.Rules.{IsKeyExpr}
use Rattle.sql_expr.proofs.Heights.{inside_more, higher}
use Rattle.sql_expr.proofs.Alike.{AlikeAt}
use Rattle.sql_expr.proofs.Kept.{Edit, Kept, NameBecomes, becomes_column as column_becomes}
use Rattle.sql_expr.proofs.KeptRules.{kept_at}
use Rattle.sql_tree.proofs.Keys.{operand_with, kept_with}

abbrev IsCollate : OpenPostfix → Type 0
IsCollate (Postfix-F.Collate collate name) = Unit {0}
IsCollate _ = ⊥

-- so many COLLATE and nothing else
abbrev AreCollates : ℕ → List Postfix → Type 0
AreCollates zero [] = Unit {0}
AreCollates zero (postfix ∷ more) = ⊥
AreCollates (suc n) [] = ⊥
AreCollates (suc n) (postfix ∷ more) = IsCollate (out-Postfix postfix) × AreCollates n more

-- parentheses round one expression
abbrev HoldsOne : (Expr → Type 0) → OpenOperand → Type 0
HoldsOne P (Operand-F.Exprs x) = (x.inner.more ≡ []) × P x.inner.first
HoldsOne P _ = ⊥

-- the operand of an expression with nothing but COLLATEs beside it, of which so many stand there and inside
abbrev IsLoneLevel : (OpenOperand → Type 0) → (ℕ → Expr → Type 0) → ℕ → List InfixPart → List Token → List Postfix → OpenOperand → Type 0
IsLoneLevel P nested collates more prefixes postfixes operand =
    (more ≡ []) × (prefixes ≡ []) × (outer : ℕ) × AreCollates outer postfixes
    × (inner : ℕ) × (outer + inner ≡ collates) × (((inner ≡ 0) × P operand) ⊎ HoldsOne (nested inner) operand)

-- the expression is one such operand with so many COLLATE, in parentheses or not
abbrev IsAloneAt : (OpenOperand → Type 0) → ℕ → ℕ → Expr → Type 0
IsAloneAt P zero collates x = ⊥
IsAloneAt P (suc n) collates x =
    IsLoneLevel P (IsAloneAt P n) collates (out-Expr x).more (out-Part (out-Expr x).first).prefixes
    (out-Part (out-Expr x).first).postfixes (operand_of x)

-- a Str as a text, and as a column
abbrev IsStrText : OpenOperand → Type 0
IsStrText (Operand-F.Literal (Literal'.Str t)) = Unit {0}
IsStrText _ = ⊥

abbrev IsStrColumn : OpenOperand → Type 0
IsStrColumn (Operand-F.Column (ColumnUse'.One t)) = Unit {0}
IsStrColumn _ = ⊥

-- the trees inside, where a column's name that stands alone is a Str
abbrev StrAt : List ℕ → ℕ → Inside
StrAt text n = InsideAt text (λ t. t.kind ≡ Kind.Str) n

-- the expression is one Str that is a column, with one COLLATE at most
abbrev IsStrKey : List ℕ → ℕ → Expr → Type 0
IsStrKey text n x = (collates : ℕ) × (collates ≤ 1) × IsAloneAt IsStrColumn n collates x × (StrAt text n).expr x

-- no Str stands alone as a text, with at most so many COLLATE
abbrev NoText : ℕ → Expr → Type 0
NoText left x = (m collates : ℕ) → collates ≤ left → IsAloneAt IsStrText m collates x → ⊥

-- COLLATEs are counted
one_less : (o : OpenPostfix) (left less : ℕ) → after_postfix o left ≡ Some less → IsCollate o × (suc less ≡ left)
one_less (Postfix-F.Collate c name) zero less h = absurd (cc)
one_less (Postfix-F.Collate c name) (suc left) less h = (tt, let e : left ≡ less = cc in ap suc (sym e))
one_less (Postfix-F.IsNull t) left less h = absurd (cc)
one_less (Postfix-F.NotNull t) left less h = absurd (cc)
one_less (Postfix-F.NotNullWords not null) left less h = absurd (cc)
one_less (Postfix-F.In not in_word set) left less h = absurd (cc)

counted_step : (o : OpenPostfix) (left fewer : ℕ) (further : ℕ → Option ℕ) (r : Option ℕ) → after_postfix o left ≡ r
    → and_then r further ≡ Some fewer → (less : ℕ) × IsCollate o × (suc less ≡ left) × (further less ≡ Some fewer)
counted_step o left fewer further None is h = absurd (cc)
counted_step o left fewer further (Some less) is h = let one = one_less o left less is in (less, one.0, one.1, h)

counted : (ps : List Postfix) (left fewer : ℕ) → after_postfixes ps left ≡ Some fewer
    → (outer : ℕ) × AreCollates outer ps × (outer + fewer ≡ left)
counted [] left fewer h = let e : left ≡ fewer = cc in (0, tt, omega arith)
counted (p ∷ ps) left fewer h =
    let step = counted_step (out-Postfix p) left fewer (after_postfixes ps) (after_postfix (out-Postfix p) left) refl h in
    let rest = counted ps step.0 fewer step.3 in
    let less : suc step.0 ≡ left = step.2 in
    let sum : rest.0 + fewer ≡ step.0 = rest.2 in
    (suc rest.0, (step.1, rest.1), omega arith)

collate_some : (o : OpenPostfix) (left : ℕ) → IsCollate o → after_postfix o (suc left) ≡ Some left
collate_some (Postfix-F.Collate c name) left h = refl
collate_some (Postfix-F.IsNull t) left h = absurd h
collate_some (Postfix-F.NotNull t) left h = absurd h
collate_some (Postfix-F.NotNullWords not null) left h = absurd h
collate_some (Postfix-F.In not in_word set) left h = absurd h

uncounted : (outer : ℕ) (ps : List Postfix) (left fewer : ℕ) → AreCollates outer ps → outer + fewer ≡ left
    → after_postfixes ps left ≡ Some fewer
uncounted zero [] left fewer h is = let e : left ≡ fewer = omega arith in ap Some e
uncounted zero (p ∷ ps) left fewer h is = absurd h
uncounted (suc outer) [] left fewer h is = absurd h
uncounted (suc outer) (p ∷ ps) left fewer h is =
    let e : left ≡ suc (outer + fewer) = omega arith in
    ap (after_postfixes (p ∷ ps)) e
    ∙ ap (λ r. and_then r (after_postfixes ps)) (collate_some (out-Postfix p) (outer + fewer) h.0)
    ∙ uncounted outer ps (outer + fewer) fewer h.1 refl

same_count : (a b : ℕ) (ps : List Postfix) → AreCollates a ps → AreCollates b ps → a ≡ b
same_count zero zero ps h k = refl
same_count zero (suc b) [] h k = absurd k
same_count zero (suc b) (p ∷ ps) h k = absurd h
same_count (suc a) zero [] h k = absurd h
same_count (suc a) zero (p ∷ ps) h k = absurd k
same_count (suc a) (suc b) [] h k = absurd h
same_count (suc a) (suc b) (p ∷ ps) h k = ap suc (same_count a b ps h.1 k.1)

left_parts : (more : List InfixPart) (prefixes : List Token) (ps : List Postfix) (left fewer : ℕ) → left_of more prefixes ps left ≡ Some fewer
    → (more ≡ []) × (prefixes ≡ []) × ((outer : ℕ) × AreCollates outer ps × (outer + fewer ≡ left))
left_parts [] [] ps left fewer h = (refl, refl, counted ps left fewer h)
left_parts [] (t ∷ ts) ps left fewer h = absurd (cc)
left_parts (m ∷ ms) [] ps left fewer h = absurd (cc)
left_parts (m ∷ ms) (t ∷ ts) ps left fewer h = absurd (cc)

left_made : (more : List InfixPart) (prefixes : List Token) (ps : List Postfix) (outer left fewer : ℕ) → more ≡ [] → prefixes ≡ []
    → AreCollates outer ps → outer + fewer ≡ left → left_of more prefixes ps left ≡ Some fewer
left_made more prefixes ps outer left fewer no_more no_prefix h is =
    ap (λ m. left_of m prefixes ps left) no_more ∙ ap (λ p. left_of [] p ps left) no_prefix ∙ uncounted outer ps left fewer h is

-- COLLATEs are of their rule whatever stands inside
collate_ruled : (text : List ℕ) (a b : Inside) (o : OpenPostfix) → IsCollate o → IsPostfix text a o → IsPostfix text b o
collate_ruled text a b (Postfix-F.Collate c name) h r = r
collate_ruled text a b (Postfix-F.IsNull t) h r = absurd h
collate_ruled text a b (Postfix-F.NotNull t) h r = absurd h
collate_ruled text a b (Postfix-F.NotNullWords not null) h r = absurd h
collate_ruled text a b (Postfix-F.In not in_word set) h r = absurd h

collates_ruled : (text : List ℕ) (a b : Inside) (outer : ℕ) (ps : List Postfix) → AreCollates outer ps
    → AllByRecursion (λ p. IsPostfix text a (out-Postfix p)) ps → AllByRecursion (λ p. IsPostfix text b (out-Postfix p)) ps
collates_ruled text a b outer [] h r = tt
collates_ruled text a b zero (p ∷ ps) h r = absurd h
collates_ruled text a b (suc outer) (p ∷ ps) h r =
    (collate_ruled text a b (out-Postfix p) h.0 r.0, collates_ruled text a b outer ps h.1 r.1)

-- what holds of the levels of an expression with another operand
with_levels : (o : OpenOperand) (x : Expr) (P : List InfixPart → List Token → List Postfix → OpenOperand → Type 0)
    → P (out-Expr x).more (out-Part (out-Expr x).first).prefixes (out-Part (out-Expr x).first).postfixes o
    → P (out-Expr (with_operand o x)).more (out-Part (out-Expr (with_operand o x)).first).prefixes
    (out-Part (out-Expr (with_operand o x)).first).postfixes (operand_of (with_operand o x))
with_levels o x P h =
    let part = record (out-Part (out-Expr x).first) { operand = roll-Operand o } in
    subst (λ e. P e.more (out-Part e.first).prefixes (out-Part e.first).postfixes (out-Operand (out-Part e.first).operand))
    (sym (out-roll-Expr (record (out-Expr x) { first = roll-Part part })))
    (subst (λ p. P (out-Expr x).more p.prefixes p.postfixes (out-Operand p.operand)) (sym (out-roll-Part part))
    (subst (λ q. P (out-Expr x).more part.prefixes part.postfixes q) (sym (out-roll-Operand o)) h))

with_same : (x : Expr) → with_operand (operand_of x) x ≡ x
with_same x =
    ap (λ q. roll-Expr (record (out-Expr x) { first = roll-Part (record (out-Part (out-Expr x).first) { operand = q }) }))
    (roll-out-Operand (out-Part (out-Expr x).first).operand)
    ∙ ap (λ p. roll-Expr (record (out-Expr x) { first = p })) (roll-out-Part (out-Expr x).first) ∙ roll-out-Expr x

-- the levels of an expression as the rules ask of them
abbrev IsLevel : List ℕ → Inside → List InfixPart → List Token → List Postfix → OpenOperand → Type 0
IsLevel text inside more prefixes postfixes operand =
    (AllByRecursion (IsPrefix text) prefixes × IsOperand text inside operand
    × AllByRecursion (λ postfix. IsPostfix text inside (out-Postfix postfix)) postfixes)
    × AllByRecursion (IsInfixPart text inside) more

-- a lone expression with another operand is of its rule, whatever stands inside
with_ruled : (text : List ℕ) (a b : Inside) (o : OpenOperand) (x : Expr) (outer : ℕ) → (out-Expr x).more ≡ []
    → AreCollates outer (out-Part (out-Expr x).first).postfixes → IsExpr text a x → IsOperand text b o → IsExpr text b (with_operand o x)
with_ruled text a b o x outer no_more collates h ruled =
    with_levels o x (IsLevel text b) (
      (h.0.0, ruled, collates_ruled text a b outer (out-Part (out-Expr x).first).postfixes collates h.0.2),
      subst (AllByRecursion (IsInfixPart text b)) (sym no_more) tt,
    )

-- what becomes of an expression: it stays and no Str stands alone in it, or its one Str becomes a column
pub record IsMade (text : List ℕ) (n left : ℕ) (x key : Expr) : Type 0 where
  pub collates : ℕ
  pub few : collates ≤ left
  pub text_alone : IsAloneAt IsStrText n collates x
  pub column_alone : IsAloneAt IsStrColumn n collates key
  pub ruled : (StrAt text n).expr key

abbrev Becomes : List ℕ → ℕ → ℕ → Expr → Expr → Type 0
Becomes text n left x key = ((key ≡ x) × NoText left x) ⊎ IsMade text n left x key

-- an operand that is neither a Str nor in parentheses stays
stays : (text : List ℕ) (n left : ℕ) (x key : Expr) (o : OpenOperand) → operand_of x ≡ o → (IsStrText o → ⊥)
    → ((P : Expr → Type 0) → HoldsOne P o → ⊥) → key ≡ with_operand o x → Becomes text n left x key
stays text n left x key o is no_text no_one made =
    inl (made ∙ ap (λ q. with_operand q x) (sym is) ∙ with_same x, none)
  where
    none : NoText left x
    none zero collates few alone = alone
    none (suc m) collates few alone = either alone.6
      where
        either : ((alone.4 ≡ 0) × IsStrText (operand_of x)) ⊎ HoldsOne (IsAloneAt IsStrText m alone.4) (operand_of x) → ⊥
        either (inl a) = no_text (subst IsStrText is a.1)
        either (inr a) = no_one (IsAloneAt IsStrText m alone.4) (subst (HoldsOne (IsAloneAt IsStrText m alone.4)) is a)

-- a column's name that stands alone among such trees is a Str
str_column : (text : List ℕ) (n : ℕ) (t : Token) → t.kind ≡ Kind.Str → (StrAt text n).column t
str_column text zero t is = is
str_column text (suc n) t is = is

column_str : (text : List ℕ) (n : ℕ) (t : Token) → (StrAt text n).column t → t.kind ≡ Kind.Str
column_str text zero t is = is
column_str text (suc n) t is = is

-- the Str of an expression becomes a column
becomes_column : (text : List ℕ) (n left fewer : ℕ) (x : Expr) (t : Token) → IsExprAt text (suc n) x → left_inside x left ≡ Some fewer
    → operand_of x ≡ Operand-F.Literal (Literal'.Str t) → Becomes text (suc n) left x (with_operand (Operand-F.Column (ColumnUse'.One t)) x)
becomes_column text n left fewer x t h some is =
    let parts = left_parts (out-Expr x).more (out-Part (out-Expr x).first).prefixes (out-Part (out-Expr x).first).postfixes left fewer some in
    let outer = parts.2.0 in
    let sum : outer + fewer ≡ left = parts.2.2 in
    let none : outer + 0 ≡ outer = omega arith in
    let kind = subst (IsOperand text (UsualAt text n)) is h.0.1 in
    inr (record {
      collates = outer;
      few = omega arith;
      text_alone = (parts.0, parts.1, outer, parts.2.1, 0, none, inl (refl, subst IsStrText (sym is) tt));
      column_alone = with_levels (Operand-F.Column (ColumnUse'.One t)) x (IsLoneLevel IsStrColumn (IsAloneAt IsStrColumn n) outer)
          (parts.0, parts.1, outer, parts.2.1, 0, none, inl (refl, tt));
      ruled = with_ruled text (UsualAt text n) (StrAt text n) (Operand-F.Column (ColumnUse'.One t)) x outer parts.0 parts.2.1 h (str_column text n t kind);
    })

-- what stands in parentheses, with another first expression
abbrev in_parens_of : InParens (Commas Expr) → Commas Expr → OpenOperand
in_parens_of p inner = Operand-F.Exprs (record p { inner = inner })

-- parentheses round one expression, of which is known what becomes
becomes_around : (text : List ℕ) (n left fewer : ℕ) (x : Expr) (p : InParens (Commas Expr)) → IsExprAt text (suc n) x
    → left_inside x left ≡ Some fewer → operand_of x ≡ Operand-F.Exprs p → p.inner.more ≡ []
    → Becomes text n fewer p.inner.first (as_key_with n fewer p.inner.first)
    → Becomes text (suc n) left x
    (with_operand (in_parens_of p (record p.inner { first = as_key_with n fewer p.inner.first })) x)
becomes_around text n left fewer x p h some is one (inl kept) =
    inl (
      ap (λ y. with_operand (in_parens_of p (record p.inner { first = y })) x) kept.0
          ∙ ap (λ o. with_operand o x) (sym is) ∙ with_same x,
      none,
    )
  where
    parts : (o : ℕ) × AreCollates o (out-Part (out-Expr x).first).postfixes × (o + fewer ≡ left)
    parts = (left_parts (out-Expr x).more (out-Part (out-Expr x).first).prefixes (out-Part (out-Expr x).first).postfixes left fewer some).2

    none : NoText left x
    none zero collates few alone = alone
    none (suc m) collates few alone = either alone.6
      where
        either : ((alone.4 ≡ 0) × IsStrText (operand_of x)) ⊎ HoldsOne (IsAloneAt IsStrText m alone.4) (operand_of x) → ⊥
        either (inl a) = subst IsStrText is a.1
        either (inr a) =
            let sum : alone.2 + alone.4 ≡ collates = alone.5 in
            let other : parts.0 + fewer ≡ left = parts.2 in
            let counts : alone.2 ≡ parts.0 = same_count alone.2 parts.0 _ alone.3 parts.1 in
            kept.1 m alone.4 (omega arith) (subst (HoldsOne (IsAloneAt IsStrText m alone.4)) is a).1
becomes_around text n left fewer x p h some is one (inr made) =
    let parts = left_parts (out-Expr x).more (out-Part (out-Expr x).first).prefixes (out-Part (out-Expr x).first).postfixes left fewer some in
    let outer = parts.2.0 in
    let sum : outer + fewer ≡ left = parts.2.2 in
    let few : made.collates ≤ fewer = made.few in
    let inner = record p.inner { first = as_key_with n fewer p.inner.first } in
    let ruled = subst (IsOperand text (UsualAt text n)) is h.0.1 in
    let tokens : commas_tokens expr_tokens inner ≡ commas_tokens expr_tokens p.inner =
    ap (λ l. l ++ flat (next_item_tokens expr_tokens) p.inner.more) (kept_with n fewer p.inner.first) in
    let operand : IsOperand text (StrAt text n) (in_parens_of p inner) =
    (ruled.0, ((made.ruled, subst (AllByRecursion _) (sym one) tt), subst (BeginsWithout text (K.With ∷ [])) (sym tokens) ruled.1.1), ruled.2) in
    inr (record {
      collates = outer + made.collates;
      few = omega arith;
      text_alone = (
        parts.0,
        parts.1,
        outer,
        parts.2.1,
        made.collates,
        refl,
        inr (subst (HoldsOne (IsAloneAt IsStrText n made.collates)) (sym is) (one, made.text_alone)),
      );
      column_alone = with_levels (in_parens_of p inner) x (IsLoneLevel IsStrColumn (IsAloneAt IsStrColumn n) (outer + made.collates))
          (parts.0, parts.1, outer, parts.2.1, made.collates, refl, inr (one, made.column_alone));
      ruled = with_ruled text (UsualAt text n) (StrAt text n) (in_parens_of p inner) x outer parts.0 parts.2.1 h operand;
    })

-- a list that is more than one expression is kept
becomes_list : (text : List ℕ) (n left fewer : ℕ) (x : Expr) (p : InParens (Commas Expr)) (more : List (NextItem Expr)) → IsExprAt text (suc n) x
    → left_inside x left ≡ Some fewer → operand_of x ≡ Operand-F.Exprs p → p.inner.more ≡ more
    → Becomes text n fewer p.inner.first (as_key_with n fewer p.inner.first)
    → Becomes text (suc n) left x (with_operand (in_parens_of p (with_first (as_key_with n fewer) p.inner more)) x)
becomes_list text n left fewer x p [] h some is one first = becomes_around text n left fewer x p h some is one first
becomes_list text n left fewer x p (next ∷ more) h some is several first =
    stays text (suc n) left x (with_operand (Operand-F.Exprs p) x) (Operand-F.Exprs p) is (λ a. a)
    (λ P holds. let clash : [] ≡ next ∷ more = sym holds.0 ∙ several in cc) refl

-- what becomes of an expression, by its operand
by_operand : (text : List ℕ) (n left fewer : ℕ) (x : Expr) (o : OpenOperand)
    → ((y : Expr) → IsExprAt text n y → Becomes text n fewer y (as_key_with n fewer y))
    → IsExprAt text (suc n) x → left_inside x left ≡ Some fewer → operand_of x ≡ o
    → Becomes text (suc n) left x (with_operand (key_operand (as_key_with n fewer) o) x)
by_operand text n left fewer x (Operand-F.Literal (Literal'.Number t)) nested h some is = stays text (suc n) left x _ _ is (λ a. a) (λ P a. a) refl
by_operand text n left fewer x (Operand-F.Literal (Literal'.Str t)) nested h some is = becomes_column text n left fewer x t h some is
by_operand text n left fewer x (Operand-F.Literal (Literal'.Blob t)) nested h some is = stays text (suc n) left x _ _ is (λ a. a) (λ P a. a) refl
by_operand text n left fewer x (Operand-F.Literal (Literal'.Null t)) nested h some is = stays text (suc n) left x _ _ is (λ a. a) (λ P a. a) refl
by_operand text n left fewer x (Operand-F.Literal (Literal'.CurrentDate t)) nested h some is = stays text (suc n) left x _ _ is (λ a. a) (λ P a. a) refl
by_operand text n left fewer x (Operand-F.Literal (Literal'.CurrentTime t)) nested h some is = stays text (suc n) left x _ _ is (λ a. a) (λ P a. a) refl
by_operand text n left fewer x (Operand-F.Literal (Literal'.CurrentTimestamp t)) nested h some is = stays text (suc n) left x _ _ is (λ a. a) (λ P a. a) refl
by_operand text n left fewer x (Operand-F.Column c) nested h some is = stays text (suc n) left x _ _ is (λ a. a) (λ P a. a) refl
by_operand text n left fewer x (Operand-F.Call c) nested h some is = stays text (suc n) left x _ _ is (λ a. a) (λ P a. a) refl
by_operand text n left fewer x (Operand-F.Exprs p) nested h some is =
    becomes_list text n left fewer x p p.inner.more h some is refl (nested p.inner.first (subst (IsOperand text (UsualAt text n)) is h.0.1).1.0.0)
by_operand text n left fewer x (Operand-F.Subquery exists c) nested h some is = stays text (suc n) left x _ _ is (λ a. a) (λ P a. a) refl
by_operand text n left fewer x (Operand-F.Case c) nested h some is = stays text (suc n) left x _ _ is (λ a. a) (λ P a. a) refl
by_operand text n left fewer x (Operand-F.Cast c) nested h some is = stays text (suc n) left x _ _ is (λ a. a) (λ P a. a) refl
by_operand text n left fewer x (Operand-F.Raise c) nested h some is = stays text (suc n) left x _ _ is (λ a. a) (λ P a. a) refl

-- by what may stand inside
by_inside : (text : List ℕ) (n left : ℕ) (x : Expr) (inside : Option ℕ)
    → ((fewer : ℕ) (y : Expr) → IsExprAt text n y → Becomes text n fewer y (as_key_with n fewer y))
    → IsExprAt text (suc n) x → left_inside x left ≡ inside → Becomes text (suc n) left x (key_inside (as_key_with n) x inside)
by_inside text n left x None nested h is = inl (refl, none)
  where
    none : NoText left x
    none zero collates few alone = alone
    none (suc m) collates few alone =
        let sum : alone.2 + alone.4 ≡ collates = alone.5 in
        let total : alone.2 + (left - alone.2) ≡ left = omega arith in
        let some = left_made (out-Expr x).more (out-Part (out-Expr x).first).prefixes (out-Part (out-Expr x).first).postfixes
        alone.2 left (left - alone.2) alone.0 alone.1 alone.3 total in
        let clash : None ≡ Some (left - alone.2) = sym is ∙ some in
        cc
by_inside text n left x (Some fewer) nested h is = by_operand text n left fewer x (operand_of x) (nested fewer) h is refl

-- what becomes of each expression
becomes : (text : List ℕ) (n left : ℕ) (x : Expr) → IsExprAt text n x → Becomes text n left x (as_key_with n left x)
becomes text zero left x h = absurd h
becomes text (suc n) left x h = by_inside text n left x (left_inside x left) (λ fewer y k. becomes text n fewer y k) h refl

-- another operand of an expression that was given one
with_with : (q o : OpenOperand) (x : Expr) → with_operand q (with_operand o x) ≡ with_operand q x
with_with q o x =
    let part = record (out-Part (out-Expr x).first) { operand = roll-Operand o } in
    ap (λ e. roll-Expr (record e { first = roll-Part (record (out-Part e.first) { operand = roll-Operand q }) }))
    (out-roll-Expr (record (out-Expr x) { first = roll-Part part }))
    ∙ ap (λ p. roll-Expr (record (out-Expr x) { first = roll-Part (record p { operand = roll-Operand q }) })) (out-roll-Part part)

-- a lone expression with another operand, as a key
key_with : (n left fewer outer : ℕ) (o : OpenOperand) (x : Expr) → (out-Expr x).more ≡ [] → (out-Part (out-Expr x).first).prefixes ≡ []
    → AreCollates outer (out-Part (out-Expr x).first).postfixes → outer + fewer ≡ left
    → as_key_with (suc n) left (with_operand o x) ≡ with_operand (key_operand (as_key_with n fewer) o) x
key_with n left fewer outer o x no_more no_prefix collates sum =
    ap (key_inside (as_key_with n) (with_operand o x))
    (with_levels o x (λ more prefixes postfixes operand. left_of more prefixes postfixes left ≡ Some fewer)
    (left_made (out-Expr x).more (out-Part (out-Expr x).first).prefixes (out-Part (out-Expr x).first).postfixes outer left fewer
    no_more no_prefix collates sum))
    ∙ ap (λ q. with_operand (key_operand (as_key_with n fewer) q) (with_operand o x)) (operand_with o x)
    ∙ with_with (key_operand (as_key_with n fewer) o) o x

-- what is read as a key
abbrev IsRead : List ℕ → ℕ → ℕ → Expr → Type 0
IsRead text n left x = (read : Expr) × IsExprAt text n read × (x ≡ as_key_with n left read)

-- of a Str that is a column
read_column : (text : List ℕ) (n left fewer outer : ℕ) (x : Expr) (o : OpenOperand) → (out-Expr x).more ≡ []
    → (out-Part (out-Expr x).first).prefixes ≡ [] → AreCollates outer (out-Part (out-Expr x).first).postfixes → outer + fewer ≡ left
    → (StrAt text (suc n)).expr x → operand_of x ≡ o → IsStrColumn o → IsRead text (suc n) left x
read_column text n left fewer outer x (Operand-F.Column (ColumnUse'.One t)) no_more no_prefix collates sum h is str = (
  with_operand (Operand-F.Literal (Literal'.Str t)) x,
  with_ruled text (StrAt text n) (UsualAt text n) (Operand-F.Literal (Literal'.Str t)) x outer no_more collates h
      (column_str text n t (subst (IsOperand text (StrAt text n)) is h.0.1)),
  sym (key_with n left fewer outer (Operand-F.Literal (Literal'.Str t)) x no_more no_prefix collates sum
      ∙ ap (λ o. with_operand o x) (sym is) ∙ with_same x),
)
read_column text n left fewer outer x (Operand-F.Column (ColumnUse'.Two table dot column)) no_more no_prefix collates sum h is str = absurd str
read_column text n left fewer outer x (Operand-F.Column (ColumnUse'.Three schema d table e column)) no_more no_prefix collates sum h is str = absurd str
read_column text n left fewer outer x (Operand-F.Literal l) no_more no_prefix collates sum h is str = absurd str
read_column text n left fewer outer x (Operand-F.Call l) no_more no_prefix collates sum h is str = absurd str
read_column text n left fewer outer x (Operand-F.Exprs l) no_more no_prefix collates sum h is str = absurd str
read_column text n left fewer outer x (Operand-F.Subquery a l) no_more no_prefix collates sum h is str = absurd str
read_column text n left fewer outer x (Operand-F.Case l) no_more no_prefix collates sum h is str = absurd str
read_column text n left fewer outer x (Operand-F.Cast l) no_more no_prefix collates sum h is str = absurd str
read_column text n left fewer outer x (Operand-F.Raise l) no_more no_prefix collates sum h is str = absurd str

-- of parentheses
read_around : (text : List ℕ) (n left fewer outer inner : ℕ) (x : Expr) (o : OpenOperand) → (out-Expr x).more ≡ []
    → (out-Part (out-Expr x).first).prefixes ≡ [] → AreCollates outer (out-Part (out-Expr x).first).postfixes → outer + fewer ≡ left
    → (StrAt text (suc n)).expr x → operand_of x ≡ o → HoldsOne (IsAloneAt IsStrColumn n inner) o
    → ((y : Expr) → IsAloneAt IsStrColumn n inner y → (StrAt text n).expr y → IsRead text n fewer y) → IsRead text (suc n) left x
read_around text n left fewer outer inner x (Operand-F.Exprs p) no_more no_prefix collates sum h is one nested =
    let ruled = subst (IsOperand text (StrAt text n)) is h.0.1 in
    let first = nested p.inner.first one.1 ruled.1.0.0 in
    let list = record p.inner { first = first.0 } in
    let tokens : commas_tokens expr_tokens list ≡ commas_tokens expr_tokens p.inner =
    ap (λ l. l ++ flat (next_item_tokens expr_tokens) p.inner.more)
    (sym (kept_with n fewer first.0) ∙ ap expr_tokens (sym first.2)) in
    let operand : IsOperand text (UsualAt text n) (in_parens_of p list) =
    (ruled.0, ((first.1, subst (AllByRecursion _) (sym one.0) tt), subst (BeginsWithout text (K.With ∷ [])) (sym tokens) ruled.1.1), ruled.2) in (
      with_operand (in_parens_of p list) x,
      with_ruled text (StrAt text n) (UsualAt text n) (in_parens_of p list) x outer no_more collates h operand,
      sym (key_with n left fewer outer (in_parens_of p list) x no_more no_prefix collates sum
          ∙ ap (λ more. with_operand (in_parens_of p (with_first (as_key_with n fewer) list more)) x) one.0
          ∙ ap (λ y. with_operand (in_parens_of p (record p.inner { first = y })) x) (sym first.2)
          ∙ ap (λ o. with_operand o x) (sym is) ∙ with_same x),
    )
read_around text n left fewer outer inner x (Operand-F.Column l) no_more no_prefix collates sum h is one nested = absurd one
read_around text n left fewer outer inner x (Operand-F.Literal l) no_more no_prefix collates sum h is one nested = absurd one
read_around text n left fewer outer inner x (Operand-F.Call l) no_more no_prefix collates sum h is one nested = absurd one
read_around text n left fewer outer inner x (Operand-F.Subquery a l) no_more no_prefix collates sum h is one nested = absurd one
read_around text n left fewer outer inner x (Operand-F.Case l) no_more no_prefix collates sum h is one nested = absurd one
read_around text n left fewer outer inner x (Operand-F.Cast l) no_more no_prefix collates sum h is one nested = absurd one
read_around text n left fewer outer inner x (Operand-F.Raise l) no_more no_prefix collates sum h is one nested = absurd one

read_back : (text : List ℕ) (n collates left : ℕ) (x : Expr) → collates ≤ left → IsAloneAt IsStrColumn n collates x → (StrAt text n).expr x
    → IsRead text n left x
read_back text zero collates left x few alone h = absurd alone
read_back text (suc n) collates left x few alone h =
    either (λ (inner fewer : ℕ) (y : Expr) fits lone ruled. read_back text n inner fewer y fits lone ruled) alone.6
  where
    either : ((inner fewer : ℕ) (y : Expr) → inner ≤ fewer → IsAloneAt IsStrColumn n inner y → (StrAt text n).expr y → IsRead text n fewer y)
        → ((alone.4 ≡ 0) × IsStrColumn (operand_of x)) ⊎ HoldsOne (IsAloneAt IsStrColumn n alone.4) (operand_of x) → IsRead text (suc n) left x
    either nested (inl a) =
        let sum : alone.2 + alone.4 ≡ collates = alone.5 in
        let total : alone.2 + (left - alone.2) ≡ left = omega arith in
        read_column text n left (left - alone.2) alone.2 x (operand_of x) alone.0 alone.1 alone.3 total h refl a.1
    either nested (inr a) =
        let sum : alone.2 + alone.4 ≡ collates = alone.5 in
        let total : alone.2 + (left - alone.2) ≡ left = omega arith in
        let fits : alone.4 ≤ left - alone.2 = omega arith in
        read_around text n left (left - alone.2) alone.2 alone.4 x (operand_of x) alone.0 alone.1 alone.3 total h refl a
        (λ y lone ruled. nested alone.4 (left - alone.2) y fits lone ruled)

-- a key is a Str that is a column, or an expression in which no Str stands alone as a text
pub key_said : (text : List ℕ) (n : ℕ) (x : Expr)
    → IsKeyExpr text n x ↔ (IsStrKey text n x ⊎ (IsExprAt text n x × NoText 1 x))
key_said text n x = (to, from)
  where
    made : (read : Expr) → IsExprAt text n read → x ≡ as_key n read → Becomes text n 1 read (as_key n read)
        → IsStrKey text n x ⊎ (IsExprAt text n x × NoText 1 x)
    made read h is (inl kept) =
        let same = sym (is ∙ kept.0) in
        inr (subst (IsExprAt text n) same h, subst (NoText 1) same kept.1)
    made read h is (inr key) =
        inl (
          key.collates,
          key.few,
          subst (IsAloneAt IsStrColumn n key.collates) (sym is) key.column_alone,
          subst (λ y. (StrAt text n).expr y) (sym is) key.ruled,
        )

    to : IsKeyExpr text n x → IsStrKey text n x ⊎ (IsExprAt text n x × NoText 1 x)
    to key = made key.0 key.1 key.2 (becomes text n 1 key.0 key.1)

    stayed : NoText 1 x → Becomes text n 1 x (as_key n x) → x ≡ as_key n x
    stayed none (inl kept) = sym kept.0
    stayed none (inr key) = absurd (none n key.collates key.few key.text_alone)

    from : IsStrKey text n x ⊎ (IsExprAt text n x × NoText 1 x) → IsKeyExpr text n x
    from (inl str) = read_back text n str.0 1 x str.1 str.2 str.3
    from (inr usual) = (x, usual.0, stayed usual.1 (becomes text n 1 x usual.0))

-- ---- keys by height, and the rule of a key

-- parentheses round one expression of which more is asked
holds_more : (P Q : Expr → Type 0) → ((y : Expr) → P y → Q y) → (o : OpenOperand) → HoldsOne P o → HoldsOne Q o
holds_more P Q more (Operand-F.Exprs x) h = (h.0, more x.inner.first h.1)
holds_more P Q more _ h = absurd h

-- such an operand is one at a greater height
alone_more : (P : OpenOperand → Type 0) (n m collates : ℕ) (x : Expr) → n ≤ m → IsAloneAt P n collates x → IsAloneAt P m collates x
alone_more P zero m collates x fewer h = absurd h
alone_more P (suc n) zero collates x fewer h = absurd (omega arith)
alone_more P (suc n) (suc m) collates x fewer h =
    (h.0, h.1, h.2, h.3, h.4, h.5, either (λ y k. alone_more P n m h.4 y (omega arith) k) h.6)
  where
    either : ((y : Expr) → IsAloneAt P n h.4 y → IsAloneAt P m h.4 y)
        → ((h.4 ≡ 0) × P (operand_of x)) ⊎ HoldsOne (IsAloneAt P n h.4) (operand_of x)
        → ((h.4 ≡ 0) × P (operand_of x)) ⊎ HoldsOne (IsAloneAt P m h.4) (operand_of x)
    either more (inl a) = inl a
    either more (inr a) = inr (holds_more (IsAloneAt P n h.4) (IsAloneAt P m h.4) more (operand_of x) a)

-- a key is one at a greater height
pub key_higher : (text : List ℕ) (n m : ℕ) (x : Expr) → n ≤ m → IsKeyExpr text n x → IsKeyExpr text m x
key_higher text n m x fewer key = (key_said text m x).1 (either ((key_said text n x).0 key))
  where
    either : IsStrKey text n x ⊎ (IsExprAt text n x × NoText 1 x) → IsStrKey text m x ⊎ (IsExprAt text m x × NoText 1 x)
    either (inl str) =
        inl (str.0, str.1, alone_more IsStrColumn n m str.0 x fewer str.2, (inside_more text (λ t h. h) n m fewer).expr x str.3)
    either (inr usual) = inr ((higher text n m fewer).expr x usual.0, usual.1)

-- a column's name that stands alone in a key: also a Str
abbrev pub IsKeyColumn : List ℕ → Token → Type 0
IsKeyColumn text t = (t.kind ≡ Kind.Str) ⊎ IsColumnName text t

-- a key is of the rule of expressions, where a Str may be a column's name as well
pub key_ruled : (text : List ℕ) (n : ℕ) (x : Expr) → IsKeyExpr text n x → (InsideAt text (IsKeyColumn text) n).expr x
key_ruled text n x key = either ((key_said text n x).0 key)
  where
    either : IsStrKey text n x ⊎ (IsExprAt text n x × NoText 1 x) → (InsideAt text (IsKeyColumn text) n).expr x
    either (inl str) = (inside_more text (λ t h. inl h) n n (omega arith)).expr x str.3
    either (inr usual) = (inside_more text (λ t h. inr h) n n (omega arith)).expr x usual.0

-- ---- keys of a text with other names

-- a column's name that stands alone in a key becomes one
becomes_key_column : (e : Edit) (t : Token) → IsKeyColumn e.old t → NameBecomes e t → IsKeyColumn e.new (e.edit t)
becomes_key_column e t (inl str) (inl stays) = inl (stays.kind ∙ str)
becomes_key_column e t (inl str) (inr renamed) =
    inr (
      (
        renamed.name,
        (
          renamed.free K.Cast,
          (renamed.free K.Raise, (renamed.free K.CurrentDate, (renamed.free K.CurrentTime, (renamed.free K.CurrentTimestamp, tt)))),
        ),
      ),
      renamed.no_str,
    )
becomes_key_column e t (inr column) becomes = inr (column_becomes e t column becomes)

-- a key of the one text is of the rule of expressions in the other, where a Str may be a column's name as well
pub key_kept : (e : Edit) (n : ℕ) (x : Expr) → IsKeyExpr e.old n x
    → Kept e Expr expr_tokens (InsideAt e.new (IsKeyColumn e.new) n).expr (λ d. (AlikeAt d n).expr) x
key_kept e n x key = (kept_at e (IsKeyColumn e.old) (IsKeyColumn e.new) (becomes_key_column e) n).expr x (key_ruled e.old n x key)
