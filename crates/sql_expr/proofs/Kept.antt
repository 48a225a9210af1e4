-- A text some of whose names get another spelling: what a part of a tree becomes there.
use Rattle.std.proofs.Common.{◌≡◌, ℕ, ◌⊎◌, ⊎_elim, inl, inr, List, [], ◌∷◌, ◌++◌, map, Option, Some, None, IfSome, IfNone, refl, sym, ap, ap₂, subst, ◌∙◌}
use Rattle.std.specs.List.{AllByRecursion}
use Rattle.std.specs.Prelude.{codes}
use Rattle.sql_token.specs.declared.token.Token.{Token}
use Rattle.sql_token.specs.declared.token.TokenKind.{TokenKind}
use Rattle.sql_token.specs.declared.token.TokenKind.TheVariants as Kind
use Rattle.sql_token.specs.declared.keyword.Keyword.{Keyword}
use Rattle.sql_token.specs.declared.keyword.Keyword.TheVariants as K
use Rattle.sql_token.specs.Form.{IsNumberKind}
use Rattle.sql_token.specs.Fixed.{IsFixed, IsSign, IsName}
use Rattle.sql_token.specs.Names.{folded, IsNameKind}
use Rattle.sql_token.specs.Token.{span}
use Rattle.sql_token.specs.Spelled.{one, maybe, flat}
use Rattle.sql_expr.specs.Leaf.{IsOneOf, IsNoneOf, IsOperatorSign, IsNoJoinWord, IsBareAlias, IsTypeName, IsOperandName, IsColumnName, IsFreeOfGenerated, BeginsWithout, current_words}
use Rattle.sql_expr.specs.Rules.{IsPrefix, IsInParens, AreCommas, IsAfter, IsBy}
use Rattle.sql_expr.specs.Tokens.{token_pair_tokens, after_tokens, in_parens_tokens, next_item_tokens, commas_tokens, by_tokens}
use Rattle.sql_expr.specs.declared.lists.TokenPair.{TokenPair}
use Rattle.sql_expr.specs.declared.lists.After.{After}
use Rattle.sql_expr.specs.declared.lists.InParens.{InParens}
use Rattle.sql_expr.specs.declared.lists.NextItem.{NextItem}
use Rattle.sql_expr.specs.declared.lists.Commas.{Commas}
use Rattle.sql_expr.specs.declared.lists.By.{By}

-- A text, another text, what each token of the one is in the other, and what is known of each name.
pub record Edit : Type 1 where
  pub old : List ℕ
  pub new : List ℕ
  pub edit : Token → Token
  pub known : Token → Type 0

-- A leaf of a tree: a token that stays as it is, or a name that may get another spelling.
pub data Leaf : Type 0 where
  Plain : Token → Leaf
  Named : Token → Leaf

abbrev pub token_of : Leaf → Token
token_of (Plain t) = t
token_of (Named t) = t

-- the token is of the same kind and the same bytes in the other text
pub record Stays (e : Edit) (t : Token) : Type 0 where
  pub kind : (e.edit t).kind ≡ t.kind
  pub spelled : span e.new (e.edit t) ≡ span e.old t

-- the token is a name in the other text, and neither a fixed word nor a Str
pub record IsRenamed (e : Edit) (t : Token) : Type 0 where
  pub name : IsName e.new (e.edit t)
  pub free : (k : Keyword) → IsFixed e.new k (e.edit t) → ⊥
  pub no_str : (e.edit t).kind ≡ Kind.Str → ⊥

-- what a name may become
abbrev pub NameBecomes : Edit → Token → Type 0
NameBecomes e t = Stays e t ⊎ IsRenamed e t

-- what a leaf may become
abbrev pub Becomes : Edit → Leaf → Type 0
Becomes e (Plain t) = Stays e t
Becomes e (Named t) = NameBecomes e t × e.known t

-- a token and what it is in the other text
abbrev pub AlikePlain : Edit → Token → Token → Type 0
AlikePlain e t u = u ≡ e.edit t

-- the same of a name
abbrev pub AlikeName : Edit → Token → Token → Type 0
AlikeName e t u = (u ≡ e.edit t) × NameBecomes e t × e.known t

-- the text as it is, where this is known of each name
abbrev pub marked : List ℕ → (Token → Type 0) → Edit
marked text N = record { old = text; new = text; edit = λ t. t; known = N }

-- it is known of the names among the leaves
abbrev pub IsKnown : (Token → Type 0) → Leaf → Type 0
IsKnown N (Plain t) = Unit {0}
IsKnown N (Named t) = N t

-- What a part of a tree is in the other text: of its rule there, spelled by what its tokens are there, and alike.
pub record Made (e : Edit) (A : Type 0) (spells : A → List Token) (rule : A → Type 0) (alike : A → A → Type 0) (x : A) : Type 0 where
  pub tree : A
  pub ruled : rule tree
  pub tokens : spells tree ≡ map e.edit (spells x)
  pub same : alike x tree

-- The leaves of a part of a tree; there is such a part wherever they become what they may; and what is known of the names among them
-- is known of the names of the part.
pub record Kept (e : Edit) (A : Type 0) (spells : A → List Token) (rule : A → Type 0) (alike : Edit → A → A → Type 0) (x : A) : Type 1 where
  pub leaves : List Leaf
  pub spelled : spells x ≡ map token_of leaves
  pub made : AllByRecursion (Becomes e) leaves → Made e A spells rule (alike e) x
  pub names : (N : Token → Type 0) → AllByRecursion (IsKnown N) leaves → alike (marked e.old N) x x

-- ---- leaves

module _ (e : Edit) where
  stays_fixed : (k : Keyword) (t : Token) → Stays e t → IsFixed e.old k t → IsFixed e.new k (e.edit t)
  stays_fixed k t stays h = record { kind = stays.kind ∙ h.kind; spelled = ap folded stays.spelled ∙ h.spelled }

  fixed_stayed : (k : Keyword) (t : Token) → Stays e t → IsFixed e.new k (e.edit t) → IsFixed e.old k t
  fixed_stayed k t stays h = record { kind = sym stays.kind ∙ h.kind; spelled = ap folded (sym stays.spelled) ∙ h.spelled }

  stays_sign : (sign : List ℕ) (t : Token) → Stays e t → IsSign e.old sign t → IsSign e.new sign (e.edit t)
  stays_sign sign t stays h = record { kind = stays.kind ∙ h.kind; spelled = stays.spelled ∙ h.spelled }

  sign_stayed : (sign : List ℕ) (t : Token) → Stays e t → IsSign e.new sign (e.edit t) → IsSign e.old sign t
  sign_stayed sign t stays h = record { kind = sym stays.kind ∙ h.kind; spelled = sym stays.spelled ∙ h.spelled }

  stays_name : (t : Token) → Stays e t → IsName e.old t → IsName e.new (e.edit t)
  stays_name t stays h =
      record {
        kind = subst IsNameKind (sym stays.kind) h.kind;
        free = λ k reserved fixed. h.free k reserved (fixed_stayed k t stays fixed);
      }

  stays_one_of : (ks : List Keyword) (t : Token) → Stays e t → IsOneOf e.old ks t → IsOneOf e.new ks (e.edit t)
  stays_one_of [] t stays h = h
  stays_one_of (k ∷ ks) t stays (inl h) = inl (stays_fixed k t stays h)
  stays_one_of (k ∷ ks) t stays (inr h) = inr (stays_one_of ks t stays h)

  stays_none_of : (ks : List Keyword) (t : Token) → Stays e t → IsNoneOf e.old ks t → IsNoneOf e.new ks (e.edit t)
  stays_none_of [] t stays h = tt
  stays_none_of (k ∷ ks) t stays h = (λ fixed. h.0 (fixed_stayed k t stays fixed), stays_none_of ks t stays h.1)

  renamed_none_of : (ks : List Keyword) (t : Token) → IsRenamed e t → IsNoneOf e.new ks (e.edit t)
  renamed_none_of [] t renamed = tt
  renamed_none_of (k ∷ ks) t renamed = (renamed.free k, renamed_none_of ks t renamed)

  -- a name is a name, and none of the words that it was not
  pub becomes_name : (t : Token) → NameBecomes e t → IsName e.old t → IsName e.new (e.edit t)
  becomes_name t (inl stays) h = stays_name t stays h
  becomes_name t (inr renamed) h = renamed.name

  pub becomes_none_of : (ks : List Keyword) (t : Token) → NameBecomes e t → IsNoneOf e.old ks t → IsNoneOf e.new ks (e.edit t)
  becomes_none_of ks t (inl stays) h = stays_none_of ks t stays h
  becomes_none_of ks t (inr renamed) h = renamed_none_of ks t renamed

  pub fixed_was : (k : Keyword) (t : Token) → NameBecomes e t → IsFixed e.new k (e.edit t) → IsFixed e.old k t
  fixed_was k t (inl stays) fixed = fixed_stayed k t stays fixed
  fixed_was k t (inr renamed) fixed = absurd (renamed.free k fixed)

  pub becomes_no_str : (t : Token) → NameBecomes e t → (t.kind ≡ Kind.Str → ⊥) → (e.edit t).kind ≡ Kind.Str → ⊥
  becomes_no_str t (inl stays) h is = h (sym stays.kind ∙ is)
  becomes_no_str t (inr renamed) h is = renamed.no_str is

  -- a leaf that stays
  pub plain : {P Q : Token → Type 0} → ((t : Token) → P t → Stays e t → Q (e.edit t)) → (t : Token) → P t → Kept e Token one Q AlikePlain t
  plain so t h =
      record {
        leaves = Plain t ∷ [];
        spelled = refl;
        made = λ all. record { tree = e.edit t; ruled = so t h all.0; tokens = refl; same = refl };
        names = λ N all. refl;
      }

  -- a leaf that is a name
  pub named : {P Q : Token → Type 0} → ((t : Token) → P t → NameBecomes e t → Q (e.edit t)) → (t : Token) → P t → Kept e Token one Q AlikeName t
  named so t h =
      record {
        leaves = Named t ∷ [];
        spelled = refl;
        made = λ all. record { tree = e.edit t; ruled = so t h all.0.0; tokens = refl; same = (refl, all.0.0, all.0.1) };
        names = λ N all. (refl, inl (record { kind = refl; spelled = refl }), all.0);
      }

  pub fixed_kept : (k : Keyword) (t : Token) → IsFixed e.old k t → Kept e Token one (IsFixed e.new k) AlikePlain t
  fixed_kept k = plain (λ t h stays. stays_fixed k t stays h)

  pub sign_kept : (bytes : List ℕ) (t : Token) → IsSign e.old bytes t → Kept e Token one (IsSign e.new bytes) AlikePlain t
  sign_kept bytes = plain (λ t h stays. stays_sign bytes t stays h)

  pub one_of_kept : (ks : List Keyword) (t : Token) → IsOneOf e.old ks t → Kept e Token one (IsOneOf e.new ks) AlikePlain t
  one_of_kept ks = plain (λ t h stays. stays_one_of ks t stays h)

  pub number_kept : (t : Token) → IsNumberKind t.kind → Kept e Token one (λ u. IsNumberKind u.kind) AlikePlain t
  number_kept = plain (λ t h stays. subst IsNumberKind (sym stays.kind) h)

  pub kind_kept : (kind : TokenKind) (t : Token) → t.kind ≡ kind → Kept e Token one (λ u. u.kind ≡ kind) AlikePlain t
  kind_kept kind = plain (λ t h stays. stays.kind ∙ h)

  pub either_sign_kept : (a b : List ℕ) (t : Token) → IsSign e.old a t ⊎ IsSign e.old b t
      → Kept e Token one (λ u. IsSign e.new a u ⊎ IsSign e.new b u) AlikePlain t
  either_sign_kept a b = plain (λ t h stays. ⊎_elim (λ x. inl (stays_sign a t stays x)) (λ x. inr (stays_sign b t stays x)) h)

  pub name_kept : (t : Token) → IsName e.old t → Kept e Token one (IsName e.new) AlikeName t
  name_kept = named (λ t h becomes. becomes_name t becomes h)

  pub prefix_kept : (t : Token) → IsPrefix e.old t → Kept e Token one (IsPrefix e.new) AlikePlain t
  prefix_kept =
      plain
      (λ t h stays.
      ⊎_elim (λ x. inl (stays_sign (codes "-") t stays x))
      (λ more.
      inr
      (⊎_elim (λ x. inl (stays_sign (codes "+") t stays x))
      (λ rest.
      inr (⊎_elim (λ x. inl (stays_sign (codes "~") t stays x)) (λ x. inr (stays_fixed K.Not t stays x)) rest))
      more))
      h)

  pub word_or_sign_kept : (k : Keyword) (bytes : List ℕ) (t : Token) → IsFixed e.old k t ⊎ IsSign e.old bytes t
      → Kept e Token one (λ u. IsFixed e.new k u ⊎ IsSign e.new bytes u) AlikePlain t
  word_or_sign_kept k bytes = plain (λ t h stays. ⊎_elim (λ x. inl (stays_fixed k t stays x)) (λ x. inr (stays_sign bytes t stays x)) h)

  stays_no_sign : (signs : List (List ℕ)) (t : Token) → Stays e t → AllByRecursion (λ bytes. IsSign e.old bytes t → ⊥) signs
      → AllByRecursion (λ bytes. IsSign e.new bytes (e.edit t) → ⊥) signs
  stays_no_sign [] t stays h = tt
  stays_no_sign (bytes ∷ signs) t stays h = (λ is. h.0 (sign_stayed bytes t stays is), stays_no_sign signs t stays h.1)

  pub infix_sign_kept : (t : Token) → IsOperatorSign e.old t × (IsSign e.old (codes "~") t → ⊥)
      → Kept e Token one (λ u. IsOperatorSign e.new u × (IsSign e.new (codes "~") u → ⊥)) AlikePlain t
  infix_sign_kept =
      plain
      (λ t h stays.
      ((stays.kind ∙ h.0.0, stays_no_sign (codes "(" ∷ codes ")" ∷ codes "," ∷ codes ";" ∷ codes "." ∷ []) t stays h.0.1), λ is. h.1 (sign_stayed (codes "~") t stays is)))

  -- a name that is none of the words
  pub name_but_kept : (ks : List Keyword) (t : Token) → IsName e.old t × IsNoneOf e.old ks t
      → Kept e Token one (λ u. IsName e.new u × IsNoneOf e.new ks u) AlikeName t
  name_but_kept ks = named (λ t h becomes. (becomes_name t becomes h.0, becomes_none_of ks t becomes h.1))

  becomes_no_join : (t : Token) → NameBecomes e t → IsNoJoinWord e.old t → IsNoJoinWord e.new (e.edit t)
  becomes_no_join t becomes h k join fixed = h k join (fixed_was k t becomes fixed)

  pub operand_name_kept : (t : Token) → IsOperandName e.old t → Kept e Token one (IsOperandName e.new) AlikeName t
  operand_name_kept = name_but_kept (K.Cast ∷ K.Raise ∷ current_words)

  pub type_name_kept : (t : Token) → IsTypeName e.old t → Kept e Token one (IsTypeName e.new) AlikeName t
  type_name_kept = named (λ t h becomes. (becomes_name t becomes h.0, becomes_no_join t becomes h.1))

  -- a column's name that stands alone
  pub becomes_column : (t : Token) → IsColumnName e.old t → NameBecomes e t → IsColumnName e.new (e.edit t)
  becomes_column t h becomes = (
    (becomes_name t becomes h.0.0, becomes_none_of (K.Cast ∷ K.Raise ∷ current_words) t becomes h.0.1),
    λ is. becomes_no_str t becomes h.1 is,
  )

  becomes_bare : (t : Token) → NameBecomes e t → IsBareAlias e.old t → IsBareAlias e.new (e.edit t)
  becomes_bare t becomes h = (
    becomes_name t becomes h.0,
    becomes_no_join t becomes h.1,
    becomes_none_of (K.Window ∷ K.Over ∷ K.Filter ∷ K.Like ∷ K.Glob ∷ K.Regexp ∷ K.Match ∷ []) t becomes h.2,
  )

-- ---- leaves of parts that stand one behind the other

all_front : {A : Type 0} (P : A → Type 0) (xs ys : List A) → AllByRecursion P (xs ++ ys) → AllByRecursion P xs
all_front P [] ys h = tt
all_front P (x ∷ xs) ys h = (h.0, all_front P xs ys h.1)

all_back : {A : Type 0} (P : A → Type 0) (xs ys : List A) → AllByRecursion P (xs ++ ys) → AllByRecursion P ys
all_back P [] ys h = h
all_back P (x ∷ xs) ys h = all_back P xs ys h.1

joined_map : {A B : Type 0} (f : A → B) (xs ys : List A) → map f (xs ++ ys) ≡ map f xs ++ map f ys
joined_map f [] ys = refl
joined_map f (x ∷ xs) ys = ap (λ zs. f x ∷ zs) (joined_map f xs ys)

-- ---- ways to make parts of others

-- an optional part is alike: both are absent, or both are there and alike
abbrev pub AlikeOption : {A : Type 0} → (A → A → Type 0) → Option A → Option A → Type 0
AlikeOption R None None = Unit {0}
AlikeOption R (Some x) (Some y) = R x y
AlikeOption R _ _ = ⊥

-- lists are alike: of one length, and alike item by item
abbrev pub AlikeList : {A : Type 0} → (A → A → Type 0) → List A → List A → Type 0
AlikeList R [] [] = Unit {0}
AlikeList R (x ∷ xs) (y ∷ ys) = R x y × AlikeList R xs ys
AlikeList R _ _ = ⊥

module _ (e : Edit) where
  -- nothing
  none_kept : {A : Type 0} (f : A → List Token) (P : A → Type 0) (R : Edit → A → A → Type 0)
      → Kept e (Option A) (maybe f) (λ o. IfSome o P) (λ d. AlikeOption (R d)) None
  none_kept f P R =
      record {
        leaves = [];
        spelled = refl;
        made = λ all. record { tree = None; ruled = tt; tokens = refl; same = tt };
        names = λ N all. tt;
      }

  -- one part behind the other
  pub pair : {A B : Type 0} {f : A → List Token} {g : B → List Token} {P : A → Type 0} {Q : B → Type 0} {R : Edit → A → A → Type 0}
      {S : Edit → B → B → Type 0} {x : A} {y : B} → Kept e A f P R x → Kept e B g Q S y
      → Kept e (A × B) (λ v. f v.0 ++ g v.1) (λ v. P v.0 × Q v.1) (λ d v w. R d v.0 w.0 × S d v.1 w.1) (x, y)
  pair {f} {g} {P} {Q} {R} {S} {x} {y} a b =
      record {
        leaves = a.leaves ++ b.leaves;
        spelled = ap₂ (λ (k l : List Token). k ++ l) a.spelled b.spelled ∙ sym (joined_map token_of a.leaves b.leaves);
        made = λ all.
            let m = a.made (all_front (Becomes e) a.leaves b.leaves all) in
            let n = b.made (all_back (Becomes e) a.leaves b.leaves all) in
            record {
              tree = (m.tree, n.tree);
              ruled = (m.ruled, n.ruled);
              tokens = ap₂ (λ (k l : List Token). k ++ l) m.tokens n.tokens ∙ sym (joined_map e.edit (f x) (g y));
              same = (m.same, n.same);
            };
        names = λ N all. (a.names N (all_front (IsKnown N) a.leaves b.leaves all), b.names N (all_back (IsKnown N) a.leaves b.leaves all));
      }

  -- a part, made into something else
  pub formed : {A B : Type 0} {f : A → List Token} {P : A → Type 0} {R : Edit → A → A → Type 0} {v : A} → Kept e A f P R v
      → {g : B → List Token} {Q : B → Type 0} {S : Edit → B → B → Type 0} (make : A → B) → ((w : A) → g (make w) ≡ f w)
      → ((w : A) → P w → R e v w → Q (make w)) → ((d : Edit) (w : A) → R d v w → S d (make v) (make w)) → Kept e B g Q S (make v)
  formed {v = v} a make spells rules alike =
      record {
        leaves = a.leaves;
        spelled = spells v ∙ a.spelled;
        made = λ all.
            let m = a.made all in
            record {
              tree = make m.tree;
              ruled = rules m.tree m.ruled m.same;
              tokens = spells m.tree ∙ m.tokens ∙ sym (ap (map e.edit) (spells v));
              same = alike e m.tree m.same;
            };
        names = λ N all. alike (marked e.old N) v (a.names N all);
      }

  -- a part that may be absent
  pub opt : {A : Type 0} {f : A → List Token} {P Q : A → Type 0} {R : Edit → A → A → Type 0} → ((x : A) → P x → Kept e A f Q R x)
      → (o : Option A) → IfSome o P → Kept e (Option A) (maybe f) (λ p. IfSome p Q) (λ d. AlikeOption (R d)) o
  opt {f = f} {Q = Q} {R = R} so None h = none_kept f Q R
  opt so (Some x) h = formed (so x h) (λ y. Some y) (λ y. refl) (λ y k r. k) (λ d y r. r)

  -- a list of parts
  pub many : {A : Type 0} {f : A → List Token} {P Q : A → Type 0} {R : Edit → A → A → Type 0} → ((x : A) → P x → Kept e A f Q R x)
      → (xs : List A) → AllByRecursion P xs → Kept e (List A) (flat f) (AllByRecursion Q) (λ d. AlikeList (R d)) xs
  many so [] h =
      record {
        leaves = [];
        spelled = refl;
        made = λ all. record { tree = []; ruled = tt; tokens = refl; same = tt };
        names = λ N all. tt;
      }
  many so (x ∷ xs) h = formed (pair (so x h.0) (many so xs h.1)) (λ v. v.0 ∷ v.1) (λ v. refl) (λ v k r. k) (λ d v r. r)

  -- a part of a type that leads back to itself, from its opened level
  pub rolled : {A O : Type 0} {out : A → O} {f : A → List Token} {level : O → List Token} {P : O → Type 0} {R : Edit → O → O → Type 0}
      (x : A) → (roll : O → A) → ((o : O) → out (roll o) ≡ o) → ((y : A) → f y ≡ level (out y)) → Kept e O level P R (out x)
      → Kept e A f (λ y. P (out y)) (λ d y z. R d (out y) (out z)) x
  rolled {out = out} {f = f} {level = level} {P = P} {R = R} x roll back opened a =
      record {
        leaves = a.leaves;
        spelled = opened x ∙ a.spelled;
        made = λ all.
            let m = a.made all in
            record {
              tree = roll m.tree;
              ruled = subst P (sym (back m.tree)) m.ruled;
              tokens = opened (roll m.tree) ∙ ap level (back m.tree) ∙ m.tokens ∙ sym (ap (map e.edit) (opened x));
              same = subst (R e (out x)) (sym (back m.tree)) m.same;
            };
        names = a.names;
      }

  -- ---- how a part begins

  begins_becomes : (ks : List Keyword) (leaves : List Leaf) → AllByRecursion (Becomes e) leaves → BeginsWithout e.old ks (map token_of leaves)
      → BeginsWithout e.new ks (map e.edit (map token_of leaves))
  begins_becomes ks [] all h t rest is = absurd (cc)
  begins_becomes ks (Plain u ∷ leaves) all h t rest is =
      let first : e.edit u ≡ t = cc in subst (IsNoneOf e.new ks) first (stays_none_of e ks u all.0 (h u (map token_of leaves) refl))
  begins_becomes ks (Named u ∷ leaves) all h t rest is =
      let first : e.edit u ≡ t = cc in subst (IsNoneOf e.new ks) first (becomes_none_of e ks u all.0.0 (h u (map token_of leaves) refl))

  -- it begins with none of the fixed words with none of which it began
  pub begun : {A : Type 0} {f : A → List Token} {P : A → Type 0} {R : Edit → A → A → Type 0} {x : A} → Kept e A f P R x
      → Kept e A f (λ y. P y × ((ks : List Keyword) → BeginsWithout e.old ks (f x) → BeginsWithout e.new ks (f y))) R x
  begun {f = f} {x = x} a =
      record {
        leaves = a.leaves;
        spelled = a.spelled;
        made = λ all.
            let m = a.made all in
            record {
              tree = m.tree;
              ruled = (
                m.ruled,
                λ ks h.
                    subst (BeginsWithout e.new ks) (sym (m.tokens ∙ ap (map e.edit) a.spelled))
                    (begins_becomes ks a.leaves all (subst (BeginsWithout e.old ks) a.spelled h)),
              );
              tokens = m.tokens;
              same = m.same;
            };
        names = a.names;
      }

-- ---- names beside which something stands or not

module _ (e : Edit) where
  -- no name of a type is GENERATED before ALWAYS, where none was
  pub generated_kept : (ts us : List Token) → AlikeList (AlikeName e) ts us → IsFreeOfGenerated e.old ts → IsFreeOfGenerated e.new us
  generated_kept [] [] r h = tt
  generated_kept [] (u ∷ us) r h = absurd r
  generated_kept (t ∷ ts) [] r h = absurd r
  generated_kept (t ∷ []) (u ∷ []) r h = tt
  generated_kept (t ∷ []) (u ∷ v ∷ us) r h = absurd r.1
  generated_kept (t ∷ s ∷ ts) (u ∷ []) r h = absurd r.1
  generated_kept (t ∷ s ∷ ts) (u ∷ v ∷ us) r h = (
    λ is always.
        h.0 (fixed_was e K.Generated t r.0.1 (subst (IsFixed e.new K.Generated) r.0.0 is))
        (fixed_was e K.Always s r.1.0.1 (subst (IsFixed e.new K.Always) r.1.0.0 always)),
    generated_kept (s ∷ ts) (v ∷ us) r.1 h.1,
  )

  -- an alias without AS
  pub bare_kept : (o p : Option Token) (t u : Token) → AlikeOption (AlikePlain e) o p → AlikeName e t u → IfNone o (IsBareAlias e.old t)
      → IfNone p (IsBareAlias e.new u)
  bare_kept None None t u r s h = subst (IsBareAlias e.new) (sym s.0) (becomes_bare e t s.1 h)
  bare_kept None (Some y) t u r s h = absurd r
  bare_kept (Some x) None t u r s h = absurd r
  bare_kept (Some x) (Some y) t u r s h = tt

  -- a name that is none of the words where a word is absent
  pub free_kept : (ks : List Keyword) (o p : Option Token) (t u : Token) → AlikeOption (AlikePlain e) o p → AlikeName e t u
      → IfNone o (IsNoneOf e.old ks t) → IfNone p (IsNoneOf e.new ks u)
  free_kept ks None None t u r s h = subst (IsNoneOf e.new ks) (sym s.0) (becomes_none_of e ks t s.1 h)
  free_kept ks None (Some y) t u r s h = absurd r
  free_kept ks (Some x) None t u r s h = absurd r
  free_kept ks (Some x) (Some y) t u r s h = tt

-- ---- parts that many rules have

abbrev pub AlikePair : (Token → Token → Type 0) → (Token → Token → Type 0) → TokenPair → TokenPair → Type 0
AlikePair R S x y = R x.first y.first × S x.second y.second

abbrev pub AlikeAfter : Edit → {A : Type 0} → (A → A → Type 0) → After A → After A → Type 0
AlikeAfter e R x y = AlikePlain e x.word y.word × R x.part y.part

abbrev pub AlikeParens : Edit → {A : Type 0} → (A → A → Type 0) → InParens A → InParens A → Type 0
AlikeParens e R x y = (AlikePlain e x.opening y.opening × R x.inner y.inner) × AlikePlain e x.closing y.closing

abbrev pub AlikeNext : Edit → {A : Type 0} → (A → A → Type 0) → NextItem A → NextItem A → Type 0
AlikeNext e R x y = AlikePlain e x.comma y.comma × R x.item y.item

abbrev pub AlikeCommas : Edit → {A : Type 0} → (A → A → Type 0) → Commas A → Commas A → Type 0
AlikeCommas e R x y = R x.first y.first × AlikeList (AlikeNext e R) x.more y.more

abbrev pub AlikeBy : Edit → {A : Type 0} → (A → A → Type 0) → By A → By A → Type 0
AlikeBy e R x y = (AlikePlain e x.word y.word × AlikePlain e x.by y.by) × AlikeCommas e R x.items y.items

module _ (e : Edit) where
  pub token_pair_kept : {P Q P' Q' : Token → Type 0} {R S : Edit → Token → Token → Type 0} → ((t : Token) → P t → Kept e Token one P' R t)
      → ((t : Token) → Q t → Kept e Token one Q' S t) → (x : TokenPair) → P x.first × Q x.second
      → Kept e TokenPair token_pair_tokens (λ y. P' y.first × Q' y.second) (λ d. AlikePair (R d) (S d)) x
  token_pair_kept first second x h =
      formed e (pair e (first x.first h.0) (second x.second h.1)) (λ v. record { first = v.0; second = v.1 }) (λ w. refl) (λ w k r. k) (λ d w r. r)

  pub after_kept : (keyword : Keyword) {A : Type 0} {f : A → List Token} {P Q : A → Type 0} {R : Edit → A → A → Type 0}
      → ((x : A) → P x → Kept e A f Q R x) → (x : After A) → IsAfter e.old keyword P x
      → Kept e (After A) (after_tokens f) (IsAfter e.new keyword Q) (λ d. AlikeAfter d (R d)) x
  after_kept keyword part x h =
      formed e (pair e (fixed_kept e keyword x.word h.0) (part x.part h.1)) (λ v. record { word = v.0; part = v.1 }) (λ w. refl) (λ w k r. k)
      (λ d w r. r)

  pub in_parens_kept : {A : Type 0} {f : A → List Token} {P Q : A → Type 0} {R : Edit → A → A → Type 0}
      → ((x : A) → P x → Kept e A f Q R x) → (x : InParens A) → IsInParens e.old P x
      → Kept e (InParens A) (in_parens_tokens f) (IsInParens e.new Q) (λ d. AlikeParens d (R d)) x
  in_parens_kept inner x h =
      formed e (pair e (pair e (sign_kept e (codes "(") x.opening h.0) (inner x.inner h.1)) (sign_kept e (codes ")") x.closing h.2))
      (λ v. record { opening = v.0.0; inner = v.0.1; closing = v.1 }) (λ w. refl) (λ w k r. (k.0.0, k.0.1, k.1)) (λ d w r. r)

  pub next_kept : {A : Type 0} {f : A → List Token} {P Q : A → Type 0} {R : Edit → A → A → Type 0}
      → ((x : A) → P x → Kept e A f Q R x) → (x : NextItem A) → IsSign e.old (codes ",") x.comma × P x.item
      → Kept e (NextItem A) (next_item_tokens f) (λ y. IsSign e.new (codes ",") y.comma × Q y.item) (λ d. AlikeNext d (R d)) x
  next_kept item x h =
      formed e (pair e (sign_kept e (codes ",") x.comma h.0) (item x.item h.1)) (λ v. record { comma = v.0; item = v.1 }) (λ w. refl) (λ w k r. k)
      (λ d w r. r)

  pub commas_kept : {A : Type 0} {f : A → List Token} {P Q : A → Type 0} {R : Edit → A → A → Type 0}
      → ((x : A) → P x → Kept e A f Q R x) → (x : Commas A) → AreCommas e.old P x
      → Kept e (Commas A) (commas_tokens f) (AreCommas e.new Q) (λ d. AlikeCommas d (R d)) x
  commas_kept item x h =
      formed e (pair e (item x.first h.0) (many e (next_kept item) x.more h.1)) (λ v. record { first = v.0; more = v.1 }) (λ w. refl) (λ w k r. k)
      (λ d w r. r)

  pub by_kept : (keyword : Keyword) {A : Type 0} {f : A → List Token} {P Q : A → Type 0} {R : Edit → A → A → Type 0}
      → ((x : A) → P x → Kept e A f Q R x) → (x : By A) → IsBy e.old keyword P x
      → Kept e (By A) (by_tokens f) (IsBy e.new keyword Q) (λ d. AlikeBy d (R d)) x
  by_kept keyword item x h =
      formed e (pair e (pair e (fixed_kept e keyword x.word h.0) (fixed_kept e K.By x.by h.1)) (commas_kept item x.items h.2))
      (λ v. record { word = v.0.0; by = v.0.1; items = v.1 }) (λ w. refl) (λ w k r. (k.0.0, k.0.1, k.1)) (λ d w r. r)
