-- The laws of what many rules read.
use Rattle.std.proofs.Common.{IfSome, List, None, Option, Some, [], inl, inr, refl, true, ℕ, ◌++◌, ◌∷◌, ◌≡◌, ◌⊎◌}
use Rattle.std.specs.Prelude.{codes}
use Rattle.sql_token.specs.Fixed.{IsFixed, IsSign}
use Rattle.sql_token.specs.Spelled.{maybe, one}
use Rattle.sql_token.specs.declared.keyword.Keyword.{Keyword}
use Rattle.sql_token.specs.declared.token.Token.{Token}
use Rattle.sql_expr.specs.Rules.{AreCommas, IsAfter, IsInParens}
use Rattle.sql_expr.specs.Tokens.{after_tokens, commas_tokens, in_parens_tokens, next_item_tokens, token_pair_tokens}
use Rattle.sql_expr.specs.declared.lists.After.{After}
use Rattle.sql_expr.specs.declared.lists.By.{By}
use Rattle.sql_expr.specs.declared.lists.Commas.{Commas}
use Rattle.sql_expr.specs.declared.lists.InParens.{InParens}
use Rattle.sql_expr.specs.declared.lists.NextItem.{NextItem}
use Rattle.sql_expr.specs.declared.lists.TokenPair.{TokenPair}
use Rattle.sql_reader.proofs.Choices.{choice_reads, many_reads, opt_reads}
use Rattle.sql_reader.proofs.Forms.{begun_reads, formed_reads, lead_reads, ruled, variant_reads}
use Rattle.sql_reader.proofs.Laws.{Fits, Reads, leaf_reads, seq_reads}
use Rattle.sql_reader.proofs.Leaves.{sign_fits, word_fits}
use Rattle.sql_reader.proofs.SortTests.{no_word}
use Rattle.sql_reader.specs.Looks.{Set, apart, sign, word}
use Rattle.sql_reader.specs.Reading.{Read, Reading, sealed}
use Rattle.sql_reader.specs.Sorts.{sort_of}
use Rattle.sql_reader.specs.declared.sort.Mark.TheVariants.{Closing, Comma, Opening}
use Rattle.sql_reader.specs.declared.sort.Sort.{Sort}
use Rattle.query_reading.specs.Lists.{after, by, commas, in_parens, maybe_not, next_item, opt_leaf, pair, read_maybe_not, read_opt_leaf}
use Rattle.sql_token.specs.declared.keyword.Keyword.TheVariants as K

-- two tokens
pub pair_reads : {sort : Token → Sort} {P Q : Token → Type 0} {first second : Set} {bound : ℕ} → Fits sort P first → Fits sort Q second
    → Reads sort TokenPair (λ v. P v.first × Q v.second) (λ v. P v.first × Q v.second) token_pair_tokens bound (pair first second)
    (pair {sort = sort} first second).read
pair_reads first second =
    formed_reads (lead_reads first (leaf_reads second))
    (record { spelled = λ v. refl; meets = λ v h. h; covers = λ x h. ((x.first, x.second), refl, h) })

module _ {text : List ℕ} {A : Type 0} {P C : A → Type 0} {f : A → List Token} {bound : ℕ} {a : Reading (sort_of text) A} {a' : Read A} where
  -- WORD part
  pub after_reads : (k : Keyword) → Reads (sort_of text) A P C f bound a a'
      → Reads (sort_of text) (After A) (IsAfter text k P) (IsAfter text k C) (after_tokens f) bound (after k a) (after k (sealed a a')).read
  after_reads k ra =
      formed_reads (begun_reads (word_fits text k) ra)
      (record { spelled = λ v. refl; meets = λ v h. h; covers = λ x h. ((x.word, x.part), refl, h) })

  -- "(" inner ")"
  pub in_parens_reads : Reads (sort_of text) A P C f bound a a' → apart a.goes_on ((sign Closing ∷ []) ∷ []) ≡ true
      → Reads (sort_of text) (InParens A) (IsInParens text P) (IsInParens text C) (in_parens_tokens f) bound (in_parens a) (in_parens (sealed a a')).read
  in_parens_reads ra far =
      formed_reads (seq_reads (lead_reads (sign_fits text Opening 40 refl refl) ra) (leaf_reads (sign_fits text Closing 41 refl refl)) far)
      (record {
        spelled = λ v. refl;
        meets = λ v h. (h.0.0, h.0.1, h.1);
        covers = λ x h. (((x.opening, x.inner), x.closing), refl, ((h.0, h.1), h.2));
      })

  -- "," item
  pub next_item_reads : Reads (sort_of text) A P C f bound a a'
      → Reads (sort_of text) (NextItem A) (λ x. IsSign text (codes ",") x.comma × P x.item) (λ x. IsSign text (codes ",") x.comma × C x.item)
      (next_item_tokens f) bound (next_item a) (next_item (sealed a a')).read
  next_item_reads ra =
      formed_reads (begun_reads (sign_fits text Comma 44 refl refl) ra)
      (record { spelled = λ v. refl; meets = λ v h. h; covers = λ x h. ((x.comma, x.item), refl, h) })

  -- item {"," item}
  pub commas_reads : Reads (sort_of text) A P C f bound a a' → apart a.goes_on ((sign Comma ∷ []) ∷ []) ≡ true
      → Reads (sort_of text) (Commas A) (AreCommas text P) (AreCommas text C) (commas_tokens f) bound (commas a) (commas (sealed a a')).read
  commas_reads ra far =
      formed_reads (seq_reads ra (many_reads (next_item_reads ra) refl far) far)
      (record { spelled = λ v. refl; meets = λ v h. h; covers = λ x h. ((x.first, x.more), refl, h) })

module _ {text : List ℕ} {A : Type 0} {P C : Commas A → Type 0} {f : Commas A → List Token} {bound : ℕ} {a : Reading (sort_of text) (Commas A)}
    {a' : Read (Commas A)} where
  -- WORD BY items
  pub by_reads : (k : Keyword) → Reads (sort_of text) (Commas A) P C f bound a a'
      → Reads (sort_of text) (By A) (λ x. IsFixed text k x.word × IsFixed text K.By x.by × P x.items)
      (λ x. IsFixed text k x.word × IsFixed text K.By x.by × C x.items) (λ x. one x.word ++ one x.by ++ f x.items) bound (by k a)
      (by k (sealed a a')).read
  by_reads k ra =
      formed_reads (begun_reads (word_fits text k) (begun_reads (word_fits text K.By) ra))
      (record {
        spelled = λ v. refl;
        meets = λ v h. (h.0, h.1.0, h.1.1);
        covers = λ x h. ((x.word, (x.by, x.items)), refl, (h.0, (h.1, h.2)));
      })

-- [NOT] and a token
abbrev pub IsMaybeNot : List ℕ → (Token → Type 0) → Option Token × Token → Type 0
IsMaybeNot text P v = IfSome v.0 (IsFixed text K.Not) × P v.1

abbrev pub maybe_not_tokens : Option Token × Token → List Token
maybe_not_tokens v = maybe one v.0 ++ one v.1

maybe_not_covers : (text : List ℕ) (P : Token → Type 0) (o : Option Token) (t : Token) → IsMaybeNot text P (o, t)
    → ((v : Token × Token) × (◌≡◌ {A = Option Token × Token} (o, t) (Some v.0, v.1)) × (IsFixed text K.Not v.0 × P v.1)) ⊎ ((v : Token) × (◌≡◌ {A = Option Token × Token} (o, t) (None, v)) × P v)
maybe_not_covers text P (Some no_word) t h = inl ((no_word, t), refl, h)
maybe_not_covers text P None t h = inr (t, refl, h.1)

module _ (text : List ℕ) {P : Token → Type 0} {set : Set} {n : ℕ} where
  -- a token of the set, or none
  pub opt_leaf_reads : Fits (sort_of text) P set
      → Reads (sort_of text) (Option Token) (λ x. IfSome x P) (λ x. IfSome x P) (maybe one) n (opt_leaf (sort_of text) set)
      (read_opt_leaf (sort_of text) set)
  unfolding read_opt_leaf
  opt_leaf_reads fit = opt_reads (leaf_reads fit) refl

  pub maybe_not_reads : Fits (sort_of text) P set → apart ((word K.Not ∷ set ∷ []) ∷ []) ((set ∷ []) ∷ []) ≡ true
      → Reads (sort_of text) (Option Token × Token) (IsMaybeNot text P) (IsMaybeNot text P) maybe_not_tokens n (maybe_not (sort_of text) set)
      (read_maybe_not (sort_of text) set)
  unfolding read_maybe_not
  maybe_not_reads fit far =
      ruled
      (choice_reads
      (variant_reads (lead_reads (word_fits text K.Not) (leaf_reads fit)) (λ v. refl) (λ v h. h))
      (variant_reads (leaf_reads fit) (λ t. refl) (λ t h. (tt, h)))
      refl refl far)
      (λ x h. h)
      (λ x h. maybe_not_covers text P x.0 x.1 h)
