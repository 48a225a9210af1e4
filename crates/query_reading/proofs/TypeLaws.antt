-- The laws of what is read as the type of a column. GENERATED before ALWAYS is no name of a type, so a repeat looks two tokens ahead.
use Rattle.std.proofs.Common.{IfSome, List, None, Option, Some, [], ap, arith, false, inl, inr, length, not, refl, subst, suc, sym, true, zero, ℕ, ⊎_elim, ◌&&◌, ◌++◌, ◌<◌, ◌∙◌, ◌∷◌, ◌≡◌, ◌⊎◌}
use Rattle.std.proofs.lemmas.Bool.{and_from, and_parts, both_ways, cases_Bool, cond-false, cond-true, false_from_ne_true, not-true, not_from_false, or_left}
use Rattle.std.specs.List.{AllByRecursion}
use Rattle.std.specs.Prelude.{codes}
use Rattle.common_laws.proofs.Options.{chosen}
use Rattle.sql_token.specs.Fixed.{IsFixed, IsSign}
use Rattle.sql_token.specs.Spelled.{flat, maybe, one}
use Rattle.sql_token.specs.declared.token.Token.{Token}
use Rattle.sql_expr.specs.Leaf.{IsFreeOfGenerated, IsTypeName}
use Rattle.sql_expr.specs.Rules.{IsColumnType, IsInParens, IsSigned, IsTypeSize}
use Rattle.sql_expr.specs.Tokens.{column_type_tokens, in_parens_tokens, next_item_tokens, signed_tokens, type_size_tokens}
use Rattle.sql_expr.specs.declared.lists.InParens.{InParens}
use Rattle.sql_expr.specs.declared.lists.NextItem.{NextItem}
use Rattle.sql_expr.specs.declared.names.ColumnType.{ColumnType}
use Rattle.sql_expr.specs.declared.names.Signed.{Signed}
use Rattle.sql_expr.specs.declared.names.TypeSize.{TypeSize}
use Rattle.sql_reader.proofs.Choices.{choice_reads, opt_reads}
use Rattle.sql_reader.proofs.Forms.{formed_reads, leaf_before_reads, ruled, widened_reads}
use Rattle.sql_reader.proofs.Laws.{Fits, Reads, leaf_reads, seq_reads}
use Rattle.sql_reader.proofs.Leaves.{both_fits, either_fits, none_of_fits, number_fits, sign_fits, word_fits}
use Rattle.sql_reader.proofs.Looks.{clear-apart, clear-left, clear-right, looks-left, looks-right}
use Rattle.sql_reader.proofs.Outcomes.{made_is, made_parts, rest_at_most, same_outcome, then_is, then_parts}
use Rattle.sql_reader.proofs.TokenSorts.{fixed_sort}
use Rattle.sql_reader.proofs.Turns.{TakesToken}
use Rattle.sql_reader.specs.Looks.{Look, apart, looks, next_sort, none_of, sign, word}
use Rattle.sql_reader.specs.Reading.{Read, and_then, made_of, read_leaf, read_leaf_before, read_many, read_seq, read_turns, seq}
use Rattle.sql_reader.specs.Sorts.{sort_of}
use Rattle.sql_reader.specs.declared.sort.Mark.TheVariants.{Minus, Opening, Plus}
use Rattle.sql_reader.specs.declared.sort.Sort.{Sort}
use Rattle.query_reading.proofs.LeafLaws.{type_name_fits}
use Rattle.query_reading.proofs.ListLaws.{in_parens_reads, next_item_reads, opt_leaf_reads}
use Rattle.query_reading.specs.Types.{column_type, more_type_names, next_type_name, opt_size, opt_type, other_name, read_column_type, read_more_type_names, read_next_type_name, read_opt_size, read_opt_type, read_second_size, read_signed, read_type_size, second_size, signed, type_name, type_size}
use Rattle.sql_token.specs.declared.keyword.Keyword.TheVariants as K

module _ (text : List ℕ) {n : ℕ} where
  -- ["+"|"-"] number
  pub signed_reads : Reads (sort_of text) Signed (IsSigned text) (IsSigned text) signed_tokens n
      (signed (sort_of text)) (read_signed (sort_of text))
  unfolding read_signed
  signed_reads =
      formed_reads
      (seq_reads (opt_leaf_reads text (either_fits (sign_fits text Plus 43 refl refl) (sign_fits text Minus 45 refl refl)))
      (leaf_reads (number_fits text)) refl)
      (record { spelled = λ v. refl; meets = λ v h. h; covers = λ x h. ((x.sign, x.number), refl, h) })

  -- ["," signed]
  pub second_size_reads : Reads (sort_of text) (Option (NextItem Signed)) (λ x. IfSome x (λ next. IsSign text (codes ",") next.comma × IsSigned text next.item)) (λ x. IfSome x (λ next. IsSign text (codes ",") next.comma × IsSigned text next.item)) (maybe (next_item_tokens signed_tokens)) n
      (second_size (sort_of text)) (read_second_size (sort_of text))
  unfolding read_second_size
  second_size_reads = opt_reads (next_item_reads signed_reads) refl

  -- signed ["," signed]
  pub type_size_reads : Reads (sort_of text) TypeSize (IsTypeSize text) (IsTypeSize text) type_size_tokens n
      (type_size (sort_of text)) (read_type_size (sort_of text))
  unfolding read_type_size
  type_size_reads =
      formed_reads (seq_reads signed_reads second_size_reads refl)
      (record { spelled = λ v. refl; meets = λ v h. h; covers = λ x h. ((x.first, x.second), refl, h) })

  -- ["(" signed ["," signed] ")"]
  pub opt_size_reads : Reads (sort_of text) (Option (InParens TypeSize)) (λ x. IfSome x (IsInParens text (IsTypeSize text))) (λ x. IfSome x (IsInParens text (IsTypeSize text))) (maybe (in_parens_tokens type_size_tokens)) n
      (opt_size (sort_of text)) (read_opt_size (sort_of text))
  unfolding read_opt_size
  opt_size_reads =
      opt_reads (widened_reads {starts = (sign Opening ∷ []) ∷ []} {goes_on = []} (in_parens_reads type_size_reads refl) refl refl) refl

-- ---- names in a type

module _ (text : List ℕ) where
  abbrev sort : Token → Sort
  sort = sort_of text

  other_name_fits : Fits sort (λ t. IsTypeName text t × (IsFixed text K.Generated t → ⊥)) other_name
  other_name_fits = both_fits (type_name_fits text) (none_of_fits (word_fits text K.Generated))

  -- GENERATED is a name in a type
  generated_named : (t : Token) → IsFixed text K.Generated t → IsTypeName text t
  generated_named t is = let fit = type_name_fits text in fit.meets t (ap type_name (fixed_sort text K.Generated t is))

  -- a name is another or GENERATED
  which_name : (t : Token) → IsTypeName text t → (IsTypeName text t × (IsFixed text K.Generated t → ⊥)) ⊎ IsFixed text K.Generated t
  which_name t named =
      let fit = word_fits text K.Generated in
      ⊎_elim (λ here. inr (fit.meets t here)) (λ other. inl (named, λ is. both_ways (word K.Generated (sort t)) other (fit.shows t is)))
      (cases_Bool (word K.Generated (sort t)))

  -- a name in a type, by itself
  pub next_type_name_reads : {n : ℕ}
      → Reads (sort_of text) Token (IsTypeName text) (IsTypeName text) one n (next_type_name (sort_of text)) (read_next_type_name (sort_of text))
  unfolding read_next_type_name
  next_type_name_reads =
      ruled
      (choice_reads (ruled (leaf_reads other_name_fits) (λ t h. h.0) (λ t h. h))
      (ruled (leaf_before_reads (word_fits text K.Generated)) generated_named (λ t h. h)) refl refl refl)
      (λ t h. h) which_name

  -- what stands behind it is no ALWAYS where it is GENERATED
  abbrev Apart : Token → List Token → Type 0
  Apart t rest = IsFixed text K.Generated t → word K.Always (next_sort sort rest) ≡ false

  before_always : (ts : List Token) (t : Token) (rest : List Token)
      → read_leaf_before sort (word K.Generated) (word K.Always) ts ≡ Some (t, rest) → word K.Always (next_sort sort rest) ≡ false
  before_always [] t rest e = absurd (cc)
  before_always (u ∷ ts) t rest e =
      let test = word K.Generated (sort u) && not (word K.Always (next_sort sort ts)) in
      let parts = chosen test (Some (u, ts)) (t, rest) e in
      let same = same_outcome u t ts rest parts.1 in
      subst (λ l. word K.Always (next_sort sort l) ≡ false) same.1
      (not-true (word K.Always (next_sort sort ts))
      (and_parts (word K.Generated (sort u)) (not (word K.Always (next_sort sort ts))) parts.0).1)

  name_apart : (ts : List Token) (t : Token) (rest : List Token) → read_next_type_name sort ts ≡ Some (t, rest) → Apart t rest
  unfolding read_next_type_name
  name_apart ts t rest e is =
      let other = leaf_reads {bound = 0} other_name_fits in
      let starts : Look = (other_name ∷ []) ∷ [] in
      let first = read_leaf sort other_name ts in
      let second = read_leaf_before sort (word K.Generated) (word K.Always) ts in
      ⊎_elim
      (λ so. absurd ((other.sound ts t rest (sym (cond-true (looks sort starts ts) first second so) ∙ e)).0.1 is))
      (λ so. before_always ts t rest (sym (cond-false (looks sort starts ts) first second so) ∙ e))
      (cases_Bool (looks sort starts ts))

  -- nothing follows with which a name would go on
  abbrev names_go_on : Look
  names_go_on = (seq (next_type_name sort) (more_type_names sort)).goes_on

  abbrev name_starts : Look
  name_starts = (next_type_name sort).starts

  clear_name : (t : Token) (rest : List Token) → Apart t rest → IsTypeName text t
      → (read_next_type_name sort (t ∷ rest) ≡ Some (t, rest)) × (looks sort name_starts (t ∷ rest) ≡ true)
  unfolding read_next_type_name
  clear_name t rest apart named =
      let first = read_leaf sort other_name (t ∷ rest) in
      let second = read_leaf_before sort (word K.Generated) (word K.Always) (t ∷ rest) in
      let starts : Look = (other_name ∷ []) ∷ [] in
      let later : Look = (word K.Generated ∷ none_of (word K.Always) ∷ []) ∷ [] in
      let here = looks sort starts (t ∷ rest) in
      ⊎_elim
      (λ other.
      let other_fit = other_name_fits in
      let shows : other_name (sort t) ≡ true = other_fit.shows t other in
      let so : here ≡ true = or_left (other_name (sort t) && true) false (and_from (other_name (sort t)) true shows refl) in (
        cond-true here first second so ∙ cond-true (other_name (sort t)) (Some (t, rest)) None shows,
        looks-left sort starts later (t ∷ rest) so,
      ))
      (λ is.
      let fit = word_fits text K.Generated in
      let shows : word K.Generated (sort t) ≡ true = fit.shows t is in
      let behind : not (word K.Always (next_sort sort rest)) ≡ true = not_from_false (word K.Always (next_sort sort rest)) (apart is) in
      let so : looks sort later (t ∷ rest) ≡ true =
      or_left (word K.Generated (sort t) && (not (word K.Always (next_sort sort rest)) && true)) false
      (and_from (word K.Generated (sort t)) (not (word K.Always (next_sort sort rest)) && true) shows
      (and_from (not (word K.Always (next_sort sort rest))) true behind refl)) in
      let out : here ≡ false = clear-apart sort starts later (t ∷ rest) refl so in (
        cond-false here first second out
            ∙ cond-true (word K.Generated (sort t) && not (word K.Always (next_sort sort rest))) (Some (t, rest)) None
            (and_from (word K.Generated (sort t)) (not (word K.Always (next_sort sort rest))) shows behind),
        looks-right sort starts later (t ∷ rest) so,
      ))
      (which_name t named)

  -- what is read behind a name
  more_sound : (m : ℕ) (t : Token) (ts mid : List Token) (xs rest : List Token) → read_next_type_name sort ts ≡ Some (t, mid)
      → read_turns sort name_starts (read_next_type_name sort) m mid ≡ Some (xs, rest)
      → (AllByRecursion (IsTypeName text) xs × IsFreeOfGenerated text (t ∷ xs)) × (mid ≡ flat one xs ++ rest)
  more_sound zero t ts mid xs rest first e = absurd (cc)
  more_sound (suc m) t ts mid xs rest first e =
      let name = read_next_type_name sort in
      let next : Token → Read (List Token) = λ x l. made_of (λ ys. x ∷ ys) (read_turns sort name_starts name m l) in
      let none : List Token = [] in
      let here = looks sort name_starts mid in
      let family : List Token → Type 0 =
      λ l. (AllByRecursion (IsTypeName text) l × IsFreeOfGenerated text (t ∷ l)) × (mid ≡ flat one l ++ rest) in
      ⊎_elim
      (λ so.
      let there = sym (cond-true here (and_then (name mid) next) (Some (none, mid)) so) ∙ e in
      let (p, second, behind) = then_parts (name mid) next (xs, rest) there in
      let (ys, third, is) = made_parts (λ (ys : List Token). p.0 ∷ ys) (read_turns sort name_starts name m p.1) xs rest behind in
      let laws = next_type_name_reads {n = 0} in
      let meets : IsTypeName text p.0 × (mid ≡ one p.0 ++ p.1) = laws.sound mid p.0 p.1 second in
      let more : (AllByRecursion (IsTypeName text) ys × IsFreeOfGenerated text (p.0 ∷ ys)) × (p.1 ≡ flat one ys ++ rest) =
      more_sound m p.0 mid p.1 ys rest second third in
      let always = word_fits text K.Always in
      let free : IsFixed text K.Generated t → IsFixed text K.Always p.0 → ⊥ =
      λ gen alw. both_ways (word K.Always (sort p.0))
      (subst (λ l. word K.Always (next_sort sort l) ≡ false) meets.1 (name_apart ts t mid first gen)) (always.shows p.0 alw) in
      subst family is (((meets.0, more.0.0), (free, more.0.1)), meets.1 ∙ ap (λ l. p.0 ∷ l) more.1))
      (λ other.
      let there = sym (cond-false here (and_then (name mid) next) (Some (none, mid)) other) ∙ e in
      let same = same_outcome none xs mid rest there in
      subst family same.0 ((tt, tt), same.1))
      (cases_Bool here)

  -- what follows the names is no further one
  apart_behind : (t : Token) (xs rest : List Token) → IsFreeOfGenerated text (t ∷ xs) → looks sort names_go_on rest ≡ false
      → Apart t (flat one xs ++ rest)
  apart_behind t [] rest free clear is =
      false_from_ne_true (word K.Always (next_sort sort rest))
      (λ here. both_ways (looks sort names_go_on rest) clear
      (or_left (word K.Always (next_sort sort rest) && true) (looks sort (name_starts ++ (word K.Always ∷ []) ∷ []) rest)
      (and_from (word K.Always (next_sort sort rest)) true here refl)))
  apart_behind t (u ∷ xs) rest free clear is =
      let always = word_fits text K.Always in
      false_from_ne_true (word K.Always (sort u)) (λ here. free.0 is (always.meets u here))

  free_behind : (t : Token) (xs : List Token) → IsFreeOfGenerated text (t ∷ xs) → IsFreeOfGenerated text xs
  free_behind t [] free = tt
  free_behind t (u ∷ xs) free = free.1

  more_complete : (m : ℕ) (xs rest : List Token) → AllByRecursion (IsTypeName text) xs → IsFreeOfGenerated text xs
      → looks sort names_go_on rest ≡ false → length (flat one xs ++ rest) < m
      → read_turns sort name_starts (read_next_type_name sort) m (flat one xs ++ rest) ≡ Some (xs, rest)
  more_complete zero xs rest all free clear room = absurd (omega arith)
  more_complete (suc m) [] rest all free clear room =
      let name = read_next_type_name sort in
      let next : Token → Read (List Token) = λ x l. made_of (λ ys. x ∷ ys) (read_turns sort name_starts name m l) in
      let none : List Token = [] in
      cond-false (looks sort name_starts rest) (and_then (name rest) next) (Some (none, rest))
      (clear-left sort name_starts ((word K.Always ∷ []) ∷ []) rest
      (clear-right sort ((word K.Always ∷ []) ∷ []) (name_starts ++ (word K.Always ∷ []) ∷ []) rest clear))
  more_complete (suc m) (t ∷ xs) rest all free clear room =
      let name = read_next_type_name sort in
      let next : Token → Read (List Token) = λ x l. made_of (λ ys. x ∷ ys) (read_turns sort name_starts name m l) in
      let none : List Token = [] in
      let back : List Token = flat one xs ++ rest in
      let so = clear_name t back (apart_behind t xs rest free clear) all.0 in
      cond-true (looks sort name_starts (t ∷ back)) (and_then (name (t ∷ back)) next) (Some (none, t ∷ back)) so.1
      ∙ then_is (name (t ∷ back)) next t back so.0
      ∙ made_is (λ (ys : List Token). t ∷ ys) (read_turns sort name_starts name m back) xs rest
      (more_complete m xs rest all.1 (free_behind t xs free) clear (omega arith))

  -- type-name {type-name}
  abbrev AreTypeNames : Token × List Token → Type 0
  AreTypeNames v = (IsTypeName text v.0 × AllByRecursion (IsTypeName text) v.1) × IsFreeOfGenerated text (v.0 ∷ v.1)

  abbrev type_names_tokens : Token × List Token → List Token
  type_names_tokens v = one v.0 ++ flat one v.1

  names_sound : (ts : List Token) (v : Token × List Token) (rest : List Token)
      → read_seq (read_next_type_name sort) (read_more_type_names sort) ts ≡ Some (v, rest)
      → AreTypeNames v × (ts ≡ type_names_tokens v ++ rest)
  unfolding read_more_type_names
  names_sound ts v rest e =
      let more = read_many sort name_starts (read_next_type_name sort) in
      let (p, first, behind) = then_parts (read_next_type_name sort ts) (λ x mid. made_of (λ xs. (x, xs)) (more mid)) (v, rest) e in
      let (xs, second, same) = made_parts (λ (xs : List Token). (p.0, xs)) (more p.1) v rest behind in
      let laws = next_type_name_reads {n = 0} in
      let meets : IsTypeName text p.0 × (ts ≡ one p.0 ++ p.1) = laws.sound ts p.0 p.1 first in
      let so : (AllByRecursion (IsTypeName text) xs × IsFreeOfGenerated text (p.0 ∷ xs)) × (p.1 ≡ flat one xs ++ rest) =
      more_sound (suc (length p.1)) p.0 ts p.1 xs rest first second in
      let family : Token × List Token → Type 0 = λ w. AreTypeNames w × (ts ≡ type_names_tokens w ++ rest) in
      subst family same (((meets.0, so.0.0), so.0.1), meets.1 ∙ ap (λ l. p.0 ∷ l) so.1)

  type_names_reads : {n : ℕ}
      → Reads sort (Token × List Token) AreTypeNames AreTypeNames type_names_tokens n (seq (next_type_name sort) (more_type_names sort))
      (read_seq (read_next_type_name sort) (read_more_type_names sort))
  unfolding read_more_type_names
  type_names_reads =
      record {
        sound = names_sound;
        size = λ _ ts v rest e.
            let so = names_sound ts v rest e in
            let most = rest_at_most (flat one v.1 ++ rest) (flat one v.1) rest refl in
            omega (arith, most, ap length so.1);
        begins = λ v rest covers clear.
            inl (clear_name v.0 (flat one v.1 ++ rest) (apart_behind v.0 v.1 rest covers.1 clear) covers.0.0).1;
        complete = λ v rest covers clear.
            let back : List Token = flat one v.1 ++ rest in
            let more = read_many sort name_starts (read_next_type_name sort) in
            let first = (clear_name v.0 back (apart_behind v.0 v.1 rest covers.1 clear) covers.0.0).0 in
            then_is (read_next_type_name sort (v.0 ∷ back)) (λ x mid. made_of (λ xs. (x, xs)) (more mid)) v.0 back first
            ∙ made_is (λ (xs : List Token). (v.0, xs)) (more back) v.1 rest
            (more_complete (suc (length back)) v.1 rest covers.0.1 (free_behind v.0 v.1 covers.1) clear (omega arith));
        alike = λ ts most. refl;
      }

module _ (text : List ℕ) {n : ℕ} where
  -- type-name {type-name} ["(" signed ["," signed] ")"]
  pub column_type_reads : Reads (sort_of text) ColumnType (IsColumnType text) (IsColumnType text) column_type_tokens n
      (column_type (sort_of text)) (read_column_type (sort_of text))
  unfolding read_column_type
  column_type_reads =
      formed_reads (seq_reads (type_names_reads text) (opt_size_reads text) refl)
      (record {
        spelled = λ v. refl;
        meets = λ v h. (h.0.0.0, h.0.0.1, h.1, h.0.1);
        covers = λ x h. (((x.first, x.more), x.size), refl, (((h.0, h.1), h.3), h.2));
      })

  -- [type]
  pub opt_type_reads : Reads (sort_of text) (Option ColumnType) (λ x. IfSome x (IsColumnType text)) (λ x. IfSome x (IsColumnType text)) (maybe column_type_tokens) n
      (opt_type (sort_of text)) (read_opt_type (sort_of text))
  unfolding read_opt_type
  opt_type_reads = opt_reads column_type_reads refl

-- a name in a type takes a token
pub next_type_name_takes : (text : List ℕ) → TakesToken (read_next_type_name (sort_of text))
next_type_name_takes text = let laws = next_type_name_reads text {n = 0} in laws.size refl
