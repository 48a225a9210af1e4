-- The laws of one token before another, of a token that leads, and of readings made into something else or narrowed.
use Rattle.std.proofs.Common.{◌≡◌, ℕ, ◌<◌, ⊎_elim, inl, inr, Bool, true, false, not, ◌&&◌, if◌then◌else◌, List, [], ◌∷◌, ◌++◌, length, map, Option, Some, None, refl, sym, ap, subst, ◌∙◌, arith}
use Rattle.std.proofs.lemmas.Bool.{and_parts, and_from, or_cases, or_left, or_right, cond-true, cond-false, cases_Bool, both_ways, not_from_false, not-true, false_from_ne_true}
use Rattle.common_laws.proofs.Options.{chosen}
use Rattle.sql_token.specs.declared.token.Token.{Token}
use Rattle.sql_reader.specs.declared.sort.Sort.{Sort}
use Rattle.sql_reader.specs.Looks.{Set, Look, looks, fits, within, next_sort, behind_next, none_of}
use Rattle.sql_token.specs.Spelled.{one}
use Rattle.sql_reader.specs.Reading.{Reading, made_of, read_leaf, read_leaf_before, read_seq, read_without, leaf_before, lead, begun, formed, without, widened, led_by, narrowed}
use Rattle.sql_reader.proofs.Looks.{looks-within, clear-within, looks-led}
use Rattle.sql_reader.proofs.Outcomes.{same_outcome, made_parts, made_is, if_alike}
use Rattle.sql_reader.proofs.Laws.{Fits, Reads, leaf_reads, seq_complete, seq_reads}

abbrev L : Type 0
L = List Token

-- what a test lets through where it fails
not_chosen : {A : Type 0} (b : Bool) (x : Option A) (r : A) → (if b then None else x) ≡ Some r → (b ≡ false) × (x ≡ Some r)
not_chosen true x r e = absurd (cc)
not_chosen false x r e = (refl, e)

-- ---- a token before no token of another set

before_parts : (sort : Token → Sort) (set other : Set) (ts : List Token) (x : Token) (rest : List Token) → read_leaf_before sort set other ts ≡ Some (x, rest)
    → (set (sort x) ≡ true) × (ts ≡ x ∷ rest)
before_parts sort set other [] x rest e = absurd (cc)
before_parts sort set other (t ∷ ts) x rest e =
    let parts = chosen (set (sort t) && not (other (next_sort sort ts))) (Some (t, ts)) (x, rest) e in
    let same = same_outcome t x ts rest parts.1 in (
      subst (λ v. set (sort v) ≡ true) same.0 (and_parts (set (sort t)) (not (other (next_sort sort ts))) parts.0).0,
      ap (λ v. v ∷ ts) same.0 ∙ ap (λ l. x ∷ l) same.1,
    )

-- nothing of the other set follows
clear_of : (sort : Token → Sort) (other : Set) (rest : List Token) → looks sort ((other ∷ []) ∷ []) rest ≡ false → not (other (next_sort sort rest)) ≡ true
clear_of sort other rest clear =
    not_from_false (other (next_sort sort rest))
    (false_from_ne_true (other (next_sort sort rest))
    (λ here. both_ways (looks sort ((other ∷ []) ∷ []) rest) clear
    (or_left (other (next_sort sort rest) && true) false (and_from (other (next_sort sort rest)) true here refl))))

pub leaf_before_reads : {sort : Token → Sort} {P : Token → Type 0} {set other : Set} {bound : ℕ} → Fits sort P set
    → Reads sort Token P P one bound (leaf_before set other) (read_leaf_before sort set other)
leaf_before_reads {sort} {P} {set} {other} {bound} fit =
    record {
      sound = λ ts x rest e. let parts = before_parts sort set other ts x rest e in (fit.meets x parts.0, parts.1);
      size = λ _ ts x rest e. let parts = before_parts sort set other ts x rest e in omega (arith, ap length parts.1);
      begins = λ x rest covers clear.
          let next = not (other (next_sort sort rest)) in
          inl (or_left (set (sort x) && (next && true)) false
          (and_from (set (sort x)) (next && true) (fit.shows x covers) (and_from next true (clear_of sort other rest clear) refl)));
      complete = λ x rest covers clear.
          let next = not (other (next_sort sort rest)) in
          cond-true (set (sort x) && next) (Some (x, rest)) None (and_from (set (sort x)) next (fit.shows x covers) (clear_of sort other rest clear));
      alike = λ ts most. refl;
    }

-- ---- a token that leads

module _ {sort : Token → Sort} {B : Type 0} {P : Token → Type 0} {Q D : B → Type 0} {g : B → List Token} {set : Set} {bound : ℕ}
    {b : Reading sort B} {b' : List Token → Option (B × List Token)} where
  lead_begins : Fits sort P set → Reads sort B Q D g bound b b' → (v : Token × B) (rest : L) → P v.0 × D v.1 → looks sort b.goes_on rest ≡ false
      → looks sort (if b.nullable then (set ∷ []) ∷ [] else led_by set b.starts) (v.0 ∷ (g v.1 ++ rest)) ≡ true
  lead_begins fit rb v rest covers clear =
      let front : L = v.0 ∷ (g v.1 ++ rest) in
      let alone : Look = (set ∷ []) ∷ [] in
      let here = fit.shows v.0 covers.0 in
      ⊎_elim
      (λ may. ap (λ l. looks sort l front) (cond-true b.nullable alone (led_by set b.starts) may)
      ∙ or_left (set (sort v.0) && true) false (and_from (set (sort v.0)) true here refl))
      (λ some. ap (λ l. looks sort l front) (cond-false b.nullable alone (led_by set b.starts) some)
      ∙ looks-led sort set b.starts v.0 (g v.1 ++ rest) here
      (⊎_elim (λ s. s) (λ n. absurd (both_ways b.nullable some n.0)) (rb.begins v.1 rest covers.1 clear)))
      (cases_Bool b.nullable)

  pub lead_reads : Fits sort P set → Reads sort B Q D g bound b b'
      → Reads sort (Token × B) (λ v. P v.0 × Q v.1) (λ v. P v.0 × D v.1) (λ v. v.0 ∷ g v.1) bound (lead set b) (read_seq (read_leaf sort set) b')
  lead_reads fit rb =
      let plain = seq_reads (leaf_reads {bound = bound} fit) rb refl in
      record {
        sound = plain.sound;
        size = λ _. plain.size refl;
        begins = λ v rest covers clear. inl (lead_begins fit rb v rest covers clear);
        complete = λ v rest covers clear. seq_complete (leaf_reads {bound = bound} fit) rb v rest covers refl clear;
        alike = plain.alike;
      }

  pub begun_reads : Fits sort P set → Reads sort B Q D g bound b b'
      → Reads sort (Token × B) (λ v. P v.0 × Q v.1) (λ v. P v.0 × D v.1) (λ v. v.0 ∷ g v.1) bound (begun set b) (read_seq (read_leaf sort set) b')
  begun_reads fit rb =
      let plain = seq_reads (leaf_reads {bound = bound} fit) rb refl in
      record {
        sound = plain.sound;
        size = λ _. plain.size refl;
        begins = λ v rest covers clear. inl (or_left (set (sort v.0) && true) false (and_from (set (sort v.0)) true (fit.shows v.0 covers.0) refl));
        complete = λ v rest covers clear. seq_complete (leaf_reads {bound = bound} fit) rb v rest covers refl clear;
        alike = plain.alike;
      }

-- ---- made into something else

-- How a rule's trees are made of what is read: what they spell, that they meet the rule, and of what each is made.
pub record Made (A B : Type 0) (P C : A → Type 0) (f : A → List Token) (make : A → B) (Q D : B → Type 0) (g : B → List Token) : Type 0 where
  pub spelled : (x : A) → g (make x) ≡ f x
  pub meets : (x : A) → P x → Q (make x)
  pub covers : (y : B) → D y → (x : A) × (y ≡ make x) × C x

module _ {sort : Token → Sort} {A B : Type 0} {P C : A → Type 0} {f : A → List Token} {make : A → B} {Q : B → Type 0} {g : B → List Token}
    {bound : ℕ} {a : Reading sort A} {a' : List Token → Option (A × List Token)} where
  pub formed_reads : {D : B → Type 0} → Reads sort A P C f bound a a' → Made A B P C f make Q D g
      → Reads sort B Q D g bound (formed make a) (λ ts. made_of make (a' ts))
  formed_reads ra form =
      record {
        sound = λ ts y rest e.
            let (x, first, is) = made_parts make (a.read ts) y rest e in
            let meets : P x × (ts ≡ f x ++ rest) = ra.sound ts x rest first in
            (subst Q is (form.meets x meets.0), meets.1 ∙ ap (λ l. l ++ rest) (sym (form.spelled x) ∙ ap g is));
        size = λ some ts y rest e. let (x, first, is) = made_parts make (a.read ts) y rest e in ra.size some ts x rest first;
        begins = λ y rest covers clear.
            let (x, is, covered) = form.covers y covers in
            let spelled : g y ≡ f x = ap g is ∙ form.spelled x in
            ⊎_elim (λ s. inl (ap (λ l. looks sort a.starts (l ++ rest)) spelled ∙ s)) (λ n. inr (n.0, spelled ∙ n.1))
            (ra.begins x rest covered clear);
        complete = λ y rest covers clear.
            let (x, is, covered) = form.covers y covers in
            let spelled : g y ≡ f x = ap g is ∙ form.spelled x in
            ap (λ l. made_of make (a.read (l ++ rest))) spelled ∙ made_is make (a.read (f x ++ rest)) x rest (ra.complete x rest covered clear)
            ∙ ap (λ v. Some (v, rest)) (sym is);
        alike = λ ts most. ap (λ o. made_of make o) (ra.alike ts most);
      }

  -- one alternative of several: it covers what it makes
  pub variant_reads : Reads sort A P C f bound a a' → ((x : A) → g (make x) ≡ f x) → ((x : A) → P x → Q (make x))
      → Reads sort B Q (λ y. (x : A) × (y ≡ make x) × C x) g bound (formed make a) (λ ts. made_of make (a' ts))
  variant_reads ra spelled meets =
      formed_reads ra (record { spelled = spelled; meets = meets; covers = λ y made. made })

-- ---- the same reading: it covers less, it meets more, or its looks are wider

module _ {sort : Token → Sort} {A : Type 0} {P C : A → Type 0} {f : A → List Token} {bound : ℕ} {a : Reading sort A}
    {a' : List Token → Option (A × List Token)} where
  -- it meets another rule and covers other trees
  pub ruled : {Q D : A → Type 0} → Reads sort A P C f bound a a' → ((x : A) → P x → Q x) → ((x : A) → D x → C x) → Reads sort A Q D f bound a a'
  ruled ra meets covers =
      record {
        sound = λ ts x rest e. let so = ra.sound ts x rest e in (meets x so.0, so.1);
        size = ra.size;
        begins = λ x rest covered. ra.begins x rest (covers x covered);
        complete = λ x rest covered. ra.complete x rest (covers x covered);
        alike = ra.alike;
      }

  -- its looks are wider
  pub widened_reads : {starts goes_on : Look} → Reads sort A P C f bound a a' → within a.starts starts ≡ true → within a.goes_on goes_on ≡ true
      → Reads sort A P C f bound (widened starts goes_on a) a'
  widened_reads {starts} {goes_on} ra wide far =
      record {
        sound = ra.sound;
        size = ra.size;
        begins = λ x rest covered clear.
            ⊎_elim (λ s. inl (looks-within sort a.starts starts (f x ++ rest) wide s)) (λ n. inr n)
            (ra.begins x rest covered (clear-within sort a.goes_on goes_on rest far clear));
        complete = λ x rest covered clear. ra.complete x rest covered (clear-within sort a.goes_on goes_on rest far clear);
        alike = ra.alike;
      }

  -- what is covered spells a token
  pub first_token : Reads sort A P C f bound a a' → a.nullable ≡ false → (x : A) (rest : L) → C x → looks sort a.goes_on rest ≡ false
      → (t : Token) × (ts : L) × (f x ≡ t ∷ ts)
  first_token ra some x rest covered clear = at (f x) refl
    where
      at : (l : L) → f x ≡ l → (t : Token) × (ts : L) × (f x ≡ t ∷ ts)
      at [] is =
          let whole : a.read rest ≡ Some (x, rest) = ap (λ l. a.read (l ++ rest)) (sym is) ∙ ra.complete x rest covered clear in
          let less : length rest < length rest = ra.size some rest x rest whole in
          absurd (omega arith)
      at (t ∷ ts) is = (t, ts, is)

-- ---- it does not begin with a token of the set

-- what looks so and begins with no token of the set looks so in the narrower ways
looks-narrowed : (sort : Token → Sort) (set : Set) (look : Look) (ts : List Token) → not (set (next_sort sort ts)) ≡ true → looks sort look ts ≡ true
    → looks sort (map (narrowed (none_of set)) look) ts ≡ true
looks-narrowed sort set [] ts other so = absurd (cc)
looks-narrowed sort set ([] ∷ look) ts other so =
    or_left (not (set (next_sort sort ts)) && true) (looks sort (map (narrowed (none_of set)) look) ts)
    (and_from (not (set (next_sort sort ts))) true other refl)
looks-narrowed sort set ((first ∷ way) ∷ look) ts other so =
    let more = looks sort (map (narrowed (none_of set)) look) ts in
    let here = first (next_sort sort ts) in
    let behind = fits sort way (behind_next ts) in
    let out = not (set (next_sort sort ts)) in
    ⊎_elim
    (λ now. let parts = and_parts here behind now in or_left ((here && out) && behind) more (and_from (here && out) behind (and_from here out parts.0 other) parts.1))
    (λ later. or_right ((here && out) && behind) more (looks-narrowed sort set look ts other later))
    (or_cases (here && behind) (looks sort look ts) so)

-- what is begun with none of these
abbrev pub BeginsWith : (Token → Type 0) → List Token → Type 0
BeginsWith N tokens = (t : Token) (rest : List Token) → tokens ≡ t ∷ rest → N t

module _ {sort : Token → Sort} {A : Type 0} {P C : A → Type 0} {f : A → List Token} {N : Token → Type 0} {bound : ℕ} {a : Reading sort A}
    {a' : List Token → Option (A × List Token)} (set : Set) where
  -- the next token is not of the set
  other_next : Reads sort A P C f bound a a' → Fits sort N (none_of set) → a.nullable ≡ false → (x : A) (rest : L) → C x × BeginsWith N (f x)
      → looks sort a.goes_on rest ≡ false → not (set (next_sort sort (f x ++ rest))) ≡ true
  other_next ra fit some x rest covers clear =
      let (t, ts, is) = first_token ra some x rest covers.0 clear in
      ap (λ l. not (set (next_sort sort (l ++ rest)))) is ∙ fit.shows t (covers.1 t ts is)

  pub without_reads : Reads sort A P C f bound a a' → Fits sort N (none_of set) → a.nullable ≡ false
      → Reads sort A (λ x. P x × BeginsWith N (f x)) (λ x. C x × BeginsWith N (f x)) f bound (without set a) (read_without sort set a')
  without_reads ra fit some =
      record {
        sound = λ ts x rest e.
            let parts = not_chosen (set (next_sort sort ts)) (a.read ts) (x, rest) e in
            let so : P x × (ts ≡ f x ++ rest) = ra.sound ts x rest parts.1 in (
              (
                so.0,
                λ t back is.
                    let whole : ts ≡ t ∷ (back ++ rest) = so.1 ∙ ap (λ l. l ++ rest) is in
                    fit.meets t (sym (ap (λ l. not (set (next_sort sort l))) whole) ∙ not_from_false (set (next_sort sort ts)) parts.0),
              ),
              so.1,
            );
        size = λ _ ts x rest e. ra.size some ts x rest (not_chosen (set (next_sort sort ts)) (a.read ts) (x, rest) e).1;
        begins = λ x rest covers clear.
            ⊎_elim
            (λ s. inl (looks-narrowed sort set a.starts (f x ++ rest) (other_next ra fit some x rest covers clear) s))
            (λ n. inr n)
            (ra.begins x rest covers.0 clear);
        complete = λ x rest covers clear.
            cond-false (set (next_sort sort (f x ++ rest))) None (a.read (f x ++ rest))
            (not-true (set (next_sort sort (f x ++ rest))) (other_next ra fit some x rest covers clear))
            ∙ ra.complete x rest covers.0 clear;
        alike = λ ts most. if_alike (set (next_sort sort ts)) None (a.read ts) None (a' ts) refl (ra.alike ts most);
      }
