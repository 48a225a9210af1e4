-- The laws of a reading: it reads what meets a rule, and all that the rule covers.
use Rattle.std.proofs.Common.{◌≡◌, ℕ, ◌<◌, ◌≤◌, ◌⊎◌, ⊎_elim, inl, inr, true, false, not, ◌&&◌, ◌||◌, List, [], ◌∷◌, ◌++◌, length, Option, Some, None, refl, sym, ap, subst, ◌∙◌, arith, append_assoc}
use Rattle.std.proofs.lemmas.Bool.{and_cases, and_from, or_left, cond-true}
use Rattle.common_laws.proofs.Options.{chosen}
use Rattle.sql_token.specs.declared.token.Token.{Token}
use Rattle.sql_reader.specs.declared.sort.Sort.{Sort}
use Rattle.sql_reader.specs.Looks.{Set, looks, apart}
use Rattle.sql_token.specs.Spelled.{one}
use Rattle.sql_reader.specs.Reading.{Reading, made_of, read_leaf, read_seq, leaf, seq, only_if}
use Rattle.sql_reader.proofs.Looks.{looks-left, looks-right, clear-left, clear-right, only_if-true, clear-apart}
use Rattle.sql_reader.proofs.Outcomes.{same_outcome, then_parts, made_parts, then_is, made_is, then_alike, rest_at_most, reach, reach_and, reach_second}

abbrev L : Type 0
L = List Token

-- A set of sorts is what a leaf asks of its token.
pub record Fits (sort : Token → Sort) (P : Token → Type 0) (set : Set) : Type 0 where
  pub meets : (t : Token) → set (sort t) ≡ true → P t
  pub shows : (t : Token) → P t → set (sort t) ≡ true

-- The reading reads what meets the rule, and all that is covered, spelled by its tokens; it agrees with the twin up to
-- one more token than the bound where it is guarded, and up to the bound where it is not.
pub record Reads (sort : Token → Sort) (A : Type 0) (rule covered : A → Type 0) (tokens : A → List Token) (bound : ℕ)
    (r : Reading sort A) (twin : List Token → Option (A × List Token)) : Type 0 where
  -- what is read meets the rule, and its tokens and the rest are the input
  pub sound : (ts : List Token) (x : A) (rest : List Token) → r.read ts ≡ Some (x, rest) → rule x × (ts ≡ tokens x ++ rest)
  -- it takes a token, unless it may read none
  pub size : r.nullable ≡ false → (ts : List Token) (x : A) (rest : List Token) → r.read ts ≡ Some (x, rest) → length rest < length ts
  -- where nothing follows that it would go on with, what is covered begins as the look says, or is empty
  pub begins : (x : A) (rest : List Token) → covered x → looks sort r.goes_on rest ≡ false
      → (looks sort r.starts (tokens x ++ rest) ≡ true) ⊎ ((r.nullable ≡ true) × (tokens x ≡ []))
  -- where nothing follows that it would go on with, what is covered is read
  pub complete : (x : A) (rest : List Token) → covered x → looks sort r.goes_on rest ≡ false → r.read (tokens x ++ rest) ≡ Some (x, rest)
  -- it agrees with its twin
  pub alike : (ts : List Token) → length ts ≤ reach r.guarded bound → r.read ts ≡ twin ts

-- ---- one token

module _ (sort : Token → Sort) (set : Set) where
  leaf_parts : (ts : List Token) (x : Token) (rest : List Token) → read_leaf sort set ts ≡ Some (x, rest) → (set (sort x) ≡ true) × (ts ≡ x ∷ rest)
  leaf_parts [] x rest e = absurd (cc)
  leaf_parts (t ∷ ts) x rest e =
      let parts = chosen (set (sort t)) (Some (t, ts)) (x, rest) e in
      let same = same_outcome t x ts rest parts.1 in
      (subst (λ v. set (sort v) ≡ true) same.0 parts.0, ap (λ v. v ∷ ts) same.0 ∙ ap (λ l. x ∷ l) same.1)

pub leaf_reads : {sort : Token → Sort} {P : Token → Type 0} {set : Set} {bound : ℕ} → Fits sort P set
    → Reads sort Token P P one bound (leaf set) (read_leaf sort set)
leaf_reads {sort} {P} {set} {bound} fit =
    record {
      sound = λ ts x rest e. let parts = leaf_parts sort set ts x rest e in (fit.meets x parts.0, parts.1);
      size = λ _ ts x rest e. let parts = leaf_parts sort set ts x rest e in omega (arith, ap length parts.1);
      begins = λ x rest covers clear. inl (or_left (set (sort x) && true) false (and_from (set (sort x)) true (fit.shows x covers) refl));
      complete = λ x rest covers clear. cond-true (set (sort x)) (Some (x, rest)) None (fit.shows x covers);
      alike = λ ts most. refl;
    }

-- ---- one behind the other

module _ {sort : Token → Sort} {A B : Type 0} {P C : A → Type 0} {Q D : B → Type 0} {f : A → List Token} {g : B → List Token}
    {bound : ℕ} {a : Reading sort A} {b : Reading sort B} {a' : List Token → Option (A × List Token)}
    {b' : List Token → Option (B × List Token)} where
  seq_sound : Reads sort A P C f bound a a' → Reads sort B Q D g bound b b' → (ts : L) (v : A × B) (rest : L)
      → read_seq a.read b.read ts ≡ Some (v, rest)
      → (mid : L) × (P v.0 × Q v.1) × (ts ≡ f v.0 ++ mid) × (mid ≡ g v.1 ++ rest) × (a.read ts ≡ Some (v.0, mid)) × (b.read mid ≡ Some (v.1, rest))
  seq_sound ra rb ts v rest e =
      let (p, first, behind) = then_parts (a.read ts) (λ x mid. made_of (λ y. (x, y)) (b.read mid)) (v, rest) e in
      let (y, second, same) = made_parts (λ (y : B). (p.0, y)) (b.read p.1) v rest behind in
      let x-is : p.0 ≡ v.0 = ap (λ (w : A × B). w.0) same in
      let y-is : y ≡ v.1 = ap (λ (w : A × B). w.1) same in
      let sa : P p.0 × (ts ≡ f p.0 ++ p.1) = ra.sound ts p.0 p.1 first in
      let sb : Q y × (p.1 ≡ g y ++ rest) = rb.sound p.1 y rest second in (
        p.1,
        (subst P x-is sa.0, subst Q y-is sb.0),
        sa.1 ∙ ap (λ x. f x ++ p.1) x-is,
        sb.1 ∙ ap (λ w. g w ++ rest) y-is,
        first ∙ ap (λ x. Some (x, p.1)) x-is,
        second ∙ ap (λ w. Some (w, rest)) y-is,
      )

  -- nothing with which the first goes on stands between the two
  seq_between : Reads sort A P C f bound a a' → Reads sort B Q D g bound b b' → apart a.goes_on b.starts ≡ true → (v : A × B) (rest : L)
      → D v.1 → looks sort (b.goes_on ++ only_if b.nullable a.goes_on) rest ≡ false → looks sort a.goes_on (g v.1 ++ rest) ≡ false
  seq_between ra rb far v rest covers clear =
      ⊎_elim (λ starts. clear-apart sort a.goes_on b.starts (g v.1 ++ rest) far starts)
      (λ empty.
      let here : looks sort a.goes_on rest ≡ false =
      sym (only_if-true sort b.nullable a.goes_on rest empty.0) ∙ clear-right sort b.goes_on (only_if b.nullable a.goes_on) rest clear in
      ap (λ l. looks sort a.goes_on (l ++ rest)) empty.1 ∙ here)
      (rb.begins v.1 rest covers (clear-left sort b.goes_on (only_if b.nullable a.goes_on) rest clear))

  seq_begins : Reads sort A P C f bound a a' → Reads sort B Q D g bound b b' → apart a.goes_on b.starts ≡ true → (v : A × B) (rest : L)
      → C v.0 × D v.1 → looks sort (b.goes_on ++ only_if b.nullable a.goes_on) rest ≡ false
      → (looks sort (a.starts ++ only_if a.nullable b.starts) ((f v.0 ++ g v.1) ++ rest) ≡ true)
      ⊎ (((a.nullable && b.nullable) ≡ true) × (f v.0 ++ g v.1 ≡ []))
  seq_begins ra rb far v rest covers clear =
      let look = a.starts ++ only_if a.nullable b.starts in
      ⊎_elim
      (λ starts. inl (ap (λ l. looks sort look l) (append_assoc (f v.0) (g v.1) rest)
      ∙ looks-left sort a.starts (only_if a.nullable b.starts) (f v.0 ++ (g v.1 ++ rest)) starts))
      (λ empty.
      ⊎_elim
      (λ starts. inl (ap (λ l. looks sort look ((l ++ g v.1) ++ rest)) empty.1
      ∙ looks-right sort a.starts (only_if a.nullable b.starts) (g v.1 ++ rest)
      (only_if-true sort a.nullable b.starts (g v.1 ++ rest) empty.0 ∙ starts)))
      (λ none. inr (and_from a.nullable b.nullable empty.0 none.0, ap (λ l. l ++ g v.1) empty.1 ∙ none.1))
      (rb.begins v.1 rest covers.1 (clear-left sort b.goes_on (only_if b.nullable a.goes_on) rest clear)))
      (ra.begins v.0 (g v.1 ++ rest) covers.0 (seq_between ra rb far v rest covers.1 clear))

  pub seq_complete : Reads sort A P C f bound a a' → Reads sort B Q D g bound b b' → (v : A × B) (rest : L)
      → C v.0 × D v.1 → looks sort a.goes_on (g v.1 ++ rest) ≡ false → looks sort b.goes_on rest ≡ false
      → read_seq a.read b.read ((f v.0 ++ g v.1) ++ rest) ≡ Some (v, rest)
  seq_complete ra rb v rest covers between clear =
      let first : a.read ((f v.0 ++ g v.1) ++ rest) ≡ Some (v.0, g v.1 ++ rest) =
      ap (λ l. a.read l) (append_assoc (f v.0) (g v.1) rest) ∙ ra.complete v.0 (g v.1 ++ rest) covers.0 between in
      then_is (a.read ((f v.0 ++ g v.1) ++ rest)) (λ x mid. made_of (λ y. (x, y)) (b.read mid)) v.0 (g v.1 ++ rest) first
      ∙ made_is (λ (y : B). (v.0, y)) (b.read (g v.1 ++ rest)) v.1 rest (rb.complete v.1 rest covers.1 clear)

  seq_size : Reads sort A P C f bound a a' → Reads sort B Q D g bound b b' → (a.nullable && b.nullable) ≡ false → (ts : L) (v : A × B) (rest : L)
      → read_seq a.read b.read ts ≡ Some (v, rest) → length rest < length ts
  seq_size ra rb some ts v rest e =
      let (mid, _, first, second, one, two) = seq_sound ra rb ts v rest e in
      let near : length mid ≤ length ts = rest_at_most ts (f v.0) mid first in
      let far : length rest ≤ length mid = rest_at_most mid (g v.1) rest second in
      ⊎_elim (λ here. let less : length mid < length ts = ra.size here ts v.0 mid one in omega arith)
      (λ there. let less : length rest < length mid = rb.size there mid v.1 rest two in omega arith)
      (and_cases a.nullable b.nullable some)

  seq_alike : Reads sort A P C f bound a a' → Reads sort B Q D g bound b b' → (ts : L)
      → length ts ≤ reach (a.guarded && (not a.nullable || b.guarded)) bound → read_seq a.read b.read ts ≡ read_seq a' b' ts
  seq_alike ra rb ts most =
      let near : reach (a.guarded && (not a.nullable || b.guarded)) bound ≤ reach a.guarded bound =
      reach_and a.guarded (not a.nullable || b.guarded) bound in
      then_alike (a.read ts) (a' ts) (λ x mid. made_of (λ y. (x, y)) (b.read mid)) (λ x mid. made_of (λ y. (x, y)) (b' mid))
      (ra.alike ts (omega arith))
      (λ x mid e.
      let below : length mid ≤ length ts = rest_at_most ts (f x) mid (ra.sound ts x mid e).1 in
      ap (λ o. made_of (λ y. (x, y)) o)
      (rb.alike mid (reach_second a.guarded a.nullable b.guarded bound (length ts) (length mid) most below (λ some. ra.size some ts x mid e))))

  pub seq_reads : Reads sort A P C f bound a a' → Reads sort B Q D g bound b b' → apart a.goes_on b.starts ≡ true
      → Reads sort (A × B) (λ v. P v.0 × Q v.1) (λ v. C v.0 × D v.1) (λ v. f v.0 ++ g v.1) bound (seq a b) (read_seq a' b')
  seq_reads ra rb far =
      record {
        sound = λ ts v rest e.
            let (mid, meets, first, second, _, _) = seq_sound ra rb ts v rest e in
            (meets, first ∙ ap (λ l. f v.0 ++ l) second ∙ sym (append_assoc (f v.0) (g v.1) rest));
        size = seq_size ra rb;
        begins = seq_begins ra rb far;
        complete = λ v rest covers clear. seq_complete ra rb v rest covers (seq_between ra rb far v rest covers.1 clear)
            (clear-left sort b.goes_on (only_if b.nullable a.goes_on) rest clear);
        alike = seq_alike ra rb;
      }
