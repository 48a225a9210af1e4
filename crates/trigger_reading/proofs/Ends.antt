-- Readings before ON: what is read and ends in a joined source without a constraint is not followed by ON, and what is covered and ends
-- otherwise is read before it.
use Rattle.std.proofs.Common.{◌≡◌, ℕ, zero, suc, ◌<◌, ◌⊎◌, ⊎_elim, inl, inr, Bool, true, false, ◌&&◌, if◌then◌else◌, List, [], ◌∷◌, ◌++◌, length, Option, Some, None, refl, sym, ap, ◌∙◌, arith, append_assoc, IfSome}
use Rattle.std.specs.Prelude.{is_none}
use Rattle.std.specs.List.{AllByRecursion, list_all}
use Rattle.std.proofs.lemmas.Bool.{and_parts, cond-true, cond-false, or_cases, or_left, or_right}
use Rattle.sql_token.specs.declared.token.Token.{Token}
use Rattle.sql_token.specs.Spelled.{flat, maybe}
use Rattle.sql_reader.specs.declared.sort.Sort.{Sort}
use Rattle.sql_reader.specs.Looks.{Set, Look, looks, apart, within, fits}
use Rattle.sql_reader.specs.Reading.{Read, Reading, and_then, made_of, read_choice, read_many, read_opt, read_seq, read_turns}
use Rattle.sql_reader.proofs.Laws.{Reads}
use Rattle.sql_reader.proofs.Looks.{clear-apart, clear-within}
use Rattle.sql_reader.proofs.Outcomes.{same_outcome, then_parts, made_parts, then_is, made_is}
use Rattle.trigger_reading.specs.Statements.{upsert_starts}

abbrev L : Type 0
L = List Token

-- How a reading stands before ON: a test tells which trees end in a joined source without a constraint.
pub record Ends (sort : Token → Sort) (A : Type 0) (covered : A → Type 0) (tokens : A → List Token) (joined : A → Bool) (read : Read A) : Type 0 where
  -- no ON follows what is read and ends so
  pub stops : (ts : List Token) (x : A) (rest : List Token) → read ts ≡ Some (x, rest) → joined x ≡ true → looks sort upsert_starts rest ≡ false
  -- before ON, what is covered and ends otherwise is read
  pub holds : (x : A) (rest : List Token) → covered x → joined x ≡ false → looks sort upsert_starts rest ≡ true
      → read (tokens x ++ rest) ≡ Some (x, rest)

-- one of the two that a test tells
chosen_of : {A : Type 0} (b : Bool) (x y : Option A) (r : A) → (if b then x else y) ≡ Some r → ((b ≡ true) × (x ≡ Some r)) ⊎ ((b ≡ false) × (y ≡ Some r))
chosen_of true x y r e = inl (refl, e)
chosen_of false x y r e = inr (refl, e)

and_true : (b : Bool) → (b && true) ≡ false → b ≡ false
and_true true so = so
and_true false so = refl

-- an optional part ends in a joined source where it is there and ends so
abbrev pub some_joined : {A : Type 0} → (A → Bool) → Option A → Bool
some_joined j None = false
some_joined j (Some x) = j x

-- the last of a first and those behind it ends in a joined source
abbrev pub last_joined : {B : Type 0} → (B → Bool) → Bool → List B → Bool
last_joined k start [] = start
last_joined k start (x ∷ xs) = last_joined k (k x) xs

-- ---- looks of one token

-- the way asks for one token at most
abbrev pub is_short : List Set → Bool
is_short [] = true
is_short (set ∷ []) = true
is_short (set ∷ next ∷ way) = false

fits-short : (sort : Token → Sort) (way : List Set) (t : Token) (ts us : List Token) → is_short way ≡ true → fits sort way (t ∷ ts) ≡ true → fits sort way (t ∷ us) ≡ true
fits-short sort [] t ts us short so = refl
fits-short sort (set ∷ []) t ts us short so = so
fits-short sort (set ∷ next ∷ way) t ts us short so = absurd (cc)

-- a look of one token says nothing of those behind it
looks-short : (sort : Token → Sort) (look : Look) (t : Token) (ts us : List Token) → list_all is_short look ≡ true → looks sort look (t ∷ ts) ≡ true
    → looks sort look (t ∷ us) ≡ true
looks-short sort [] t ts us short so = absurd (cc)
looks-short sort (way ∷ look) t ts us short so =
    let parts = and_parts (is_short way) (list_all is_short look) short in
    ⊎_elim (λ now. or_left (fits sort way (t ∷ us)) (looks sort look (t ∷ us)) (fits-short sort way t ts us parts.0 now))
    (λ later. or_right (fits sort way (t ∷ us)) (looks sort look (t ∷ us)) (looks-short sort look t ts us parts.1 later))
    (or_cases (fits sort way (t ∷ ts)) (looks sort look (t ∷ ts)) so)

-- ---- one behind the other

pub seq_is : {A B : Type 0} (a : Read A) (b : Read B) (x : A) (y : B) (front back rest : L) → a (front ++ (back ++ rest)) ≡ Some (x, back ++ rest)
    → b (back ++ rest) ≡ Some (y, rest) → read_seq a b ((front ++ back) ++ rest) ≡ Some ((x, y), rest)
seq_is {A} {B} a b x y front back rest first second =
    let next : A → Read (A × B) = λ v mid. made_of (λ w. (v, w)) (b mid) in
    let whole : a ((front ++ back) ++ rest) ≡ Some (x, back ++ rest) = ap (λ l. a l) (append_assoc front back rest) ∙ first in
    then_is (a ((front ++ back) ++ rest)) next x (back ++ rest) whole ∙ made_is (λ (w : B). (x, w)) (b (back ++ rest)) y rest second

-- the parts of what was read
pub seq_parts : {A B : Type 0} (a : Read A) (b : Read B) (ts : L) (v : A × B) (rest : L) → read_seq a b ts ≡ Some (v, rest)
    → (mid : L) × (a ts ≡ Some (v.0, mid)) × (b mid ≡ Some (v.1, rest))
seq_parts {A} {B} a b ts v rest e =
    let (p, first, behind) = then_parts (a ts) (λ x mid. made_of (λ y. (x, y)) (b mid)) (v, rest) e in
    let (y, second, same) = made_parts (λ (y : B). (p.0, y)) (b p.1) v rest behind in
    (p.1, first ∙ ap (λ (w : A × B). Some (w.0, p.1)) same, second ∙ ap (λ (w : A × B). Some (w.1, rest)) same)

module _ {sort : Token → Sort} {A : Type 0} {P C : A → Type 0} {f : A → List Token} {bound : ℕ} {a : Reading sort A} {a' : Read A} where
  -- what does not go on with ON is read before it, however it ends
  pub plain_ends : Reads sort A P C f bound a a' → apart a.goes_on upsert_starts ≡ true → Ends sort A C f (λ _. false) a.read
  plain_ends ra far =
      record {
        stops = λ ts x rest e so. absurd (cc);
        holds = λ x rest covers other on. ra.complete x rest covers (clear-apart sort a.goes_on upsert_starts rest far on);
      }

  -- what is covered begins so, whatever follows, or is empty
  starts_or_none : Reads sort A P C f bound a a' → list_all is_short a.starts ≡ true → looks sort a.goes_on [] ≡ false → (x : A) (rest : L) → C x
      → (looks sort a.starts (f x ++ rest) ≡ true) ⊎ (f x ≡ [])
  starts_or_none ra short clear x rest covers =
      ⊎_elim (λ s. at (f x) s) (λ n. inr n.1) (ra.begins x [] covers clear)
    where
      at : (l : L) → looks sort a.starts (l ++ []) ≡ true → (looks sort a.starts (l ++ rest) ≡ true) ⊎ (l ≡ [])
      at [] s = inr refl
      at (t ∷ ts) s = inl (looks-short sort a.starts t (ts ++ []) (ts ++ rest) short s)

  -- the same for what takes a token
  pub starts_anyway : Reads sort A P C f bound a a' → a.nullable ≡ false → list_all is_short a.starts ≡ true → looks sort a.goes_on [] ≡ false → (x : A) (rest : L) → C x
      → looks sort a.starts (f x ++ rest) ≡ true
  starts_anyway ra some short clear x rest covers =
      ⊎_elim (λ s. s) (λ is. absurd (never is)) (starts_or_none ra short clear x rest covers)
    where
      never : f x ≡ [] → ⊥
      never is =
          let whole : a.read [] ≡ Some (x, []) = ap (λ l. a.read (l ++ [])) (sym is) ∙ ra.complete x [] covers clear in
          let less : length {A = Token} [] < length {A = Token} [] = ra.size some [] x [] whole in
          omega arith

  -- what is covered is nothing with which a reading before it would go on, where ON follows
  clear_before : Reads sort A P C f bound a a' → list_all is_short a.starts ≡ true → looks sort a.goes_on [] ≡ false → (front : Look)
      → apart front a.starts ≡ true → apart front upsert_starts ≡ true → (x : A) (rest : L) → C x → looks sort upsert_starts rest ≡ true
      → looks sort front (f x ++ rest) ≡ false
  clear_before ra short clear front far before x rest covers on =
      ⊎_elim (λ s. clear-apart sort front a.starts (f x ++ rest) far s)
      (λ is. ap (λ l. looks sort front (l ++ rest)) is ∙ clear-apart sort front upsert_starts rest before on)
      (starts_or_none ra short clear x rest covers)

  -- an optional part without which it ends in a joined source
  pub none_ends : Reads sort A P C f bound a a' → a.nullable ≡ false → list_all is_short a.starts ≡ true → looks sort a.goes_on [] ≡ false
      → apart a.goes_on upsert_starts ≡ true → within upsert_starts a.starts ≡ true
      → Ends sort (Option A) (λ x. IfSome x C) (maybe f) (λ x. is_none x) (read_opt sort a.starts a.read)
  none_ends ra some short clear before wide =
      record { stops = stops; holds = λ x rest covers other on. holds x rest covers other on }
    where
      stops : (ts : L) (x : Option A) (rest : L) → read_opt sort a.starts a.read ts ≡ Some (x, rest) → is_none x ≡ true → looks sort upsert_starts rest ≡ false
      stops ts x rest e so =
          ⊎_elim
          (λ there.
          let (y, first, is) = made_parts (λ (y : A). Some y) (a.read ts) x rest there.1 in
          let wrong : is_none (Some y) ≡ true = ap (λ (v : Option A). is_none v) is ∙ so in
          absurd (cc))
          (λ absent.
          let none : Option A = None in
          let same = same_outcome none x ts rest absent.1 in
          ap (λ l. looks sort upsert_starts l) (sym same.1) ∙ clear-within sort upsert_starts a.starts ts wide absent.0)
          (chosen_of (looks sort a.starts ts) (made_of (λ y. Some y) (a.read ts)) (Some (None, ts)) (x, rest) e)

      holds : (x : Option A) (rest : L) → IfSome x C → is_none x ≡ false → looks sort upsert_starts rest ≡ true
          → read_opt sort a.starts a.read (maybe f x ++ rest) ≡ Some (x, rest)
      holds None rest covers other on = absurd (cc)
      holds (Some x) rest covers other on =
          let ts : L = f x ++ rest in
          cond-true (looks sort a.starts ts) (made_of (λ y. Some y) (a.read ts)) (Some (None, ts)) (starts_anyway ra some short clear x rest covers)
          ∙ made_is (λ (y : A). Some y) (a.read ts) x rest (ra.complete x rest covers (clear-apart sort a.goes_on upsert_starts rest before on))

  -- an optional part that may end in a joined source
  pub opt_ends : {j : A → Bool} → Reads sort A P C f bound a a' → a.nullable ≡ false → list_all is_short a.starts ≡ true → looks sort a.goes_on [] ≡ false
      → apart a.starts upsert_starts ≡ true → Ends sort A C f j a.read
      → Ends sort (Option A) (λ x. IfSome x C) (maybe f) (some_joined j) (read_opt sort a.starts a.read)
  opt_ends {j} ra some short clear before ends =
      record { stops = stops; holds = λ x rest covers other on. holds x rest covers other on }
    where
      stops : (ts : L) (x : Option A) (rest : L) → read_opt sort a.starts a.read ts ≡ Some (x, rest) → some_joined j x ≡ true → looks sort upsert_starts rest ≡ false
      stops ts x rest e so =
          ⊎_elim
          (λ there.
          let (y, first, is) = made_parts (λ (y : A). Some y) (a.read ts) x rest there.1 in
          ends.stops ts y rest first (ap (λ (v : Option A). some_joined j v) is ∙ so))
          (λ absent.
          let none : Option A = None in
          let same = same_outcome none x ts rest absent.1 in
          let wrong : false ≡ true = ap (λ (v : Option A). some_joined j v) same.0 ∙ so in
          absurd (cc))
          (chosen_of (looks sort a.starts ts) (made_of (λ y. Some y) (a.read ts)) (Some (None, ts)) (x, rest) e)

      holds : (x : Option A) (rest : L) → IfSome x C → some_joined j x ≡ false → looks sort upsert_starts rest ≡ true
          → read_opt sort a.starts a.read (maybe f x ++ rest) ≡ Some (x, rest)
      holds None rest covers other on =
          cond-false (looks sort a.starts rest) (made_of (λ y. Some y) (a.read rest)) (Some (None, rest))
          (clear-apart sort a.starts upsert_starts rest before on)
      holds (Some x) rest covers other on =
          let ts : L = f x ++ rest in
          cond-true (looks sort a.starts ts) (made_of (λ y. Some y) (a.read ts)) (Some (None, ts)) (starts_anyway ra some short clear x rest covers)
          ∙ made_is (λ (y : A). Some y) (a.read ts) x rest (ends.holds x rest covers other on)

-- ---- made into something else, and chosen

-- a reading made into something else ends as what it is made of
pub formed_ends : {sort : Token → Sort} {A B : Type 0} {C : A → Type 0} {f : A → List Token} {j : A → Bool} {read : Read A} {make : A → B}
    {D : B → Type 0} {g : B → List Token} {k : B → Bool} → Ends sort A C f j read → ((x : A) → g (make x) ≡ f x) → ((x : A) → k (make x) ≡ j x)
    → ((y : B) → D y → (x : A) × (y ≡ make x) × C x) → Ends sort B D g k (λ ts. made_of make (read ts))
formed_ends {sort} {A} {B} {C} {f} {j} {read} {make} {D} {g} {k} ends spelled same covered =
    record {
      stops = λ ts y rest e so.
          let (x, first, is) = made_parts make (read ts) y rest e in
          ends.stops ts x rest first (sym (same x) ∙ ap (λ v. k v) is ∙ so);
      holds = λ y rest covers other on.
          let (x, is, h) = covered y covers in
          let front : g y ≡ f x = ap (λ v. g v) is ∙ spelled x in
          let ended : j x ≡ false = sym (same x) ∙ ap (λ v. k v) (sym is) ∙ other in
          ap (λ l. made_of make (read (l ++ rest))) front ∙ made_is make (read (f x ++ rest)) x rest (ends.holds x rest h ended on)
          ∙ ap (λ v. Some (v, rest)) (sym is);
    }

-- the first of two where the tokens look so, and else the second
pub choice_ends : {sort : Token → Sort} {A : Type 0} {C D : A → Type 0} {f : A → List Token} {j : A → Bool} {first second : Read A} (starts : Look)
    → Ends sort A C f j first → Ends sort A D f j second → ((x : A) (rest : L) → C x → looks sort starts (f x ++ rest) ≡ true)
    → ((x : A) (rest : L) → D x → looks sort starts (f x ++ rest) ≡ false)
    → Ends sort A (λ x. C x ⊎ D x) f j (read_choice sort starts first second)
choice_ends {sort} {A} {C} {D} {f} {j} {first} {second} starts one two begins others =
    record {
      stops = λ ts x rest e so.
          ⊎_elim (λ here. one.stops ts x rest here.1 so) (λ there. two.stops ts x rest there.1 so)
          (chosen_of (looks sort starts ts) (first ts) (second ts) (x, rest) e);
      holds = λ x rest covers other on.
          ⊎_elim
          (λ h. cond-true (looks sort starts (f x ++ rest)) (first (f x ++ rest)) (second (f x ++ rest)) (begins x rest h) ∙ one.holds x rest h other on)
          (λ h. cond-false (looks sort starts (f x ++ rest)) (first (f x ++ rest)) (second (f x ++ rest)) (others x rest h) ∙ two.holds x rest h other on)
          covers;
    }

-- the same reading, which covers other trees and whose ends are told by an equal test
pub ruled_ends : {sort : Token → Sort} {A : Type 0} {C D : A → Type 0} {f : A → List Token} {j k : A → Bool} {read : Read A} → Ends sort A C f j read
    → ((x : A) → k x ≡ j x) → ((x : A) → D x → C x) → Ends sort A D f k read
ruled_ends ends same covered =
    record {
      stops = λ ts x rest e so. ends.stops ts x rest e (sym (same x) ∙ so);
      holds = λ x rest covers other on. ends.holds x rest (covered x covers) (sym (same x) ∙ other) on;
    }

-- ---- one behind the other

-- the second ends it
pub seq_ends : {sort : Token → Sort} {A B : Type 0} {P C : A → Type 0} {f : A → List Token} {D : B → Type 0} {g : B → List Token} {k : B → Bool} {bound : ℕ}
    {a : Reading sort A} {a' : Read A} {b : Read B} → Reads sort A P C f bound a a'
    → ((y : B) (rest : L) → D y → looks sort upsert_starts rest ≡ true → looks sort a.goes_on (g y ++ rest) ≡ false) → Ends sort B D g k b
    → Ends sort (A × B) (λ v. C v.0 × D v.1) (λ v. f v.0 ++ g v.1) (λ v. k v.1) (read_seq a.read b)
seq_ends {f = f} {g = g} {a = a} {b = b} ra between ends =
    record {
      stops = λ ts v rest e so. let (mid, first, second) = seq_parts a.read b ts v rest e in ends.stops mid v.1 rest second so;
      holds = λ v rest covers other on.
          seq_is a.read b v.0 v.1 (f v.0) (g v.1) rest (ra.complete v.0 (g v.1 ++ rest) covers.0 (between v.1 rest covers.1 on))
          (ends.holds v.1 rest covers.1 other on);
    }

-- the second ends it, and the first goes on neither with it nor with ON
pub behind_ends : {sort : Token → Sort} {A B : Type 0} {P C : A → Type 0} {f : A → List Token} {Q D : B → Type 0} {g : B → List Token} {k : B → Bool} {bound : ℕ}
    {a : Reading sort A} {a' : Read A} {b : Reading sort B} {b' : Read B} → Reads sort A P C f bound a a' → Reads sort B Q D g bound b b'
    → list_all is_short b.starts ≡ true → looks sort b.goes_on [] ≡ false → apart a.goes_on b.starts ≡ true → apart a.goes_on upsert_starts ≡ true
    → Ends sort B D g k b.read → Ends sort (A × B) (λ v. C v.0 × D v.1) (λ v. f v.0 ++ g v.1) (λ v. k v.1) (read_seq a.read b.read)
behind_ends {a = a} ra rb short clear far before ends = seq_ends ra (clear_before rb short clear a.goes_on far before) ends

none_spells : {B : Type 0} (g : B → List Token) (y : Option B) → is_none y ≡ true → maybe g y ≡ []
none_spells g None so = refl
none_spells g (Some y) so = absurd (cc)

module _ {sort : Token → Sort} {B : Type 0} {Q D : B → Type 0} {g : B → List Token} {bound : ℕ} {o : Reading sort (Option B)} {o' : Read (Option B)} where
  -- an optional part begins with nothing with which what stands before it would go on
  opt_clear : Reads sort (Option B) (λ y. IfSome y Q) (λ y. IfSome y D) (maybe g) bound o o' → (front : Look) → apart front o.starts ≡ true
      → apart o.goes_on upsert_starts ≡ true → (y : B) (rest : L) → D y → looks sort upsert_starts rest ≡ true → looks sort front (g y ++ rest) ≡ false
  opt_clear ro front far before y rest covers on =
      ⊎_elim (λ s. clear-apart sort front o.starts (g y ++ rest) far s) (λ n. absurd (never n.1))
      (ro.begins (Some y) rest covers (clear-apart sort o.goes_on upsert_starts rest before on))
    where
      never : g y ≡ [] → ⊥
      never is =
          let clear = clear-apart sort o.goes_on upsert_starts rest before on in
          let one : o.read rest ≡ Some (Some y, rest) = ap (λ l. o.read (l ++ rest)) (sym is) ∙ ro.complete (Some y) rest covers clear in
          let none : Option B = None in
          let two : o.read rest ≡ Some (none, rest) = ro.complete None rest tt clear in
          let same : Some y ≡ none = (same_outcome (Some y) none rest rest (sym one ∙ two)).0 in
          absurd (cc)

module _ {sort : Token → Sort} {A B : Type 0} {P C : A → Type 0} {f : A → List Token} {Q D : B → Type 0} {g : B → List Token} {j : A → Bool} {bound : ℕ}
    {a : Reading sort A} {a' : Read A} {o : Reading sort (Option B)} {o' : Read (Option B)} where
  -- the first ends it where the optional part behind it is absent
  pub seq_opt_ends : Reads sort A P C f bound a a' → Reads sort (Option B) (λ y. IfSome y Q) (λ y. IfSome y D) (maybe g) bound o o'
      → apart a.goes_on o.starts ≡ true → apart o.goes_on upsert_starts ≡ true → Ends sort A C f j a.read
      → Ends sort (A × Option B) (λ v. C v.0 × IfSome v.1 D) (λ v. f v.0 ++ maybe g v.1) (λ v. j v.0 && is_none v.1) (read_seq a.read o.read)
  seq_opt_ends ra ro far before ends =
      record {
        stops = λ ts v rest e so.
            let (mid, first, second) = seq_parts a.read o.read ts v rest e in
            let both = and_parts (j v.0) (is_none v.1) so in
            let spelled : IfSome v.1 Q × (mid ≡ maybe g v.1 ++ rest) = ro.sound mid v.1 rest second in
            let same : mid ≡ rest = spelled.1 ∙ ap (λ l. l ++ rest) (none_spells g v.1 both.1) in
            ap (λ l. looks sort upsert_starts l) (sym same) ∙ ends.stops ts v.0 mid first both.0;
        holds = λ v rest covers other on. at rest on v.0 v.1 covers other;
      }
    where
      at : (rest : L) → looks sort upsert_starts rest ≡ true → (x : A) (y : Option B) → C x × IfSome y D → (j x && is_none y) ≡ false
          → read_seq a.read o.read ((f x ++ maybe g y) ++ rest) ≡ Some ((x, y), rest)
      at rest on x None covers other =
          let clear = clear-apart sort o.goes_on upsert_starts rest before on in
          seq_is a.read o.read x None (f x) [] rest (ends.holds x rest covers.0 (and_true (j x) other) on) (ro.complete None rest tt clear)
      at rest on x (Some y) covers other =
          let clear = clear-apart sort o.goes_on upsert_starts rest before on in
          seq_is a.read o.read x (Some y) (f x) (g y) rest (ra.complete x (g y ++ rest) covers.0 (opt_clear ro a.goes_on far before y rest covers.1 on))
          (ro.complete (Some y) rest covers.1 clear)

-- ---- any number

module _ {sort : Token → Sort} {B : Type 0} {D : B → Type 0} {g : B → List Token} {k : B → Bool} {read : Read B} where
  turns_stop : Ends sort B D g k read → (starts : Look) (n : ℕ) (start : Bool) (ts : L) (xs : List B) (rest : L) → read_turns sort starts read n ts ≡ Some (xs, rest)
      → (start ≡ true → looks sort upsert_starts ts ≡ false) → last_joined k start xs ≡ true → looks sort upsert_starts rest ≡ false
  turns_stop ends starts zero start ts xs rest e before so = absurd (cc)
  turns_stop ends starts (suc n) start ts xs rest e before so =
      ⊎_elim
      (λ there.
      let (p, first, behind) = then_parts (read ts) (λ x mid. made_of (λ ys. x ∷ ys) (read_turns sort starts read n mid)) (xs, rest) there.1 in
      let (ys, second, is) = made_parts (λ (ys : List B). p.0 ∷ ys) (read_turns sort starts read n p.1) xs rest behind in
      turns_stop ends starts n (k p.0) p.1 ys rest second (λ joined. ends.stops ts p.0 p.1 first joined) (ap (λ (v : List B). last_joined k start v) is ∙ so))
      (λ absent.
      let none : List B = [] in
      let same = same_outcome none xs ts rest absent.1 in
      ap (λ l. looks sort upsert_starts l) (sym same.1) ∙ before (ap (λ (v : List B). last_joined k start v) same.0 ∙ so))
      (chosen_of (looks sort starts ts) (and_then (read ts) (λ x mid. made_of (λ ys. x ∷ ys) (read_turns sort starts read n mid)))
      (Some ([], ts)) (xs, rest) e)

module _ {sort : Token → Sort} {B : Type 0} {Q D : B → Type 0} {g : B → List Token} {k : B → Bool} {bound : ℕ} {b : Reading sort B} {b' : Read B} where
  turns_hold : Reads sort B Q D g bound b b' → b.nullable ≡ false → list_all is_short b.starts ≡ true → looks sort b.goes_on [] ≡ false
      → apart b.goes_on b.starts ≡ true → apart b.starts upsert_starts ≡ true → Ends sort B D g k b.read
      → (n : ℕ) (start : Bool) (xs : List B) (rest : L) → AllByRecursion D xs → last_joined k start xs ≡ false → looks sort upsert_starts rest ≡ true
      → length (flat g xs ++ rest) < n → read_turns sort b.starts b.read n (flat g xs ++ rest) ≡ Some (xs, rest)
  turns_hold rb some short clear far before ends zero start xs rest covers other on room = absurd (omega arith)
  turns_hold rb some short clear far before ends (suc n) start [] rest covers other on room =
      cond-false (looks sort b.starts rest) (and_then (b.read rest) (λ x mid. made_of (λ ys. x ∷ ys) (read_turns sort b.starts b.read n mid)))
      (Some ([], rest)) (clear-apart sort b.starts upsert_starts rest before on)
  turns_hold rb some short clear far before ends (suc n) start (x ∷ xs) rest covers other on room =
      let ts : L = (g x ++ flat g xs) ++ rest in
      let back : L = flat g xs ++ rest in
      let joined : ts ≡ g x ++ back = append_assoc (g x) (flat g xs) rest in
      let next : B → Read (List B) = λ y mid. made_of (λ ys. y ∷ ys) (read_turns sort b.starts b.read n mid) in
      let first : b.read ts ≡ Some (x, back) = ap (λ l. b.read l) joined ∙ item xs covers.1 other in
      let less : length back < length ts = rb.size some ts x back first in
      cond-true (looks sort b.starts ts) (and_then (b.read ts) next) (Some ([], ts))
      (ap (λ l. looks sort b.starts l) joined ∙ starts_anyway rb some short clear x back covers.0)
      ∙ then_is (b.read ts) next x back first
      ∙ made_is (λ (ys : List B). x ∷ ys) (read_turns sort b.starts b.read n back) xs rest
      (turns_hold rb some short clear far before ends n (k x) xs rest covers.1 other on (omega arith))
    where
      item : (ys : List B) → AllByRecursion D ys → last_joined k (k x) ys ≡ false → b.read (g x ++ (flat g ys ++ rest)) ≡ Some (x, flat g ys ++ rest)
      item [] h last = ends.holds x rest covers.0 last on
      item (y ∷ ys) h last =
          let behind : looks sort b.starts ((g y ++ flat g ys) ++ rest) ≡ true =
          ap (λ l. looks sort b.starts l) (append_assoc (g y) (flat g ys) rest) ∙ starts_anyway rb some short clear y (flat g ys ++ rest) h.0 in
          rb.complete x ((g y ++ flat g ys) ++ rest) covers.0 (clear-apart sort b.goes_on b.starts ((g y ++ flat g ys) ++ rest) far behind)

  -- any number behind a first: the last of them all ends it
  pub seq_many_ends : {A : Type 0} {P C : A → Type 0} {f : A → List Token} {j : A → Bool} {a : Reading sort A} {a' : Read A} → Reads sort A P C f bound a a'
      → Ends sort A C f j a.read → apart a.goes_on b.starts ≡ true → Reads sort B Q D g bound b b' → b.nullable ≡ false → list_all is_short b.starts ≡ true
      → looks sort b.goes_on [] ≡ false → apart b.goes_on b.starts ≡ true → apart b.starts upsert_starts ≡ true → Ends sort B D g k b.read
      → Ends sort (A × List B) (λ v. C v.0 × AllByRecursion D v.1) (λ v. f v.0 ++ flat g v.1) (λ v. last_joined k (j v.0) v.1)
      (read_seq a.read (read_many sort b.starts b.read))
  seq_many_ends {A} {P} {C} {f} {j} {a} ra first_ends apart_first rb some short clear far before ends =
      record {
        stops = λ ts v rest e so.
            let (mid, first, second) = seq_parts a.read (read_many sort b.starts b.read) ts v rest e in
            turns_stop ends b.starts (suc (length mid)) (j v.0) mid v.1 rest second (λ joined. first_ends.stops ts v.0 mid first joined) so;
        holds = λ v rest covers other on.
            seq_is a.read (read_many sort b.starts b.read) v.0 v.1 (f v.0) (flat g v.1) rest (front rest on v.0 v.1 covers other)
            (turns_hold rb some short clear far before ends (suc (length (flat g v.1 ++ rest))) (j v.0) v.1 rest covers.1 other on (omega arith));
      }
    where
      front : (rest : L) → looks sort upsert_starts rest ≡ true → (x : A) (ys : List B) → C x × AllByRecursion D ys → last_joined k (j x) ys ≡ false
          → a.read (f x ++ (flat g ys ++ rest)) ≡ Some (x, flat g ys ++ rest)
      front rest on x [] covers other = first_ends.holds x rest covers.0 other on
      front rest on x (y ∷ ys) covers other =
          let behind : looks sort b.starts ((g y ++ flat g ys) ++ rest) ≡ true =
          ap (λ l. looks sort b.starts l) (append_assoc (g y) (flat g ys) rest) ∙ starts_anyway rb some short clear y (flat g ys ++ rest) covers.1.0 in
          ra.complete x ((g y ++ flat g ys) ++ rest) covers.0 (clear-apart sort a.goes_on b.starts ((g y ++ flat g ys) ++ rest) apart_first behind)
