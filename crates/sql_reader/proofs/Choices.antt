-- The laws of readings of one of several, of none or one, and of any number.
use Rattle.std.proofs.Common.{◌≡◌, ℕ, zero, suc, ◌<◌, ◌≤◌, ◌⊎◌, ⊎_elim, inl, inr, Bool, true, false, ◌&&◌, if◌then◌else◌, List, [], ◌∷◌, ◌++◌, length, Option, Some, None, refl, sym, ap, subst, ◌∙◌, arith, append_assoc, IfSome}
use Rattle.std.proofs.lemmas.Bool.{cond-true, cond-false, both_ways}
use Rattle.std.specs.List.{AllByRecursion}
use Rattle.sql_token.specs.declared.token.Token.{Token}
use Rattle.sql_reader.specs.declared.sort.Sort.{Sort}
use Rattle.sql_reader.specs.Looks.{looks, apart}
use Rattle.sql_token.specs.Spelled.{maybe, flat}
use Rattle.sql_reader.specs.Reading.{Read, Reading, and_then, made_of, read_choice, read_opt, read_turns, read_many, choice, opt, many}
use Rattle.sql_reader.proofs.Looks.{looks-left, looks-right, clear-left, clear-right, clear-apart}
use Rattle.sql_reader.proofs.Outcomes.{same_outcome, then_parts, made_parts, then_is, made_is, then_alike, if_alike, reach, reach_and, reach_and_right}
use Rattle.sql_reader.proofs.Laws.{Reads}

abbrev L : Type 0
L = List Token

-- one of the two that a test tells
chosen_of : {A : Type 0} (b : Bool) (x y : Option A) (r : A) → (if b then x else y) ≡ Some r → ((b ≡ true) × (x ≡ Some r)) ⊎ ((b ≡ false) × (y ≡ Some r))
chosen_of true x y r e = inl (refl, e)
chosen_of false x y r e = inr (refl, e)

-- ---- one of two

module _ {sort : Token → Sort} {A : Type 0} {P C D : A → Type 0} {f : A → List Token} {bound : ℕ} {a b : Reading sort A}
    {a' b' : List Token → Option (A × List Token)} where
  pub choice_reads : Reads sort A P C f bound a a' → Reads sort A P D f bound b b' → a.nullable ≡ false → b.nullable ≡ false
      → apart a.starts b.starts ≡ true
      → Reads sort A P (λ x. C x ⊎ D x) f bound (choice a b) (read_choice sort a.starts a' b')
  choice_reads ra rb some_a some_b far =
      record {
        sound = λ ts x rest e.
            ⊎_elim (λ first. ra.sound ts x rest first.1) (λ second. rb.sound ts x rest second.1)
            (chosen_of (looks sort a.starts ts) (a.read ts) (b.read ts) (x, rest) e);
        size = λ _ ts x rest e.
            ⊎_elim (λ first. ra.size some_a ts x rest first.1) (λ second. rb.size some_b ts x rest second.1)
            (chosen_of (looks sort a.starts ts) (a.read ts) (b.read ts) (x, rest) e);
        begins = λ x rest covers clear.
            ⊎_elim
            (λ first. ⊎_elim (λ s. inl (looks-left sort a.starts b.starts (f x ++ rest) s)) (λ n. absurd (both_ways a.nullable some_a n.0))
            (ra.begins x rest first (clear-left sort a.goes_on b.goes_on rest clear)))
            (λ second. ⊎_elim (λ s. inl (looks-right sort a.starts b.starts (f x ++ rest) s)) (λ n. absurd (both_ways b.nullable some_b n.0))
            (rb.begins x rest second (clear-right sort a.goes_on b.goes_on rest clear)))
            covers;
        complete = λ x rest covers clear.
            ⊎_elim
            (λ first.
            let clear_a = clear-left sort a.goes_on b.goes_on rest clear in
            ⊎_elim
            (λ s. cond-true (looks sort a.starts (f x ++ rest)) (a.read (f x ++ rest)) (b.read (f x ++ rest)) s ∙ ra.complete x rest first clear_a)
            (λ n. absurd (both_ways a.nullable some_a n.0))
            (ra.begins x rest first clear_a))
            (λ second.
            let clear_b = clear-right sort a.goes_on b.goes_on rest clear in
            ⊎_elim
            (λ s. cond-false (looks sort a.starts (f x ++ rest)) (a.read (f x ++ rest)) (b.read (f x ++ rest))
            (clear-apart sort a.starts b.starts (f x ++ rest) far s) ∙ rb.complete x rest second clear_b)
            (λ n. absurd (both_ways b.nullable some_b n.0))
            (rb.begins x rest second clear_b))
            covers;
        alike = λ ts most.
            let in_a : reach (a.guarded && b.guarded) bound ≤ reach a.guarded bound = reach_and a.guarded b.guarded bound in
            let in_b : reach (a.guarded && b.guarded) bound ≤ reach b.guarded bound = reach_and_right a.guarded b.guarded bound in
            if_alike (looks sort a.starts ts) (a.read ts) (b.read ts) (a' ts) (b' ts) (ra.alike ts (omega arith)) (rb.alike ts (omega arith));
      }

-- ---- one or none, and any number

module _ {sort : Token → Sort} {A : Type 0} {P C : A → Type 0} {f : A → List Token} {bound : ℕ} {a : Reading sort A}
    {a' : List Token → Option (A × List Token)} where
  opt_sound : Reads sort A P C f bound a a' → (ts : L) (x : Option A) (rest : L) → read_opt sort a.starts a.read ts ≡ Some (x, rest)
      → IfSome x P × (ts ≡ maybe f x ++ rest)
  opt_sound ra ts x rest e =
      ⊎_elim
      (λ there.
      let (y, first, is) = made_parts (λ (y : A). Some y) (a.read ts) x rest there.1 in
      let meets : P y × (ts ≡ f y ++ rest) = ra.sound ts y rest first in
      let family : Option A → Type 0 = λ v. IfSome v P × (ts ≡ maybe f v ++ rest) in
      subst family is meets)
      (λ absent.
      let none : Option A = None in
      let same = same_outcome none x ts rest absent.1 in
      let family : Option A → Type 0 = λ v. IfSome v P × (ts ≡ maybe f v ++ rest) in
      subst family same.0 (tt, same.1))
      (chosen_of (looks sort a.starts ts) (made_of (λ y. Some y) (a.read ts)) (Some (None, ts)) (x, rest) e)

  opt_begins : Reads sort A P C f bound a a' → a.nullable ≡ false → (x : Option A) (rest : L) → IfSome x C → looks sort (a.goes_on ++ a.starts) rest ≡ false
      → (looks sort a.starts (maybe f x ++ rest) ≡ true) ⊎ ((true ≡ true) × (maybe f x ≡ []))
  opt_begins ra some None rest covers clear = inr (refl, refl)
  opt_begins ra some (Some x) rest covers clear =
      ⊎_elim (λ s. inl s) (λ n. absurd (both_ways a.nullable some n.0)) (ra.begins x rest covers (clear-left sort a.goes_on a.starts rest clear))

  opt_complete : Reads sort A P C f bound a a' → a.nullable ≡ false → (x : Option A) (rest : L) → IfSome x C → looks sort (a.goes_on ++ a.starts) rest ≡ false
      → read_opt sort a.starts a.read (maybe f x ++ rest) ≡ Some (x, rest)
  opt_complete ra some None rest covers clear =
      cond-false (looks sort a.starts rest) (made_of (λ y. Some y) (a.read rest)) (Some (None, rest)) (clear-right sort a.goes_on a.starts rest clear)
  opt_complete ra some (Some x) rest covers clear =
      let clear_a = clear-left sort a.goes_on a.starts rest clear in
      let ts : L = f x ++ rest in
      ⊎_elim
      (λ s. cond-true (looks sort a.starts ts) (made_of (λ y. Some y) (a.read ts)) (Some (None, ts)) s
      ∙ made_is (λ (y : A). Some y) (a.read ts) x rest (ra.complete x rest covers clear_a))
      (λ n. absurd (both_ways a.nullable some n.0))
      (ra.begins x rest covers clear_a)

  pub opt_reads : Reads sort A P C f bound a a' → a.nullable ≡ false
      → Reads sort (Option A) (λ x. IfSome x P) (λ x. IfSome x C) (maybe f) bound (opt a) (read_opt sort a.starts a')
  opt_reads ra some =
      record {
        sound = opt_sound ra;
        size = λ never. absurd (cc);
        begins = opt_begins ra some;
        complete = opt_complete ra some;
        alike = λ ts most.
            if_alike (looks sort a.starts ts) (made_of (λ y. Some y) (a.read ts)) (Some (None, ts)) (made_of (λ y. Some y) (a' ts)) (Some (None, ts))
            (ap (λ o. made_of (λ y. Some y) o) (ra.alike ts most)) refl;
      }

  turns_sound : Reads sort A P C f bound a a' → (n : ℕ) (ts : L) (xs : List A) (rest : L) → read_turns sort a.starts a.read n ts ≡ Some (xs, rest)
      → AllByRecursion P xs × (ts ≡ flat f xs ++ rest)
  turns_sound ra zero ts xs rest e = absurd (cc)
  turns_sound ra (suc n) ts xs rest e =
      ⊎_elim
      (λ there.
      let (p, first, behind) = then_parts (a.read ts) (λ x mid. made_of (λ ys. x ∷ ys) (read_turns sort a.starts a.read n mid)) (xs, rest) there.1 in
      let (ys, second, is) = made_parts (λ (ys : List A). p.0 ∷ ys) (read_turns sort a.starts a.read n p.1) xs rest behind in
      let meets : P p.0 × (ts ≡ f p.0 ++ p.1) = ra.sound ts p.0 p.1 first in
      let more : AllByRecursion P ys × (p.1 ≡ flat f ys ++ rest) = turns_sound ra n p.1 ys rest second in
      let family : List A → Type 0 = λ v. AllByRecursion P v × (ts ≡ flat f v ++ rest) in
      subst family is ((meets.0, more.0), meets.1 ∙ ap (λ l. f p.0 ++ l) more.1 ∙ sym (append_assoc (f p.0) (flat f ys) rest)))
      (λ absent.
      let none : List A = [] in
      let same = same_outcome none xs ts rest absent.1 in
      let family : List A → Type 0 = λ v. AllByRecursion P v × (ts ≡ flat f v ++ rest) in
      subst family same.0 (tt, same.1))
      (chosen_of (looks sort a.starts ts) (and_then (a.read ts) (λ x mid. made_of (λ ys. x ∷ ys) (read_turns sort a.starts a.read n mid)))
      (Some ([], ts)) (xs, rest) e)

  -- what follows an item is another, or what follows all
  turns_between : Reads sort A P C f bound a a' → a.nullable ≡ false → apart a.goes_on a.starts ≡ true → (xs : List A) (rest : L) → AllByRecursion C xs
      → looks sort (a.goes_on ++ a.starts) rest ≡ false → looks sort a.goes_on (flat f xs ++ rest) ≡ false
  turns_between ra some far [] rest covers clear = clear-left sort a.goes_on a.starts rest clear
  turns_between ra some far (x ∷ xs) rest covers clear =
      let later = turns_between ra some far xs rest covers.1 clear in
      ⊎_elim
      (λ s. ap (λ l. looks sort a.goes_on l) (append_assoc (f x) (flat f xs) rest)
      ∙ clear-apart sort a.goes_on a.starts (f x ++ (flat f xs ++ rest)) far s)
      (λ n. absurd (both_ways a.nullable some n.0))
      (ra.begins x (flat f xs ++ rest) covers.0 later)

  turns_complete : Reads sort A P C f bound a a' → a.nullable ≡ false → apart a.goes_on a.starts ≡ true → (n : ℕ) (xs : List A) (rest : L)
      → AllByRecursion C xs → looks sort (a.goes_on ++ a.starts) rest ≡ false → length (flat f xs ++ rest) < n
      → read_turns sort a.starts a.read n (flat f xs ++ rest) ≡ Some (xs, rest)
  turns_complete ra some far zero xs rest covers clear room = absurd (omega arith)
  turns_complete ra some far (suc n) [] rest covers clear room =
      cond-false (looks sort a.starts rest) (and_then (a.read rest) (λ x mid. made_of (λ ys. x ∷ ys) (read_turns sort a.starts a.read n mid)))
      (Some ([], rest)) (clear-right sort a.goes_on a.starts rest clear)
  turns_complete ra some far (suc n) (x ∷ xs) rest covers clear room =
      let ts : L = (f x ++ flat f xs) ++ rest in
      let back : L = flat f xs ++ rest in
      let joined : ts ≡ f x ++ back = append_assoc (f x) (flat f xs) rest in
      let between = turns_between ra some far xs rest covers.1 clear in
      let next : A → Read (List A) = λ y mid. made_of (λ ys. y ∷ ys) (read_turns sort a.starts a.read n mid) in
      let first : a.read ts ≡ Some (x, back) = ap (λ l. a.read l) joined ∙ ra.complete x back covers.0 between in
      let less : length back < length ts = ra.size some ts x back first in
      ⊎_elim
      (λ s. cond-true (looks sort a.starts ts) (and_then (a.read ts) next) (Some ([], ts)) (ap (λ l. looks sort a.starts l) joined ∙ s)
      ∙ then_is (a.read ts) next x back first
      ∙ made_is (λ (ys : List A). x ∷ ys) (read_turns sort a.starts a.read n back) xs rest
      (turns_complete ra some far n xs rest covers.1 clear (omega arith)))
      (λ none. absurd (both_ways a.nullable some none.0))
      (ra.begins x back covers.0 between)

  turns_alike : Reads sort A P C f bound a a' → a.nullable ≡ false → (n : ℕ) (ts : L) → length ts ≤ reach a.guarded bound
      → read_turns sort a.starts a.read n ts ≡ read_turns sort a.starts a' n ts
  turns_alike ra some zero ts most = refl
  turns_alike ra some (suc n) ts most =
      let next : A → Read (List A) = λ x mid. made_of (λ ys. x ∷ ys) (read_turns sort a.starts a.read n mid) in
      let later : A → Read (List A) = λ x mid. made_of (λ ys. x ∷ ys) (read_turns sort a.starts a' n mid) in
      if_alike (looks sort a.starts ts) (and_then (a.read ts) next) (Some ([], ts)) (and_then (a' ts) later) (Some ([], ts))
      (then_alike (a.read ts) (a' ts) next later (ra.alike ts most)
      (λ x mid e.
      let less : length mid < length ts = ra.size some ts x mid e in
      ap (λ o. made_of (λ ys. x ∷ ys) o) (turns_alike ra some n mid (omega arith))))
      refl

  many_begins : Reads sort A P C f bound a a' → a.nullable ≡ false → apart a.goes_on a.starts ≡ true → (xs : List A) (rest : L) → AllByRecursion C xs
      → looks sort (a.goes_on ++ a.starts) rest ≡ false → (looks sort a.starts (flat f xs ++ rest) ≡ true) ⊎ ((true ≡ true) × (flat f xs ≡ []))
  many_begins ra some far [] rest covers clear = inr (refl, refl)
  many_begins ra some far (x ∷ xs) rest covers clear =
      ⊎_elim
      (λ s. inl (ap (λ l. looks sort a.starts l) (append_assoc (f x) (flat f xs) rest) ∙ s))
      (λ n. absurd (both_ways a.nullable some n.0))
      (ra.begins x (flat f xs ++ rest) covers.0 (turns_between ra some far xs rest covers.1 clear))

  pub many_reads : Reads sort A P C f bound a a' → a.nullable ≡ false → apart a.goes_on a.starts ≡ true
      → Reads sort (List A) (AllByRecursion P) (AllByRecursion C) (flat f) bound (many a) (read_many sort a.starts a')
  many_reads ra some far =
      record {
        sound = λ ts xs rest e. turns_sound ra (suc (length ts)) ts xs rest e;
        size = λ never. absurd (cc);
        begins = many_begins ra some far;
        complete = λ xs rest covers clear. turns_complete ra some far (suc (length (flat f xs ++ rest))) xs rest covers clear (omega arith);
        alike = λ ts most. turns_alike ra some (suc (length ts)) ts most;
      }
