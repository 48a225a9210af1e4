-- A text or a name between signs, or a name in brackets, in front.
use Rattle.std.proofs.Common.{◌≡◌, ℕ, ◌+◌, ◌<◌, ◌≤◌, Bool, true, false, not, cond, List, [], ◌∷◌, ◌++◌, ◌⊎◌, ⊎_elim, inl, inr, Option, Some, None, length, drop, eqb, ltb, arith, refl, sym, ap, subst, ◌∙◌}
use Rattle.std.specs.List.{prefix_len}
use Rattle.std.specs.Option.{option_map}
use Rattle.std.proofs.lemmas.Bool.{cond-true, cond-false, cond_both, cases_Bool, cases_eq, eqb-true, eq-eqb, ne_eqb, both_ways, ltb-true, ltb-false, not-false}
use Rattle.std.proofs.lemmas.List.{append_assoc, length-append}
use Rattle.sql_token.specs.declared.class.Class.{Class}
use Rattle.sql_token.specs.declared.class.Class.TheVariants.{Apostrophe, Sign, Bracket}
use Rattle.sql_token.specs.declared.token.TokenKind.{TokenKind}
use Rattle.sql_token.specs.declared.token.TokenKind.TheVariants.{Word, Quoted, Str, Blob, Int, Hex, Float, Op}
use Rattle.sql_token.specs.Byte.{begins}
use Rattle.sql_token.specs.Form.{IsForm, doubled, quoted, bracketed, IsQuotedName, IsBracketed}
use Rattle.sql_token.specs.Scan.{class_of, closing_len, quote_len, bracket_len}
use Rattle.sql_token.specs.Token.{is_spoiled}
use Rattle.sql_token.proofs.Fronts.{Longest, IsFront, TellsLength, Suits, led, shorter_or_same}
use Rattle.sql_token.proofs.Runs.{Run, run_of, run_exact}
use Rattle.sql_token.proofs.Quotes.{closing_len-other, closing_len-double, closing_len-single, counted_on}

abbrev is_same_sign : ℕ → ℕ → Bool
is_same_sign sign b = eqb b sign

-- ---- the sign that closes

pub doubled-sign : (sign b : ℕ) (name : List ℕ) → b ≡ sign → doubled sign (b ∷ name) ≡ b ∷ b ∷ doubled sign name
doubled-sign sign b name same = ap (λ l. l ++ doubled sign name) (cond-true (eqb b sign) (b ∷ b ∷ []) (b ∷ []) (eq-eqb b sign same))

pub doubled-other : (sign b : ℕ) (name : List ℕ) → (b ≡ sign → ⊥) → doubled sign (b ∷ name) ≡ b ∷ doubled sign name
doubled-other sign b name apart = ap (λ l. l ++ doubled sign name) (cond-false (eqb b sign) (b ∷ b ∷ []) (b ∷ []) (ne_eqb b sign apart))

-- a doubled name with its closing sign in front, with the length of what is found behind it
abbrev found_behind : ℕ → List ℕ → List ℕ → Option ℕ
found_behind sign name rest = cond (begins (is_same_sign sign) rest) (option_map (λ n. length (doubled sign name) + 2 + n) (closing_len sign (drop 1 rest))) (Some (length (doubled sign name) + 1))

-- the parts of a choice, each by a function
option_map-cond : (b : Bool) (f : ℕ → ℕ) (x y : Option ℕ) → option_map f (cond b x y) ≡ cond b (option_map f x) (option_map f y)
option_map-cond true f x y = refl
option_map-cond false f x y = refl

counted_found : (k : ℕ) (sign : ℕ) (name longer rest : List ℕ) → length (doubled sign longer) ≡ k + length (doubled sign name) → option_map (λ n. k + n) (found_behind sign name rest) ≡ found_behind sign longer rest
counted_found k sign name longer rest same =
    let two : k + (length (doubled sign name) + 2) ≡ length (doubled sign longer) + 2 = omega arith in
    let one : k + (length (doubled sign name) + 1) ≡ length (doubled sign longer) + 1 = omega arith in
    option_map-cond (begins (is_same_sign sign) rest) (λ n. k + n) _ _
    ∙ ap (λ o. cond (begins (is_same_sign sign) rest) o (Some (k + (length (doubled sign name) + 1)))) (counted_on (closing_len sign (drop 1 rest)) k (length (doubled sign name) + 2) ∙ ap (λ m. option_map (λ n. m + n) (closing_len sign (drop 1 rest))) two)
    ∙ ap (λ m. cond (begins (is_same_sign sign) rest) (option_map (λ n. length (doubled sign longer) + 2 + n) (closing_len sign (drop 1 rest))) (Some m)) one

-- where a doubled name and its closing sign are in front, that sign closes, unless one more follows
closing_behind : (sign : ℕ) (name rest : List ℕ) → closing_len sign (doubled sign name ++ sign ∷ rest) ≡ found_behind sign name rest
closing_behind sign [] rest =
    ⊎_elim
    (λ again. closing_len-double sign sign rest refl again ∙ sym (cond-true (begins (is_same_sign sign) rest) (option_map (λ n. 2 + n) (closing_len sign (drop 1 rest))) (Some 1) again))
    (λ single. closing_len-single sign sign rest refl single ∙ sym (cond-false (begins (is_same_sign sign) rest) (option_map (λ n. 2 + n) (closing_len sign (drop 1 rest))) (Some 1) single))
    (cases_Bool (begins (is_same_sign sign) rest))
closing_behind sign (b ∷ name) rest =
    ⊎_elim
    (λ same.
    let spelled = doubled-sign sign b name same in
    ap (λ l. closing_len sign (l ++ sign ∷ rest)) spelled
    ∙ closing_len-double sign b (b ∷ (doubled sign name ++ sign ∷ rest)) same (eq-eqb b sign same)
    ∙ ap (option_map (λ n. 2 + n)) (closing_behind sign name rest)
    ∙ counted_found 2 sign name (b ∷ name) rest (omega (arith, ap length spelled)))
    (λ apart.
    let spelled = doubled-other sign b name apart in
    ap (λ l. closing_len sign (l ++ sign ∷ rest)) spelled
    ∙ closing_len-other sign b (doubled sign name ++ sign ∷ rest) apart
    ∙ ap (option_map (λ n. 1 + n)) (closing_behind sign name rest)
    ∙ counted_found 1 sign name (b ∷ name) rest (omega (arith, ap length spelled)))
    (cases_eq b sign)

-- the bytes are a doubled name, its closing sign and a rest that does not begin with one more
pub record IsClosed (sign : ℕ) (bytes : List ℕ) (len : ℕ) : Type 0 where
  pub name : List ℕ
  pub rest : List ℕ
  pub split : bytes ≡ doubled sign name ++ sign ∷ rest
  pub length_is : len ≡ length (doubled sign name) + 1
  pub single : begins (is_same_sign sign) rest ≡ false

abbrev ClosedIf : ℕ → List ℕ → Option ℕ → Type 0
ClosedIf sign bytes None = Unit {0}
ClosedIf sign bytes (Some len) = IsClosed sign bytes len

closed_other : (sign b : ℕ) (bytes : List ℕ) (found : Option ℕ) → (b ≡ sign → ⊥) → ClosedIf sign bytes found → ClosedIf sign (b ∷ bytes) (option_map (λ n. 1 + n) found)
closed_other sign b bytes None apart closed = tt
closed_other sign b bytes (Some len) apart closed =
    let spelled = doubled-other sign b closed.name apart in
    record {
      name = b ∷ closed.name;
      rest = closed.rest;
      split = ap (λ l. b ∷ l) closed.split ∙ ap (λ l. l ++ sign ∷ closed.rest) (sym spelled);
      length_is = omega (arith, closed.length_is, ap length spelled);
      single = closed.single;
    }

closed_double : (sign b c : ℕ) (bytes : List ℕ) (found : Option ℕ) → b ≡ sign → c ≡ sign → ClosedIf sign bytes found → ClosedIf sign (b ∷ c ∷ bytes) (option_map (λ n. 2 + n) found)
closed_double sign b c bytes None first second closed = tt
closed_double sign b c bytes (Some len) first second closed =
    let spelled = doubled-sign sign b closed.name first in
    let same : c ≡ b = second ∙ sym first in
    record {
      name = b ∷ closed.name;
      rest = closed.rest;
      split = ap (λ k. b ∷ k ∷ bytes) same ∙ ap (λ l. b ∷ b ∷ l) closed.split ∙ ap (λ l. l ++ sign ∷ closed.rest) (sym spelled);
      length_is = omega (arith, closed.length_is, ap length spelled);
      single = closed.single;
    }

closed_single : (sign b : ℕ) (bytes : List ℕ) → b ≡ sign → begins (is_same_sign sign) bytes ≡ false → ClosedIf sign (b ∷ bytes) (Some 1)
closed_single sign b bytes same single = record { name = []; rest = bytes; split = ap (λ k. k ∷ bytes) same; length_is = refl; single = single }

closing_closes : (sign : ℕ) (bytes : List ℕ) → ClosedIf sign bytes (closing_len sign bytes)
closing_closes sign [] = tt
closing_closes sign (b ∷ []) =
    ⊎_elim
    (λ same. subst (ClosedIf sign (b ∷ [])) (sym (closing_len-single sign b [] same refl)) (closed_single sign b [] same refl))
    (λ apart. subst (ClosedIf sign (b ∷ [])) (sym (closing_len-other sign b [] apart)) tt)
    (cases_eq b sign)
closing_closes sign (b ∷ c ∷ bytes) =
    let behind = closing_closes sign (c ∷ bytes) in
    let further = closing_closes sign bytes in
    ⊎_elim
    (λ same.
    ⊎_elim
    (λ again. subst (ClosedIf sign (b ∷ c ∷ bytes)) (sym (closing_len-double sign b (c ∷ bytes) same (eq-eqb c sign again))) (closed_double sign b c bytes (closing_len sign bytes) same again further))
    (λ single. subst (ClosedIf sign (b ∷ c ∷ bytes)) (sym (closing_len-single sign b (c ∷ bytes) same (ne_eqb c sign single))) (closed_single sign b (c ∷ bytes) same (ne_eqb c sign single)))
    (cases_eq c sign))
    (λ apart. subst (ClosedIf sign (b ∷ c ∷ bytes)) (sym (closing_len-other sign b (c ∷ bytes) apart)) (closed_other sign b (c ∷ bytes) (closing_len sign (c ∷ bytes)) apart behind))
    (cases_eq b sign)

mapped_bound : (k : ℕ) (found : Option ℕ) (len : ℕ) → option_map (λ n. k + 2 + n) found ≡ Some len → k + 1 ≤ len
mapped_bound k None len same = absurd (cc)
mapped_bound k (Some n) len same = let is : k + 2 + n ≡ len = cc in omega arith

-- a doubled name in front is no longer than where the quote closes
some_bound : (sign : ℕ) (name rest : List ℕ) (len : ℕ) → found_behind sign name rest ≡ Some len → length (doubled sign name) + 1 ≤ len
some_bound sign name rest len found =
    ⊎_elim
    (λ again. mapped_bound (length (doubled sign name)) (closing_len sign (drop 1 rest)) len (sym (cond-true (begins (is_same_sign sign) rest) _ _ again) ∙ found))
    (λ single. let same : Some (length (doubled sign name) + 1) ≡ Some len = sym (cond-false (begins (is_same_sign sign) rest) _ _ single) ∙ found in let is : length (doubled sign name) + 1 ≡ len = cc in omega arith)
    (cases_Bool (begins (is_same_sign sign) rest))

-- where no quote closes, one more sign stands behind each doubled name
none_again : (sign : ℕ) (name rest : List ℕ) → found_behind sign name rest ≡ None → begins (is_same_sign sign) rest ≡ true
none_again sign name rest found =
    ⊎_elim
    (λ again. again)
    (λ single. let same : Some (length (doubled sign name) + 1) ≡ None = sym (cond-false (begins (is_same_sign sign) rest) _ _ single) ∙ found in absurd (cc))
    (cases_Bool (begins (is_same_sign sign) rest))

-- ---- a quote of a kind

-- a form of the kind between these signs is a quoted name
pub record IsBetween (kind : TokenKind) (class : Class) (sign : ℕ) : Type 0 where
  pub named : (other : TokenKind) (tail : List ℕ) → Suits other class → IsForm other (sign ∷ tail) → (name : List ℕ) × (sign ∷ tail ≡ quoted sign name) × (other ≡ kind)
  pub forms : (name : List ℕ) → IsForm kind (quoted sign name)
  pub spoils : (tail rest : List ℕ) → is_spoiled kind (sign ∷ tail) rest ≡ begins (is_same_sign sign) rest

named_tail : (sign : ℕ) (bytes tail rest name : List ℕ) → bytes ≡ tail ++ rest → sign ∷ tail ≡ quoted sign name → bytes ≡ doubled sign name ++ sign ∷ rest
named_tail sign bytes tail rest name split spelled =
    let tails : tail ≡ doubled sign name ++ sign ∷ [] = cc in
    split ∙ ap (λ l. l ++ rest) tails ∙ append_assoc (doubled sign name) (sign ∷ []) rest

most_quote : (kind : TokenKind) (class : Class) (sign : ℕ) (bytes : List ℕ) (len : ℕ) → IsBetween kind class sign → closing_len sign bytes ≡ Some len
    → (other : TokenKind) (tail rest : List ℕ) → bytes ≡ tail ++ rest → Suits other class → IsForm other (sign ∷ tail)
    → (length (sign ∷ tail) < 1 + len) ⊎ ((length (sign ∷ tail) ≡ 1 + len) × (other ≡ kind))
most_quote kind class sign bytes len between found other tail rest split suits form =
    let named = between.named other tail suits form in
    let behind = named_tail sign bytes tail rest named.0 split named.1 in
    let bound = some_bound sign named.0 rest len (sym (closing_behind sign named.0 rest) ∙ ap (closing_len sign) (sym behind) ∙ found) in
    let lengths : length (sign ∷ tail) ≤ 1 + len = omega (arith, ap length named.1, length-append (doubled sign named.0) (sign ∷ [])) in
    ⊎_elim
    (λ less. inl less)
    (λ same. inr (same.0, named.2))
    (shorter_or_same kind (length (sign ∷ tail)) (1 + len) lengths)

quote_by : (kind : TokenKind) (class : Class) (sign : ℕ) (bytes : List ℕ) (found : Option ℕ) → class_of sign ≡ class → IsBetween kind class sign → closing_len sign bytes ≡ found → ClosedIf sign bytes found → TellsLength (sign ∷ bytes) kind (option_map (λ n. 1 + n) found)
quote_by kind class sign bytes None is between found closed =
    led (λ other front rest. is_spoiled other front rest ≡ false → Longest (sign ∷ bytes) front → ⊥) sign bytes class is
    (λ other tail rest split suits form unspoiled longest.
    let named = between.named other tail suits form in
    let behind = named_tail sign bytes tail rest named.0 split named.1 in
    let again = none_again sign named.0 rest (sym (closing_behind sign named.0 rest) ∙ ap (closing_len sign) (sym behind) ∙ found) in
    both_ways (is_spoiled kind (sign ∷ tail) rest) (subst (λ k. is_spoiled k (sign ∷ tail) rest ≡ false) named.2 unspoiled) (between.spoils tail rest ∙ again))
quote_by kind class sign bytes (Some len) is between found closed = record {
  best = record {
    front = quoted sign closed.name;
    rest = closed.rest;
    split = ap (λ l. sign ∷ l) (closed.split ∙ sym (append_assoc (doubled sign closed.name) (sign ∷ []) closed.rest));
    length_is = omega (arith, closed.length_is, length-append (doubled sign closed.name) (sign ∷ []));
    form = between.forms closed.name;
    most = led (λ other front rest. (length front < 1 + len) ⊎ ((length front ≡ 1 + len) × (other ≡ kind))) sign bytes class is (most_quote kind class sign bytes len between found);
  };
  closed = between.spoils (doubled sign closed.name ++ sign ∷ []) closed.rest ∙ closed.single;
}

quote_tells : (kind : TokenKind) (class : Class) (sign : ℕ) (bytes : List ℕ) → class_of sign ≡ class → IsBetween kind class sign → TellsLength (sign ∷ bytes) kind (quote_len sign bytes)
quote_tells kind class sign bytes is between = quote_by kind class sign bytes (closing_len sign bytes) is between refl (closing_closes sign bytes)

string_named : (other : TokenKind) (tail : List ℕ) → Suits other Apostrophe → IsForm other (39 ∷ tail) → (name : List ℕ) × (39 ∷ tail ≡ quoted 39 name) × (other ≡ Str)
string_named Str tail suits form = (form.0, form.1, refl)
string_named Word tail suits form = absurd suits
string_named Quoted tail suits form = absurd suits
string_named Blob tail suits form = absurd suits
string_named Int tail suits form = absurd suits
string_named Hex tail suits form = absurd suits
string_named Float tail suits form = absurd suits
string_named Op tail suits form = absurd suits

pub string_tells : (bytes : List ℕ) → TellsLength (39 ∷ bytes) Str (quote_len 39 bytes)
string_tells bytes = quote_tells Str Apostrophe 39 bytes refl (record { named = string_named; forms = λ name. (name, refl); spoils = λ tail rest. refl })

-- a Quoted that begins with a sign is between two
between_signs : (sign : ℕ) (tail name : List ℕ) → (sign ≡ 34) ⊎ (sign ≡ 96) → IsQuotedName (sign ∷ tail) name → sign ∷ tail ≡ quoted sign name
between_signs sign tail name which form =
    ⊎_elim
    (λ spelled. let same : sign ≡ 34 = cc in spelled ∙ ap (λ k. quoted k name) (sym same))
    (λ other. ⊎_elim
    (λ spelled. let same : sign ≡ 96 = cc in spelled ∙ ap (λ k. quoted k name) (sym same))
    (λ bracket. let spelled = bracket.spelled in let same : sign ≡ 91 = cc in absurd (⊎_elim (λ a. omega arith) (λ b. omega arith) which))
    other)
    form

name_named : (sign : ℕ) → (sign ≡ 34) ⊎ (sign ≡ 96) → (other : TokenKind) (tail : List ℕ) → Suits other Sign → IsForm other (sign ∷ tail) → (name : List ℕ) × (sign ∷ tail ≡ quoted sign name) × (other ≡ Quoted)
name_named sign which Quoted tail suits form = (form.0, between_signs sign tail form.0 which form.1, refl)
name_named sign which Word tail suits form = absurd suits
name_named sign which Str tail suits form = absurd suits
name_named sign which Blob tail suits form = absurd suits
name_named sign which Int tail suits form = absurd suits
name_named sign which Hex tail suits form = absurd suits
name_named sign which Float tail suits form = absurd suits
name_named sign which Op tail suits form = absurd suits

pub name_tells : (sign : ℕ) (bytes : List ℕ) → (sign ≡ 34) ⊎ (sign ≡ 96) → TellsLength (sign ∷ bytes) Quoted (quote_len sign bytes)
name_tells sign bytes which =
    ⊎_elim
    (λ double. subst (λ s. TellsLength (s ∷ bytes) Quoted (quote_len s bytes)) (sym double)
    (quote_tells Quoted Sign 34 bytes refl (record { named = name_named 34 (inl refl); forms = λ name. (name, inl refl); spoils = λ tail rest. refl })))
    (λ back. subst (λ s. TellsLength (s ∷ bytes) Quoted (quote_len s bytes)) (sym back)
    (quote_tells Quoted Sign 96 bytes refl (record { named = name_named 96 (inr refl); forms = λ name. (name, inr (inl refl)); spoils = λ tail rest. refl })))
    which

-- ---- a name in brackets

abbrev is_open : ℕ → Bool
is_open b = not (eqb b 93)

first_same : (a b : ℕ) (x y : List ℕ) → a ∷ x ≡ b ∷ y → a ≡ b
first_same a b x y same = cc

bracket_named : (tail name : List ℕ) → IsQuotedName (91 ∷ tail) name → IsBracketed (91 ∷ tail) name
bracket_named tail name form =
    ⊎_elim
    (λ spelled. absurd (omega (arith, first_same 91 34 tail (doubled 34 name ++ 34 ∷ []) spelled)))
    (λ other. ⊎_elim (λ spelled. absurd (omega (arith, first_same 91 96 tail (doubled 96 name ++ 96 ∷ []) spelled))) (λ bracket. bracket) other)
    form

bracket_run : (bytes tail rest name : List ℕ) → bytes ≡ tail ++ rest → IsBracketed (91 ∷ tail) name → (bytes ≡ name ++ 93 ∷ rest) × (prefix_len is_open bytes ≡ length name) × (length (91 ∷ tail) ≡ 2 + length name)
bracket_run bytes tail rest name split form =
    let spelled = form.spelled in
    let tails : tail ≡ name ++ 93 ∷ [] = cc in
    let behind : bytes ≡ name ++ 93 ∷ rest = split ∙ ap (λ l. l ++ rest) tails ∙ append_assoc name (93 ∷ []) rest in
    (behind, ap (prefix_len is_open) behind ∙ run_exact is_open name (93 ∷ rest) form.unclosed refl, omega (arith, ap length tails, length-append name (93 ∷ [])))

most_bracket : (bytes : List ℕ)
    → (kind : TokenKind) (tail rest : List ℕ) → bytes ≡ tail ++ rest → Suits kind Bracket → IsForm kind (91 ∷ tail)
    → (length (91 ∷ tail) < 2 + prefix_len is_open bytes) ⊎ ((length (91 ∷ tail) ≡ 2 + prefix_len is_open bytes) × (kind ≡ Quoted))
most_bracket bytes Quoted tail rest split suits form =
    let found = bracket_run bytes tail rest form.0 split (bracket_named tail form.0 form.1) in
    inr (omega (arith, found.1, found.2), refl)
most_bracket bytes Word tail rest split suits form = absurd suits
most_bracket bytes Str tail rest split suits form = absurd suits
most_bracket bytes Blob tail rest split suits form = absurd suits
most_bracket bytes Int tail rest split suits form = absurd suits
most_bracket bytes Hex tail rest split suits form = absurd suits
most_bracket bytes Float tail rest split suits form = absurd suits
most_bracket bytes Op tail rest split suits form = absurd suits

none_bracket : (bytes : List ℕ) → length bytes ≤ prefix_len is_open bytes
    → (kind : TokenKind) (tail rest : List ℕ) → bytes ≡ tail ++ rest → Suits kind Bracket → IsForm kind (91 ∷ tail) → ⊥
none_bracket bytes past Quoted tail rest split suits form =
    let found = bracket_run bytes tail rest form.0 split (bracket_named tail form.0 form.1) in
    omega (arith, found.1, ap length found.0, length-append form.0 (93 ∷ rest))
none_bracket bytes past Word tail rest split suits form = suits
none_bracket bytes past Str tail rest split suits form = suits
none_bracket bytes past Blob tail rest split suits form = suits
none_bracket bytes past Int tail rest split suits form = suits
none_bracket bytes past Hex tail rest split suits form = suits
none_bracket bytes past Float tail rest split suits form = suits
none_bracket bytes past Op tail rest split suits form = suits

-- a rest that is there and does not go on with the name begins with `]`
begins_closing : (rest : List ℕ) → 0 < length rest → begins is_open rest ≡ false → (behind : List ℕ) × (rest ≡ 93 ∷ behind)
begins_closing [] there stops = absurd (omega arith)
begins_closing (b ∷ rest) there stops = (rest, ap (λ k. k ∷ rest) (eqb-true b 93 (not-false (eqb b 93) stops)))

bracket_front : (bytes : List ℕ) → prefix_len is_open bytes < length bytes → IsFront (91 ∷ bytes) Quoted (2 + prefix_len is_open bytes)
bracket_front bytes within =
    let r : Run is_open bytes = run_of is_open bytes in
    let behind = begins_closing r.rest (omega (arith, ap length r.split, length-append r.run r.rest, r.count)) r.stops in
    record {
      best = record {
        front = bracketed r.run;
        rest = behind.0;
        split = ap (λ l. 91 ∷ l) (r.split ∙ ap (λ l. r.run ++ l) behind.1 ∙ sym (append_assoc r.run (93 ∷ []) behind.0));
        length_is = omega (arith, length-append r.run (93 ∷ []), r.count);
        form = (r.run, inr (inr (record { spelled = refl; unclosed = r.all })));
        most = led (λ kind front rest. (length front < 2 + prefix_len is_open bytes) ⊎ ((length front ≡ 2 + prefix_len is_open bytes) × (kind ≡ Quoted))) 91 bytes Bracket refl (most_bracket bytes);
      };
      closed = refl;
    }

pub bracket_tells : (bytes : List ℕ) → TellsLength (91 ∷ bytes) Quoted (bracket_len bytes)
bracket_tells bytes =
    cond_both (ltb (prefix_len is_open bytes) (length bytes)) _ _ (TellsLength (91 ∷ bytes) Quoted)
    (λ within. bracket_front bytes (ltb-true _ _ within))
    (λ past. led (λ kind front rest. is_spoiled kind front rest ≡ false → Longest (91 ∷ bytes) front → ⊥) 91 bytes Bracket refl
    (λ kind tail rest split suits form closed longest. none_bracket bytes (ltb-false _ _ past) kind tail rest split suits form))
