-- A number in front.
use Rattle.std.proofs.Common.{◌≡◌, ℕ, ◌+◌, ◌<◌, ◌≤◌, ◌||◌, ◌&&◌, Bool, true, false, not, List, [], ◌∷◌, ◌++◌, ◌⊎◌, ⊎_elim, inl, inr, Some, None, length, drop, eqb, arith, refl, sym, ap, subst, ◌∙◌}
use Rattle.std.specs.Char.{is_ascii_digit, is_ascii_hexdigit}
use Rattle.std.specs.List.{list_all, prefix_len}
use Rattle.std.proofs.lemmas.Bool.{and_parts, or_cases, cond-true, cond-false, cond_both, cases_Bool, cases_lt, eqb-true, eq-eqb, ne_eqb, both_ways}
use Rattle.std.proofs.lemmas.List.{append_assoc, length-append, append-nil, drop_at, nil_from_length}
use Rattle.sql_token.specs.declared.class.Class.{Class}
use Rattle.sql_token.specs.declared.class.Class.TheVariants.{Digit, Point}
use Rattle.sql_token.specs.declared.token.TokenKind.{TokenKind}
use Rattle.sql_token.specs.declared.token.TokenKind.TheVariants.{Word, Quoted, Str, Blob, Int, Hex, Float, Op}
use Rattle.sql_token.specs.Byte.{in_word, is_x, is_e, is_plus_or_minus, begins}
use Rattle.sql_token.specs.Form.{IsForm, IsRun, IsHex, IsFloat, IsExponent, unsigned, operators, is_operator, IsNumberKind}
use Rattle.sql_token.specs.Scan.{class_of, whole_number, digits, marked, fraction_len, sign_len, exponent_len, hex_len, tail_len, decimal, number}
use Rattle.sql_token.specs.Token.{is_spoiled}
use Rattle.sql_token.proofs.Fronts.{IsBest, Tells, Suits, led, spoiled_none, operator_passes}
use Rattle.sql_token.proofs.Runs.{Run, run_of, run_counts, run_exact}

-- ---- which bytes are no digits

not_digit_at : (b n : ℕ) → b ≡ n → is_ascii_digit n ≡ false → is_ascii_digit b ≡ false
not_digit_at b n same other = ap is_ascii_digit same ∙ other

e_no_digit : (b : ℕ) → is_e b ≡ true → is_ascii_digit b ≡ false
e_no_digit b e = ⊎_elim (λ low. not_digit_at b 101 (eqb-true b 101 low) refl) (λ high. not_digit_at b 69 (eqb-true b 69 high) refl) (or_cases (eqb b 101) (eqb b 69) e)

x_no_digit : (b : ℕ) → is_x b ≡ true → is_ascii_digit b ≡ false
x_no_digit b x = ⊎_elim (λ low. not_digit_at b 120 (eqb-true b 120 low) refl) (λ high. not_digit_at b 88 (eqb-true b 88 high) refl) (or_cases (eqb b 120) (eqb b 88) x)

sign_no_digit : (b : ℕ) → is_plus_or_minus b ≡ true → is_ascii_digit b ≡ false
sign_no_digit b sign = ⊎_elim (λ low. not_digit_at b 43 (eqb-true b 43 low) refl) (λ high. not_digit_at b 45 (eqb-true b 45 high) refl) (or_cases (eqb b 43) (eqb b 45) sign)

x_no_e : (b : ℕ) → is_x b ≡ true → is_e b ≡ false
x_no_e b x = ⊎_elim (λ low. ap is_e (eqb-true b 120 low)) (λ high. ap is_e (eqb-true b 88 high)) (or_cases (eqb b 120) (eqb b 88) x)

x_no_point : (b : ℕ) → is_x b ≡ true → eqb b 46 ≡ false
x_no_point b x = ⊎_elim (λ low. ap (λ k. eqb k 46) (eqb-true b 120 low)) (λ high. ap (λ k. eqb k 46) (eqb-true b 88 high)) (or_cases (eqb b 120) (eqb b 88) x)

e_no_point : (b : ℕ) → is_e b ≡ true → eqb b 46 ≡ false
e_no_point b e = ⊎_elim (λ low. ap (λ k. eqb k 46) (eqb-true b 101 low)) (λ high. ap (λ k. eqb k 46) (eqb-true b 69 high)) (or_cases (eqb b 101) (eqb b 69) e)

-- digits have no sign in front
unsigned-digits : (run : List ℕ) → list_all is_ascii_digit run ≡ true → unsigned run ≡ run
unsigned-digits [] all = refl
unsigned-digits (b ∷ run) all =
    ⊎_elim
    (λ sign. absurd (both_ways (is_ascii_digit b) (sign_no_digit b sign) (and_parts (is_ascii_digit b) (list_all is_ascii_digit run) all).0))
    (λ none. cond-false (is_plus_or_minus b) _ _ none)
    (cases_Bool (is_plus_or_minus b))

marked-some : (mark count : ℕ) → 0 < count → marked mark count ≡ mark + count
marked-some mark count positive = cond-false (eqb count 0) 0 (mark + count) (ne_eqb count 0 (λ zero. omega arith))

marked-none : (mark count : ℕ) → count ≡ 0 → marked mark count ≡ 0
marked-none mark count zero = cond-true (eqb count 0) 0 (mark + count) (eq-eqb count 0 zero)

-- ---- the fraction in front

abbrev IsFraction : List ℕ → Type 0
IsFraction bytes = (fraction : List ℕ) × (bytes ≡ 46 ∷ fraction) × (list_all is_ascii_digit fraction ≡ true)

record Fraction (bytes : List ℕ) : Type 0 where
  front : List ℕ
  rest : List ℕ
  split : bytes ≡ front ++ rest
  length_is : fraction_len bytes ≡ length front
  shape : (front ≡ []) ⊎ IsFraction front

no_fraction : (bytes : List ℕ) → fraction_len bytes ≡ 0 → Fraction bytes
no_fraction bytes none = record { front = []; rest = bytes; split = refl; length_is = none; shape = inl refl }

fraction_of : (bytes : List ℕ) → Fraction bytes
fraction_of [] = no_fraction [] refl
fraction_of (b ∷ bytes) =
    let r : Run is_ascii_digit bytes = run_of is_ascii_digit bytes in
    ⊎_elim
    (λ point. record {
      front = 46 ∷ r.run;
      rest = r.rest;
      split = ap (λ k. k ∷ bytes) (eqb-true b 46 point) ∙ ap (λ l. 46 ∷ l) r.split;
      length_is = cond-true (eqb b 46) (1 + digits bytes) 0 point ∙ omega (arith, r.count);
      shape = inr (r.run, refl, r.all);
    })
    (λ other. no_fraction (b ∷ bytes) (cond-false (eqb b 46) (1 + digits bytes) 0 other))
    (cases_Bool (eqb b 46))

-- ---- the exponent in front

record Exponent (bytes : List ℕ) : Type 0 where
  front : List ℕ
  rest : List ℕ
  split : bytes ≡ front ++ rest
  length_is : exponent_len bytes ≡ length front
  shape : (front ≡ []) ⊎ IsExponent front

no_exponent : (bytes : List ℕ) → exponent_len bytes ≡ 0 → Exponent bytes
no_exponent bytes none = record { front = []; rest = bytes; split = refl; length_is = none; shape = inl refl }

-- behind the `e`, where what stands there is a sign or none, digits and a rest
exponent_from : (b : ℕ) (bytes sign : List ℕ) → is_e b ≡ true → length sign ≡ sign_len bytes → bytes ≡ sign ++ unsigned bytes
    → ((run : List ℕ) → list_all is_ascii_digit run ≡ true → unsigned (sign ++ run) ≡ run) → Exponent (b ∷ bytes)
exponent_from b bytes sign e length_sign split_sign plain =
    let r : Run is_ascii_digit (unsigned bytes) = run_of is_ascii_digit (unsigned bytes) in
    let opened = cond-true (is_e b) (marked (1 + sign_len bytes) (digits (unsigned bytes))) 0 e in
    ⊎_elim
    (λ some. record {
      front = b ∷ (sign ++ r.run);
      rest = r.rest;
      split = ap (λ l. b ∷ l) (split_sign ∙ ap (λ l. sign ++ l) r.split ∙ sym (append_assoc sign r.run r.rest));
      length_is = opened ∙ marked-some (1 + sign_len bytes) (digits (unsigned bytes)) some ∙ omega (arith, length-append sign r.run, r.count, length_sign);
      shape = inr (e, subst (IsRun is_ascii_digit) (sym (plain r.run r.all)) (omega (arith, r.count, some), r.all));
    })
    (λ none. no_exponent (b ∷ bytes) (opened ∙ marked-none (1 + sign_len bytes) (digits (unsigned bytes)) (omega arith)))
    (cases_lt 0 (digits (unsigned bytes)))

exponent_of : (bytes : List ℕ) → Exponent bytes
exponent_of [] = no_exponent [] refl
exponent_of (b ∷ []) = ⊎_elim (λ e. no_exponent (b ∷ []) (cond-true (is_e b) _ 0 e)) (λ other. no_exponent (b ∷ []) (cond-false (is_e b) _ 0 other)) (cases_Bool (is_e b))
exponent_of (b ∷ s ∷ bytes) =
    ⊎_elim
    (λ e. ⊎_elim
    (λ sign. exponent_from b (s ∷ bytes) (s ∷ []) e (sym (cond-true (is_plus_or_minus s) 1 0 sign)) (ap (λ l. s ∷ l) (sym (cond-true (is_plus_or_minus s) bytes (s ∷ bytes) sign)))
    (λ run all. cond-true (is_plus_or_minus s) run (s ∷ run) sign))
    (λ none. exponent_from b (s ∷ bytes) [] e (sym (cond-false (is_plus_or_minus s) 1 0 none)) (sym (cond-false (is_plus_or_minus s) bytes (s ∷ bytes) none)) unsigned-digits)
    (cases_Bool (is_plus_or_minus s)))
    (λ other. no_exponent (b ∷ s ∷ bytes) (cond-false (is_e b) _ 0 other))
    (cases_Bool (is_e b))

-- an exponent in front is no longer than the one that is found
exponent_bound : (bytes rest : List ℕ) → IsExponent bytes → length bytes ≤ exponent_len (bytes ++ rest)
exponent_bound [] rest form = absurd form
exponent_bound (b ∷ []) rest form = absurd (omega (arith, form.1.0))
exponent_bound (b ∷ s ∷ bytes) rest form =
    let opened = cond-true (is_e b) (marked (1 + sign_len (s ∷ (bytes ++ rest))) (digits (unsigned (s ∷ (bytes ++ rest))))) 0 form.0 in
    ⊎_elim
    (λ sign.
    let plain : unsigned (s ∷ bytes) ≡ bytes = cond-true (is_plus_or_minus s) bytes (s ∷ bytes) sign in
    let run = subst (IsRun is_ascii_digit) plain form.1 in
    let counted = ap digits (cond-true (is_plus_or_minus s) (bytes ++ rest) (s ∷ (bytes ++ rest)) sign) ∙ run_counts is_ascii_digit bytes rest run.1 in
    let some = marked-some (1 + sign_len (s ∷ (bytes ++ rest))) (digits (unsigned (s ∷ (bytes ++ rest)))) (omega (arith, counted, run.0)) in
    omega (arith, opened, some, counted, cond-true {A = ℕ} (is_plus_or_minus s) 1 0 sign))
    (λ none.
    let plain : unsigned (s ∷ bytes) ≡ s ∷ bytes = cond-false (is_plus_or_minus s) bytes (s ∷ bytes) none in
    let run = subst (IsRun is_ascii_digit) plain form.1 in
    let counted = ap digits (cond-false (is_plus_or_minus s) (bytes ++ rest) (s ∷ (bytes ++ rest)) none) ∙ run_counts is_ascii_digit (s ∷ bytes) rest run.1 in
    let some = marked-some (1 + sign_len (s ∷ (bytes ++ rest))) (digits (unsigned (s ∷ (bytes ++ rest)))) (omega (arith, counted)) in
    omega (arith, opened, some, counted, cond-false {A = ℕ} (is_plus_or_minus s) 1 0 none))
    (cases_Bool (is_plus_or_minus s))

-- an exponent begins with `e`
exponent_begins : (bytes rest : List ℕ) → IsExponent bytes → (begins is_ascii_digit (bytes ++ rest) ≡ false) × (fraction_len (bytes ++ rest) ≡ 0)
exponent_begins [] rest form = absurd form
exponent_begins (b ∷ bytes) rest form = (e_no_digit b form.0, cond-false (eqb b 46) (1 + digits (bytes ++ rest)) 0 (e_no_point b form.0))

-- ---- digits, a fraction and an exponent

-- what is found behind digits that stop
record FoundBehind (whole rest : List ℕ) : Type 0 where
  whole_is : digits (whole ++ rest) ≡ length whole
  tail_is : tail_len (digits (whole ++ rest)) (whole ++ rest) ≡ fraction_len rest + exponent_len (drop (fraction_len rest) rest)

found_behind : (whole rest : List ℕ) → list_all is_ascii_digit whole ≡ true → begins is_ascii_digit rest ≡ false → FoundBehind whole rest
found_behind whole rest all stops =
    let count = run_exact is_ascii_digit whole rest all stops in
    let after : drop (digits (whole ++ rest)) (whole ++ rest) ≡ rest = drop_at whole rest (digits (whole ++ rest)) (sym count) in
    record { whole_is = count; tail_is = ap (λ l. fraction_len l + exponent_len (drop (fraction_len l) l)) after }

-- a Float in front is no longer than the number that is found, which has a fraction or an exponent
abbrev IsBound : List ℕ → List ℕ → Type 0
IsBound front bytes = (length front ≤ digits bytes + tail_len (digits bytes) bytes) × (0 < tail_len (digits bytes) bytes)

-- where the fraction is followed by an exponent, or by nothing of the number
pointed_bound : (whole fraction exponent rest : List ℕ) → list_all is_ascii_digit whole ≡ true → list_all is_ascii_digit fraction ≡ true → (exponent ≡ []) ⊎ IsExponent exponent
    → IsBound (whole ++ (46 ∷ (fraction ++ exponent))) (whole ++ (46 ∷ (fraction ++ (exponent ++ rest))))
pointed_bound whole fraction exponent rest all_whole all_fraction shape =
    let found = found_behind whole (46 ∷ (fraction ++ (exponent ++ rest))) all_whole refl in
    let counted = run_counts is_ascii_digit fraction (exponent ++ rest) all_fraction in
    let lengths = length-append whole (46 ∷ (fraction ++ exponent)) in
    let inner = length-append fraction exponent in
    ⊎_elim
    (λ none. (omega (arith, found.whole_is, found.tail_is, counted, lengths, inner, ap length none), omega (arith, found.tail_is)))
    (λ form.
    let stops = (exponent_begins exponent rest form).0 in
    let count = run_exact is_ascii_digit fraction (exponent ++ rest) all_fraction stops in
    let after : drop (fraction_len (46 ∷ (fraction ++ (exponent ++ rest)))) (46 ∷ (fraction ++ (exponent ++ rest))) ≡ exponent ++ rest =
    drop_at (46 ∷ fraction) (exponent ++ rest) (1 + digits (fraction ++ (exponent ++ rest))) (omega (arith, count)) in
    (omega (arith, found.whole_is, found.tail_is, count, lengths, inner, ap exponent_len after, exponent_bound exponent rest form), omega (arith, found.tail_is)))
    shape

exponent_some : (exponent : List ℕ) → IsExponent exponent → 0 < length exponent
exponent_some [] form = absurd form
exponent_some (b ∷ exponent) form = omega arith

whole_bound : (whole exponent rest : List ℕ) → IsRun is_ascii_digit whole → IsExponent exponent → IsBound (whole ++ exponent) (whole ++ (exponent ++ rest))
whole_bound whole exponent rest run form =
    let starts = exponent_begins exponent rest form in
    let found = found_behind whole (exponent ++ rest) run.1 starts.0 in
    let after : exponent_len (drop (fraction_len (exponent ++ rest)) (exponent ++ rest)) ≡ exponent_len (exponent ++ rest) = ap (λ k. exponent_len (drop k (exponent ++ rest))) starts.1 in
    let bound = exponent_bound exponent rest form in
    (omega (arith, found.whole_is, found.tail_is, after, bound, length-append whole exponent), omega (arith, found.tail_is, after, bound, exponent_some exponent form))

bound_at : (front a bytes b : List ℕ) → front ≡ a → bytes ≡ b → IsBound a b → IsBound front bytes
bound_at front a bytes b same_front same_bytes bound =
    subst (λ l. IsBound l bytes) (sym same_front) (subst (IsBound a) (sym same_bytes) bound)

pub float_bound : (front rest : List ℕ) → IsFloat front → IsBound front (front ++ rest)
float_bound front rest form =
    ⊎_elim
    (λ pointed.
    let n = pointed.0 in
    let spelled : front ≡ n.whole ++ (46 ∷ (n.fraction ++ form.exponent)) = form.spelled ∙ ap (λ l. l ++ form.exponent) n.spelled ∙ append_assoc n.whole (46 ∷ n.fraction) form.exponent in
    let whole : front ++ rest ≡ n.whole ++ (46 ∷ (n.fraction ++ (form.exponent ++ rest))) =
    ap (λ l. l ++ rest) spelled ∙ append_assoc n.whole (46 ∷ (n.fraction ++ form.exponent)) rest ∙ ap (λ l. n.whole ++ (46 ∷ l)) (append_assoc n.fraction form.exponent rest) in
    bound_at front _ (front ++ rest) _ spelled whole (pointed_bound n.whole n.fraction form.exponent rest n.whole_digits n.fraction_digits pointed.1))
    (λ exponent.
    bound_at front _ (front ++ rest) _ form.spelled (ap (λ l. l ++ rest) form.spelled ∙ append_assoc form.mantissa form.exponent rest) (whole_bound form.mantissa form.exponent rest exponent.0 exponent.1))
    form.parts

-- an Int in front is no longer than the digits that are found
int_bound : (front rest : List ℕ) → IsRun is_ascii_digit front → length front ≤ digits (front ++ rest)
int_bound front rest form = omega (arith, run_counts is_ascii_digit front rest form.1)

-- a hexadecimal number in front
hex_bound : (front rest : List ℕ) → IsHex front → length front ≤ hex_len (front ++ rest)
hex_bound front rest form =
    let counted = run_counts is_ascii_hexdigit form.digits rest form.hexadecimal.1 in
    let opened = cond-true (is_x form.x) (marked 2 (prefix_len is_ascii_hexdigit (form.digits ++ rest))) 0 form.marked in
    let some = marked-some 2 (prefix_len is_ascii_hexdigit (form.digits ++ rest)) (omega (arith, counted, form.hexadecimal.0)) in
    let len : hex_len (front ++ rest) ≡ hex_len (48 ∷ form.x ∷ (form.digits ++ rest)) = ap (λ l. hex_len (l ++ rest)) form.spelled in
    omega (arith, len, opened, some, counted, ap length form.spelled)

-- what begins a hexadecimal number
record Hexadecimal (bytes : List ℕ) : Type 0 where
  x : ℕ
  digits : List ℕ
  rest : List ℕ
  split : bytes ≡ 48 ∷ x ∷ (digits ++ rest)
  marked : is_x x ≡ true
  hexadecimal : IsRun is_ascii_hexdigit digits
  length_is : hex_len bytes ≡ 2 + length digits

hexadecimal_of : (bytes : List ℕ) → (hex_len bytes ≡ 0) ⊎ Hexadecimal bytes
hexadecimal_of [] = inl refl
hexadecimal_of (z ∷ []) = inl refl
hexadecimal_of (z ∷ x ∷ bytes) =
    let r : Run is_ascii_hexdigit bytes = run_of is_ascii_hexdigit bytes in
    ⊎_elim
    (λ begins_hex.
    let parts = and_parts (eqb z 48) (is_x x) begins_hex in
    let opened = cond-true (eqb z 48 && is_x x) (marked 2 (prefix_len is_ascii_hexdigit bytes)) 0 begins_hex in
    ⊎_elim
    (λ some. inr (record {
      x = x;
      digits = r.run;
      rest = r.rest;
      split = ap (λ k. k ∷ x ∷ bytes) (eqb-true z 48 parts.0) ∙ ap (λ l. 48 ∷ x ∷ l) r.split;
      marked = parts.1;
      hexadecimal = (omega (arith, r.count, some), r.all);
      length_is = opened ∙ marked-some 2 (prefix_len is_ascii_hexdigit bytes) some ∙ omega (arith, r.count);
    }))
    (λ none. inl (opened ∙ marked-none 2 (prefix_len is_ascii_hexdigit bytes) (omega arith)))
    (cases_lt 0 (prefix_len is_ascii_hexdigit bytes)))
    (λ other. inl (cond-false (eqb z 48 && is_x x) (marked 2 (prefix_len is_ascii_hexdigit bytes)) 0 other))
    (cases_Bool (eqb z 48 && is_x x))

-- behind `0x` there is no decimal number but the 0
hex_decimal : (x : ℕ) (bytes : List ℕ) → is_x x ≡ true → (digits (48 ∷ x ∷ bytes) ≡ 1) × (tail_len (digits (48 ∷ x ∷ bytes)) (48 ∷ x ∷ bytes) ≡ 0)
hex_decimal x bytes marked =
    let found = found_behind (48 ∷ []) (x ∷ bytes) refl (x_no_digit x marked) in
    let fraction = cond-false {A = ℕ} (eqb x 46) (1 + digits bytes) 0 (x_no_point x marked) in
    let exponent = ap (λ k. exponent_len (drop k (x ∷ bytes))) fraction ∙ cond-false (is_e x) _ 0 (x_no_e x marked) in
    (found.whole_is, omega (arith, found.tail_is, fraction, exponent))

-- ---- the number that is found

-- no number in front is longer, and only one kind has a number so long
abbrev pub MostNumber : List ℕ → TokenKind → ℕ → Type 0
MostNumber bytes kind len = (other : TokenKind) (front rest : List ℕ) → bytes ≡ front ++ rest → IsNumberKind other → IsForm other front → (length front < len) ⊎ ((length front ≡ len) × (other ≡ kind))

-- a number in front
pub record IsBestNumber (bytes : List ℕ) (found : TokenKind × ℕ) : Type 0 where
  pub front : List ℕ
  pub rest : List ℕ
  pub split : bytes ≡ front ++ rest
  pub length_is : length front ≡ found.1
  pub form : IsForm found.0 front
  pub is_number : IsNumberKind found.0
  pub most : MostNumber bytes found.0 found.1

shorter : (kind other : TokenKind) (m n : ℕ) → m ≤ n → (m ≡ n → other ≡ kind) → (m < n) ⊎ ((m ≡ n) × (other ≡ kind))
shorter kind other m n most same = ⊎_elim (λ less. inl less) (λ more. let is : m ≡ n = omega arith in inr (is, same is)) (cases_lt m n)

most_hex : (bytes : List ℕ) → Hexadecimal bytes → MostNumber bytes Hex (hex_len bytes)
most_hex bytes h Hex front rest split number form = shorter Hex Hex (length front) (hex_len bytes) (omega (arith, hex_bound front rest form, ap hex_len split)) (λ _. refl)
most_hex bytes h Int front rest split number form =
    let few = hex_decimal h.x (h.digits ++ h.rest) h.marked in
    inl (omega (arith, int_bound front rest form, ap digits (sym split ∙ h.split), few.0, h.length_is))
most_hex bytes h Float front rest split number form =
    let few = hex_decimal h.x (h.digits ++ h.rest) h.marked in
    absurd (omega (arith, (float_bound front rest form).1, ap (λ l. tail_len (digits l) l) (sym split ∙ h.split), few.1))
most_hex bytes h Word front rest split number form = absurd number
most_hex bytes h Quoted front rest split number form = absurd number
most_hex bytes h Str front rest split number form = absurd number
most_hex bytes h Blob front rest split number form = absurd number
most_hex bytes h Op front rest split number form = absurd number

abbrev total : List ℕ → ℕ
total bytes = digits bytes + tail_len (digits bytes) bytes

most_int : (bytes : List ℕ) → hex_len bytes ≡ 0 → tail_len (digits bytes) bytes ≡ 0 → MostNumber bytes Int (total bytes)
most_int bytes none tail Int front rest split number form = shorter Int Int (length front) (total bytes) (omega (arith, int_bound front rest form, ap digits split)) (λ _. refl)
most_int bytes none tail Hex front rest split number form = absurd (omega (arith, hex_bound front rest form, ap hex_len split, ap length form.spelled))
most_int bytes none tail Float front rest split number form = absurd (omega (arith, (float_bound front rest form).1, ap (λ l. tail_len (digits l) l) split))
most_int bytes none tail Word front rest split number form = absurd number
most_int bytes none tail Quoted front rest split number form = absurd number
most_int bytes none tail Str front rest split number form = absurd number
most_int bytes none tail Blob front rest split number form = absurd number
most_int bytes none tail Op front rest split number form = absurd number

most_float : (bytes : List ℕ) → hex_len bytes ≡ 0 → 0 < tail_len (digits bytes) bytes → MostNumber bytes Float (total bytes)
most_float bytes none tail Int front rest split number form = inl (omega (arith, int_bound front rest form, ap digits split))
most_float bytes none tail Hex front rest split number form = absurd (omega (arith, hex_bound front rest form, ap hex_len split, ap length form.spelled))
most_float bytes none tail Float front rest split number form =
    shorter Float Float (length front) (total bytes) (omega (arith, (float_bound front rest form).0, ap (λ l. tail_len (digits l) l) split, ap digits split)) (λ _. refl)
most_float bytes none tail Word front rest split number form = absurd number
most_float bytes none tail Quoted front rest split number form = absurd number
most_float bytes none tail Str front rest split number form = absurd number
most_float bytes none tail Blob front rest split number form = absurd number
most_float bytes none tail Op front rest split number form = absurd number

-- a number begins here: a digit, or a point with a digit behind it
abbrev pub BeginsNumber : List ℕ → Type 0
BeginsNumber bytes = (0 < digits bytes) ⊎ (1 < fraction_len bytes)

-- the parts of the decimal number that is found
record Decimal (bytes : List ℕ) : Type 0 where
  whole : List ℕ
  fraction : List ℕ
  exponent : List ℕ
  rest : List ℕ
  split : bytes ≡ whole ++ (fraction ++ exponent) ++ rest
  whole_digits : list_all is_ascii_digit whole ≡ true
  whole_is : digits bytes ≡ length whole
  tail_is : tail_len (digits bytes) bytes ≡ length fraction + length exponent
  fraction_shape : (fraction ≡ []) ⊎ IsFraction fraction
  exponent_shape : (exponent ≡ []) ⊎ IsExponent exponent
  some_digit : BeginsNumber bytes → (0 < length whole) ⊎ (1 < length fraction)

decimal_of : (bytes : List ℕ) → Decimal bytes
decimal_of bytes =
    let w : Run is_ascii_digit bytes = run_of is_ascii_digit bytes in
    let f : Fraction w.rest = fraction_of w.rest in
    let e : Exponent f.rest = exponent_of f.rest in
    let after : drop (digits bytes) bytes ≡ w.rest = ap (drop (digits bytes)) w.split ∙ drop_at w.run w.rest (digits bytes) (sym w.count) in
    let behind : drop (fraction_len w.rest) w.rest ≡ f.rest = ap (drop (fraction_len w.rest)) f.split ∙ drop_at f.front f.rest (fraction_len w.rest) (sym f.length_is) in
    record {
      whole = w.run;
      fraction = f.front;
      exponent = e.front;
      rest = e.rest;
      split = w.split ∙ ap (λ l. w.run ++ l) (f.split ∙ ap (λ l. f.front ++ l) e.split ∙ sym (append_assoc f.front e.front e.rest)) ∙ sym (append_assoc w.run (f.front ++ e.front) e.rest);
      whole_digits = w.all;
      whole_is = w.count;
      tail_is = ap (λ l. fraction_len l + exponent_len (drop (fraction_len l) l)) after ∙ omega (arith, f.length_is, ap exponent_len behind, e.length_is);
      fraction_shape = f.shape;
      exponent_shape = e.shape;
      some_digit = λ some. ⊎_elim
          (λ digit. inl (omega (arith, w.count, digit)))
          (λ point. ⊎_elim
          (λ digit. inl digit)
          (λ none. inr (omega (arith, f.length_is, ap fraction_len (w.split ∙ ap (λ l. l ++ w.rest) (nil_from_length w.run (omega arith))), point)))
          (cases_lt 0 (length w.run)))
          some;
    }

-- a number without fraction and exponent
int_best : (bytes : List ℕ) → BeginsNumber bytes → hex_len bytes ≡ 0 → tail_len (digits bytes) bytes ≡ 0 → IsBestNumber bytes (Int, total bytes)
int_best bytes some none tail =
    let d : Decimal bytes = decimal_of bytes in
    let no_fraction_there : d.fraction ≡ [] = nil_from_length d.fraction (omega (arith, d.tail_is)) in
    let no_exponent_there : d.exponent ≡ [] = nil_from_length d.exponent (omega (arith, d.tail_is)) in
    record {
      front = d.whole ++ (d.fraction ++ d.exponent);
      rest = d.rest;
      split = d.split;
      length_is = omega (arith, length-append d.whole (d.fraction ++ d.exponent), length-append d.fraction d.exponent, d.whole_is, d.tail_is);
      form = subst (IsRun is_ascii_digit) (sym (ap (λ l. d.whole ++ (l ++ d.exponent)) no_fraction_there ∙ ap (λ l. d.whole ++ l) no_exponent_there ∙ append-nil d.whole))
          (⊎_elim (λ digit. digit) (λ point. absurd (omega (arith, ap length no_fraction_there))) (d.some_digit some), d.whole_digits);
      is_number = tt;
      most = most_int bytes none tail;
    }

-- a number with a fraction, an exponent or both
float_form : (whole fraction exponent : List ℕ) → list_all is_ascii_digit whole ≡ true → (fraction ≡ []) ⊎ IsFraction fraction → (exponent ≡ []) ⊎ IsExponent exponent
    → (0 < length whole) ⊎ (1 < length fraction) → 0 < length fraction + length exponent → IsFloat (whole ++ (fraction ++ exponent))
float_form whole fraction exponent all fraction_shape exponent_shape some tail = record {
  mantissa = whole ++ fraction;
  exponent = exponent;
  spelled = sym (append_assoc whole fraction exponent);
  parts = ⊎_elim
      (λ none. inr (
        subst (IsRun is_ascii_digit) (sym (ap (λ l. whole ++ l) none ∙ append-nil whole))
            (⊎_elim (λ digit. digit) (λ point. absurd (omega (arith, ap length none, point))) some, all),
        ⊎_elim (λ nothing. absurd (omega (arith, ap length none, ap length nothing))) (λ form. form) exponent_shape,
      ))
      (λ pointed. inl (
        record {
          whole = whole;
          fraction = pointed.0;
          spelled = ap (λ l. whole ++ l) pointed.1;
          whole_digits = all;
          fraction_digits = pointed.2;
          some_digit = ⊎_elim (λ digit. omega (arith, digit)) (λ point. omega (arith, ap length pointed.1, point)) some;
        },
        exponent_shape,
      ))
      fraction_shape;
}

float_best : (bytes : List ℕ) → BeginsNumber bytes → hex_len bytes ≡ 0 → 0 < tail_len (digits bytes) bytes → IsBestNumber bytes (Float, total bytes)
float_best bytes some none tail =
    let d : Decimal bytes = decimal_of bytes in
    record {
      front = d.whole ++ (d.fraction ++ d.exponent);
      rest = d.rest;
      split = d.split;
      length_is = omega (arith, length-append d.whole (d.fraction ++ d.exponent), length-append d.fraction d.exponent, d.whole_is, d.tail_is);
      form = float_form d.whole d.fraction d.exponent d.whole_digits d.fraction_shape d.exponent_shape (d.some_digit some) (omega (arith, d.tail_is, tail));
      is_number = tt;
      most = most_float bytes none tail;
    }

hex_best : (bytes : List ℕ) → Hexadecimal bytes → IsBestNumber bytes (Hex, hex_len bytes)
hex_best bytes h = record {
  front = 48 ∷ h.x ∷ h.digits;
  rest = h.rest;
  split = h.split;
  length_is = omega (arith, h.length_is);
  form = record { x = h.x; digits = h.digits; spelled = refl; marked = h.marked; hexadecimal = h.hexadecimal };
  is_number = tt;
  most = most_hex bytes h;
}

-- the number that is found is the longest
pub number_best : (bytes : List ℕ) → BeginsNumber bytes → IsBestNumber bytes (number bytes)
number_best bytes some =
    ⊎_elim
    (λ none. subst (IsBestNumber bytes) (sym (cond-true (eqb (hex_len bytes) 0) (decimal bytes) (Hex, hex_len bytes) (eq-eqb (hex_len bytes) 0 none)))
    (⊎_elim
    (λ tail. subst (λ k. IsBestNumber bytes (k, total bytes)) (sym (cond-false (eqb (tail_len (digits bytes) bytes) 0) Int Float (ne_eqb (tail_len (digits bytes) bytes) 0 (λ e. omega arith)))) (float_best bytes some none tail))
    (λ no_tail. let zero : tail_len (digits bytes) bytes ≡ 0 = omega arith in
    subst (λ k. IsBestNumber bytes (k, total bytes)) (sym (cond-true (eqb (tail_len (digits bytes) bytes) 0) Int Float (eq-eqb (tail_len (digits bytes) bytes) 0 zero))) (int_best bytes some none zero))
    (cases_lt 0 (tail_len (digits bytes) bytes))))
    (λ h. subst (IsBestNumber bytes) (sym (cond-false (eqb (hex_len bytes) 0) (decimal bytes) (Hex, hex_len bytes) (ne_eqb (hex_len bytes) 0 (λ e. omega (arith, h.length_is))))) (hex_best bytes h))
    (hexadecimal_of bytes)

-- ---- the token that begins as a number

number_or_other : (kind : TokenKind) → IsNumberKind kind ⊎ (IsNumberKind kind → ⊥)
number_or_other Word = inr (λ number. number)
number_or_other Quoted = inr (λ number. number)
number_or_other Str = inr (λ number. number)
number_or_other Blob = inr (λ number. number)
number_or_other Int = inl tt
number_or_other Hex = inl tt
number_or_other Float = inl tt
number_or_other Op = inr (λ number. number)

-- a number is spoiled by a byte of a Word
spoiled_number : (kind : TokenKind) (front rest : List ℕ) → IsNumberKind kind → is_spoiled kind front rest ≡ begins in_word rest
spoiled_number Int front rest number = refl
spoiled_number Hex front rest number = refl
spoiled_number Float front rest number = refl
spoiled_number Word front rest number = absurd number
spoiled_number Quoted front rest number = absurd number
spoiled_number Str front rest number = absurd number
spoiled_number Blob front rest number = absurd number
spoiled_number Op front rest number = absurd number

best_of_number : (b : ℕ) (bytes : List ℕ) (class : Class) (found : TokenKind × ℕ) → class_of b ≡ class → IsBestNumber (b ∷ bytes) found
    → ((kind : TokenKind) (tail : List ℕ) → Suits kind class → (IsNumberKind kind → ⊥) → IsForm kind (b ∷ tail) → length (b ∷ tail) < found.1) → IsBest (b ∷ bytes) found.0 found.1
best_of_number b bytes class found is best others = record {
  front = best.front;
  rest = best.rest;
  split = best.split;
  length_is = best.length_is;
  form = best.form;
  most = led (λ kind front rest. (length front < found.1) ⊎ ((length front ≡ found.1) × (kind ≡ found.0))) b bytes class is
      (λ kind tail rest split suits form.
      ⊎_elim
      (λ number. best.most kind (b ∷ tail) rest (ap (λ l. b ∷ l) split) number form)
      (λ other. inl (others kind tail suits other form))
      (number_or_other kind));
}

number_tells : (b : ℕ) (bytes : List ℕ) (class : Class) → class_of b ≡ class → BeginsNumber (b ∷ bytes)
    → ((kind : TokenKind) (tail : List ℕ) → Suits kind class → (IsNumberKind kind → ⊥) → IsForm kind (b ∷ tail) → length (b ∷ tail) < (number (b ∷ bytes)).1) → Tells (b ∷ bytes) (whole_number (b ∷ bytes))
unfolding whole_number
number_tells b bytes class is some others =
    let number_there : IsBestNumber (b ∷ bytes) (number (b ∷ bytes)) = number_best (b ∷ bytes) some in
    let best = best_of_number b bytes class (number (b ∷ bytes)) is number_there others in
    let behind : drop (number (b ∷ bytes)).1 (b ∷ bytes) ≡ best.rest = ap (drop (number (b ∷ bytes)).1) best.split ∙ drop_at best.front best.rest (number (b ∷ bytes)).1 best.length_is in
    let spoils : is_spoiled (number (b ∷ bytes)).0 best.front best.rest ≡ begins in_word (drop (number (b ∷ bytes)).1 (b ∷ bytes)) =
    spoiled_number (number (b ∷ bytes)).0 best.front best.rest number_there.is_number ∙ ap (begins in_word) (sym behind) in
    cond_both (begins in_word (drop (number (b ∷ bytes)).1 (b ∷ bytes))) None (Some (number (b ∷ bytes))) (Tells (b ∷ bytes))
    (λ spoiled. spoiled_none (b ∷ bytes) (number (b ∷ bytes)).0 (number (b ∷ bytes)).1 best (spoils ∙ spoiled))
    (λ closed. record { best = best; closed = spoils ∙ closed })

digit_others : (b : ℕ) (len : ℕ) (kind : TokenKind) (tail : List ℕ) → Suits kind Digit → (IsNumberKind kind → ⊥) → IsForm kind (b ∷ tail) → length (b ∷ tail) < len
digit_others b len Int tail suits other form = absurd (other tt)
digit_others b len Hex tail suits other form = absurd (other tt)
digit_others b len Float tail suits other form = absurd (other tt)
digit_others b len Word tail suits other form = absurd suits
digit_others b len Quoted tail suits other form = absurd suits
digit_others b len Str tail suits other form = absurd suits
digit_others b len Blob tail suits other form = absurd suits
digit_others b len Op tail suits other form = absurd suits

pub digit_tells : (b : ℕ) (bytes : List ℕ) → class_of b ≡ Digit → is_ascii_digit b ≡ true → Tells (b ∷ bytes) (whole_number (b ∷ bytes))
digit_tells b bytes is digit =
    number_tells b bytes Digit is (inl (omega (arith, cond-true (is_ascii_digit b) (1 + digits bytes) 0 digit))) (digit_others b (number (b ∷ bytes)).1)

-- an operator that begins with a point is the point
is_point_alone : List ℕ → Bool
is_point_alone bytes = not (begins (λ b. eqb b 46) bytes) || eqb (length bytes) 1

points_alone : list_all is_point_alone operators ≡ true
unfolding is_point_alone
points_alone = refl

point_alone : (tail : List ℕ) → is_operator (46 ∷ tail) ≡ true → length (46 ∷ tail) ≡ 1
unfolding is_point_alone
point_alone tail form = eqb-true (length (46 ∷ tail)) 1 (operator_passes is_point_alone (46 ∷ tail) points_alone form)

point_others : (len : ℕ) → 1 < len → (kind : TokenKind) (tail : List ℕ) → Suits kind Point → (IsNumberKind kind → ⊥) → IsForm kind (46 ∷ tail) → length (46 ∷ tail) < len
point_others len more Op tail suits other form = omega (arith, point_alone tail form)
point_others len more Float tail suits other form = absurd (other tt)
point_others len more Int tail suits other form = absurd suits
point_others len more Hex tail suits other form = absurd suits
point_others len more Word tail suits other form = absurd suits
point_others len more Quoted tail suits other form = absurd suits
point_others len more Str tail suits other form = absurd suits
point_others len more Blob tail suits other form = absurd suits

digit_behind : (bytes : List ℕ) → begins is_ascii_digit bytes ≡ true → 0 < digits bytes
digit_behind [] digit = absurd (cc)
digit_behind (b ∷ bytes) digit = omega (arith, cond-true {A = ℕ} (is_ascii_digit b) (1 + digits bytes) 0 digit)

point_len : (bytes : List ℕ) → (number (46 ∷ bytes)).1 ≡ tail_len 0 (46 ∷ bytes)
point_len [] = refl
point_len (b ∷ bytes) = omega arith

-- a number that begins with a point and a digit is longer than the point
point_number : (bytes : List ℕ) → begins is_ascii_digit bytes ≡ true → 1 < (number (46 ∷ bytes)).1
point_number bytes digit =
    let some = digit_behind bytes digit in
    let len : (number (46 ∷ bytes)).1 ≡ tail_len 0 (46 ∷ bytes) = point_len bytes in
    omega (arith, len)

pub point_tells : (bytes : List ℕ) → begins is_ascii_digit bytes ≡ true → Tells (46 ∷ bytes) (whole_number (46 ∷ bytes))
point_tells bytes digit =
    number_tells 46 bytes Point refl (inr (omega (arith, digit_behind bytes digit))) (point_others (number (46 ∷ bytes)).1 (point_number bytes digit))

-- behind a point that begins a Float stands a digit
pointed_digit : (tail whole fraction exponent rest : List ℕ) → 46 ∷ tail ≡ whole ++ (46 ∷ (fraction ++ exponent)) → list_all is_ascii_digit whole ≡ true → list_all is_ascii_digit fraction ≡ true
    → 0 < length whole + length fraction → begins is_ascii_digit (tail ++ rest) ≡ true
pointed_digit tail [] [] exponent rest spelled all_whole all_fraction some = absurd (omega arith)
pointed_digit tail [] (d ∷ fraction) exponent rest spelled all_whole all_fraction some =
    let tails : tail ≡ d ∷ (fraction ++ exponent) = cc in
    ap (λ l. begins is_ascii_digit (l ++ rest)) tails ∙ (and_parts (is_ascii_digit d) (list_all is_ascii_digit fraction) all_fraction).0
pointed_digit tail (w ∷ whole) fraction exponent rest spelled all_whole all_fraction some =
    let same : 46 ≡ w = cc in
    absurd (both_ways (is_ascii_digit 46) refl (ap is_ascii_digit same ∙ (and_parts (is_ascii_digit w) (list_all is_ascii_digit whole) all_whole).0))

point_no_digit : (tail run rest : List ℕ) → 46 ∷ tail ≡ run ++ rest → IsRun is_ascii_digit run → ⊥
point_no_digit tail [] rest split run = omega (arith, run.0)
point_no_digit tail (d ∷ run) rest split all =
    let same : 46 ≡ d = cc in
    both_ways (is_ascii_digit 46) refl (ap is_ascii_digit same ∙ (and_parts (is_ascii_digit d) (list_all is_ascii_digit run) all.1).0)

-- no Float begins with a point behind which no digit stands
pub no_float : (bytes tail rest : List ℕ) → begins is_ascii_digit bytes ≡ false → bytes ≡ tail ++ rest → IsFloat (46 ∷ tail) → ⊥
no_float bytes tail rest none split form =
    ⊎_elim
    (λ pointed.
    let n = pointed.0 in
    let spelled : 46 ∷ tail ≡ n.whole ++ (46 ∷ (n.fraction ++ form.exponent)) = form.spelled ∙ ap (λ l. l ++ form.exponent) n.spelled ∙ append_assoc n.whole (46 ∷ n.fraction) form.exponent in
    both_ways (begins is_ascii_digit bytes) none
    (ap (begins is_ascii_digit) split ∙ pointed_digit tail n.whole n.fraction form.exponent rest spelled n.whole_digits n.fraction_digits n.some_digit))
    (λ exponent. point_no_digit tail form.mantissa form.exponent form.spelled exponent.0)
    form.parts
