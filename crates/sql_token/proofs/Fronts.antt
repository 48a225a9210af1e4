-- The token in front of some bytes: what it means that it is there, and that none is.
use Rattle.std.proofs.Common.{◌≡◌, ℕ, ◌<◌, ◌≤◌, ◌||◌, ◌&&◌, Bool, true, false, List, [], ◌∷◌, ◌++◌, ◌⊎◌, ⊎_elim, inl, inr, Option, Some, None, length, nat_le, eqb, arith, refl, sym, ap, subst, ◌∙◌}
use Rattle.std.specs.Char.{is_ascii_digit}
use Rattle.std.specs.List.{list_all}
use Rattle.std.proofs.lemmas.Bool.{and_parts, and_from, or_cases, cond-true, cond-false, cond_both, cases_Bool, cases_lt, leb-true, eqb-true, both_ways, agree_below_at}
use Rattle.std.proofs.lemmas.List.{append_assoc, append_cancel_left, length-append}
use Rattle.common_laws.proofs.Each.{in_list}
use Rattle.common_laws.proofs.Lists.{same_front}
use Rattle.sql_token.specs.declared.class.Class.{Class}
use Rattle.sql_token.specs.declared.class.Class.TheVariants.{Letter, Digit, Point, Apostrophe, Sign, Bracket, Other}
use Rattle.sql_token.specs.declared.token.TokenKind.{TokenKind}
use Rattle.sql_token.specs.declared.token.TokenKind.TheVariants.{Word, Quoted, Str, Blob, Int, Hex, Float, Op}
use Rattle.sql_token.specs.Byte.{starts_word}
use Rattle.sql_token.specs.Form.{IsForm, IsFloat, IsQuotedName, operators, is_operator}
use Rattle.sql_token.specs.Scan.{class_of, of_kind}
use Rattle.sql_token.specs.Token.{is_spoiled}

-- no form in front is longer, and only one kind has a form so long
abbrev pub Most : List ℕ → TokenKind → ℕ → Type 0
Most bytes kind len = (other : TokenKind) (front rest : List ℕ) → bytes ≡ front ++ rest → IsForm other front → (length front < len) ⊎ ((length front ≡ len) × (other ≡ kind))

-- the longest form in front
pub record IsBest (bytes : List ℕ) (kind : TokenKind) (len : ℕ) : Type 0 where
  pub front : List ℕ
  pub rest : List ℕ
  pub split : bytes ≡ front ++ rest
  pub length_is : length front ≡ len
  pub form : IsForm kind front
  pub most : Most bytes kind len

-- the token in front
pub record IsFront (bytes : List ℕ) (kind : TokenKind) (len : ℕ) : Type 0 where
  pub best : IsBest bytes kind len
  pub closed : is_spoiled kind best.front best.rest ≡ false

-- no form in front is longer
abbrev pub Longest : List ℕ → List ℕ → Type 0
Longest bytes front = (other : TokenKind) (longer rest : List ℕ) → bytes ≡ longer ++ rest → length front < length longer → IsForm other longer → ⊥

-- no token is in front
abbrev pub NoFront : List ℕ → Type 0
NoFront bytes = (kind : TokenKind) (front rest : List ℕ) → bytes ≡ front ++ rest → IsForm kind front → is_spoiled kind front rest ≡ false → Longest bytes front → ⊥

-- what an answer says of the bytes
abbrev pub Tells : List ℕ → Option (TokenKind × ℕ) → Type 0
Tells bytes None = NoFront bytes
Tells bytes (Some found) = IsFront bytes found.0 found.1

-- the longest form, spoiled by what stands behind it, leaves no token
pub spoiled_none : (bytes : List ℕ) (kind : TokenKind) (len : ℕ) (best : IsBest bytes kind len) → is_spoiled kind best.front best.rest ≡ true → NoFront bytes
spoiled_none bytes kind len best spoiled other front rest split form closed longest =
    ⊎_elim
    (λ shorter. longest kind best.front best.rest best.split (omega (arith, best.length_is)) best.form)
    (λ same.
    let fronts : front ≡ best.front = same_front front best.front rest best.rest (sym split ∙ best.split) (omega (arith, same.0, best.length_is)) in
    let rests : rest ≡ best.rest = append_cancel_left front rest best.rest (sym split ∙ best.split ∙ ap (λ l. l ++ best.rest) (sym fronts)) in
    both_ways (is_spoiled other front rest) closed (subst (λ k. is_spoiled k front rest ≡ true) (sym same.1) (subst (λ l. is_spoiled kind l rest ≡ true) (sym fronts) (subst (λ l. is_spoiled kind best.front l ≡ true) (sym rests) spoiled))))
    (best.most other front rest split form)

-- what a byte of the class is
abbrev pub IsOfClass : Class → ℕ → Type 0
IsOfClass Letter b = starts_word b ≡ true
IsOfClass Digit b = is_ascii_digit b ≡ true
IsOfClass Point b = b ≡ 46
IsOfClass Apostrophe b = b ≡ 39
IsOfClass Sign b = (b ≡ 34) ⊎ (b ≡ 96)
IsOfClass Bracket b = b ≡ 91
IsOfClass Other b = Unit {0}

pub is_of_class : (b : ℕ) → IsOfClass (class_of b) b
is_of_class b =
    cond_both (starts_word b) _ _ (λ c. IsOfClass c b) (λ h. h) (λ _.
    cond_both (is_ascii_digit b) _ _ (λ c. IsOfClass c b) (λ h. h) (λ _.
    cond_both (eqb b 46) _ _ (λ c. IsOfClass c b) (λ h. eqb-true b 46 h) (λ _.
    cond_both (eqb b 39) _ _ (λ c. IsOfClass c b) (λ h. eqb-true b 39 h) (λ _.
    cond_both (eqb b 34 || eqb b 96) _ _ (λ c. IsOfClass c b) (λ h. ⊎_elim (λ x. inl (eqb-true b 34 x)) (λ x. inr (eqb-true b 96 x)) (or_cases (eqb b 34) (eqb b 96) h)) (λ _.
    cond_both (eqb b 91) _ _ (λ c. IsOfClass c b) (λ h. eqb-true b 91 h) (λ _. tt))))))

-- a token of the kind may begin with a byte of the class
abbrev pub Suits : TokenKind → Class → Type 0
Suits Word Letter = Unit {0}
Suits Blob Letter = Unit {0}
Suits Int Digit = Unit {0}
Suits Hex Digit = Unit {0}
Suits Float Digit = Unit {0}
Suits Float Point = Unit {0}
Suits Op Point = Unit {0}
Suits Str Apostrophe = Unit {0}
Suits Quoted Sign = Unit {0}
Suits Quoted Bracket = Unit {0}
Suits Op Other = Unit {0}
Suits _ _ = ⊥

-- a digit begins no Word
digit_apart : (b : ℕ) → is_ascii_digit b ≡ true → starts_word b ≡ false
digit_apart b digit =
    let low = leb-true b 57 (and_parts (nat_le 48 b) (nat_le b 57) digit).1 in
    ⊎_elim
    (λ starts. absurd (both_ways (is_ascii_digit b && starts_word b) (agree_below_at (λ k. is_ascii_digit k && starts_word k) (λ _. false) 58 b refl (omega arith)) (and_from (is_ascii_digit b) (starts_word b) digit starts)))
    (λ other. other)
    (cases_Bool (starts_word b))

pub class_of-digit : (b : ℕ) → is_ascii_digit b ≡ true → class_of b ≡ Digit
class_of-digit b digit = cond-false (starts_word b) _ _ (digit_apart b digit) ∙ cond-true (is_ascii_digit b) _ _ digit

-- a test that each operator passes
pub operator_passes : (q : List ℕ → Bool) (bytes : List ℕ) → list_all q operators ≡ true → is_operator bytes ≡ true → q bytes ≡ true
operator_passes q bytes all one = in_list q bytes operators all one

-- the class that may begin an operator
is_operator_class : Class → Bool
is_operator_class Point = true
is_operator_class Other = true
is_operator_class _ = false

-- the first byte of an operator, as a test
begins_operator : List ℕ → Bool
begins_operator [] = false
begins_operator (b ∷ bytes) = is_operator_class (class_of b)

all_begin : list_all begins_operator operators ≡ true
unfolding begins_operator is_operator_class
all_begin = refl

suits_operator : (c : Class) → is_operator_class c ≡ true → Suits Op c
unfolding is_operator_class
suits_operator Letter is = absurd (cc)
suits_operator Digit is = absurd (cc)
suits_operator Point is = tt
suits_operator Apostrophe is = absurd (cc)
suits_operator Sign is = absurd (cc)
suits_operator Bracket is = absurd (cc)
suits_operator Other is = tt

quoted_not_empty : (name : List ℕ) → IsQuotedName [] name → ⊥
quoted_not_empty name form =
    ⊎_elim (λ e. absurd (cc)) (λ other. ⊎_elim (λ e. absurd (cc)) (λ bracket. let e = bracket.spelled in absurd (cc)) other) form

float_not_empty : IsFloat [] → ⊥
float_not_empty form =
    let lengths = ap length form.spelled ∙ length-append form.mantissa form.exponent in
    ⊎_elim
    (λ pointed. let inner = ap length pointed.0.spelled ∙ length-append pointed.0.whole (46 ∷ pointed.0.fraction) in omega arith)
    (λ exponent. let positive = exponent.0.0 in omega arith)
    form.parts

-- no form is empty
pub not_empty : (kind : TokenKind) → IsForm kind [] → ⊥
not_empty Word form = form
not_empty Quoted form = quoted_not_empty form.0 form.1
not_empty Str form = let e = form.1 in absurd (cc)
not_empty Blob form = let e = form.spelled in absurd (cc)
not_empty Int form = omega (arith, form.0)
not_empty Hex form = let e = form.spelled in absurd (cc)
not_empty Float form = float_not_empty form
not_empty Op form = absurd (cc)

-- so a form has a byte
pub form_positive : (kind : TokenKind) (front : List ℕ) → IsForm kind front → 0 < length front
form_positive kind [] form = absurd (not_empty kind form)
form_positive kind (b ∷ front) form = omega arith

suits_quoted : (b : ℕ) (bytes name : List ℕ) → IsQuotedName (b ∷ bytes) name → Suits Quoted (class_of b)
suits_quoted b bytes name form =
    ⊎_elim
    (λ spelled. let same : b ≡ 34 = cc in subst (λ k. Suits Quoted (class_of k)) (sym same) tt)
    (λ other. ⊎_elim
    (λ spelled. let same : b ≡ 96 = cc in subst (λ k. Suits Quoted (class_of k)) (sym same) tt)
    (λ bracket. let spelled = bracket.spelled in let same : b ≡ 91 = cc in subst (λ k. Suits Quoted (class_of k)) (sym same) tt)
    other)
    form

suits_digit : (b : ℕ) → is_ascii_digit b ≡ true → Suits Float (class_of b)
suits_digit b digit = subst (Suits Float) (sym (class_of-digit b digit)) tt

-- the first byte of joined bytes, the first of which are digits and not none
first_digit : (b : ℕ) (bytes run rest : List ℕ) → b ∷ bytes ≡ run ++ rest → list_all is_ascii_digit run ≡ true → 0 < length run → is_ascii_digit b ≡ true
first_digit b bytes [] rest split all positive = absurd (omega arith)
first_digit b bytes (d ∷ run) rest split all positive =
    let same : b ≡ d = cc in
    ap is_ascii_digit same ∙ (and_parts (is_ascii_digit d) (list_all is_ascii_digit run) all).0

-- digits and then a point
suits_pointed : (b : ℕ) (bytes whole rest : List ℕ) → b ∷ bytes ≡ whole ++ 46 ∷ rest → list_all is_ascii_digit whole ≡ true → Suits Float (class_of b)
suits_pointed b bytes [] rest split all = let same : b ≡ 46 = cc in subst (λ k. Suits Float (class_of k)) (sym same) tt
suits_pointed b bytes (d ∷ whole) rest split all = suits_digit b (first_digit b bytes (d ∷ whole) (46 ∷ rest) split all (omega arith))

suits_float : (b : ℕ) (bytes : List ℕ) → IsFloat (b ∷ bytes) → Suits Float (class_of b)
suits_float b bytes form =
    ⊎_elim
    (λ pointed. let number = pointed.0 in
    suits_pointed b bytes number.whole (number.fraction ++ form.exponent)
    (form.spelled ∙ ap (λ l. l ++ form.exponent) number.spelled ∙ append_assoc number.whole (46 ∷ number.fraction) form.exponent) number.whole_digits)
    (λ exponent. suits_digit b (first_digit b bytes form.mantissa form.exponent form.spelled exponent.0.1 exponent.0.0))
    form.parts

-- a form begins with a byte of a class that suits its kind
pub suits : (kind : TokenKind) (b : ℕ) (bytes : List ℕ) → IsForm kind (b ∷ bytes) → Suits kind (class_of b)
unfolding begins_operator
suits Word b bytes form = subst (Suits Word) (sym (cond-true (starts_word b) Letter _ form.0)) tt
suits Quoted b bytes form = suits_quoted b bytes form.0 form.1
suits Str b bytes form = let spelled = form.1 in let same : b ≡ 39 = cc in subst (λ k. Suits Str (class_of k)) (sym same) tt
suits Blob b bytes form =
    let spelled = form.spelled in
    let same : b ≡ form.x = cc in
    subst (λ k. Suits Blob (class_of k)) (sym same)
    (⊎_elim (λ low. subst (λ k. Suits Blob (class_of k)) (sym (eqb-true form.x 120 low)) tt) (λ high. subst (λ k. Suits Blob (class_of k)) (sym (eqb-true form.x 88 high)) tt) (or_cases (eqb form.x 120) (eqb form.x 88) form.marked))
suits Int b bytes form = subst (Suits Int) (sym (class_of-digit b (and_parts (is_ascii_digit b) (list_all is_ascii_digit bytes) form.1).0)) tt
suits Hex b bytes form = let spelled = form.spelled in let same : b ≡ 48 = cc in subst (λ k. Suits Hex (class_of k)) (sym same) tt
suits Float b bytes form = suits_float b bytes form
suits Op b bytes form = suits_operator (class_of b) (operator_passes begins_operator (b ∷ bytes) all_begin form)

-- what holds of each form that begins with a byte of the class holds of each form in front
pub led : (P : TokenKind → List ℕ → List ℕ → Type 0) (b : ℕ) (bytes : List ℕ) (class : Class) → class_of b ≡ class
    → ((kind : TokenKind) (tail rest : List ℕ) → bytes ≡ tail ++ rest → Suits kind class → IsForm kind (b ∷ tail) → P kind (b ∷ tail) rest)
    → (kind : TokenKind) (front rest : List ℕ) → b ∷ bytes ≡ front ++ rest → IsForm kind front → P kind front rest
led P b bytes class is each kind [] rest split form = absurd (not_empty kind form)
led P b bytes class is each kind (c ∷ tail) rest split form =
    let heads : b ≡ c = cc in
    let tails : bytes ≡ tail ++ rest = cc in
    subst (λ k. P kind (k ∷ tail) rest) heads
    (each kind tail rest tails (subst (Suits kind) is (suits kind b tail (subst (λ k. IsForm kind (k ∷ tail)) (sym heads) form))) (subst (λ k. IsForm kind (k ∷ tail)) (sym heads) form))

-- the token by the length that its kind's function gives
abbrev pub TellsLength : List ℕ → TokenKind → Option ℕ → Type 0
TellsLength bytes kind None = NoFront bytes
TellsLength bytes kind (Some len) = IsFront bytes kind len

pub of_kind_tells : (bytes : List ℕ) (kind : TokenKind) (len : Option ℕ) → TellsLength bytes kind len → Tells bytes (of_kind kind len)
of_kind_tells bytes kind None tells = tells
of_kind_tells bytes kind (Some len) tells = tells

-- a form that is no longer is shorter, or the longest
pub shorter_or_same : (kind : TokenKind) (m n : ℕ) → m ≤ n → (m < n) ⊎ ((m ≡ n) × (kind ≡ kind))
shorter_or_same kind m n most = ⊎_elim (λ less. inl less) (λ more. inr (omega arith, refl)) (cases_lt m n)
