-- Texts that are numbers are those that are read as such.
use Rattle.std.proofs.Common.{◌≡◌, ℕ, zero, suc, ◌+◌, ◌<◌, ◌≤◌, ◌⊎◌, ⊎_elim, inl, inr, Bool, true, false, cond, ◌&&◌, ◌||◌, eqb, List, [], ◌∷◌, ◌++◌, length, refl, sym, ap, ap₂, ◌∙◌, subst, arith, length-append, SFits, w64}
use Rattle.std.proofs.lemmas.Bool.{cond-false, true≢false, eqb-true}
use Rattle.std.proofs.lemmas.Bool.Decides.{nat_tests}
use Rattle.std.specs.Prelude.{nat_lt, ℤ, pos, negsuc}
use Rattle.std.proofs.lemmas.Int.{ints}
use Rattle.std.specs.List.{list_all}
use Rattle.value_order.specs.declared.number.Form.{Form}
use Rattle.value_order.specs.declared.number.Form.TheVariants.{Integer as IntegerForm, Number}
use Rattle.value_order.specs.Conversion.{IsFitting, IsForm}
use Rattle.value_order.specs.Number.{AreBlanks, AreDigits, Fits, IsFraction, IsInteger, IsNumber, IsNumberEnd, IsSign, IsSigned, IsUnsigned, begins_minus, is_blank, is_digit, signed_number}
use Rattle.value_order.specs.Runs.{all_blanks, front, is_shorter, is_sign, past, past_point, past_sign, reads_end, reads_exponent, reads_signed, reads_unsigned}
use Rattle.value_order.proofs.Runs.{all_front, and_parts, front_through, past_all, past_through, past_twice, split, stops}

or_parts : (s t : Bool) → (s || t) ≡ true → (s ≡ true) ⊎ (t ≡ true)
or_parts true t h = inl refl
or_parts false t h = inr h

or_none : (s t : Bool) → (s || t) ≡ false → t ≡ false
or_none true t h = absurd (true≢false h)
or_none false t h = h

or_right : (s t : Bool) → t ≡ true → (s || t) ≡ true
or_right true t h = refl
or_right false t h = h

both : (s t : Bool) → s ≡ true → t ≡ true → (s && t) ≡ true
both s t h k = ap₂ (λ x y. x && y) h k

less_yes : (m n : ℕ) → m < n → nat_lt m n ≡ true
less_yes m n less = grind (arith, nat_tests)

less_from : (m n : ℕ) → nat_lt m n ≡ true → m < n
less_from m n yes_less = grind (arith, nat_tests)

zero_from : (n : ℕ) → eqb n 0 ≡ true → n ≡ 0
zero_from n same = eqb-true n 0 same

empty : (l : List ℕ) → length l ≡ 0 → l ≡ []
empty [] none = refl
empty (x ∷ l) none = absurd (omega arith)

digit_no_sign : (b : ℕ) → is_digit b ≡ true → is_sign b ≡ false
digit_no_sign b digit = grind (arith, nat_tests)

digit_no_blank : (b : ℕ) → is_digit b ≡ true → is_blank b ≡ false
digit_no_blank b digit = grind (arith, nat_tests)

blank_no_digit : (b : ℕ) → is_blank b ≡ true → is_digit b ≡ false
blank_no_digit b blank = grind (arith, nat_tests)

blank_no_point : (b : ℕ) → is_blank b ≡ true → eqb b 46 ≡ false
blank_no_point b blank = grind (arith, nat_tests)

abbrev is_point : ℕ → Bool
is_point b = eqb b 46

-- the sign in front
abbrev sign_at : List ℕ → List ℕ
sign_at [] = []
sign_at (b ∷ bytes) = cond (is_sign b) (b ∷ []) []

sign_split_cases : (b : ℕ) (bytes : List ℕ) (t : Bool) → b ∷ bytes ≡ cond t (b ∷ []) [] ++ cond t bytes (b ∷ bytes)
sign_split_cases b bytes true = refl
sign_split_cases b bytes false = refl

sign_split : (text : List ℕ) → text ≡ sign_at text ++ past_sign text
sign_split [] = refl
sign_split (b ∷ bytes) = sign_split_cases b bytes (is_sign b)

sign_is_cases : (b : ℕ) (t : Bool) → is_sign b ≡ t → IsSign (cond t (b ∷ []) [])
sign_is_cases b true is =
    ⊎_elim (λ e. inr (inl (ap (λ x. x ∷ []) (eqb-true b 43 e)))) (λ e. inr (inr (ap (λ x. x ∷ []) (eqb-true b 45 e)))) (or_parts (eqb b 43) (eqb b 45) is)
sign_is_cases b false is = inl refl

sign_is : (text : List ℕ) → IsSign (sign_at text)
sign_is [] = inl refl
sign_is (b ∷ bytes) = sign_is_cases b (is_sign b) refl

minus_cases : (b : ℕ) (t : Bool) → is_sign b ≡ t → begins_minus (cond t (b ∷ []) []) ≡ eqb b 45
minus_cases b true is = refl
minus_cases b false is = sym (or_none (eqb b 43) (eqb b 45) is)

minus_at : (text : List ℕ) → begins_minus (sign_at text) ≡ begins_minus text
minus_at [] = refl
minus_at (b ∷ bytes) = minus_cases b (is_sign b) refl

-- where no sign follows, the sign is what is taken
no_sign : (text : List ℕ) → stops is_sign text → past_sign text ≡ text
no_sign [] stop = refl
no_sign (b ∷ bytes) stop = cond-false (is_sign b) bytes (b ∷ bytes) stop

no_minus : (text : List ℕ) → stops is_sign text → begins_minus text ≡ false
no_minus [] stop = refl
no_minus (b ∷ bytes) stop = or_none (eqb b 43) (eqb b 45) stop

behind_sign : (sign text : List ℕ) → IsSign sign → stops is_sign text → past_sign (sign ++ text) ≡ text
behind_sign sign text (inl none) stop = ap (λ l. past_sign (l ++ text)) none ∙ no_sign text stop
behind_sign sign text (inr (inl plus)) stop = ap (λ l. past_sign (l ++ text)) plus
behind_sign sign text (inr (inr minus)) stop = ap (λ l. past_sign (l ++ text)) minus

minus_behind : (sign text : List ℕ) → IsSign sign → stops is_sign text → begins_minus (sign ++ text) ≡ begins_minus sign
minus_behind sign text (inl none) stop = ap (λ l. begins_minus (l ++ text)) none ∙ no_minus text stop ∙ sym (ap begins_minus none)
minus_behind sign text (inr (inl plus)) stop = ap (λ l. begins_minus (l ++ text)) plus ∙ sym (ap begins_minus plus)
minus_behind sign text (inr (inr minus)) stop = ap (λ l. begins_minus (l ++ text)) minus ∙ sym (ap begins_minus minus)

sign_no_blank : (sign text : List ℕ) → IsSign sign → stops is_blank text → stops is_blank (sign ++ text)
sign_no_blank sign text (inl none) stop = subst (λ l. stops is_blank (l ++ text)) (sym none) stop
sign_no_blank sign text (inr (inl plus)) stop = subst (λ l. stops is_blank (l ++ text)) (sym plus) refl
sign_no_blank sign text (inr (inr minus)) stop = subst (λ l. stops is_blank (l ++ text)) (sym minus) refl

digits_no_sign : (digits text : List ℕ) → 1 ≤ length digits → AreDigits digits → stops is_sign (digits ++ text)
digits_no_sign [] text some all = absurd (omega arith)
digits_no_sign (d ∷ digits) text some all = digit_no_sign d (and_parts (is_digit d) (list_all is_digit digits) all).0

digits_no_blank : (digits text : List ℕ) → 1 ≤ length digits → AreDigits digits → stops is_blank (digits ++ text)
digits_no_blank [] text some all = absurd (omega arith)
digits_no_blank (d ∷ digits) text some all = digit_no_blank d (and_parts (is_digit d) (list_all is_digit digits) all).0

blanks_no_digit : (text : List ℕ) → AreBlanks text → stops is_digit text
blanks_no_digit [] all = tt
blanks_no_digit (b ∷ text) all = blank_no_digit b (and_parts (is_blank b) (list_all is_blank text) all).0

blanks_no_point : (text : List ℕ) → AreBlanks text → stops is_point text
blanks_no_point [] all = tt
blanks_no_point (b ∷ text) all = blank_no_point b (and_parts (is_blank b) (list_all is_blank text) all).0

append_none : (l : List ℕ) → l ++ [] ≡ l
append_none [] = refl
append_none (x ∷ l) = ap (λ k. x ∷ k) (append_none l)

-- a text that is read as blanks is blanks
blanks_to : (text : List ℕ) → all_blanks text ≡ true → AreBlanks text
blanks_to text read =
    let none : past is_blank text ≡ [] = empty (past is_blank text) (zero_from (length (past is_blank text)) read) in
    let whole : text ≡ front is_blank text = split is_blank text ∙ ap (λ l. front is_blank text ++ l) none ∙ append_none (front is_blank text) in
    subst AreBlanks (sym whole) (all_front is_blank text)

blanks_from : (text : List ℕ) → AreBlanks text → all_blanks text ≡ true
blanks_from text all = ap (λ l. eqb (length l) 0) (past_all is_blank text all)

-- some byte has been read
some_read : (p : ℕ → Bool) (text : List ℕ) → is_shorter (past p text) text ≡ true → 1 ≤ length (front p text)
some_read p text shorter =
    let less : length (past p text) < length text = less_from (length (past p text)) (length text) shorter in
    let whole : length text ≡ length (front p text) + length (past p text) = ap length (split p text) ∙ length-append (front p text) (past p text) in
    omega arith

some_shorter : (xs ys : List ℕ) → 1 ≤ length xs → is_shorter ys (xs ++ ys) ≡ true
some_shorter xs ys some =
    let whole : length (xs ++ ys) ≡ length xs + length ys = length-append xs ys in
    less_yes (length ys) (length (xs ++ ys)) (omega arith)

-- a sign, digits and blanks
abbrev pub number_at : List ℕ → ℤ
number_at text = signed_number (begins_minus text) (front is_digit (past_sign text))

pub signed_to : (text : List ℕ) → reads_signed text ≡ true → IsSigned text (number_at text)
signed_to text read =
    let digits = past_sign text in
    let (shorter, blanks) = and_parts (is_shorter (past is_digit digits) digits) (all_blanks (past is_digit digits)) read in
    record {
      sign = sign_at text;
      digits = front is_digit digits;
      back = past is_digit digits;
      whole = sign_split text ∙ ap (λ l. sign_at text ++ l) (split is_digit digits);
      signed = sign_is text;
      some = some_read is_digit digits shorter;
      are_digits = all_front is_digit digits;
      are_blanks = blanks_to (past is_digit digits) blanks;
      value = ap (λ m. signed_number m (front is_digit digits)) (sym (minus_at text));
    }

abbrev reads_digits : List ℕ → Bool
reads_digits digits = is_shorter (past is_digit digits) digits && all_blanks (past is_digit digits)

digits_from : (digits back : List ℕ) → 1 ≤ length digits → AreDigits digits → AreBlanks back → reads_digits (digits ++ back) ≡ true
digits_from digits back some all blanks =
    let rest : past is_digit (digits ++ back) ≡ back = past_through is_digit digits back all (blanks_no_digit back blanks) in
    ap (λ l. is_shorter l (digits ++ back) && all_blanks l) rest
    ∙ both (is_shorter back (digits ++ back)) (all_blanks back) (some_shorter digits back some) (blanks_from back blanks)

behind_its_sign : (text : List ℕ) (z : ℤ) (s : IsSigned text z) → past_sign text ≡ s.digits ++ s.back
behind_its_sign text z s =
    ap past_sign s.whole ∙ behind_sign s.sign (s.digits ++ s.back) s.signed (digits_no_sign s.digits s.back s.some s.are_digits)

pub signed_from : (text : List ℕ) (z : ℤ) → IsSigned text z → reads_signed text ≡ true
signed_from text z s = ap reads_digits (behind_its_sign text z s) ∙ digits_from s.digits s.back s.some s.are_digits s.are_blanks

pub its_number : (text : List ℕ) (z : ℤ) → IsSigned text z → z ≡ number_at text
its_number text z s =
    s.value
    ∙ ap₂ signed_number
    (sym (minus_behind s.sign (s.digits ++ s.back) s.signed (digits_no_sign s.digits s.back s.some s.are_digits)) ∙ ap begins_minus (sym s.whole))
    (sym (front_through is_digit s.digits s.back s.are_digits (blanks_no_digit s.back s.are_blanks))
    ∙ ap (front is_digit) (sym (behind_its_sign text z s)))

-- an exponent, if any, and blanks
exponent_to : (text : List ℕ) → reads_exponent text ≡ true → IsNumberEnd text
exponent_to [] read = absurd (true≢false (sym read))
exponent_to (e ∷ exponent) read =
    let (letter, signed) = and_parts (eqb e 101 || eqb e 69) (reads_signed exponent) read in
    inr (
      e,
      exponent,
      number_at exponent,
      refl,
      ⊎_elim (λ h. inl (eqb-true e 101 h)) (λ h. inr (eqb-true e 69 h)) (or_parts (eqb e 101) (eqb e 69) letter),
      signed_to exponent signed,
    )

end_to : (text : List ℕ) → reads_end text ≡ true → IsNumberEnd text
end_to text read =
    ⊎_elim (λ h. inl (blanks_to text h)) (λ h. exponent_to text h) (or_parts (all_blanks text) (reads_exponent text) read)

letter_is : (e : ℕ) → (e ≡ 101) ⊎ (e ≡ 69) → (eqb e 101 || eqb e 69) ≡ true
letter_is e (inl small) = ap (λ x. eqb x 101 || eqb x 69) small
letter_is e (inr large) = ap (λ x. eqb x 101 || eqb x 69) large

end_from : (text : List ℕ) → IsNumberEnd text → reads_end text ≡ true
end_from text (inl blanks) = ap (λ s. s || reads_exponent text) (blanks_from text blanks)
end_from text (inr (e, exponent, z, whole, letter, signed)) =
    or_right (all_blanks text) (reads_exponent text)
    (ap reads_exponent whole ∙ both (eqb e 101 || eqb e 69) (reads_signed exponent) (letter_is e letter) (signed_from exponent z signed))

end_no_digit : (text : List ℕ) → IsNumberEnd text → stops is_digit text
end_no_digit text (inl blanks) = blanks_no_digit text blanks
end_no_digit text (inr (e, exponent, z, whole, inl letter, signed)) = subst (stops is_digit) (sym whole) (ap is_digit letter)
end_no_digit text (inr (e, exponent, z, whole, inr letter, signed)) = subst (stops is_digit) (sym whole) (ap is_digit letter)

end_no_point : (text : List ℕ) → IsNumberEnd text → stops is_point text
end_no_point text (inl blanks) = blanks_no_point text blanks
end_no_point text (inr (e, exponent, z, whole, inl letter, signed)) = subst (stops is_point) (sym whole) (ap is_point letter)
end_no_point text (inr (e, exponent, z, whole, inr letter, signed)) = subst (stops is_point) (sym whole) (ap is_point letter)

-- a point and digits, if any
record HasFractionBy (text rest : List ℕ) : Type 0 where
  fraction : List ℕ
  digits : List ℕ
  whole : text ≡ fraction ++ past is_digit rest
  fraction_is : IsFraction fraction digits
  some : is_shorter (past is_digit rest) rest ≡ true → 1 ≤ length digits

fraction_cases : (b : ℕ) (bytes : List ℕ) (t : Bool) → eqb b 46 ≡ t → past is_digit (b ∷ bytes) ≡ b ∷ bytes
    → HasFractionBy (b ∷ bytes) (cond t bytes (b ∷ bytes))
fraction_cases b bytes true is stop = record {
  fraction = b ∷ front is_digit bytes;
  digits = front is_digit bytes;
  whole = ap (λ l. b ∷ l) (split is_digit bytes);
  fraction_is = inr (ap (λ x. x ∷ front is_digit bytes) (eqb-true b 46 is), all_front is_digit bytes);
  some = some_read is_digit bytes;
}
fraction_cases b bytes false is stop = record {
  fraction = [];
  digits = [];
  whole = sym stop;
  fraction_is = inl (refl, refl);
  some = λ shorter.
      let less : length (past is_digit (b ∷ bytes)) < length (b ∷ bytes) = less_from (length (past is_digit (b ∷ bytes))) (length (b ∷ bytes)) shorter in
      let same : length (past is_digit (b ∷ bytes)) ≡ length (b ∷ bytes) = ap length stop in
      absurd (omega arith);
}

fraction_by : (text : List ℕ) → past is_digit text ≡ text → HasFractionBy text (past_point text)
fraction_by [] stop = record {
  fraction = [];
  digits = [];
  whole = refl;
  fraction_is = inl (refl, refl);
  some = λ shorter. absurd (true≢false (sym shorter));
}
fraction_by (b ∷ bytes) stop = fraction_cases b bytes (eqb b 46) refl stop

-- digits with a point, if any, and an end
pub unsigned_to : (text : List ℕ) → reads_unsigned text ≡ true → IsUnsigned text
unsigned_to text read =
    let whole = past is_digit text in
    let rest = past_point whole in
    let f = fraction_by whole (past_twice is_digit text) in
    let (some, ends) = and_parts (is_shorter whole text || is_shorter (past is_digit rest) rest) (reads_end (past is_digit rest)) read in
    record {
      digits = front is_digit text;
      fraction = f.fraction;
      more_digits = f.digits;
      back = past is_digit rest;
      whole = split is_digit text ∙ ap (λ l. front is_digit text ++ l) f.whole;
      are_digits = all_front is_digit text;
      fraction_is = f.fraction_is;
      some = ⊎_elim
          (λ h. let one : 1 ≤ length (front is_digit text) = some_read is_digit text h in omega arith)
          (λ h. let one : 1 ≤ length f.digits = f.some h in omega arith)
          (or_parts (is_shorter whole text) (is_shorter (past is_digit rest) rest) some);
      ends = end_to (past is_digit rest) ends;
    }

no_point : (text : List ℕ) → stops is_point text → past_point text ≡ text
no_point [] stop = refl
no_point (b ∷ bytes) stop = cond-false (eqb b 46) bytes (b ∷ bytes) stop

fraction_no_digit : (fraction digits back : List ℕ) → IsFraction fraction digits → IsNumberEnd back → stops is_digit (fraction ++ back)
fraction_no_digit fraction digits back (inl none) ends = subst (λ l. stops is_digit (l ++ back)) (sym none.0) (end_no_digit back ends)
fraction_no_digit fraction digits back (inr some) ends = subst (λ l. stops is_digit (l ++ back)) (sym some.0) refl

behind_point : (fraction digits back : List ℕ) → IsFraction fraction digits → IsNumberEnd back → past_point (fraction ++ back) ≡ digits ++ back
behind_point fraction digits back (inl none) ends =
    ap (λ l. past_point (l ++ back)) none.0 ∙ no_point back (end_no_point back ends) ∙ ap (λ l. l ++ back) (sym none.1)
behind_point fraction digits back (inr some) ends = ap (λ l. past_point (l ++ back)) some.0

are_digits_of : (fraction digits : List ℕ) → IsFraction fraction digits → AreDigits digits
are_digits_of fraction digits (inl none) = subst AreDigits (sym none.1) refl
are_digits_of fraction digits (inr some) = some.1

some_digit : (m n : ℕ) → 1 ≤ m + n → (1 ≤ m) ⊎ (1 ≤ n)
some_digit zero n some = inr (omega arith)
some_digit (suc m) n some = inl (omega arith)

abbrev reads_rest : List ℕ → List ℕ → List ℕ → List ℕ → Bool
reads_rest text whole rest back = (is_shorter whole text || is_shorter back rest) && reads_end back

pub unsigned_from : (text : List ℕ) → IsUnsigned text → reads_unsigned text ≡ true
unsigned_from text u =
    let more = u.fraction ++ u.back in
    let first : past is_digit text ≡ more =
    ap (past is_digit) u.whole ∙ past_through is_digit u.digits more u.are_digits (fraction_no_digit u.fraction u.more_digits u.back u.fraction_is u.ends) in
    let rest : past_point (past is_digit text) ≡ u.more_digits ++ u.back =
    ap past_point first ∙ behind_point u.fraction u.more_digits u.back u.fraction_is u.ends in
    let back : past is_digit (past_point (past is_digit text)) ≡ u.back =
    ap (past is_digit) rest
    ∙ past_through is_digit u.more_digits u.back (are_digits_of u.fraction u.more_digits u.fraction_is) (end_no_digit u.back u.ends) in
    ap (λ l. reads_rest text l (past_point (past is_digit text)) (past is_digit (past_point (past is_digit text)))) first
    ∙ ap (λ l. reads_rest text more l (past is_digit (past_point (past is_digit text)))) rest
    ∙ ap (λ l. reads_rest text more (u.more_digits ++ u.back) l) back
    ∙ both (is_shorter more text || is_shorter u.back (u.more_digits ++ u.back)) (reads_end u.back)
    (⊎_elim
    (λ h. ap (λ s. s || is_shorter u.back (u.more_digits ++ u.back)) (ap (is_shorter more) u.whole ∙ some_shorter u.digits more h))
    (λ h. or_right (is_shorter more text) (is_shorter u.back (u.more_digits ++ u.back)) (some_shorter u.more_digits u.back h))
    (some_digit (length u.digits) (length u.more_digits) u.some))
    (end_from u.back u.ends)

-- the whole text
pub number_to : (text : List ℕ) → reads_unsigned (past_sign (past is_blank text)) ≡ true → IsNumber text
number_to text read =
    let number = past is_blank text in
    record {
      front = front is_blank text;
      sign = sign_at number;
      number = past_sign number;
      whole = split is_blank text ∙ ap (λ l. front is_blank text ++ l) (sign_split number);
      are_blanks = all_front is_blank text;
      signed = sign_is number;
      unsigned = unsigned_to (past_sign number) read;
    }

-- the text begins with a digit or a point
abbrev begins_number : List ℕ → Type 0
begins_number [] = ⊥
begins_number (b ∷ bytes) = (is_digit b ≡ true) ⊎ (b ≡ 46)

begins_fraction : (fraction digits back : List ℕ) → IsFraction fraction digits → 1 ≤ length digits → begins_number (fraction ++ back)
begins_fraction fraction digits back (inl none) some = let zero_len : length digits ≡ 0 = ap length none.1 in absurd (omega arith)
begins_fraction fraction digits back (inr point) some = subst (λ l. begins_number (l ++ back)) (sym point.0) (inr refl)

begins_parts : (digits fraction more back : List ℕ) → AreDigits digits → IsFraction fraction more → 1 ≤ length digits + length more
    → begins_number (digits ++ (fraction ++ back))
begins_parts [] fraction more back all is some = begins_fraction fraction more back is (omega arith)
begins_parts (d ∷ digits) fraction more back all is some = inl (and_parts (is_digit d) (list_all is_digit digits) all).0

begins : (text : List ℕ) → IsUnsigned text → begins_number text
begins text u = subst begins_number (sym u.whole) (begins_parts u.digits u.fraction u.more_digits u.back u.are_digits u.fraction_is u.some)

begins_no_sign : (text : List ℕ) → begins_number text → stops is_sign text
begins_no_sign [] start = absurd start
begins_no_sign (b ∷ text) (inl digit) = digit_no_sign b digit
begins_no_sign (b ∷ text) (inr point) = ap is_sign point

begins_no_blank : (text : List ℕ) → begins_number text → stops is_blank text
begins_no_blank [] start = absurd start
begins_no_blank (b ∷ text) (inl digit) = digit_no_blank b digit
begins_no_blank (b ∷ text) (inr point) = ap is_blank point

pub number_from : (text : List ℕ) → IsNumber text → reads_unsigned (past_sign (past is_blank text)) ≡ true
number_from text n =
    let start : begins_number n.number = begins n.number n.unsigned in
    let first : past is_blank text ≡ n.sign ++ n.number =
    ap (past is_blank) n.whole
    ∙ past_through is_blank n.front (n.sign ++ n.number) n.are_blanks (sign_no_blank n.sign n.number n.signed (begins_no_blank n.number start)) in
    ap (λ l. reads_unsigned (past_sign l)) first
    ∙ ap reads_unsigned (behind_sign n.sign n.number n.signed (begins_no_sign n.number start))
    ∙ unsigned_from n.number n.unsigned

pub integer_to : (text : List ℕ) → reads_signed (past is_blank text) ≡ true → IsInteger text (number_at (past is_blank text))
integer_to text read = record {
  front = front is_blank text;
  number = past is_blank text;
  whole = split is_blank text;
  are_blanks = all_front is_blank text;
  signed = signed_to (past is_blank text) read;
}

signed_no_blank : (text : List ℕ) (z : ℤ) → IsSigned text z → stops is_blank text
signed_no_blank text z s =
    subst (stops is_blank) (sym s.whole)
    (sign_no_blank s.sign (s.digits ++ s.back) s.signed (digits_no_blank s.digits s.back s.some s.are_digits))

behind_blanks : (text : List ℕ) (z : ℤ) (i : IsInteger text z) → past is_blank text ≡ i.number
behind_blanks text z i =
    ap (past is_blank) i.whole ∙ past_through is_blank i.front i.number i.are_blanks (signed_no_blank i.number z i.signed)

pub integer_from : (text : List ℕ) (z : ℤ) → IsInteger text z → reads_signed (past is_blank text) ≡ true
integer_from text z i = ap reads_signed (behind_blanks text z i) ∙ signed_from i.number z i.signed

pub one_integer : (text : List ℕ) (z : ℤ) → IsInteger text z → z ≡ number_at (past is_blank text)
one_integer text z i = its_number i.number z i.signed ∙ ap number_at (sym (behind_blanks text z i))

-- an integer is a number
pub integer_number : (text : List ℕ) (z : ℤ) → IsInteger text z → IsNumber text
integer_number text z i = record {
  front = i.front;
  sign = i.signed.sign;
  number = i.signed.digits ++ i.signed.back;
  whole = i.whole ∙ ap (λ l. i.front ++ l) i.signed.whole;
  are_blanks = i.are_blanks;
  signed = i.signed.signed;
  unsigned = record {
    digits = i.signed.digits;
    fraction = [];
    more_digits = [];
    back = i.signed.back;
    whole = refl;
    are_digits = i.signed.are_digits;
    fraction_is = inl (refl, refl);
    some = let one : 1 ≤ length i.signed.digits = i.signed.some in omega arith;
    ends = inl i.signed.are_blanks;
  };
}

pub fitting_number : (text : List ℕ) (z : ℤ) → IsFitting text z → IsNumber text
fitting_number text z f = integer_number text z f.integer

pub sfits : (z : ℤ) → Fits z → SFits w64 z
sfits (pos n) fits = omega (arith, ints)
sfits (negsuc n) fits = omega (arith, ints)

-- what is found out to be a number, an integer or another one, is a number
pub form_number : (form : Form) (text : List ℕ) → ((z : ℤ) × (form ≡ IntegerForm z)) ⊎ (form ≡ Number) → IsForm form text → IsNumber text
form_number form text (inl (z, is)) found = fitting_number text z (subst (λ f. IsForm f text) is found)
form_number form text (inr is) found = (subst (λ f. IsForm f text) is found).0
