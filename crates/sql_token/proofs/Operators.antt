-- An operator in front.
use Rattle.std.proofs.Common.{◌≡◌, ℕ, ◌<◌, ◌≤◌, ◌&&◌, Bool, true, false, List, ◌∷◌, ◌++◌, ◌⊎◌, ⊎_elim, inl, inr, length, take, drop, leb, arith, refl, sym, ap, subst, ◌∙◌}
use Rattle.std.specs.Char.{is_ascii_digit}
use Rattle.std.specs.List.{list_all}
use Rattle.std.proofs.lemmas.Bool.{and_parts, and_from, cond_both, cases_lt, leb-true, le-leb, both_ways}
use Rattle.std.proofs.lemmas.List.{length-append, length-take-le, take-append-drop, take_at}
use Rattle.sql_token.specs.declared.class.Class.{Class}
use Rattle.sql_token.specs.declared.class.Class.TheVariants.{Point, Other}
use Rattle.sql_token.specs.declared.token.TokenKind.{TokenKind}
use Rattle.sql_token.specs.declared.token.TokenKind.TheVariants.{Word, Quoted, Str, Blob, Int, Hex, Float, Op}
use Rattle.sql_token.specs.Byte.{begins}
use Rattle.sql_token.specs.Form.{IsForm, operators, is_operator}
use Rattle.sql_token.specs.Scan.{class_of, has_operator, operator_len}
use Rattle.sql_token.specs.Token.{is_spoiled}
use Rattle.sql_token.proofs.Fronts.{Longest, NoFront, IsFront, TellsLength, Suits, led, shorter_or_same, operator_passes}
use Rattle.sql_token.proofs.Numbers.{no_float}

-- an operator has one to three bytes
is_short : List ℕ → Bool
is_short bytes = leb 1 (length bytes) && leb (length bytes) 3

all_short : list_all is_short operators ≡ true
unfolding is_short
all_short = refl

short_operator : (bytes : List ℕ) → is_operator bytes ≡ true → (1 ≤ length bytes) × (length bytes ≤ 3)
unfolding is_short
short_operator bytes form =
    let parts = and_parts (leb 1 (length bytes)) (leb (length bytes) 3) (operator_passes is_short bytes all_short form) in
    (leb-true 1 (length bytes) parts.0, leb-true (length bytes) 3 parts.1)

-- an operator in front is found at its length
has_operator-at : (bytes front rest : List ℕ) → bytes ≡ front ++ rest → is_operator front ≡ true → has_operator (length front) bytes ≡ true
has_operator-at bytes front rest split form =
    and_from (leb (length front) (length bytes)) (is_operator (take (length front) bytes))
    (le-leb (length front) (length bytes) (omega (arith, ap length split, length-append front rest)))
    (ap is_operator (ap (take (length front)) split ∙ take_at front rest (length front) refl) ∙ form)

-- no form but an operator's begins here
abbrev pub OnlyOperators : ℕ → List ℕ → Class → Type 0
OnlyOperators b bytes class = (kind : TokenKind) (tail rest : List ℕ) → bytes ≡ tail ++ rest → Suits kind class → IsForm kind (b ∷ tail) → kind ≡ Op

some_operator : (b : ℕ) (bytes : List ℕ) (class : Class) (n : ℕ) → class_of b ≡ class → OnlyOperators b bytes class → has_operator n (b ∷ bytes) ≡ true
    → ((m : ℕ) → n < m → m ≤ 3 → has_operator m (b ∷ bytes) ≡ false) → IsFront (b ∷ bytes) Op n
some_operator b bytes class n is only found longer =
    let parts = and_parts (leb n (length (b ∷ bytes))) (is_operator (take n (b ∷ bytes))) found in
    record {
      best = record {
        front = take n (b ∷ bytes);
        rest = drop n (b ∷ bytes);
        split = sym (take-append-drop n (b ∷ bytes));
        length_is = length-take-le n (b ∷ bytes) (leb-true n (length (b ∷ bytes)) parts.0);
        form = parts.1;
        most = led (λ kind front rest. (length front < n) ⊎ ((length front ≡ n) × (kind ≡ Op))) b bytes class is
            (λ kind tail rest split suits form.
            let op : kind ≡ Op = only kind tail rest split suits form in
            let operator : is_operator (b ∷ tail) ≡ true = subst (λ k. IsForm k (b ∷ tail)) op form in
            ⊎_elim
            (λ less. absurd (both_ways (has_operator (length (b ∷ tail)) (b ∷ bytes)) (longer (length (b ∷ tail)) less (short_operator (b ∷ tail) operator).1)
            (has_operator-at (b ∷ bytes) (b ∷ tail) rest (ap (λ l. b ∷ l) split) operator)))
            (λ most. ⊎_elim (λ shorter. inl shorter) (λ same. inr (same.0, op)) (shorter_or_same Op (length (b ∷ tail)) n most))
            (cases_lt n (length (b ∷ tail))));
      };
      closed = refl;
    }

no_operator : (b : ℕ) (bytes : List ℕ) (class : Class) → class_of b ≡ class → OnlyOperators b bytes class
    → ((m : ℕ) → 0 < m → m ≤ 3 → has_operator m (b ∷ bytes) ≡ false) → NoFront (b ∷ bytes)
no_operator b bytes class is only none =
    led (λ kind front rest. is_spoiled kind front rest ≡ false → Longest (b ∷ bytes) front → ⊥) b bytes class is
    (λ kind tail rest split suits form closed longest.
    let operator : is_operator (b ∷ tail) ≡ true = subst (λ k. IsForm k (b ∷ tail)) (only kind tail rest split suits form) form in
    both_ways (has_operator (length (b ∷ tail)) (b ∷ bytes)) (none (length (b ∷ tail)) (omega arith) (short_operator (b ∷ tail) operator).1)
    (has_operator-at (b ∷ bytes) (b ∷ tail) rest (ap (λ l. b ∷ l) split) operator))

-- a fact on what lies above a number and up to 3, one by one
above_two : (P : ℕ → Type 0) → P 3 → (m : ℕ) → 2 < m → m ≤ 3 → P m
above_two P three m low high = let same : 3 ≡ m = omega arith in subst P same three

above_one : (P : ℕ → Type 0) → P 2 → P 3 → (m : ℕ) → 1 < m → m ≤ 3 → P m
above_one P two three m low high = ⊎_elim (λ more. above_two P three m more high) (λ less. let same : 2 ≡ m = omega arith in subst P same two) (cases_lt 2 m)

above_zero : (P : ℕ → Type 0) → P 1 → P 2 → P 3 → (m : ℕ) → 0 < m → m ≤ 3 → P m
above_zero P one two three m low high = ⊎_elim (λ more. above_one P two three m more high) (λ less. let same : 1 ≡ m = omega arith in subst P same one) (cases_lt 1 m)

operator_tells : (b : ℕ) (bytes : List ℕ) (class : Class) → class_of b ≡ class → OnlyOperators b bytes class → TellsLength (b ∷ bytes) Op (operator_len (b ∷ bytes))
operator_tells b bytes class is only =
    let fails : ℕ → Type 0 = λ m. has_operator m (b ∷ bytes) ≡ false in
    cond_both (has_operator 3 (b ∷ bytes)) _ _ (TellsLength (b ∷ bytes) Op)
    (λ three. some_operator b bytes class 3 is only three (λ m more most. absurd (omega arith)))
    (λ no_three. cond_both (has_operator 2 (b ∷ bytes)) _ _ (TellsLength (b ∷ bytes) Op)
    (λ two. some_operator b bytes class 2 is only two (above_two fails no_three))
    (λ no_two. cond_both (has_operator 1 (b ∷ bytes)) _ _ (TellsLength (b ∷ bytes) Op)
    (λ one. some_operator b bytes class 1 is only one (above_one fails no_two no_three))
    (λ no_one. no_operator b bytes class is only (above_zero fails no_one no_two no_three))))

pub other_only : (b : ℕ) (bytes : List ℕ) → OnlyOperators b bytes Other
other_only b bytes Op tail rest split suits form = refl
other_only b bytes Word tail rest split suits form = absurd suits
other_only b bytes Quoted tail rest split suits form = absurd suits
other_only b bytes Str tail rest split suits form = absurd suits
other_only b bytes Blob tail rest split suits form = absurd suits
other_only b bytes Int tail rest split suits form = absurd suits
other_only b bytes Hex tail rest split suits form = absurd suits
other_only b bytes Float tail rest split suits form = absurd suits

pub other_tells : (b : ℕ) (bytes : List ℕ) → class_of b ≡ Other → TellsLength (b ∷ bytes) Op (operator_len (b ∷ bytes))
other_tells b bytes is = operator_tells b bytes Other is (other_only b bytes)

point_only : (bytes : List ℕ) → begins is_ascii_digit bytes ≡ false → OnlyOperators 46 bytes Point
point_only bytes none Op tail rest split suits form = refl
point_only bytes none Float tail rest split suits form = absurd (no_float bytes tail rest none split form)
point_only bytes none Word tail rest split suits form = absurd suits
point_only bytes none Quoted tail rest split suits form = absurd suits
point_only bytes none Str tail rest split suits form = absurd suits
point_only bytes none Blob tail rest split suits form = absurd suits
point_only bytes none Int tail rest split suits form = absurd suits
point_only bytes none Hex tail rest split suits form = absurd suits

pub point_alone_tells : (bytes : List ℕ) → begins is_ascii_digit bytes ≡ false → TellsLength (46 ∷ bytes) Op (operator_len (46 ∷ bytes))
point_alone_tells bytes none = operator_tells 46 bytes Point refl (point_only bytes none)
