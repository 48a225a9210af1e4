-- Texts that are read from the front on.
use Rattle.std.proofs.Common.{◌≡◌, ℕ, ◌+◌, ◌-◌, ◌*◌, ◌<◌, ◌≤◌, Bool, true, false, IsTrue, cond, ◌&&◌, List, [], ◌∷◌, ◌++◌, length, take, get_or, refl, sym, ap, ap₂, ◌∙◌, arith, length-append}
use Rattle.std.proofs.lemmas.Bool.{cond-false, cond-true, true≢false}
use Rattle.std.proofs.lemmas.List.{take_at}
use Rattle.std.specs.List.{list_all}
use Rattle.value_order.specs.Number.{number_after}
use Rattle.value_order.specs.Runs.{front, past}

-- a step of the reading
pub past_yes : (p : ℕ → Bool) (b : ℕ) (bytes : List ℕ) → p b ≡ true → past p (b ∷ bytes) ≡ past p bytes
past_yes p b bytes passes = cond-true (p b) (past p bytes) (b ∷ bytes) passes

pub past_no : (p : ℕ → Bool) (b : ℕ) (bytes : List ℕ) → p b ≡ false → past p (b ∷ bytes) ≡ b ∷ bytes
past_no p b bytes fails = cond-false (p b) (past p bytes) (b ∷ bytes) fails

pub front_yes : (p : ℕ → Bool) (b : ℕ) (bytes : List ℕ) → p b ≡ true → front p (b ∷ bytes) ≡ b ∷ front p bytes
front_yes p b bytes passes = cond-true (p b) (b ∷ front p bytes) [] passes

pub front_no : (p : ℕ → Bool) (b : ℕ) (bytes : List ℕ) → p b ≡ false → front p (b ∷ bytes) ≡ []
front_no p b bytes fails = cond-false (p b) (b ∷ front p bytes) [] fails

-- the two parts are the text
split_cases : (p : ℕ → Bool) (b : ℕ) (bytes : List ℕ) → (t : Bool) → bytes ≡ front p bytes ++ past p bytes
    → b ∷ bytes ≡ cond t (b ∷ front p bytes) [] ++ cond t (past p bytes) (b ∷ bytes)
split_cases p b bytes true h = ap (λ l. b ∷ l) h
split_cases p b bytes false h = refl

pub split : (p : ℕ → Bool) (text : List ℕ) → text ≡ front p text ++ past p text
split p [] = refl
split p (b ∷ bytes) = split_cases p b bytes (p b) (split p bytes)

all_cases : (p : ℕ → Bool) (b : ℕ) (bytes : List ℕ) → (t : Bool) → p b ≡ t → list_all p (front p bytes) ≡ true
    → list_all p (cond t (b ∷ front p bytes) []) ≡ true
all_cases p b bytes true is h = ap₂ (λ x y. x && y) is h
all_cases p b bytes false is h = refl

-- each byte of the front passes
pub all_front : (p : ℕ → Bool) (text : List ℕ) → IsTrue (list_all p (front p text))
all_front p [] = refl
all_front p (b ∷ bytes) = all_cases p b bytes (p b) refl (all_front p bytes)

-- the text does not begin with a byte that passes
abbrev pub stops : (ℕ → Bool) → List ℕ → Type 0
stops p [] = Unit {0}
stops p (b ∷ bytes) = p b ≡ false

pub and_parts : (a b : Bool) → (a && b) ≡ true → (a ≡ true) × (b ≡ true)
and_parts true b h = (refl, h)
and_parts false b h = absurd (true≢false (sym h))

-- bytes that all pass, and then one that does not, if any
pub past_through : (p : ℕ → Bool) (xs ys : List ℕ) → IsTrue (list_all p xs) → stops p ys → past p (xs ++ ys) ≡ ys
past_through p [] [] all stop = refl
past_through p [] (y ∷ ys) all stop = past_no p y ys stop
past_through p (x ∷ xs) ys all stop =
    let (here, more) = and_parts (p x) (list_all p xs) all in
    past_yes p x (xs ++ ys) here ∙ past_through p xs ys more stop

pub front_through : (p : ℕ → Bool) (xs ys : List ℕ) → IsTrue (list_all p xs) → stops p ys → front p (xs ++ ys) ≡ xs
front_through p [] [] all stop = refl
front_through p [] (y ∷ ys) all stop = front_no p y ys stop
front_through p (x ∷ xs) ys all stop =
    let (here, more) = and_parts (p x) (list_all p xs) all in
    front_yes p x (xs ++ ys) here ∙ ap (λ l. x ∷ l) (front_through p xs ys more stop)

pub past_all : (p : ℕ → Bool) (xs : List ℕ) → IsTrue (list_all p xs) → past p xs ≡ []
past_all p [] all = refl
past_all p (x ∷ xs) all = let (here, more) = and_parts (p x) (list_all p xs) all in past_yes p x xs here ∙ past_all p xs more

-- the front by its length
pub front_by_length : (p : ℕ → Bool) (text : List ℕ) → take (length text - length (past p text)) text ≡ front p text
front_by_length p text =
    let whole : length text ≡ length (front p text) + length (past p text) = ap length (split p text) ∙ length-append (front p text) (past p text) in
    ap (take (length text - length (past p text))) (split p text)
    ∙ take_at (front p text) (past p text) (length text - length (past p text)) (omega arith)

-- more digits make no less
pub number_grows : (n : ℕ) (digits : List ℕ) → n ≤ number_after n digits
number_grows n [] = omega arith
number_grows n (d ∷ digits) = let more : n * 10 + (d - 48) ≤ number_after (n * 10 + (d - 48)) digits = number_grows (n * 10 + (d - 48)) digits in omega arith

twice_cases : (p : ℕ → Bool) (b : ℕ) (bytes : List ℕ) (t : Bool) → p b ≡ t → past p (past p bytes) ≡ past p bytes
    → past p (cond t (past p bytes) (b ∷ bytes)) ≡ cond t (past p bytes) (b ∷ bytes)
twice_cases p b bytes true is h = h
twice_cases p b bytes false is h = past_no p b bytes is

-- what is behind does not begin with a byte that passes
pub past_twice : (p : ℕ → Bool) (text : List ℕ) → past p (past p text) ≡ past p text
past_twice p [] = refl
past_twice p (b ∷ bytes) = twice_cases p b bytes (p b) refl (past_twice p bytes)

pub past_shorter : (p : ℕ → Bool) (text rest : List ℕ) → rest ≡ past p text → length rest ≤ length text
past_shorter p text rest is =
    let whole : length text ≡ length (front p text) + length (past p text) = ap length (split p text) ∙ length-append (front p text) (past p text) in
    let same : length rest ≡ length (past p text) = ap length is in
    omega arith

-- one more digit is too much, and then the number is
pub too_large : (n most : ℕ) (rest : List ℕ) → 1 ≤ length rest → most < n * 10 + (get_or rest 0 0 - 48) → most < number_after n rest
too_large n most [] some more = absurd (omega arith)
too_large n most (d ∷ rest) some more =
    let grown : n * 10 + (d - 48) ≤ number_after (n * 10 + (d - 48)) rest = number_grows (n * 10 + (d - 48)) rest in
    omega arith
