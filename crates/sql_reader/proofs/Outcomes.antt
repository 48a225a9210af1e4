-- What a reading of parts gave, part by part.
use Rattle.std.proofs.Common.{◌≡◌, ℕ, suc, ◌<◌, ◌≤◌, Bool, true, false, not, ◌&&◌, ◌||◌, if◌then◌else◌, List, ◌++◌, length, Option, Some, None, refl, ap, ◌∙◌, arith, length-append}
use Rattle.std.proofs.lemmas.Option.{same_Some}
use Rattle.sql_token.specs.declared.token.Token.{Token}
use Rattle.sql_reader.specs.Reading.{Read, and_then, made_of}

abbrev L : Type 0
L = List Token

-- the parts of one outcome are those of the other
pub same_outcome : {A : Type 0} (a x : A) (ts rest : List Token) → ◌≡◌ {A = Option (A × List Token)} (Some (a, ts)) (Some (x, rest)) → (a ≡ x) × (ts ≡ rest)
same_outcome {A} a x ts rest e =
    let pair : A × L = (a, ts) in
    let other : A × L = (x, rest) in
    let same : pair ≡ other = same_Some pair other e in
    (ap (λ (p : A × L). p.0) same, ap (λ (p : A × L). p.1) same)

-- something was read first
pub then_parts : {A B : Type 0} (o : Option (A × List Token)) (next : A → Read B) (r : B × List Token) → and_then o next ≡ Some r
    → (p : A × List Token) × (o ≡ Some p) × (next p.0 p.1 ≡ Some r)
then_parts None next r e = absurd (cc)
then_parts (Some p) next r e = (p, refl, e)

-- something was read and made into this
pub made_parts : {A B : Type 0} (make : A → B) (o : Option (A × List Token)) (y : B) (rest : List Token) → made_of make o ≡ Some (y, rest)
    → (x : A) × (o ≡ Some (x, rest)) × (make x ≡ y)
made_parts make None y rest e = absurd (cc)
made_parts make (Some p) y rest e =
    let same = same_outcome (make p.0) y p.1 rest e in
    (p.0, ap (λ (l : List Token). Some (p.0, l)) same.1, same.0)

-- what is read behind what was read
pub then_is : {A B : Type 0} (o : Option (A × List Token)) (next : A → Read B) (x : A) (rest : List Token) → o ≡ Some (x, rest) → and_then o next ≡ next x rest
then_is {A} o next x rest e = ap (λ (v : Option (A × List Token)). and_then v next) e

-- what is made of what was read
pub made_is : {A B : Type 0} (make : A → B) (o : Option (A × List Token)) (x : A) (rest : List Token) → o ≡ Some (x, rest) → made_of make o ≡ Some (make x, rest)
made_is {A} make o x rest e = ap (λ (v : Option (A × List Token)). made_of make v) e

-- two readings whose first parts and seconds agree
pub then_alike : {A B : Type 0} (o other : Option (A × List Token)) (next later : A → Read B) → o ≡ other
    → ((x : A) (rest : List Token) → o ≡ Some (x, rest) → next x rest ≡ later x rest) → and_then o next ≡ and_then other later
then_alike {A} {B} o other next later same agree = at o agree ∙ ap (λ (v : Option (A × List Token)). and_then v later) same
  where
    at : (v : Option (A × List Token)) → ((x : A) (rest : List Token) → v ≡ Some (x, rest) → next x rest ≡ later x rest) → and_then v next ≡ and_then v later
    at None agree = refl
    at (Some p) agree = agree p.0 p.1 refl

-- a choice between two that agree
pub if_alike : {A : Type 0} (b : Bool) (x y x' y' : A) → x ≡ x' → y ≡ y' → (if b then x else y) ≡ (if b then x' else y')
if_alike true x y x' y' first second = first
if_alike false x y x' y' first second = second

-- what is behind is no longer than the whole
pub rest_at_most : (ts front rest : List Token) → ts ≡ front ++ rest → length rest ≤ length ts
rest_at_most ts front rest e = omega (arith, ap length e, length-append front rest)

-- up to which length two readings agree if what is handed in agrees up to n: one more behind a token
abbrev pub reach : Bool → ℕ → ℕ
reach true n = suc n
reach false n = n

pub reach_least : (g : Bool) (n : ℕ) → n ≤ reach g n
reach_least true n = omega arith
reach_least false n = omega arith

pub reach_most : (g : Bool) (n : ℕ) → reach g n ≤ suc n
reach_most true n = omega arith
reach_most false n = omega arith

pub reach_and : (g h : Bool) (n : ℕ) → reach (g && h) n ≤ reach g n
reach_and true h n = reach_most h n
reach_and false h n = omega arith

pub reach_and_right : (g h : Bool) (n : ℕ) → reach (g && h) n ≤ reach h n
reach_and_right true h n = omega arith
reach_and_right false h n = reach_least h n

-- how far the second of two readings agrees, behind what the first one read
pub reach_second : (g null h : Bool) (n all rest : ℕ) → all ≤ reach (g && (not null || h)) n → rest ≤ all → (null ≡ false → rest < all) → rest ≤ reach h n
reach_second g true h n all rest most below strict =
    let far : reach (g && h) n ≤ reach h n = reach_and_right g h n in omega arith
reach_second g false h n all rest most below strict =
    let far : reach (g && true) n ≤ suc n = reach_most (g && true) n in
    let less : rest < all = strict refl in
    let near : n ≤ reach h n = reach_least h n in
    omega arith
