-- How a loop that reads one item a turn goes on: what is read already, and what is still to be read.
use Rattle.std.proofs.Common.{◌≡◌, ℕ, zero, suc, ◌<◌, true, false, List, [], ◌∷◌, ◌++◌, length, Option, Some, None, refl, sym, ap, ◌∙◌, arith, append_assoc}
use Rattle.std.proofs.lemmas.List.{append-nil}
use Rattle.std.proofs.lemmas.Bool.{cond-true, cond-false}
use Rattle.sql_token.specs.declared.token.Token.{Token}
use Rattle.sql_reader.specs.declared.sort.Sort.{Sort}
use Rattle.sql_reader.specs.Looks.{Look, looks}
use Rattle.sql_reader.specs.Reading.{Read, and_then, made_of, read_turns, read_many}
use Rattle.sql_reader.proofs.Outcomes.{then_alike, if_alike, then_is}

abbrev L : Type 0
L = List Token

-- the reading takes a token
abbrev pub TakesToken : {A : Type 0} → Read A → Type 0
TakesToken {A} a = (ts : List Token) (x : A) (rest : List Token) → a ts ≡ Some (x, rest) → length rest < length ts

module _ {A : Type 0} (sort : Token → Sort) (starts : Look) (a : Read A) (takes : TakesToken a) where
  -- turns enough are as good as more
  turns_enough : (n m : ℕ) (ts : L) → length ts < n → length ts < m → read_turns sort starts a n ts ≡ read_turns sort starts a m ts
  turns_enough zero m ts few many = absurd (omega arith)
  turns_enough (suc n) zero ts few many = absurd (omega arith)
  turns_enough (suc n) (suc m) ts few many =
      let next : A → Read (List A) = λ x mid. made_of (λ xs. x ∷ xs) (read_turns sort starts a n mid) in
      let later : A → Read (List A) = λ x mid. made_of (λ xs. x ∷ xs) (read_turns sort starts a m mid) in
      if_alike (looks sort starts ts) (and_then (a ts) next) (Some ([], ts)) (and_then (a ts) later) (Some ([], ts))
      (then_alike (a ts) (a ts) next later refl
      (λ x mid e.
      let less : length mid < length ts = takes ts x mid e in
      ap (λ o. made_of (λ xs. x ∷ xs) o) (turns_enough n m mid (omega arith) (omega arith))))
      refl

  -- where the tokens look so and an item is read, the others are read behind it
  many_turn : (ts : L) (x : A) (rest : L) → looks sort starts ts ≡ true → a ts ≡ Some (x, rest)
      → read_many sort starts a ts ≡ made_of (λ xs. x ∷ xs) (read_many sort starts a rest)
  many_turn ts x rest so e =
      let next : A → Read (List A) = λ y mid. made_of (λ xs. y ∷ xs) (read_turns sort starts a (length ts) mid) in
      let less : length rest < length ts = takes ts x rest e in
      cond-true (looks sort starts ts) (and_then (a ts) next) (Some ([], ts)) so
      ∙ then_is (a ts) next x rest e
      ∙ ap (λ o. made_of (λ xs. x ∷ xs) o) (turns_enough (length ts) (suc (length rest)) rest less (omega arith))

  -- where they look so and no item is read, nothing is read
  many_fails : (ts : L) → looks sort starts ts ≡ true → a ts ≡ None → read_many sort starts a ts ≡ None
  many_fails ts so e =
      let next : A → Read (List A) = λ y mid. made_of (λ xs. y ∷ xs) (read_turns sort starts a (length ts) mid) in
      cond-true (looks sort starts ts) (and_then (a ts) next) (Some ([], ts)) so ∙ ap (λ o. and_then o next) e

  -- where they do not look so, no more is read
  many_ends : (ts : L) → looks sort starts ts ≡ false → read_many sort starts a ts ≡ Some ([], ts)
  many_ends ts other =
      let next : A → Read (List A) = λ y mid. made_of (λ xs. y ∷ xs) (read_turns sort starts a (length ts) mid) in
      cond-false (looks sort starts ts) (and_then (a ts) next) (Some ([], ts)) other

  -- in front of what is still to be read
  abbrev pub still : List A → L → Option (List A × List Token)
  still done ts = made_of (λ xs. done ++ xs) (read_many sort starts a ts)

  in_front : (done : List A) (x : A) (o : Option (List A × List Token))
      → made_of (λ xs. done ++ xs) (made_of (λ xs. x ∷ xs) o) ≡ made_of (λ xs. (done ++ x ∷ []) ++ xs) o
  in_front done x None = refl
  in_front done x (Some p) = ap (λ (xs : List A). Some (xs, p.1)) (sym (append_assoc done (x ∷ []) p.0))

  -- one more turn
  pub one_more : (done : List A) (ts : L) (x : A) (rest : L) → looks sort starts ts ≡ true → a ts ≡ Some (x, rest)
      → still done ts ≡ still (done ++ x ∷ []) rest
  one_more done ts x rest so e =
      ap (λ o. made_of (λ xs. done ++ xs) o) (many_turn ts x rest so e) ∙ in_front done x (read_many sort starts a rest)

  -- a turn that fails
  pub one_fails : (done : List A) (ts : L) → looks sort starts ts ≡ true → a ts ≡ None → still done ts ≡ None
  one_fails done ts so e = ap (λ o. made_of (λ (xs : List A). done ++ xs) o) (many_fails ts so e)

  -- no more turns
  pub no_more : (done : List A) (ts : L) → looks sort starts ts ≡ false → still done ts ≡ Some (done, ts)
  no_more done ts other =
      ap (λ o. made_of (λ (xs : List A). done ++ xs) o) (many_ends ts other) ∙ ap (λ (xs : List A). Some (xs, ts)) (append-nil done)

  -- before the first turn
  pub before_turns : (ts : L) → still [] ts ≡ read_many sort starts a ts
  before_turns ts = at (read_many sort starts a ts)
    where
      at : (o : Option (List A × List Token)) → made_of (λ (xs : List A). [] ++ xs) o ≡ o
      at None = refl
      at (Some p) = refl
