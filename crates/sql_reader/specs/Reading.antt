-- What is read of a list of tokens, and the ways to make a reading of others.
use Rattle.std.specs.Prelude.{ℕ, zero, suc, Bool, true, false, not, ◌||◌, ◌&&◌, if◌then◌else◌, List, [], ◌∷◌, ◌++◌, length, map, Option, Some, None}
use Rattle.sql_token.specs.declared.token.Token.{Token}
use Rattle.sql_reader.specs.declared.sort.Sort.{Sort}
use Rattle.sql_reader.specs.Looks.{Set, Look, looks, next_sort, none_of, both}

-- what is read in front of the tokens, and the tokens behind it
abbrev pub Read : Type 0 → Type 0
Read A = List Token → Option (A × List Token)

-- A reading: what it reads, what may come next where it begins, and what may not follow it.
pub record Reading (sort : Token → Sort) (A : Type 0) : Type 0 where
  -- how the next tokens look where it begins
  pub starts : Look
  -- how the tokens behind it may not look, since it would go on with them
  pub goes_on : Look
  -- it may read no token
  pub nullable : Bool
  -- it reads a token before it reads anything that is handed in
  pub guarded : Bool
  pub read : Read A

-- what is read behind what was read
abbrev pub and_then : {A B : Type 0} → Option (A × List Token) → (A → Read B) → Option (B × List Token)
and_then None next = None
and_then (Some done) next = next done.0 done.1

-- what was read, made into something else
abbrev pub made_of : {A B : Type 0} → (A → B) → Option (A × List Token) → Option (B × List Token)
made_of make None = None
made_of make (Some done) = Some (make done.0, done.1)

-- the next token, if its sort is in the set
abbrev pub read_leaf : (Token → Sort) → Set → Read Token
read_leaf sort set [] = None
read_leaf sort set (t ∷ ts) = if set (sort t) then Some (t, ts) else None

-- the next token, if its sort is in the set and that of the token behind it is not in the other
abbrev pub read_leaf_before : (Token → Sort) → Set → Set → Read Token
read_leaf_before sort set other [] = None
read_leaf_before sort set other (t ∷ ts) = if set (sort t) && not (other (next_sort sort ts)) then Some (t, ts) else None

-- one behind the other
abbrev pub read_seq : {A B : Type 0} → Read A → Read B → Read (A × B)
read_seq a b tokens = and_then (a tokens) (λ x rest. made_of (λ y. (x, y)) (b rest))

-- the first where the tokens look so, and else the second
abbrev pub read_choice : {A : Type 0} → (Token → Sort) → Look → Read A → Read A → Read A
read_choice sort starts a b tokens = if looks sort starts tokens then a tokens else b tokens

-- it, where the tokens look so, and else nothing
abbrev pub read_opt : {A : Type 0} → (Token → Sort) → Look → Read A → Read (Option A)
read_opt sort starts a tokens = if looks sort starts tokens then made_of (λ x. Some x) (a tokens) else Some (None, tokens)

-- it again and again, as long as the tokens look so, at most so many times
abbrev pub read_turns : {A : Type 0} → (Token → Sort) → Look → Read A → ℕ → Read (List A)
read_turns sort starts a zero tokens = None
read_turns sort starts a (suc n) tokens =
    if looks sort starts tokens
    then and_then (a tokens) (λ x rest. made_of (λ xs. x ∷ xs) (read_turns sort starts a n rest))
    else Some ([], tokens)

-- it again and again, as long as the tokens look so; each turn takes a token
abbrev pub read_many : {A : Type 0} → (Token → Sort) → Look → Read A → Read (List A)
read_many sort starts a tokens = read_turns sort starts a (suc (length tokens)) tokens

-- it, where the sort of the next token is not in the set
abbrev pub read_without : {A : Type 0} → (Token → Sort) → Set → Read A → Read A
read_without sort set a tokens = if set (next_sort sort tokens) then None else a tokens

-- the look, with a token in front of each way
abbrev pub led_by : Set → Look → Look
led_by set look = map (λ way. set ∷ way) look

-- the way, whose first token is also in the set
abbrev pub narrowed : Set → List Set → List Set
narrowed set [] = set ∷ []
narrowed set (first ∷ way) = both first set ∷ way

-- a look that is asked for only where the test holds
abbrev pub only_if : Bool → Look → Look
only_if test look = if test then look else []

-- a token of the set
abbrev pub leaf : {sort : Token → Sort} → Set → Reading sort Token
leaf {sort} set =
    record { starts = (set ∷ []) ∷ []; goes_on = []; nullable = false; guarded = true; read = read_leaf sort set }

-- a token of the set, before no token of the other
abbrev pub leaf_before : {sort : Token → Sort} → Set → Set → Reading sort Token
leaf_before {sort} set other =
    record {
      starts = (set ∷ none_of other ∷ []) ∷ [];
      goes_on = (other ∷ []) ∷ [];
      nullable = false;
      guarded = true;
      read = read_leaf_before sort set other;
    }

-- one behind the other
abbrev pub seq : {sort : Token → Sort} {A B : Type 0} → Reading sort A → Reading sort B → Reading sort (A × B)
seq a b =
    record {
      starts = a.starts ++ only_if a.nullable b.starts;
      goes_on = b.goes_on ++ only_if b.nullable a.goes_on;
      nullable = a.nullable && b.nullable;
      guarded = a.guarded && (not a.nullable || b.guarded);
      read = read_seq a.read b.read;
    }

-- a token of the set and a reading behind it, whose look is part of the whole one's
abbrev pub lead : {sort : Token → Sort} {B : Type 0} → Set → Reading sort B → Reading sort (Token × B)
lead {sort} set b =
    record {
      starts = if b.nullable then (set ∷ []) ∷ [] else led_by set b.starts;
      goes_on = b.goes_on;
      nullable = false;
      guarded = true;
      read = read_seq (read_leaf sort set) b.read;
    }

-- a token of the set and a reading behind it, where that token alone tells that it begins
abbrev pub begun : {sort : Token → Sort} {B : Type 0} → Set → Reading sort B → Reading sort (Token × B)
begun {sort} set b =
    record {
      starts = (set ∷ []) ∷ [];
      goes_on = b.goes_on;
      nullable = false;
      guarded = true;
      read = read_seq (read_leaf sort set) b.read;
    }

-- the first or the second
abbrev pub choice : {sort : Token → Sort} {A : Type 0} → Reading sort A → Reading sort A → Reading sort A
choice {sort} a b =
    record {
      starts = a.starts ++ b.starts;
      goes_on = a.goes_on ++ b.goes_on;
      nullable = false;
      guarded = a.guarded && b.guarded;
      read = read_choice sort a.starts a.read b.read;
    }

-- it or nothing
abbrev pub opt : {sort : Token → Sort} {A : Type 0} → Reading sort A → Reading sort (Option A)
opt {sort} a =
    record {
      starts = a.starts;
      goes_on = a.goes_on ++ a.starts;
      nullable = true;
      guarded = a.guarded;
      read = read_opt sort a.starts a.read;
    }

-- any number of it
abbrev pub many : {sort : Token → Sort} {A : Type 0} → Reading sort A → Reading sort (List A)
many {sort} a =
    record {
      starts = a.starts;
      goes_on = a.goes_on ++ a.starts;
      nullable = true;
      guarded = a.guarded;
      read = read_many sort a.starts a.read;
    }

-- it, made into something else
abbrev pub formed : {sort : Token → Sort} {A B : Type 0} → (A → B) → Reading sort A → Reading sort B
formed make a =
    record {
      starts = a.starts;
      goes_on = a.goes_on;
      nullable = a.nullable;
      guarded = a.guarded;
      read = λ tokens. made_of make (a.read tokens);
    }

-- it, where it does not begin with a token of the set
abbrev pub without : {sort : Token → Sort} {A : Type 0} → Set → Reading sort A → Reading sort A
without {sort} set a =
    record a { starts = map (narrowed (none_of set)) a.starts; read = read_without sort set a.read }

-- it, with other looks
abbrev pub widened : {sort : Token → Sort} {A : Type 0} → Look → Look → Reading sort A → Reading sort A
widened starts goes_on a = record a { starts = starts; goes_on = goes_on }

-- it, whose reading function has a name
abbrev pub sealed : {sort : Token → Sort} {A : Type 0} → Reading sort A → Read A → Reading sort A
sealed a read = record a { read = read }

-- what is handed in: it takes a token, and its looks are known
abbrev pub child : {sort : Token → Sort} {A : Type 0} → Look → Look → Read A → Reading sort A
child starts goes_on read =
    record { starts = starts; goes_on = goes_on; nullable = false; guarded = false; read = read }
