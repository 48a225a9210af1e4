-- What an error leaves: a front of what a tree spells was added.
use Rattle.std.proofs.Common.{◌≡◌, ◌++◌, ◌+◌, ◌<◌, ℕ, List, [], ◌∷◌, Result, Ok, Err, length, take, drop, get_or, refl, sym, ap, subst, ◌∙◌, append_assoc}
use Rattle.std.specs.Prelude.{OnErr}
use Rattle.std.proofs.lemmas.List.{append-nil, take_more, take-append-drop}
use Rattle.sql_token.specs.declared.token.Token.{Token}
use Rattle.sql_token.specs.Spelled.{flat}
use Rattle.sql_expr.specs.Tokens.{AddsFront}

-- nothing is a front
pub front_none : (all old new : List Token) → new ≡ old → AddsFront all old new
front_none all old new is = record { front = []; rest = all; parts = refl; added = is ∙ sym (append-nil old) }

-- a front of the first part is a front of both
pub front_wider : (a b old new : List Token) → AddsFront a old new → AddsFront (a ++ b) old new
front_wider a b old new f = record {
  front = f.front;
  rest = f.rest ++ b;
  parts = ap (λ l. l ++ b) f.parts ∙ append_assoc f.front f.rest b;
  added = f.added;
}

-- the first part and a front of the second are a front of both
pub front_later : (a b old mid new : List Token) → mid ≡ old ++ a → AddsFront b mid new → AddsFront (a ++ b) old new
front_later a b old mid new is f = record {
  front = a ++ f.front;
  rest = f.rest;
  parts = ap (λ l. a ++ l) f.parts ∙ sym (append_assoc a f.front f.rest);
  added = f.added ∙ ap (λ l. l ++ f.front) is ∙ append_assoc old a f.front;
}

-- what holds, holds behind an error
pub on_err : {T E : Type 0} (r : Result T E) (P : Type 0) → P → OnErr r P
on_err (Ok x) P h = tt
on_err (Err e) P h = h

-- the first part and, behind an error, a front of the second are a front of both
pub front_last : {T E : Type 0} (r : Result T E) (a b old mid new : List Token) → mid ≡ old ++ a → OnErr r (AddsFront b mid new)
    → OnErr r (AddsFront (a ++ b) old new)
front_last (Ok x) a b old mid new is f = tt
front_last (Err e) a b old mid new is f = front_later a b old mid new is f

-- what is spelled under another name
pub front_of : (all a old new : List Token) → all ≡ a → AddsFront a old new → AddsFront all old new
front_of all a old new is f = subst (λ l. AddsFront l old new) (sym is) f

pub fronts_of : {T E : Type 0} (r : Result T E) (all a old new : List Token) → all ≡ a → OnErr r (AddsFront a old new)
    → OnErr r (AddsFront all old new)
fronts_of r all a old new is f = subst (λ l. OnErr r (AddsFront l old new)) (sym is) f

-- what the items of two lists spell
pub flat-append : {A : Type 0} (f : A → List Token) (xs ys : List A) → flat f (xs ++ ys) ≡ flat f xs ++ flat f ys
flat-append f [] ys = refl
flat-append f (x ∷ xs) ys = ap (λ l. f x ++ l) (flat-append f xs ys) ∙ sym (append_assoc (f x) (flat f xs) (flat f ys))

-- what one more item spells
pub flat_more : {A : Type 0} (f : A → List Token) (xs : List A) (i : ℕ) (x : A) → i < length xs → x ≡ get_or xs i x
    → flat f (take (i + 1) xs) ≡ flat f (take i xs) ++ f x
flat_more f xs i x less is =
    ap (flat f) (take_more xs i x less) ∙ flat-append f (take i xs) (get_or xs i x ∷ [])
    ∙ ap (λ l. flat f (take i xs) ++ l) (append-nil (f (get_or xs i x)) ∙ ap f (sym is))

-- one more item is spelled
pub item_added : {A : Type 0} (f : A → List Token) (xs : List A) (i : ℕ) (x : A) (old mid new : List Token) → i < length xs
    → x ≡ get_or xs i x → mid ≡ old ++ flat f (take i xs) → new ≡ mid ++ f x → new ≡ old ++ flat f (take (i + 1) xs)
item_added f xs i x old mid new less is taken added =
    added ∙ ap (λ l. l ++ f x) taken ∙ append_assoc old (flat f (take i xs)) (f x)
    ∙ ap (λ l. old ++ l) (sym (flat_more f xs i x less is))

-- a front of an item, behind the items before it, is a front of all
pub front_of_item : {A : Type 0} (f : A → List Token) (xs : List A) (i : ℕ) (x : A) (old mid new : List Token) → i < length xs
    → x ≡ get_or xs i x → mid ≡ old ++ flat f (take i xs) → AddsFront (f x) mid new → AddsFront (flat f xs) old new
front_of_item f xs i x old mid new less is taken front =
    let parts : flat f xs ≡ (flat f (take i xs) ++ f x) ++ flat f (drop (i + 1) xs) =
    ap (flat f) (sym (take-append-drop (i + 1) xs)) ∙ flat-append f (take (i + 1) xs) (drop (i + 1) xs)
    ∙ ap (λ l. l ++ flat f (drop (i + 1) xs)) (flat_more f xs i x less is) in
    front_of _ _ old new parts
    (front_wider _ (flat f (drop (i + 1) xs)) old new (front_later _ _ old mid new taken front))
