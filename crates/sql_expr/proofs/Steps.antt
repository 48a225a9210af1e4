use Rattle.std.specs.Prelude.{List, ◌++◌, ◌≡◌, Result, Ok, Err, OnOk}
use mathlib.Core.Path.{sym, subst, ap, ◌∙◌}
use Rattle.std.proofs.lemmas.List.{append_assoc}
use Rattle.sql_token.specs.declared.token.Token.{Token}

-- two calls, one after the other, add what both spell
pub joins : (old mid new a b : List Token) → mid ≡ old ++ a → new ≡ mid ++ b → new ≡ old ++ (a ++ b)
joins old mid new a b first second = second ∙ ap (λ m. m ++ b) first ∙ append_assoc old a b

-- the same, where the second call is the last
pub ends : {E : Type 0} (r : Result (Unit {0}) E) (old mid new a b : List Token) → mid ≡ old ++ a → OnOk r (new ≡ mid ++ b)
    → OnOk r (new ≡ old ++ (a ++ b))
ends (Ok _) old mid new a b first second = joins old mid new a b first second
ends (Err _) old mid new a b first second = second

-- one call adds what the tree spells
pub one_call : {E : Type 0} (r : Result (Unit {0}) E) (old new a all : List Token) → all ≡ a → OnOk r (new ≡ old ++ a)
    → OnOk r (new ≡ old ++ all)
one_call r old new a all law added = subst (λ list. OnOk r (new ≡ old ++ list)) (sym law) added
