-- The laws of all uses of a schema, and of an added column.
use Rattle.std.proofs.Common.{◌≡◌, inr, ⊎_elim, [], ◌∷◌, Option, Some, None, option_map, refl, sym, subst}
use Rattle.name_scope.specs.Rank.{Seen}
use Rattle.name_rules.specs.Asked.{AreNamed, Asked, AskedClashes, IsRight, asked_behind}
use Rattle.name_rules.specs.Laws.{AddedStays, AddedTells, SchemaStays, SchemaTells}
use Rattle.name_rules.specs.Meaning.{IsAmong}
use Rattle.name_rules.specs.Renaming.{Renaming, renamed}
use Rattle.name_rules.proofs.Ranks.{nearer_or_not}
use Rattle.name_rules.proofs.Stay.{clashes_tell, uses_stay}

-- an answer that is there, or is not, is so behind the renaming
none_before : (r : Renaming) (answer : Option Seen) → option_map (renamed r) answer ≡ None → answer ≡ None
none_before r None none = refl
none_before r (Some t) none = absurd cc

one_stays : (met : Option Renaming) (a : Asked) → AreNamed met a → IsRight a → (AskedClashes met a → ⊥) → IsRight (asked_behind met a)
one_stays None a named right free = right
one_stays (Some r) a named right free = record {
  meant = uses_stay r a.binders a.spelling a.answer named right.meant free;
  literal = λ none. right.literal (none_before r a.answer none);
}

one_tells : (met : Option Renaming) (a : Asked) → AreNamed met a → IsRight a → IsRight (asked_behind met a) → AskedClashes met a → ⊥
one_tells None a named right still clash = clash
one_tells (Some r) a named right still clash = clashes_tell r a.binders a.spelling a.answer named right.meant clash still.meant

pub schema_stays : SchemaStays
schema_stays met [] named right free = tt
schema_stays met (a ∷ uses) named right free = (one_stays (met a.question) a named.0 right.0 free.0, schema_stays met uses named.1 right.1 free.1)

pub schema_tells : SchemaTells
schema_tells met [] named right still = tt
schema_tells met (a ∷ uses) named right still = (one_tells (met a.question) a named.0 right.0 still.0, schema_tells met uses named.1 right.1 still.1)

pub added_stays : AddedStays
added_stays before new after spelling None are nothing free =
    λ s there seen.
    ⊎_elim
    (λ old. nothing s old seen)
    (λ one. free (record { other = s; added = one; seen = seen; in_reach = tt }))
    (are.only s there)
added_stays before new after spelling (Some t) are means free = record {
  stands = are.kept t means.stands;
  seen = means.seen;
  nearest = λ s there seen.
      ⊎_elim
      (λ old. means.nearest s old seen)
      (λ one.
      ⊎_elim
      (λ near. inr near)
      (λ no. absurd (free (record { other = s; added = one; seen = seen; in_reach = no })))
      (nearer_or_not t s))
      (are.only s there);
}

pub added_tells : AddedTells
added_tells before new after spelling None are nothing k still = still k.other (are.added k.other k.added) k.seen
added_tells before new after spelling (Some t) are means k still =
    ⊎_elim
    (λ same. are.apart k.other k.added (subst (IsAmong before) (sym same) means.stands))
    (λ near. k.in_reach near)
    (still.nearest k.other (are.added k.other k.added) k.seen)
