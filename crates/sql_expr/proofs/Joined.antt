-- Sources that end in a joined source without a constraint, said of their last one.
use Rattle.std.proofs.Common.{◌≡◌, ◌++◌, true, List, [], ◌∷◌, Option, Some, None, refl, ap, ◌∙◌}
use Rattle.std.specs.Prelude.{IsTrue, ◌↔◌, is_none}
use Rattle.sql_expr.specs.Joined.{last_is_bare, sources_end_in_joined}
use Rattle.sql_expr.specs.declared.source.JoinedSource.{JoinedSource, out-JoinedSource}
use Rattle.sql_expr.specs.declared.source.Sources.{Sources, out-Sources}

-- the list ends in a joined source without a constraint
abbrev EndsBare : List JoinedSource → Type 0
EndsBare xs =
    (before : List JoinedSource) × (last : JoinedSource) × (xs ≡ before ++ last ∷ [])
    × ((out-JoinedSource last).constraint ≡ None)

absent : {X : Type 0} (x : Option X) → is_none x ≡ true → x ≡ None
absent None h = refl
absent (Some x) h = absurd (cc)

ends_from_test : (xs : List JoinedSource) → last_is_bare xs ≡ true → EndsBare xs
ends_from_test [] h = absurd (cc)
ends_from_test (x ∷ []) h = ([], x, refl, absent _ h)
ends_from_test (x ∷ next ∷ more) h =
    let ends = ends_from_test (next ∷ more) h in (x ∷ ends.0, ends.1, ap (λ l. x ∷ l) ends.2, ends.3)

test_at_end : (before : List JoinedSource) (last : JoinedSource) → (out-JoinedSource last).constraint ≡ None
    → last_is_bare (before ++ last ∷ []) ≡ true
test_at_end [] last h = ap is_none h
test_at_end (x ∷ []) last h = ap is_none h
test_at_end (x ∷ next ∷ more) last h = test_at_end (next ∷ more) last h

-- the sources end so exactly where their last one is a joined source without a constraint
pub sources_end : (x : Sources) → IsTrue (sources_end_in_joined x) ↔ EndsBare (out-Sources x).more
sources_end x = (ends_from_test (out-Sources x).more, λ ends. ap last_is_bare ends.2 ∙ test_at_end ends.0 ends.1 ends.3)
