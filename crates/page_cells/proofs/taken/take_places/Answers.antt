use Rattle.std.proofs.Common.{refl, arith, ◌≡◌, Bool, true, false}
use mathlib.Core.Bool.{beq}
use Rattle.page_cells.proofs.TakenLemmas.{none_taken, some_taken}
use Rattle.page_cells.proofs.taken.take_places.Goals as goal

-- what `==` with true says of a mark
mark_is : (b : Bool) (r : Bool) → beq b true ≡ r → b ≡ r
mark_is true r e = e
mark_is false r e = e

pub returns-then-contains-clause-free : goal.returns-then-contains-clause-free
returns-then-contains-clause-free c =
    let some = c.if-contains.ensures.cases in
    let marked = mark_is _ true (some.2 false) in (
      (λ t. absurd (apart t)),
      (λ free. absurd (some_taken c.args.taken.now c.args.start c.args.end some.0 c.requires.within some.1 marked free)),
    )
  where
    apart : false ≡ true → ⊥
    apart e = cc

pub returns-clause-free : goal.returns-clause-free
returns-clause-free c = (
  λ _. none_taken c.args.taken.now c.args.start c.args.end c.requires.within
      (λ i d small. mark_is _ false (c.if-contains.ensures.cases i d (omega arith) small)),
  λ _. refl,
)
