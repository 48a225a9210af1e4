use Rattle.std.proofs.Common.{[], ◌∷◌, ◌++◌, refl, sym, ap, ◌∙◌, append_assoc}
use Rattle.record_codec.proofs.Fronts.{serials_push}
use Rattle.record_codec.proofs.fields.behind_serials.Goals as goal

pub loop-behind-init : goal.loop-behind-init
loop-behind-init c = ([], [], refl, refl)

pub loop-behind-preserved : goal.loop-behind-preserved
loop-behind-preserved c =
    let left = c.loop-behind.invariant in
    let found = c.in-Some.ensures.found in
    let serial = c.in-Some.field-0-0 in (
      left.0 ++ found.0,
      left.1 ++ serial ∷ [],
      left.2 ∙ ap (λ x. left.0 ++ x) found.1 ∙ sym (append_assoc left.0 found.0 c.in-Some.behind.now),
      serials_push left.1 serial left.0 found.0 left.3 found.2 found.3,
    )

pub returns : goal.returns
returns c =
    let left = c.loop-behind.invariant in
    (left.0, left.1, left.2, left.3, c.in_default.ensures.none)
