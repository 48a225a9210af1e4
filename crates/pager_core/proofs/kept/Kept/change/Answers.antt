use Rattle.std.proofs.Common.{◌+◌, ◌≤◌, length, sym, subst, IsSome}
use Rattle.pager_core.specs.Kept.{KeptPages, slot_of}
use Rattle.pager_core.specs.Slots.{shown_in}
use Rattle.pager_core.proofs.KeptLemmas.{changed_kept}
use Rattle.pager_core.proofs.kept.Kept.change.Goals as goal

pub invariant_of-self : goal.invariant_of-self
invariant_of-self c =
    let kept : KeptPages = record { shape = c.self.inside.shape; before = c.self.inside.before; slots = c.self.inside.slots.items } in
    let Fits : KeptPages → Type 0 = λ k. c.args.at + length c.args.piece.now ≤ k.shape.page in
    let Shows : KeptPages → Type 0 = λ k. IsSome (shown_in (slot_of k c.args.n)) in
    changed_kept kept c.args.n c.args.at c.args.piece.now c.index_mut.result.now c.change.new.self c.self.invariant
    (subst Fits (sym c.self.view_is) c.requires.fits) (subst Shows (sym c.self.view_is) c.requires.shown) c.index_mut.ensures.value c.change.ensures
