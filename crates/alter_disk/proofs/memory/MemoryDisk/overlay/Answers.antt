use Rattle.std.proofs.Common.{◌+◌, ◌∷◌, length, sym, ap, subst, rules}
use Rattle.alter_disk.specs.Files.{Files}
use Rattle.alter_disk.specs.Memory.{Held}
use Rattle.alter_disk.specs.Pending.{Wrote, MayLeave, newest_first}
use Rattle.alter_disk.proofs.Pending.{left_wrote}
use Rattle.alter_disk.proofs.memory.MemoryDisk.overlay.Goals as goal

pub invariant_of-self-2 : goal.invariant_of-self-2
invariant_of-self-2 c =
    let first : Files = record { db = c.self.inside.first_db.items; journal = c.self.inside.first_journal.items } in
    let f = c.self.inside.files.files in
    let calls = newest_first c.reserve.new.self.items in
    let left : MayLeave first calls f = subst (λ made. MayLeave first (newest_first made) f) (sym c.reserve.ensures.items) c.self.invariant.2 in
    let wrote = left_wrote c.args.which c.args.at c.args.piece.now first calls f left in (
      search rules,
      search rules,
      subst (λ made. MayLeave first made c.overlay.new.self.files) (sym c.keep.ensures.kept)
          (subst (λ g. MayLeave first (record { which = c.args.which; change = Wrote c.args.at (c.args.at + length c.args.piece.now) } ∷ calls) g)
          (sym (ap (λ (h : Held). h.files) c.in_ok-overlay.ensures.written)) wrote),
    )
