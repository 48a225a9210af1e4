use Rattle.std.proofs.Common.{◌≡◌, ◌∙◌, length, arith}
use Rattle.std.proofs.lemmas.List.{take_at}
use Rattle.std.proofs.lemmas.Grind.{common_steps}
use Rattle.alter_disk.proofs.Overlays.{written_filled}
use Rattle.alter_disk.proofs.buffers.overlay.Goals as goal

pub returns-clause-written : goal.returns-clause-written
returns-clause-written c =
    let size : length c.write_at.new.bytes ≡ c.fill.new.buffer.len = grind (arith, common_steps) in
    take_at c.write_at.new.bytes _ _ size ∙ c.write_at.ensures
    ∙ rw (c.deref_mut.ensures.value, c.fill.ensures.filled) (written_filled c.args.buffer.now.items c.args.piece.now c.args.at)
