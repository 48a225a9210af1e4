use Rattle.std.proofs.Common.{inl, inr, ap, ◌∙◌, arith}
use Rattle.pager_core.specs.declared.file_shape.FileShape.{FileShape}
use Rattle.alter_session.proofs.Readings.{root_out, root_read}
use Rattle.alter_session.proofs.reading.has_root.Goals as goal

pub returns-then-root-lt2-clause-root : goal.returns-then-root-lt2-clause-root
returns-then-root-lt2-clause-root g c = λ image is.
    elim c.then-root-lt2.branch [
      | goal.then-root-lt2-via-then-root-lt2 w ↦ root_out g.D.Disk image c.args.pages.now c.args.row.now is (inl (omega (arith, w.if-root-lt2.true)))
      | goal.then-root-lt2-via-else-root-lt2+then-root-count w ↦ root_out g.D.Disk image c.args.pages.now c.args.row.now is (inr (omega (arith, w.if-root-count.true, w.count.ensures)))
    ]

pub returns-clause-root : goal.returns-clause-root
returns-clause-root g c = λ image is.
    root_read g.D.Disk image c.args.pages.now c.load.new.self c.args.row.now c.loaded.result.now c.in_ok-is_empty_table.field-0 c.shape.result.usable is c.load.ensures.stay
    (omega (arith, c.if-root-lt2.false)) (omega (arith, c.if-root-count.false, c.count.ensures)) c.loaded.ensures.bytes
    (ap (λ (s : FileShape). s.usable) (c.shape.ensures.shape ∙ c.load.ensures.stay.shape)) c.in_ok-is_empty_table.ensures
