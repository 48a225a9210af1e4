use Rattle.std.proofs.Common.{◌≤◌, List, sym, ap, ◌∙◌, refl, subst, is_ok, true≢false, arith}
use Rattle.std.proofs.lemmas.Bool.{false≢true}
use Rattle.std.proofs.lemmas.List.{take_all}
use Rattle.std.proofs.lemmas.Option.{slice_get_read}
use Rattle.std.specs.List.{AllByRecursion}
use Rattle.common_laws.proofs.Each.{all_more, at_index}
use Rattle.pager_core.specs.declared.file_shape.FileShape.{FileShape}
use Rattle.pager_core.specs.Pages.{shape_of}
use Rattle.plain_schema.specs.FirstForm.{HasRoot}
use Rattle.schema_rows.specs.declared.schema.SchemaRow.{SchemaRow}
use Rattle.alter_session.proofs.Images.{image_stays}
use Rattle.alter_session.proofs.Readings.{stay_on}
use Rattle.alter_session.proofs.reading.have_roots.Goals as goal

pub returns-then-not-branch-clause-roots : goal.returns-then-not-branch-clause-roots
returns-then-not-branch-clause-roots g c = λ image is.
    let at = c.loop-row in
    let rows = c.args.rows.now in
    let read = c.in_ok-has_root.ensures.root image (image_stays g.D.Disk image c.args.pages.now at.pages at.invariant.stay is) in (
      λ no. absurd (false≢true no),
      λ all. absurd (false≢true (sym c.if-not-branch.true
          ∙ read.1 (at_index (HasRoot image) rows at.row-index c.row-item.result all (slice_get_read rows _ at.row-index c.row-item.result refl c.loop-row-test.true c.row-item.is)))),
    )

pub loop-row-preserved : goal.loop-row-preserved
loop-row-preserved g c =
    let at = c.loop-row in
    let rows = c.args.rows.now in
    let old = c.args.pages.now in
    let there = c.in_ok-has_root.ensures.there c.if-not-branch.false in
    record {
      there = all_more (λ row. (2 ≤ row.root) × (row.root ≤ (shape_of old).count)) rows at.row-index c.row-item.result at.invariant.there c.loop-row-test.true c.row-item.is
          (there.0, omega (arith, there.1, ap (λ (s : FileShape). s.count) at.invariant.stay.shape));
      roots = λ image is. all_more (HasRoot image) rows at.row-index c.row-item.result (at.invariant.roots image is) c.loop-row-test.true c.row-item.is
          ((c.in_ok-has_root.ensures.root image (image_stays g.D.Disk image old at.pages at.invariant.stay is)).0 c.if-not-branch.false);
      stay = stay_on g.D.Disk old at.pages c.has_root.new.pages at.invariant.stay c.has_root.ensures.stay;
      faultless = c.in_ok-has_root.ensures.cause.only (λ is. true≢false (ap is_ok is)) ∙ at.invariant.faultless;
    }

pub returns-clause-roots : goal.returns-clause-roots
returns-clause-roots g c = λ image is.
    let at = c.loop-row in (
      λ yes. subst (λ (l : List SchemaRow). AllByRecursion (HasRoot image) l) (take_all at.row-index c.args.rows.now c.loop-row-test.false) (at.invariant.roots image is),
      λ all. refl,
    )
