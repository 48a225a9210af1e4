use Rattle.std.proofs.Common.{◌≡◌, ap, is_some, sym, subst, ◌∙◌}
use Rattle.alter_disk.specs.Moments.{AtRest, Leaves}
use Rattle.rollback_journal.specs.Recovery.{recovered}
use Rattle.rollback_journal.specs.Standing.{standing}
use Rattle.alter_session.specs.Opening.{IsUnopened, KeepsBytes, error_of_page}
use Rattle.alter_session.proofs.Openings.{opened_from, opened_keeps, opened_stops, rests_new, unbuilt, unread}
use Rattle.alter_session.proofs.session.Session.open.Goals as goal

pub returns-in-Ok-Some-clause-opened : goal.returns-in-Ok-Some-clause-opened
returns-in-Ok-Some-clause-opened g c = λ f told.
    opened_from g.D.Disk f c.open_shape.new.disk c.in-Ok.shape (c.open_shape.ensures.stays.telling ∙ ap is_some told) (c.in-Ok.ensures.shaped f told) c.in-Ok.ensures.sound
    c.new-pages.result c.read_form.new.pages c.new-pages.ensures c.read_form.ensures.stay c.in-Ok-Some.form (rw c.in-Ok-Some.field-0-is at c.in-Ok-Some.ensures.found)

pub returns-in-Ok-Some-clause-stops : goal.returns-in-Ok-Some-clause-stops
returns-in-Ok-Some-clause-stops g c = λ f told.
    opened_stops g.D.Disk f c.open_shape.new.disk c.in-Ok.shape (c.open_shape.ensures.stays.telling ∙ ap is_some told) (c.in-Ok.ensures.shaped f told) c.in-Ok.ensures.sound
    c.new-pages.result c.read_form.new.pages c.new-pages.ensures c.read_form.ensures.stay c.args.disk (c.open_shape.ensures.stops f told)

pub returns-in-Ok-None-clause-refused : goal.returns-in-Ok-None-clause-refused
returns-in-Ok-None-clause-refused g c = λ f told.
    let some = c.open_shape.ensures.stays.telling ∙ ap is_some told in
    let shaped = c.in-Ok.ensures.shaped f told in (
      unbuilt g.D.Disk f c.open_shape.new.disk c.in-Ok.shape some shaped c.in-Ok.ensures.sound c.new-pages.result c.read_form.new.pages c.new-pages.ensures c.read_form.ensures.stay
          (rw c.in-Ok-None.field-0-is at c.in-Ok-None.ensures.unserved),
      subst (AtRest g.D.Disk (recovered f)) (sym c.into_disk.ensures)
          (rests_new g.D.Disk f c.open_shape.new.disk c.in-Ok.shape some shaped c.in-Ok.ensures.sound c.new-pages.result c.read_form.new.pages c.new-pages.ensures c.read_form.ensures.stay),
    )

pub returns-in-Ok-None-clause-stops : goal.returns-in-Ok-None-clause-stops
returns-in-Ok-None-clause-stops g c = λ f told.
    subst (λ d. Leaves g.D.Disk c.args.disk d (λ c. standing c ≡ standing f)) (sym c.into_disk.ensures)
    (opened_stops g.D.Disk f c.open_shape.new.disk c.in-Ok.shape (c.open_shape.ensures.stays.telling ∙ ap is_some told) (c.in-Ok.ensures.shaped f told) c.in-Ok.ensures.sound
    c.new-pages.result c.read_form.new.pages c.new-pages.ensures c.read_form.ensures.stay c.args.disk (c.open_shape.ensures.stops f told))

pub returns-in-Err-read_form-clause-refused : goal.returns-in-Err-read_form-clause-refused
returns-in-Err-read_form-clause-refused g c = λ f told.
    let is = unread g.D.Disk f c.open_shape.new.disk c.in-Ok.shape (c.open_shape.ensures.stays.telling ∙ ap is_some told) (c.in-Ok.ensures.shaped f told) c.in-Ok.ensures.sound
    c.new-pages.result c.read_form.new.pages c.new-pages.ensures c.read_form.ensures.stay c.in-Err-read_form.error in
    subst (λ e. IsUnopened g.D.Disk f e c.into_disk-in-Err-read_form.result) (sym c.from.ensures)
    (subst (IsUnopened g.D.Disk f (error_of_page c.in-Err-read_form.error)) (sym c.into_disk-in-Err-read_form.ensures) is)

pub returns-in-Err-read_form-clause-stops : goal.returns-in-Err-read_form-clause-stops
returns-in-Err-read_form-clause-stops g c = λ f told.
    subst (λ d. Leaves g.D.Disk c.args.disk d (λ c. standing c ≡ standing f)) (sym c.into_disk-in-Err-read_form.ensures)
    (opened_stops g.D.Disk f c.open_shape.new.disk c.in-Ok.shape (c.open_shape.ensures.stays.telling ∙ ap is_some told) (c.in-Ok.ensures.shaped f told) c.in-Ok.ensures.sound
    c.new-pages.result c.read_form.new.pages c.new-pages.ensures c.read_form.ensures.stay c.args.disk (c.open_shape.ensures.stops f told))

pub returns-in-Ok-Some-clause-kept : goal.returns-in-Ok-Some-clause-kept
returns-in-Ok-Some-clause-kept g c = λ f told cold.
    opened_keeps g.D.Disk f c.open_shape.new.disk c.in-Ok.shape (c.open_shape.ensures.stays.telling ∙ ap is_some told) (c.in-Ok.ensures.shaped f told) c.in-Ok.ensures.sound
    c.new-pages.result c.read_form.new.pages c.new-pages.ensures c.read_form.ensures.stay c.args.disk cold (c.open_shape.ensures.kept f told cold)

pub returns-in-Ok-None-clause-kept : goal.returns-in-Ok-None-clause-kept
returns-in-Ok-None-clause-kept g c = λ f told cold.
    subst (KeepsBytes g.D.Disk f c.args.disk) (sym c.into_disk.ensures)
    (opened_keeps g.D.Disk f c.open_shape.new.disk c.in-Ok.shape (c.open_shape.ensures.stays.telling ∙ ap is_some told) (c.in-Ok.ensures.shaped f told) c.in-Ok.ensures.sound
    c.new-pages.result c.read_form.new.pages c.new-pages.ensures c.read_form.ensures.stay c.args.disk cold (c.open_shape.ensures.kept f told cold))

pub returns-in-Err-read_form-clause-kept : goal.returns-in-Err-read_form-clause-kept
returns-in-Err-read_form-clause-kept g c = λ f told cold.
    subst (KeepsBytes g.D.Disk f c.args.disk) (sym c.into_disk-in-Err-read_form.ensures)
    (opened_keeps g.D.Disk f c.open_shape.new.disk c.in-Ok.shape (c.open_shape.ensures.stays.telling ∙ ap is_some told) (c.in-Ok.ensures.shaped f told) c.in-Ok.ensures.sound
    c.new-pages.result c.read_form.new.pages c.new-pages.ensures c.read_form.ensures.stay c.args.disk cold (c.open_shape.ensures.kept f told cold))
