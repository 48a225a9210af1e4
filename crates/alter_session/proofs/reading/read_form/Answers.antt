use Rattle.std.proofs.Common.{Some, sym, ap, subst, arith}
use Rattle.std.proofs.lemmas.Result.{IfOk-weaker}
use Rattle.pager_core.specs.declared.file_shape.FileShape.{FileShape}
use Rattle.pager_core.specs.Pages.{shape_of}
use Rattle.alter_session.specs.Reading.{OnlyRows}
use Rattle.alter_session.proofs.Images.{image_first, image_stays}
use Rattle.alter_session.proofs.Readings.{none_so, some_so, unserved_first}
use Rattle.alter_session.proofs.reading.read_form.Goals as goal

pub returns-in-Some-clause-found : goal.returns-in-Some-clause-found
returns-in-Some-clause-found g c =
    let old = c.args.pages.now in
    let mid = c.read_first.new.pages in
    let stay = c.read_first.ensures.stay in
    let found = rw c.in-Some.is at c.in_ok-first.ensures.found in
    IfOk-weaker c.form_of.result _ _ (λ read so. some_so read _ _ (λ form is image known.
    let known_mid = image_stays g.D.Disk image old mid stay known in
    is image known_mid (sym (image_first g.D.Disk image mid c.in-Some.first.page known_mid (omega (arith, c.requires.shape.held.some, ap (λ (s : FileShape). s.count) stay.shape)) found.1))) so) c.form_of.ensures.found

pub returns-in-Some-clause-unserved : goal.returns-in-Some-clause-unserved
returns-in-Some-clause-unserved g c =
    let old = c.args.pages.now in
    let mid = c.read_first.new.pages in
    let stay = c.read_first.ensures.stay in
    let found = rw c.in-Some.is at c.in_ok-first.ensures.found in
    let only = rw c.in-Some.is at c.in_ok-first.ensures.only in
    IfOk-weaker c.form_of.result _ _ (λ read so. none_so read _ _ (λ none image tables known form.
    let known_mid = image_stays g.D.Disk image old mid stay known in
    let first = image_first g.D.Disk image mid c.in-Some.first.page known_mid (omega (arith, c.requires.shape.held.some, ap (λ (s : FileShape). s.count) stay.shape)) found.1 in
    none image tables known_mid
    (subst (λ p. OnlyRows (shape_of mid).usable p (Some c.in-Some.first)) (sym first) (subst (λ (s : FileShape). OnlyRows s.usable c.in-Some.first.page (Some c.in-Some.first)) (sym stay.shape) (only c.in-Some.first.page found.1)))
    form) so) c.form_of.ensures.unserved

pub returns-in-None-clause-unserved : goal.returns-in-None-clause-unserved
returns-in-None-clause-unserved g c = λ image tables is form.
    unserved_first g.D.Disk image c.args.pages.now c.read_first.new.pages tables c.requires.shape is c.read_first.ensures.stay c.in_ok-first.ensures.there
    (rw c.in-None.is at c.in_ok-first.ensures.only) form
