use Rattle.std.proofs.Common.{◌≤◌, ◌↔◌, false, IsTrue, List, ◌∙◌, refl, sym, subst, AllPairs}
use Rattle.std.proofs.lemmas.Bool.{false≢true}
use Rattle.std.specs.List.{AllByRecursion}
use Rattle.pager_core.specs.Pages.{shape_of}
use Rattle.schema_rows.specs.declared.schema.SchemaRow.{SchemaRow}
use Rattle.plain_schema.specs.declared.form.Form.{Form}
use Rattle.plain_schema.specs.FirstForm.{AreApart, HasRoot}
use Rattle.plain_schema.specs.Image.{Image}
use Rattle.alter_session.specs.Reading.{IsImageOf}
use Rattle.alter_session.proofs.Readings.{form_is, form_ready, unserved_apart, unserved_roots, unserved_text}
use Rattle.alter_session.proofs.reading.form_of.Goals as goal

pub returns-then-not-are_apart-clause-unserved : goal.returns-then-not-are_apart-clause-unserved
returns-then-not-are_apart-clause-unserved g c =
    let old = c.args.pages.now in
    let first = c.args.first in
    elim c.then-not-are_apart.branch [
      | goal.then-not-are_apart-via-then-not-are_apart w ↦
          unserved_apart g.D.Disk old first c.requires.shape
          (λ apart. false≢true (w.if-not-are_apart.ensures.1 (subst (λ (l : List SchemaRow). AllPairs AreApart l) (sym c.as_slice.ensures.value) apart)))
      | goal.then-not-are_apart-via-else-not-are_apart+in_ok-have_roots+then-not-branch w ↦
          unserved_roots g.D.Disk old first c.requires.shape
          (subst (λ (l : List SchemaRow). (image : Image) → IsImageOf g.D.Disk image old → IsTrue false ↔ AllByRecursion (HasRoot image) l) w.as_slice-else-not-are_apart.ensures.value
          (rw w.if-not-branch.true at w.in_ok-have_roots.ensures.roots))
    ]

pub returns-in-Some-clause-ready : goal.returns-in-Some-clause-ready
returns-in-Some-clause-ready g c =
    let first = c.args.first in
    let same = c.shape.ensures.shape ∙ c.have_roots.ensures.stay.shape in
    let form : Form = record { shape = c.shape.result; page = first.page; tables = c.in-Some.tables } in
    let found = rw c.in-Some.is at c.in_ok-tables.ensures.found in (
      form_ready (shape_of c.args.pages.now) first form c.requires.shape c.requires.first same refl found.0
          (subst (λ (l : List SchemaRow). AllPairs AreApart l) c.as_slice.ensures.value (c.if-not-are_apart.ensures.0 refl))
          (subst (λ (l : List SchemaRow). AllByRecursion (λ row. (2 ≤ row.root) × (row.root ≤ (shape_of c.args.pages.now).count)) l) c.as_slice-else-not-are_apart.ensures.value
          (c.in_ok-have_roots.ensures.there c.if-not-branch.false))
          (rw c.in-Some.is at c.in_ok-tables.ensures.inside),
      same,
    )

pub returns-in-Some-clause-found : goal.returns-in-Some-clause-found
returns-in-Some-clause-found g c = λ image is page.
    let first = c.args.first in
    let same = c.shape.ensures.shape ∙ c.have_roots.ensures.stay.shape in
    let form : Form = record { shape = c.shape.result; page = first.page; tables = c.in-Some.tables } in
    let found = rw c.in-Some.is at c.in_ok-tables.ensures.found in
    form_is g.D.Disk image c.args.pages.now first form is c.requires.first page same refl found.0
    (subst (λ (l : List SchemaRow). AllPairs AreApart l) c.as_slice.ensures.value (c.if-not-are_apart.ensures.0 refl))
    (subst (λ (l : List SchemaRow). AllByRecursion (HasRoot image) l) c.as_slice-else-not-are_apart.ensures.value
    ((c.in_ok-have_roots.ensures.roots image is).0 c.if-not-branch.false))
    found.1

pub returns-in-None-clause-unserved : goal.returns-in-None-clause-unserved
returns-in-None-clause-unserved g c =
    unserved_text g.D.Disk c.args.pages.now c.args.first c.requires.shape c.in_ok-tables.field-0 c.in-None.is c.in_ok-tables.ensures.only
