use Rattle.std.proofs.Common.{◌≡◌, ◌<◌, ◌+◌, ◌∷◌, ◌++◌, ℕ, ap, arith, drop, length, refl, subst, suc, sym, take, ◌∙◌}
use Rattle.std.proofs.lemmas.List.{set_split}
use Rattle.std.specs.List.{slice_set}
use Rattle.std.specs.Vec.{with_item}
use Rattle.plain_schema.specs.declared.form.Form.{Form}
use Rattle.plain_schema.specs.declared.plan.Change.{Change}
use Rattle.plain_schema.specs.declared.plan.Plan.{Plan}
use Rattle.plain_schema.specs.declared.plan.Plan.TheVariants.{Changed}
use Rattle.plain_schema.specs.Plan.{HasRoomFor, IsPut, IsTaken}
use Rattle.plain_schema.proofs.form.Form.take.Goals as goal

-- a form whose table at the place of the change is another
taken : (form new : Form) (plan : Plan) (change : Change) → plan ≡ Changed change → HasRoomFor form plan
    → new.shape ≡ form.shape → new.page ≡ change.page → new.tables.items ≡ slice_set form.tables.items change.place change.table → IsTaken form plan new
taken form new plan change is within shape page tables =
    let there : change.place < length form.tables.items = subst (HasRoomFor form) is within in
    let next : suc change.place ≡ change.place + 1 = omega arith in
    let put : IsPut form change new = record {
      shape = shape;
      page = page;
      tables =
          tables ∙ set_split form.tables.items change.place change.table there
          ∙ ap (λ (n : ℕ). take change.place form.tables.items ++ change.table ∷ drop n form.tables.items) next;
    } in
    subst (λ (p : Plan). IsTaken form p new) (sym is) put

pub returns-in-Changed : goal.returns-in-Changed
returns-in-Changed c =
    let form = c.args.self.now in
    let change = c.in-Changed.field-0 in
    taken form (record { shape = form.shape; page = change.page; tables = with_item form.tables change.place change.table })
    c.args.plan change c.in-Changed.is c.requires refl refl refl
