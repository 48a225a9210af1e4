-- What a command makes of a session's image.
use Rattle.std.proofs.Common.{◌≡◌, ◌⊎◌, inl, inr, ℕ, ◌+◌, ◌*◌, ◌≤◌, ◌==◌, if◌then◌else◌, List, ◌∷◌, length, take, drop, refl, sym, ap, ◌∙◌, subst, arith}
use Rattle.alter_bytes.proofs.Fields.{same_number}
use Rattle.alter_disk.specs.declared.disk.Disk.{Ghosts}
use Rattle.alter_disk.specs.declared.way.Way.{Way}
use Rattle.alter_disk.specs.declared.way.Way.TheVariants.{Read, Write}
use Rattle.alter_disk.specs.Files.{Files}
use Rattle.alter_disk.specs.Moments.{Leaves, Stays}
use Rattle.alter_disk.proofs.Moments.{weaker}
use Rattle.rollback_journal.proofs.FilePages.{part_of_front}
use Rattle.pager_core.specs.declared.file_shape.FileShape.{FileShape}
use Rattle.pager_core.specs.Header.{number_at, page_size}
use Rattle.pager_core.specs.declared.pages.Pages.{Pages}
use Rattle.pager_core.specs.Pages.{disk_of, shape_of}
use Rattle.pager_core.proofs.Sound.{accepted_format}
use Rattle.pager_commit.specs.Opens.{Opens}
use Rattle.plain_sql.specs.declared.script.Command.{Command}
use Rattle.plain_sql.specs.Script.{IsPlainCommand}
use Rattle.plain_schema.specs.declared.form.Form.{Form}
use Rattle.plain_schema.specs.declared.plan.Change.{Change}
use Rattle.plain_schema.specs.declared.plan.Plan.{Plan}
use Rattle.plain_schema.specs.declared.plan.Plan.TheVariants.{Refused, Changed}
use Rattle.plain_schema.specs.declared.verdict.Verdict.{Verdict}
use Rattle.plain_schema.specs.declared.verdict.Verdict.TheVariants as verdicts
use Rattle.plain_schema.specs.FirstForm.{first_page, header_of}
use Rattle.plain_schema.specs.Header.{committed}
use Rattle.plain_schema.specs.Image.{Image}
use Rattle.plain_schema.specs.Plan.{Advances, IsTaken, KeepsExtent, Plans, left_by, verdict_of, verdict_on}
use Rattle.plain_schema.specs.Served.{IsFormOf, IsReady}
use Rattle.plain_schema.specs.Step.{Step, verdict_from}
use Rattle.plain_schema.proofs.Added.{is_sound}
use Rattle.plain_schema.proofs.CommittedLemmas.{current-committed, page_size-committed}
use Rattle.plain_schema.proofs.ReadyLemmas.{stays_ready}
use Rattle.plain_schema.proofs.Stepped.{IsStepped, stepped}
use Rattle.alter_session.specs.declared.session.Session.{Session}
use Rattle.alter_session.specs.declared.answer.Outcome.TheVariants.{Failed}
use Rattle.alter_session.specs.Applying.{Applied, IsAnswered, IsUndone, MayHave, PlanFits, PlanGives, carried}
use Rattle.alter_session.specs.declared.fault.Fault.{Fault}
use Rattle.alter_session.specs.declared.fault.Fault.TheVariants as faults
use Rattle.alter_session.specs.Committing.{GivesSizes, IsBefore, IsClean, KeepsSizes, with_first}
use Rattle.alter_session.specs.Session as sessions

-- the header's numbers stand in the first 100 bytes
pub header_number : (n at : ℕ) (page : List ℕ) → at + n ≤ 100 → number_at n at (take 100 page) ≡ number_at n at page
header_number n at page within = same_number n at (take 100 page) page (part_of_front page at n 100 within)

header_size : (page : List ℕ) → page_size (take 100 page) ≡ page_size page
header_size page = ap (λ (k : ℕ). if k == 1 then 65536 else k) (header_number 2 16 page (omega arith))

-- the verdict of a plan is that of the rule
planned_verdict : (form : Form) (command : Command) (plan : Plan) → Plans form command plan → verdict_of plan ≡ verdict_on form command
planned_verdict form command (Refused refusal) is = sym (ap verdict_from is)
planned_verdict form command (Changed change) is = sym (ap verdict_from is.0)

-- and so is the image that it leaves
planned_image : (form : Form) (command : Command) (plan : Plan) (image : Image) → Plans form command plan → carried plan image ≡ left_by form command (verdict_of plan) image
planned_image form command (Refused refusal) image is = refl
planned_image form command (Changed change) image is = ap (λ (p : List ℕ). p ∷ drop 1 image) is.3

-- a form that took over a plan
planned_form : (form : Form) (command : Command) (plan : Plan) (new : Form) → Plans form command plan → IsTaken form plan new → Advances form command (verdict_of plan) new
planned_form form command (Refused refusal) new is taken = taken
planned_form form command (Changed change) new is taken = record { shape = taken.shape; page = taken.page ∙ is.3; tables = taken.tables ∙ is.2 }

module _ (image : Image) (form : Form) (command : Command) (of : IsFormOf image form) (ready : IsReady form) (plain : IsPlainCommand command) where
  whole : length (first_page image) ≡ page_size (header_of image)
  whole = ap length (sym of.page) ∙ ready.page ∙ of.size

  planned_step : (plan : Plan) → Plans form command plan → IsStepped image form command (verdict_of plan)
  planned_step plan is = subst (IsStepped image form command) (sym (planned_verdict form command plan is)) (stepped image form command of whole plain)

  -- what a plan leaves, and what took it over
  pub planned_after : (plan : Plan) → Plans form command plan → Step image command (verdict_of plan) (carried plan image)
  planned_after plan is = subst (Step image command (verdict_of plan)) (sym (planned_image form command plan image is)) (planned_step plan is).step

  pub planned_of : (plan : Plan) (new : Form) → Plans form command plan → IsTaken form plan new → IsFormOf (carried plan image) new
  planned_of plan new is taken =
      subst (λ (i : Image). IsFormOf i new) (sym (planned_image form command plan image is)) ((planned_step plan is).forms new (planned_form form command plan new is taken))

  -- the page 1 of a plan gives the sizes of the file
  pub planned_gives : (plan : Plan) (shape : FileShape) → form.shape ≡ shape → Plans form command plan → PlanGives shape plan
  planned_gives (Refused refusal) shape same is = tt
  planned_gives (Changed change) shape same is =
      let added = (planned_after (Changed change) is).leaves in
      let head = header_of image in
      let sound = is_sound image of.first.stored.header whole in
      let front : take 100 change.page ≡ committed (length image) 3 head = added.header in
      let format = accepted_format head (length image * page_size head) of.first.stored.header.accepted in
      let current = current-committed (length image) head sound.header (omega (arith, format)) sound.some (omega (arith, sound.few)) in
      record {
        size = sym (header_size change.page) ∙ ap page_size front ∙ page_size-committed (length image) head sound.header ∙ sym of.size ∙ ap (λ (s : FileShape). s.page) same;
        count = sym (header_number 4 28 change.page (omega arith)) ∙ ap (number_at 4 28) front ∙ current.field ∙ sym of.count ∙ ap (λ (s : FileShape). s.count) same;
        current = sym (header_number 4 24 change.page (omega arith)) ∙ ap (number_at 4 24) front ∙ current.change ∙ ap (number_at 4 92) (sym front) ∙ header_number 4 92 change.page (omega arith);
      }

-- a crash leaves the image before a plan, or what the command makes of it
pub may_have : (image : Image) (command : Command) (plan : Plan) → Step image command (verdict_of plan) (carried plan image)
    → (c : Files) → Opens image c ⊎ Opens (carried plan image) c → MayHave image command c
may_have image command (Refused refusal) step c (inl same) = inl same
may_have image command (Refused refusal) step c (inr same) = inl same
may_have image command (Changed change) step c (inl same) = inl same
may_have image command (Changed change) step c (inr same) = inr (carried (Changed change) image, step, same)

-- what is so of the new page 1 of a plan
pub carried_so : (shape : FileShape) (plan : Plan) (change : Change) (page : List ℕ) (image : Image) (Q : Image → Type 0) → plan ≡ Changed change → page ≡ change.page
    → (GivesSizes shape page → Q (with_first page image)) → PlanGives shape plan → Q (carried plan image)
carried_so shape plan change page image Q is same so gives =
    let P : Plan → Type 0 = λ p. PlanGives shape p → Q (carried p image) in
    let at : P (Changed change) = λ g. subst (λ (l : List ℕ). Q (with_first l image)) same (so (subst (GivesSizes shape) (sym same) g)) in
    subst P (sym is) at gives

-- a page 1 that is put in is as long as the pages
pub plan_fits : (form : Form) (plan : Plan) (shape : FileShape) → IsReady form → form.shape ≡ shape → KeepsExtent form plan → PlanFits shape plan
plan_fits form (Refused refusal) shape ready same keeps = tt
plan_fits form (Changed change) shape ready same keeps = keeps ∙ ready.page ∙ ap (λ (s : FileShape). s.page) same

taken_shape : (form : Form) (plan : Plan) (new : Form) → IsTaken form plan new → new.shape ≡ form.shape
taken_shape form (Refused refusal) new taken = ap (λ (f : Form). f.shape) taken
taken_shape form (Changed change) new taken = taken.shape

module _ {D : Type 0} (disk : Ghosts D) (old : Session D) (command : Command) (plan : Plan) (pages : Pages D) (ready : sessions.IsReady disk old) (plain : IsPlainCommand command)
    (is : Plans old.form command plan) where
  -- at each moment
  pub run_stops : (image : Image) → sessions.Holds disk image old
      → (IsClean disk image old.pages → PlanGives (shape_of old.pages) plan → Leaves disk (disk_of old.pages) (disk_of pages) (λ c. Opens image c ⊎ Opens (carried plan image) c))
      → Leaves disk (disk_of old.pages) (disk_of pages) (MayHave image command)
  run_stops image holds stops =
      weaker disk (disk_of old.pages) (disk_of pages) (λ c. Opens image c ⊎ Opens (carried plan image) c) (MayHave image command)
      (may_have image command plan (planned_after image old.form command holds.of ready.ready plain plan is))
      (stops holds.clean (planned_gives image old.form command holds.of ready.ready plain plan (shape_of old.pages) ready.shape is))

  -- at the end
  pub run_answered : (image : Image) (verdict : Verdict) (new : Form) → sessions.Holds disk image old → verdict ≡ verdict_of plan → IsTaken old.form plan new
      → (IsClean disk image old.pages → PlanGives (shape_of old.pages) plan → IsClean disk (carried plan image) pages)
      → IsAnswered disk image command verdict (record { pages = pages; form = new })
  run_answered image verdict new holds same taken done = record {
    last = carried plan image;
    step = subst (λ (v : Verdict). Step image command v (carried plan image)) (sym same) (planned_after image old.form command holds.of ready.ready plain plan is);
    holds = record {
      clean = done holds.clean (planned_gives image old.form command holds.of ready.ready plain plan (shape_of old.pages) ready.shape is);
      of = planned_of image old.form command holds.of ready.ready plain plan new is taken;
    };
  }

  pub run_ready : (new : Form) → KeepsExtent old.form plan → IsTaken old.form plan new → KeepsSizes old.pages pages → Stays disk (disk_of old.pages) (disk_of pages)
      → sessions.IsReady disk (record { pages = pages; form = new })
  run_ready new keeps taken sizes stays = record {
    called = stays.called ∙ ready.called;
    ready = stays_ready old.form command plan new ready.ready is keeps taken;
    shape = taken_shape old.form plan new taken ∙ ready.shape ∙ sym sizes.shape;
    count = sizes.before ∙ ready.count ∙ ap (λ (s : FileShape). s.count) (sym sizes.shape);
  }

  -- a command that was not carried out
  pub undone : (fault : Fault) → verdict_of plan ≡ verdicts.Done → IsBefore disk old.pages pages fault → IsUndone disk command old (record { pages = pages; form = old.form }) fault
  undone (faults.Memory error) done before = (before.0, λ image holds. record { clean = before.1 image holds.clean; of = holds.of })
  undone (faults.Failed Read) done before = (before.0, λ image holds. record { clean = before.1 image holds.clean; of = holds.of })
  undone (faults.Failed Write) done before = λ image holds. (
    carried plan image,
    subst (λ (v : Verdict). Step image command v (carried plan image)) done (planned_after image old.form command holds.of ready.ready plain plan is),
  )

-- a failure, by what is so of a command that was not carried out
pub failed_applied : {D : Type 0} (disk : Ghosts D) (command : Command) (old new : Session D) (d : D) (way : Way) → IsUndone disk command old new (faults.Failed way)
    → (image : Image) → sessions.Holds disk image old → Applied disk image command (Failed d way)
failed_applied disk command old new d Read undone image holds = tt
failed_applied disk command old new d Write undone image holds = undone image holds
