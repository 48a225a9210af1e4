-- What an opening gives of a database that was recovered and whose sizes were read.
use Rattle.std.proofs.Common.{◌≡◌, inr, true, List, ℕ, is_some, sym, ap, ◌∙◌, subst}
use Rattle.std.proofs.lemmas.Option.{same_Some}
use Rattle.alter_disk.specs.declared.disk.Disk.{Ghosts}
use Rattle.alter_disk.specs.Files.{Files}
use Rattle.alter_disk.specs.Moments.{AtRest, Leaves, ReadsQuietly}
use Rattle.alter_disk.proofs.Moments.{goes_far}
use Rattle.rollback_journal.specs.Recovery.{recovered}
use Rattle.rollback_journal.specs.Standing.{Standing, Stands, standing}
use Rattle.rollback_journal.proofs.Closing.{rests_stay}
use Rattle.pager_core.specs.declared.error.PageError.{PageError}
use Rattle.pager_core.specs.declared.error.PageError.TheVariants as errors
use Rattle.pager_core.specs.declared.file_shape.FileShape.{FileShape}
use Rattle.pager_core.specs.declared.pages.Pages.{Pages}
use Rattle.pager_core.specs.Image.{image_of}
use Rattle.pager_core.specs.Pages.{StayAll, disk_of, unread_pages}
use Rattle.pager_commit.proofs.Opened.{opened_stay}
use Rattle.plain_schema.specs.declared.form.Form.{Form}
use Rattle.plain_schema.specs.declared.table.Table.{Table}
use Rattle.plain_schema.specs.FirstForm.{IsFirstForm}
use Rattle.plain_schema.specs.Image.{Image}
use Rattle.plain_schema.specs.Served.{IsFormOf}
use Rattle.alter_session.specs.Committing.{IsClean}
use Rattle.alter_session.specs.Opening.{IsOpenable, IsOpenedFrom, IsShaped, IsUnopened, KeepsBytes, ShapesBytes, error_of_page}
use Rattle.alter_session.specs.Reading.{IsImageOf}
use Rattle.alter_session.specs.Serves.{IsUnbuilt}
use Rattle.alter_session.proofs.Images.{IsNew, new_pages}
use Rattle.alter_session.proofs.Recoveries.{keeps_read, recovered_bytes, recovered_cold, recovered_stops, told_rest}

same_bytes : (a b : List ℕ) (s : Standing) → s ≡ Stands a → s ≡ Stands b → a ≡ b
same_bytes a b s p q = by (sym p ∙ q)
  where
    by : Stands a ≡ Stands b → a ≡ b
    by e = cc

-- pages of which none is changed, after reads
pub clean_stays : {D : Type 0} (disk : Ghosts D) (image : Image) (old new : Pages D) → StayAll disk old new → IsClean disk image old → IsClean disk image new
clean_stays disk image old new stay clean = record {
  base = clean.base;
  log = clean.log;
  opened = opened_stay disk old new clean.base clean.log stay clean.opened;
  image_is = clean.image_is;
  count = stay.before ∙ clean.count ∙ ap (λ (s : FileShape). s.count) (sym stay.shape);
  unchanged = λ n. (stay.pages n).changed ∙ clean.unchanged n;
}

module _ {D : Type 0} (disk : Ghosts D) (f : Files) (mid : D) (shape : FileShape) (some : is_some (disk.files mid) ≡ true) (is : IsShaped disk f shape mid)
    (openable : IsOpenable shape) where
  base : (recovered f).db ≡ is.bytes
  base = recovered_bytes f is.bytes is.stood

  fresh : IsNew disk (recovered f) mid shape
  fresh = new_pages disk (recovered f) mid shape (told_rest disk (recovered f) mid some is.rests) is.rests (recovered_cold f is.bytes is.stood) openable.held
      (subst (λ b. ShapesBytes b shape) (sym base) is.shapes)

  module _ (made new : Pages D) (same : made ≡ unread_pages mid shape) (stay : StayAll disk made new) where
    quiet : ReadsQuietly disk mid (disk_of new)
    quiet = subst (λ d. ReadsQuietly disk d (disk_of new)) (ap (λ (p : Pages D). disk_of p) same) stay.reads

    known_made : IsImageOf disk fresh.image made
    known_made = subst (IsImageOf disk fresh.image) (sym same) fresh.known_so

    pub rests_new : AtRest disk (recovered f) (disk_of new)
    rests_new = rests_stay disk (recovered f) mid (disk_of new) is.rests quiet

    -- what is opened
    pub opened_from : (form : Form) → ((image : Image) → IsImageOf disk image made → IsFormOf image form) → IsOpenedFrom disk f (record { pages = new; form = form })
    opened_from form found =
        let of = found fresh.image known_made in
        record {
          image = fresh.image;
          serves = record { bytes = is.bytes; stood = is.stood; accepted = is.shapes.accepted; image_is = ap image_of (sym base) ∙ fresh.image_is; tables = form.tables.items; form = of.first };
          holds = record { clean = clean_stays disk fresh.image made new stay (subst (IsClean disk fresh.image) (sym same) fresh.clean); of = of };
          rests = rests_new;
        }

    pub opened_stops : (old : D) → Leaves disk old mid (λ c. standing c ≡ standing f) → Leaves disk old (disk_of new) (λ c. standing c ≡ standing f)
    opened_stops old first = goes_far disk old mid (disk_of new) (λ c. standing c ≡ standing f) first (recovered_stops disk f mid (disk_of new) is.rests quiet)

    -- every byte is kept where nothing is recovered
    pub opened_keeps : (old : D) → recovered f ≡ f → KeepsBytes disk f old mid → KeepsBytes disk f old (disk_of new)
    opened_keeps old cold kept = keeps_read disk f old mid (disk_of new) kept (subst (λ g. AtRest disk g mid) cold is.rests) quiet

    -- what is not
    pub unbuilt : ((image : Image) (tables : List Table) → IsImageOf disk image made → IsFirstForm image tables → ⊥) → IsUnbuilt f
    unbuilt none = record {
      bytes = is.bytes;
      stood = is.stood;
      accepted = is.shapes.accepted;
      unserved = λ image serves.
          let bytes : is.bytes ≡ serves.bytes = same_bytes is.bytes serves.bytes (standing f) is.stood serves.stood in
          let one : fresh.image ≡ image = same_Some fresh.image image (sym fresh.image_is ∙ ap image_of (base ∙ bytes) ∙ serves.image_is) in
          none image serves.tables (subst (λ (i : Image). IsImageOf disk i made) one known_made) serves.form;
    }

    pub unread : (error : PageError) → IsUnopened disk f (error_of_page error) (disk_of new)
    unread (errors.Memory fault) = inr rests_new
    unread errors.Failed = tt
