-- One command on an image, by the form of the image.
use Rattle.std.proofs.Common.{◌≡◌, ℕ, true, Option, Some, None, List, ◌∷◌, ◌++◌, length, map, take, drop, refl, sym, ◌∙◌, ap, subst}
use Rattle.std.specs.List.{find}
use Rattle.page_cells.specs.declared.kind.Kind.TheVariants.{TableLeaf}
use Rattle.page_cells.specs.Write.{written_page}
use Rattle.pager_core.specs.Header.{page_size, usable_size}
use Rattle.plain_sql.specs.Script.{IsPlainCommand}
use Rattle.plain_sql.specs.declared.script.Command.{Command}
use Rattle.schema_rows.specs.declared.schema.SchemaRow.{SchemaRow}
use Rattle.schema_rows.specs.Schema.{row_cell}
use Rattle.plain_schema.specs.declared.form.Form.{Form}
use Rattle.plain_schema.specs.declared.verdict.Refusal.{Refusal}
use Rattle.plain_schema.specs.declared.verdict.Verdict.{Verdict}
use Rattle.plain_schema.specs.declared.verdict.Verdict.TheVariants.{Done, Refused}
use Rattle.plain_schema.specs.FirstForm.{IsFirstForm, first_page, header_of, rows_of}
use Rattle.plain_schema.specs.Header.{committed}
use Rattle.plain_schema.specs.Image.{Image}
use Rattle.plain_schema.specs.Plan.{Advances, IsAdvanced, left_by, new_page, verdict_on}
use Rattle.plain_schema.specs.Served.{IsFormOf}
use Rattle.plain_schema.specs.Step.{Step, after, is_built, is_named, refusal_of, verdict_from}
use Rattle.plain_schema.proofs.Added.{added, is_new_page, is_sound, new_image}
use Rattle.plain_schema.proofs.Held.{have_room}
use Rattle.plain_schema.proofs.Retold.{spelled_added, spelled_after}
use Rattle.plain_schema.proofs.Tables.{unbroken}

-- page 1 after the command, by equal numbers
same_page : (count n usable u : ℕ) (page p : List ℕ) (rows : List SchemaRow) → count ≡ n → usable ≡ u → page ≡ p
    → written_page (committed count 3 (take 100 page) ++ drop 100 page) true TableLeaf None usable (map row_cell rows)
    ≡ written_page (committed n 3 (take 100 p) ++ drop 100 p) true TableLeaf None u (map row_cell rows)
same_page count n usable u page p rows a b c = rw (a, b, c) refl

-- what one command makes of an image, and that each form after it is of the new image
pub record IsStepped (image : Image) (form : Form) (command : Command) (verdict : Verdict) : Type 0 where
  pub step : Step image command verdict (left_by form command verdict image)
  pub forms : (new : Form) → Advances form command verdict new → IsFormOf (left_by form command verdict image) new

-- a command that is refused
refused : (image : Image) (form : Form) (command : Command) (refusal : Refusal) → IsFormOf image form
    → refusal_of form.shape.usable form.tables.items command ≡ Some refusal → IsStepped image form command (Refused refusal)
refused image form command refusal is some = record {
  step = record {
    tables = form.tables.items;
    form = is.first;
    decided = sym (ap verdict_from (subst (λ (u : ℕ). refusal_of u form.tables.items command ≡ Some refusal) is.usable some));
    leaves = refl;
  };
  forms = λ new same. subst (IsFormOf image) (sym same) is;
}

-- the form of the image of a command that is done
form_after : (image : Image) (form : Form) (command : Command) (new : Form) → IsFormOf image form → IsAdvanced form command new
    → length (first_page image) ≡ page_size (header_of image) → is_built (usable_size (header_of image)) (rows_of (after command form.tables.items)) ≡ true
    → IsFirstForm (new_image image (rows_of (after command form.tables.items))) (after command form.tables.items)
    → IsFormOf (new_image image (rows_of (after command form.tables.items))) new
form_after image form command new is advanced whole built first =
    let rows = rows_of (after command form.tables.items) in
    let page = is_new_page image rows (is_sound image is.first.stored.header whole) (have_room (usable_size (header_of image)) rows built) in
    record {
      first = subst (IsFirstForm (new_image image rows)) (sym advanced.tables) first;
      size = ap (λ s. s.page) advanced.shape ∙ is.size ∙ sym page.size;
      usable = ap (λ s. s.usable) advanced.shape ∙ is.usable ∙ sym page.usable;
      count = ap (λ s. s.count) advanced.shape ∙ is.count ∙ sym page.count;
      page =
          advanced.page
          ∙ same_page form.shape.count (length image) form.shape.usable (usable_size (header_of image)) form.page (first_page image) rows
          is.count is.usable is.page;
    }

-- a command that is done
done : (image : Image) (form : Form) (command : Command) → IsFormOf image form → length (first_page image) ≡ page_size (header_of image)
    → IsPlainCommand command → refusal_of form.shape.usable form.tables.items command ≡ None → IsStepped image form command Done
done image form command is whole plain none =
    let tables = form.tables.items in
    let rows = rows_of (after command tables) in
    let usable = usable_size (header_of image) in
    let first = is.first in
    let free = subst (λ (u : ℕ). refusal_of u tables command ≡ None) is.usable none in
    let it = unbroken usable tables command (find (is_named command) tables) free in
    let spelled = spelled_after command tables it.table first.stored.apart it.found (spelled_added command it.table plain.column it.other) first.spelled in
    let leaves = added image tables command first.stored whole it.built spelled in
    let page : new_page form command ∷ drop 1 image ≡ new_image image rows =
    ap (λ (p : List ℕ). p ∷ drop 1 image)
    (same_page form.shape.count (length image) form.shape.usable usable form.page (first_page image) rows is.count is.usable is.page) in
    record {
      step = subst (Step image command Done) (sym page) (record {
        tables = tables;
        form = first;
        decided = sym (ap verdict_from free);
        leaves = leaves;
      });
      forms = λ new advanced. subst (λ (i : Image). IsFormOf i new) (sym page) (form_after image form command new is advanced whole it.built leaves.form);
    }

-- What one command makes of an image with a whole page 1, by the form of the image: it gets the verdict of the rule, and page 1 is
-- the form's new one where it is done.
pub stepped : (image : Image) (form : Form) (command : Command) → IsFormOf image form → length (first_page image) ≡ page_size (header_of image)
    → IsPlainCommand command → IsStepped image form command (verdict_on form command)
stepped image form command is whole plain = by (refusal_of form.shape.usable form.tables.items command) refl
  where
    by : (refusal : Option Refusal) → refusal_of form.shape.usable form.tables.items command ≡ refusal
        → IsStepped image form command (verdict_from refusal)
    by None e = done image form command is whole plain e
    by (Some refusal) e = refused image form command refusal is e
