use Rattle.std.proofs.Common.{◌≡◌, ◌++◌, List, ℕ, ap, ap₂, arith, drop, length, length-append, map, refl, subst, take, true, ◌∙◌, None}
use Rattle.std.proofs.lemmas.List.{take_at}
use Rattle.page_cells.specs.declared.kind.Kind.TheVariants.{TableLeaf}
use Rattle.page_cells.specs.Write.{Fits, written_page}
use Rattle.schema_rows.specs.Schema.{row_cell}
use Rattle.plain_schema.specs.FirstForm.{rows_of}
use Rattle.plain_schema.specs.Header.{committed}
use Rattle.plain_schema.specs.Plan.{AreCellsWith, put_at}
use Rattle.plain_schema.proofs.Written.{built}
use Rattle.plain_schema.proofs.form.Form.page_with.Goals as goal

pub returns-clause-page : goal.returns-clause-page
returns-clause-page c =
    let form = c.args.self.now in
    let usable = form.shape.usable in
    let rows = put_at c.args.place c.args.row.now (rows_of form.tables.items) in
    let (local, items, whole) = subst (AreCellsWith usable rows) c.in-Some.is c.in_ok-cells.ensures in
    let fits : Fits true TableLeaf usable c.as_slice.result.now = c.if-not-fits.ensures.0 refl in
    let was : c.deref_mut.result.now ≡ form.page = c.deref_mut.ensures.value ∙ c.in_ok-page.ensures.items ∙ c.as_slice-2.ensures in
    let front : c.commit.new.header ≡ committed form.shape.count 3 (take 100 form.page) =
    c.commit.ensures ∙ ap (committed form.shape.count 3) (c.split_at_mut-header.ensures.front ∙ ap (take 100) was) in
    let behind : c.split_at_mut-header.result.1.now ≡ drop 100 form.page = c.split_at_mut-header.ensures.back ∙ ap (drop 100) was in
    let header = c.commit.new.header in
    let rest = c.split_at_mut-header.result.1.now in
    let all : length (header ++ rest) ≡ c.in_ok-page.page.len = length-append header rest ∙ omega arith in
    let joined : c.as_mut_slice.result.now ≡ header ++ rest = c.as_mut_slice.ensures.value ∙ take_at (header ++ rest) _ c.in_ok-page.page.len all in
    let page : c.write_page.new.page ≡ written_page c.as_mut_slice.result.now true TableLeaf None usable c.as_slice-3.result.now = c.write_page.ensures.written in
    let extent : length c.write_page.new.page ≡ c.in_ok-page.page.len = omega (arith, ap length joined) in
    let new : c.new.result ≡ c.write_page.new.page = c.new.ensures ∙ take_at c.write_page.new.page _ c.in_ok-page.page.len extent in
    let cells : c.as_slice-3.result.now ≡ map row_cell rows = c.as_slice-3.ensures.value ∙ items in (
      built usable rows c.as_slice.result.now local (c.as_slice.ensures.value ∙ items) fits,
      new ∙ page
          ∙ ap₂ (λ (old : List ℕ) (l : List (List ℕ)). written_page old true TableLeaf None usable l) (joined ∙ ap₂ (λ (x y : List ℕ). x ++ y) front behind) cells,
    )
