use Rattle.std.proofs.Common.{◌≡◌, ℕ, ◌≤◌, List, length, ap, sym, ◌∙◌, refl, subst}
use Rattle.alter_disk.specs.Changes.{IfTold}
use Rattle.pager_core.proofs.Sound.{page_small}
use Rattle.pager_core.specs.Pages.{disk_of, page_bytes, shape_of}
use Rattle.pager_commit.proofs.records.add_record.Goals as goal

pub push_record-requires : goal.push_record-requires
push_record-requires g c =
    let extent = ap length c.as_slice.ensures.value ∙ c.in_ok-page.ensures.extent in
    let P : ℕ → Type 0 = λ k. k ≤ 65536 in subst P (sym extent) (page_small _ c.stored.ensures.sound.size)

pub returns-clause-added : goal.returns-clause-added
returns-clause-added g c = record {
  entry = record { page = c.args.n; bytes = c.as_slice.result.now };
  number = refl;
  extent = ap length c.as_slice.ensures.value ∙ c.in_ok-page.ensures.extent;
  told = let P : List ℕ → Type 0 = λ bytes. IfTold (g.D.Disk.files (disk_of c.args.pages.now)) (λ f. bytes ≡ page_bytes (shape_of c.args.pages.now).page c.args.n f.db) in
      subst P (sym c.as_slice.ensures.value) c.in_ok-page.ensures.told;
  sum = c.push_record.ensures.sum;
  added = c.in_ok-push_record.ensures.added;
}
