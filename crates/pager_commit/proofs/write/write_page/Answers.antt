use Rattle.std.proofs.Common.{◌-◌, ◌*◌, sym, ◌∙◌, subst}
use Rattle.alter_disk.specs.Changes.{Torn}
use Rattle.pager_core.specs.Pages.{is_changed, shape_of}
use Rattle.pager_commit.specs.Stages.{KeepsUnchanged}
use Rattle.pager_commit.proofs.WriteLemmas.{changes_so, keeps_torn}
use Rattle.pager_commit.proofs.write.write_page.Goals as goal

pub returns-then-changed-clause-changes : goal.returns-then-changed-clause-changes
returns-then-changed-clause-changes g c =
    let pages = c.args.pages.now in
    let n = c.args.n in
    let page = (shape_of pages).page in
    changes_so g.D.Disk (Torn ((n - 1) * page) _) (KeepsUnchanged (is_changed pages) page) _ _ (λ x y torn.
    keeps_torn (is_changed pages) page n x y c.requires.number.0 (sym c.changed.ensures ∙ c.if-changed.true) (subst (λ k. Torn ((n - 1) * page) k x y) c.write_back.ensures.page.1 torn)) c.write_back.ensures.changes
