use Rattle.std.proofs.Common.{ap, sym, ◌∙◌}
use Rattle.pager_core.specs.declared.file_shape.FileShape.{FileShape}
use Rattle.pager_core.proofs.PagesLemmas.{read_stays, unread_slot}
use Rattle.pager_core.proofs.pages.Pages.load.Goals as goal

pub returns-clause-stay : goal.returns-clause-stay
returns-clause-stay g c =
    read_stays g.D.Disk c.args.self.now _ c.reserve.new.self c.args.n c.shape-page.result.page c.in_ok-bytes.bytes.items
    (unread_slot _ (sym c.is_shown.ensures ∙ c.if-is_shown.false)) c.reserve.ensures.kept c.keep.ensures c.read_page.ensures.reads
    (ap (λ (s : FileShape). s.page) c.shape-page.ensures.shape) c.in_ok-bytes.ensures.told
