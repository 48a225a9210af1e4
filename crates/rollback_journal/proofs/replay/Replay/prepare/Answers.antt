use Rattle.std.proofs.Common.{sym, ap, ◌∙◌}
use Rattle.std.proofs.lemmas.Result.{err_from_is_err_and}
use Rattle.rollback_journal.specs.Standing.{is_too_large}
use Rattle.rollback_journal.proofs.Shut.{stands_large, stands_short, free_refusal}
use Rattle.rollback_journal.proofs.replay.Replay.prepare.Goals as goal

pub returns-then-is_too_large-clause-refused : goal.returns-then-is_too_large-clause-refused
returns-then-is_too_large-clause-refused g c = λ f told hot.
    stands_large f c.args.header.now c.in-Ok.len hot (c.in-Ok.ensures.len f told) (sym c.if-is_too_large.true ∙ c.is_too_large.ensures)

pub returns-in_err-page-clause-refused : goal.returns-in_err-page-clause-refused
returns-in_err-page-clause-refused g c =
    let p = err_from_is_err_and c.from_residual-in_err-page.result c.from_residual-in_err-page.ensures.1 in
    rw (p.1, p.2) (λ f told hot. free_refusal f c.in_err-page.field-0.0 c.in_err-page.ensures.free)

pub returns-in-Some-clause-refused : goal.returns-in-Some-clause-refused
returns-in-Some-clause-refused g c = λ f told hot.
    let long = c.in-Ok.ensures.len f told in
    let missing = c.in_ok-page.ensures.missing f (c.journal_len.ensures.reads.only.files ∙ told) long in
    stands_short f c.args.header.now c.in-Ok.len c.in-Some.page hot long (sym c.if-is_too_large.false ∙ c.is_too_large.ensures) (sym c.in-Some.is ∙ missing)

pub returns-in-None-clause-ready : goal.returns-in-None-clause-ready
returns-in-None-clause-ready g c = λ f told hot.
    let long = c.in-Ok.ensures.len f told in
    let missing = c.in_ok-page.ensures.missing f (c.journal_len.ensures.reads.only.files ∙ told) long in
    record {
      playable = record {
        hot = hot;
        within = ap (λ n. is_too_large n c.args.header.now) (sym long) ∙ sym c.is_too_large.ensures ∙ c.if-is_too_large.false;
        complete = sym missing ∙ c.in-None.is;
      };
      long = long;
    }
