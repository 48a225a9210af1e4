use Rattle.std.proofs.Common.{◌∙◌, arith}
use Rattle.std.proofs.lemmas.Result.{err_from_is_err_and}
use Rattle.tree_read.proofs.Chains.{chain-none, chain_goes_on, chain_stops, link_stops}
use Rattle.tree_read.proofs.Read.{nodes_before, reads_quiet, stay_on}
use Rattle.tree_read.proofs.Runs.{answers_same}
use Rattle.tree_read.proofs.chain.walk_chain.Goals as goal

pub returns-in_err-find-clause-walk : goal.returns-in_err-find-clause-walk
returns-in_err-find-clause-walk g c = λ nodes has.
    let p = err_from_is_err_and c.from_residual.result c.from_residual.ensures.1 in
    let e = c.in_err-find.field-0.0 in
    rw (p.1, p.2) (answers_same e _ _ (c.loop-left.invariant.walk nodes has)
    (chain_stops nodes c.loop-left.walk c.loop-left.left c.loop-left.page e (omega (arith, c.loop-left-test.true)) c.in_err-find.ensures.walk))

pub returns-in_err-find-clause-reads : goal.returns-in_err-find-clause-reads
returns-in_err-find-clause-reads g c =
    let p = err_from_is_err_and c.from_residual.result c.from_residual.ensures.1 in
    rw (p.1, p.2) (reads_quiet g.D.Disk c.args.pages.now c.loop-left.pages _ c.loop-left.invariant.stay c.loop-left.invariant.faultless c.in_err-find.ensures.quiet)

pub returns-in_err-page-clause-walk : goal.returns-in_err-page-clause-walk
returns-in_err-page-clause-walk g c = λ nodes has.
    let p = err_from_is_err_and c.from_residual-in_err-page.result c.from_residual-in_err-page.ensures.1 in
    let e = c.in_err-page.field-0.0 in
    let before = nodes_before g.D.Disk c.loop-left.pages c.next_link.new.pages nodes c.in_err-page.ensures.reads.stay has in
    rw (p.1, p.2) (answers_same e _ _ (c.loop-left.invariant.walk nodes before)
    (link_stops nodes c.loop-left.walk c.find.new.self c.loop-left.left c.loop-left.page e (omega (arith, c.loop-left-test.true)) c.in_ok-find.ensures.walk (c.in_err-page.ensures.link nodes has)))

pub loop-left-preserved : goal.loop-left-preserved
loop-left-preserved g c =
    let reads = c.in_ok-page.ensures.reads in
    record {
      page = c.in_ok-page.ensures.page;
      stay = stay_on g.D.Disk c.args.pages.now c.loop-left.pages c.next_link.new.pages c.loop-left.invariant.stay reads.stay;
      faultless = reads.cause.only (λ is. cc) ∙ c.loop-left.invariant.faultless;
      walk = λ nodes has.
          let before = nodes_before g.D.Disk c.loop-left.pages c.next_link.new.pages nodes reads.stay has in
          let link = c.in_ok-page.ensures.link nodes has in
          c.loop-left.invariant.walk nodes before
          ∙ chain_goes_on nodes c.loop-left.walk c.find.new.self c.loop-left.left c.loop-left.page c.in_ok-page.page (omega (arith, c.loop-left-test.true)) c.in_ok-find.ensures.walk link.0 link.1;
    }

pub returns-clause-walk : goal.returns-clause-walk
returns-clause-walk g c = λ nodes has.
    c.loop-left.invariant.walk nodes has ∙ chain-none nodes c.loop-left.walk c.loop-left.left c.loop-left.page (omega (arith, c.loop-left-test.false))
