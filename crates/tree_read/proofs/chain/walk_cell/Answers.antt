use Rattle.std.proofs.Common.{[], ◌∷◌}
use Rattle.std.proofs.lemmas.Result.{err_from_is_err_and}
use Rattle.tree_read.specs.Walk.{Holds, overflow}
use Rattle.tree_read.proofs.Read.{reads_quiet}
use Rattle.tree_read.proofs.Runs.{answers_front, meets_on, meets_one}
use Rattle.tree_read.proofs.chain.walk_cell.Goals as goal

pub returns-in_err-walk_overflow-clause-walk : goal.returns-in_err-walk_overflow-clause-walk
returns-in_err-walk_overflow-clause-walk g c = λ nodes has.
    let p = err_from_is_err_and c.from_residual.result c.from_residual.ensures.1 in
    let links = overflow nodes c.args.kind c.args.cell.now in
    rw (p.1, p.2) (answers_front c.in_err-walk_overflow.field-0.0 c.args.walk.now links (Holds c.args.place ∷ []) (c.in_err-walk_overflow.ensures.walk nodes has))

pub returns-clause-walk : goal.returns-clause-walk
returns-clause-walk g c = λ nodes has.
    let mid = c.walk_overflow.new.walk in
    let links = overflow nodes c.args.kind c.args.cell.now in
    meets_on c.hold.result c.args.walk.now mid c.hold.new.self links (Holds c.args.place ∷ []) (c.in_ok-walk_overflow.ensures.walk nodes has)
    (meets_one c.hold.result mid c.hold.new.self (Holds c.args.place) c.hold.ensures.walk)

pub returns-clause-reads : goal.returns-clause-reads
returns-clause-reads g c =
    let reads = c.in_ok-walk_overflow.ensures.reads in
    reads_quiet g.D.Disk c.args.pages.now c.walk_overflow.new.pages c.hold.result reads.stay (reads.cause.only (λ is. cc)) c.hold.ensures.quiet
