use Rattle.std.proofs.lemmas.Result.{err_from_is_err_and}
use Rattle.alter_session.proofs.Carried.{run_answered, run_ready, run_stops, undone}
use Rattle.alter_session.proofs.session.Session.run.Goals as goal

pub returns-in_err-carry_out-clause-undone : goal.returns-in_err-carry_out-clause-undone
returns-in_err-carry_out-clause-undone g c =
    let p = err_from_is_err_and c.from_residual-in_err-carry_out.result c.from_residual-in_err-carry_out.ensures.1 in
    rw (p.1, p.2) (undone g.D.Disk c.args.self.now c.args.command.now c.in_ok-plan.plan c.carry_out.new.pages c.requires.ready c.requires.plain c.in_ok-plan.ensures.plan _
    c.in_err-carry_out.ensures.changes c.in_err-carry_out.ensures.before)

pub returns-in_err-carry_out-clause-stops : goal.returns-in_err-carry_out-clause-stops
returns-in_err-carry_out-clause-stops g c = λ image holds.
    run_stops g.D.Disk c.args.self.now c.args.command.now c.in_ok-plan.plan c.carry_out.new.pages c.requires.ready c.requires.plain c.in_ok-plan.ensures.plan image holds
    (c.carry_out.ensures.stops image)

pub returns-clause-ready : goal.returns-clause-ready
returns-clause-ready g c =
    run_ready g.D.Disk c.args.self.now c.args.command.now c.in_ok-plan.plan c.carry_out.new.pages c.requires.ready c.requires.plain c.in_ok-plan.ensures.plan c.take.new.self
    c.in_ok-plan.ensures.extent c.take.ensures c.carry_out.ensures.sizes c.carry_out.ensures.stays

pub returns-clause-answer : goal.returns-clause-answer
returns-clause-answer g c = λ image holds.
    run_answered g.D.Disk c.args.self.now c.args.command.now c.in_ok-plan.plan c.carry_out.new.pages c.requires.ready c.requires.plain c.in_ok-plan.ensures.plan image
    c.verdict-verdict.result c.take.new.self holds c.verdict-verdict.ensures c.take.ensures (c.in_ok-carry_out.ensures.done image)

pub returns-clause-stops : goal.returns-clause-stops
returns-clause-stops g c = λ image holds.
    run_stops g.D.Disk c.args.self.now c.args.command.now c.in_ok-plan.plan c.carry_out.new.pages c.requires.ready c.requires.plain c.in_ok-plan.ensures.plan image holds
    (c.carry_out.ensures.stops image)
