use Rattle.std.proofs.Common.{sym, subst}
use Rattle.alter_disk.specs.Moments.{Leaves}
use Rattle.alter_session.specs.Applying.{MayHave}
use Rattle.alter_session.specs.Session.{disk_of}
use Rattle.alter_session.proofs.Carried.{failed_applied}
use Rattle.alter_session.proofs.session.Session.apply.Goals as goal

pub returns-in-Err-Memory-clause-applied : goal.returns-in-Err-Memory-clause-applied
returns-in-Err-Memory-clause-applied g c = λ image holds. (rw c.in-Err-Memory.field-0-is at c.in-Err-Memory.ensures.undone).1 image holds

pub returns-in-Err-Failed-clause-applied : goal.returns-in-Err-Failed-clause-applied
returns-in-Err-Failed-clause-applied g c =
    failed_applied g.D.Disk c.args.command.now c.args.self c.run.new.self c.close.result c.in-Err-Failed.way (rw c.in-Err-Failed.field-0-is at c.in-Err-Failed.ensures.undone)

pub returns-in-Err-Failed-clause-stops : goal.returns-in-Err-Failed-clause-stops
returns-in-Err-Failed-clause-stops g c = λ image holds.
    subst (λ d. Leaves g.D.Disk (disk_of c.args.self) d (MayHave image c.args.command.now)) (sym c.close.ensures) (c.run.ensures.stops image holds)
