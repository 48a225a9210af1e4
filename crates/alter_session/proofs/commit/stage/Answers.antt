use Rattle.std.proofs.Common.{◌∙◌}
use Rattle.alter_session.proofs.Staging.{staged, unstaged}
use Rattle.alter_session.proofs.commit.stage.Goals as goal

pub returns-in-Ok-clause-staged : goal.returns-in-Ok-clause-staged
returns-in-Ok-clause-staged g c = λ image clean gives.
    let mid = c.change.new.self in
    let change = c.in_ok-change.ensures.changed in
    let planned = c.in-Ok.ensures.plan (record { db = clean.base; journal = clean.log }) (change.reads.only.files ∙ clean.opened.told) in
    staged g.D.Disk image c.args.page.now c.args.pages.now mid c.prepare.new.pages change c.prepare.ensures.kept c.prepare.ensures.reads clean c.in-Ok.plan planned c.requires.extent gives

pub returns-in-Err-clause-clean : goal.returns-in-Err-clause-clean
returns-in-Err-clause-clean g c = λ image clean.
    unstaged g.D.Disk image c.args.page.now c.args.pages.now c.change.new.self c.prepare.new.pages c.in_ok-change.ensures.changed c.prepare.ensures.kept c.prepare.ensures.reads clean c.forget.new.self c.forget.ensures
