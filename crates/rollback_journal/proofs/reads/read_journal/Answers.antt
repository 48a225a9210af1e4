use Rattle.alter_disk.specs.Files.{Files}
use Rattle.alter_disk.specs.Changes.{ReadsAt}
use Rattle.rollback_journal.proofs.Told.{told_ok}
use Rattle.rollback_journal.proofs.reads.read_journal.Goals as goal

pub returns-clause-read : goal.returns-clause-read
returns-clause-read g c = told_ok _ (λ n (f : Files). ReadsAt f.journal c.args.at n c.args.buf.now c.read.new.buf) c.read.result c.read.ensures.read
