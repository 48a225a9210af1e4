use Rattle.std.proofs.Common.{◌≡◌, length}
use Rattle.alter_disk.specs.Files.{Files}
use Rattle.rollback_journal.proofs.Told.{told_ok}
use Rattle.rollback_journal.proofs.reads.db_len.Goals as goal

pub returns-clause-len : goal.returns-clause-len
returns-clause-len g c = told_ok _ (λ n (f : Files). n ≡ length f.db) c.len.result c.len.ensures.len
