use Rattle.std.proofs.Common.{false, rules}
use Rattle.alter_disk.specs.Changes.{CutShort}
use Rattle.alter_disk.specs.Pending.{newest_first}
use Rattle.alter_disk.proofs.Pending.{cut_same, stays_crash, cut_crash}
use Rattle.alter_disk.proofs.memory.MemoryDiskDisk.cut.Goals as goal

pub returns-then-is_err-clause-crash : goal.returns-then-is_err-clause-crash
returns-then-is_err-clause-crash c =
    let inside = c.self.inside in
    stays_crash (CutShort c.args.len) (cut_same c.args.len) c.args.which c.args.self.now.first c.args.self.now.steps
    (record { db = inside.first_db.items; journal = inside.first_journal.items }) (newest_first inside.steps.items) (search rules) (search rules)

pub returns-clause-crash : goal.returns-clause-crash
returns-clause-crash c = cut_crash c.args.self.now c.truncate.new.self false c.args.which c.args.len (search rules)
