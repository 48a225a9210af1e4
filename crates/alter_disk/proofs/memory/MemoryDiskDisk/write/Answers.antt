use Rattle.std.proofs.Common.{false, length, rules}
use Rattle.alter_disk.specs.Changes.{Torn}
use Rattle.alter_disk.specs.Pending.{newest_first}
use Rattle.alter_disk.proofs.Pending.{torn_same, stays_crash, write_crash}
use Rattle.alter_disk.proofs.memory.MemoryDiskDisk.write.Goals as goal

pub returns-then-is_err-clause-crash : goal.returns-then-is_err-clause-crash
returns-then-is_err-clause-crash c =
    let inside = c.self.inside in
    stays_crash (Torn c.args.at (length c.args.bytes.now)) (torn_same c.args.at (length c.args.bytes.now)) c.args.which c.args.self.now.first c.args.self.now.steps
    (record { db = inside.first_db.items; journal = inside.first_journal.items }) (newest_first inside.steps.items) (search rules) (search rules)

pub returns-clause-crash : goal.returns-clause-crash
returns-clause-crash c = write_crash c.args.self.now c.overlay.new.self false c.args.which c.args.at c.args.bytes.now (search rules)
