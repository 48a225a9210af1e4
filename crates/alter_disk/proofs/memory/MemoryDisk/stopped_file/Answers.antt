use Rattle.std.proofs.Common.{subst}
use Rattle.alter_disk.specs.Files.{file}
use Rattle.alter_disk.specs.Memory.{stopped_file}
use Rattle.alter_disk.specs.Pending.{LeftOf}
use Rattle.alter_disk.proofs.Stopped.{stopped_left, left_by}
use Rattle.alter_disk.proofs.memory.MemoryDisk.stopped_file.Goals as goal

pub returns-clause-left : goal.returns-clause-left
returns-clause-left c =
    let m = c.args.self.now in
    let IsLeft = LeftOf c.args.which (file c.args.which m.first) m.steps in
    left_by IsLeft (stopped_file c.args.choice c.args.which m) c.chosen_file.result c.chosen_file.ensures
    (stopped_left c.args.choice c.args.which m (subst IsLeft c.bytes-now.ensures.bytes c.bytes-now.ensures.left))
