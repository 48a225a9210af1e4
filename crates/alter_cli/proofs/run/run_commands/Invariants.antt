use Rattle.std.proofs.Common.{◌≡◌, take}
use Rattle.alter_disk.specs.Moments.{Leaves, ReadsQuietly, Stays}
use Rattle.plain_schema.specs.Image.{Image}
use Rattle.alter_session.specs.Session.{Holds, IsReady, disk_of}
use Rattle.alter_cli.specs.Ending.{WhereSinkTells}
use Rattle.alter_cli.specs.First.{first_rules}
use Rattle.alter_cli.specs.Stops.{IsReachedBy}
use Rattle.alter_cli.proofs.Printed.{GaveSo}
use Rattle.alter_cli.proofs.Reached.{Reached}
use Rattle.alter_cli.proofs.run.run_commands.Given as goal

-- the commands so far were run on the image of the session that there was, their lines are printed, and the session holds the
-- image behind them; no call failed
abbrev pub invariant-loop-command : goal.invariant-loop-command
invariant-loop-command g l = record {
  reached : (image : Image) → Holds g.D.Disk image l.fn.session
      → Reached first_rules (ReadsQuietly g.D.Disk (disk_of l.fn.session) (disk_of l.session)) (λ i. Holds g.D.Disk i l.session) image (take l.command-index l.commands) (g.K.Sink.written l.fn.out) (g.K.Sink.written l.out) l.all_done;
  stops : (image : Image) → Holds g.D.Disk image l.fn.session
      → Leaves g.D.Disk (disk_of l.fn.session) (disk_of l.session) (IsReachedBy first_rules image l.commands);
  ready : IsReady g.D.Disk l.session;
  number : l.number ≡ l.command-index;
  printed : WhereSinkTells (g.K.Sink.written l.fn.out) (g.K.Sink.written l.out) (GaveSo l.command-index l.all_done);
  stays : Stays g.D.Disk (disk_of l.fn.session) (disk_of l.session);
  reading : g.D.Disk.read_faults (disk_of l.session) ≡ g.D.Disk.read_faults (disk_of l.fn.session);
  writing : g.D.Disk.write_faults (disk_of l.session) ≡ g.D.Disk.write_faults (disk_of l.fn.session);
  sink : g.K.Sink.faults l.out ≡ g.K.Sink.faults l.fn.out;
}
