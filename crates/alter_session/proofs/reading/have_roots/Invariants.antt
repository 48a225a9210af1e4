use Rattle.std.proofs.Common.{◌≡◌, ◌≤◌, take}
use Rattle.std.specs.List.{AllByRecursion}
use Rattle.pager_core.specs.Pages.{StayAll, disk_of, shape_of}
use Rattle.plain_schema.specs.FirstForm.{HasRoot}
use Rattle.plain_schema.specs.Image.{Image}
use Rattle.alter_session.specs.Reading.{IsImageOf}
use Rattle.alter_session.proofs.reading.have_roots.Given as goal

-- the rows so far have roots that are pages behind the first, and empty tables, pages were only read, and no read failed
abbrev pub invariant-loop-row : goal.invariant-loop-row
invariant-loop-row g l = record {
  there : AllByRecursion (λ row. (2 ≤ row.root) × (row.root ≤ (shape_of l.fn.pages).count)) (take l.row-index l.rows);
  roots : (image : Image) → IsImageOf g.D.Disk image l.fn.pages → AllByRecursion (HasRoot image) (take l.row-index l.rows);
  stay : StayAll g.D.Disk l.fn.pages l.pages;
  faultless : g.D.Disk.read_faults (disk_of l.pages) ≡ g.D.Disk.read_faults (disk_of l.fn.pages);
}
