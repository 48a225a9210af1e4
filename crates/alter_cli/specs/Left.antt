-- What a disk has of its files.
use Rattle.std.specs.Prelude.{Option, IsSomeAnd}
use Rattle.alter_disk.specs.declared.disk.Disk.{Ghosts}
use Rattle.alter_disk.specs.Files.{Files}

-- the files as they read, where the disk tells them, and what a crash may leave of them
pub record Left : Type 1 where
  pub reads : Option Files
  pub crash : Files → Type 0

-- what a disk has now
abbrev pub left_on : {D : Type 0} → Ghosts D → D → Left
left_on disk d = record { reads = disk.files d; crash = disk.may_leave d }

-- a fact holds of each pair of files that a crash may leave
abbrev pub EachCrash : Left → (Files → Type 0) → Type 0
EachCrash left P = (c : Files) → left.crash c → P c

-- a fact holds of the files as they read, and of each pair that a crash may leave
pub record Each (left : Left) (P : Files → Type 0) : Type 0 where
  pub read : IsSomeAnd left.reads P
  pub crash : EachCrash left P
