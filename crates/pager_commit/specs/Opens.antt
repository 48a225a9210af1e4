-- The image to which two files open.
use Rattle.std.specs.Prelude.{◌≡◌, ℕ, List, Option, Some, None}
use Rattle.alter_disk.specs.Files.{Files}
use Rattle.rollback_journal.specs.Standing.{Standing, Stands, IsSuper, IsTooLarge, IsShort, standing}
use Rattle.pager_core.specs.Image.{image_of}

-- the image of what two files stand for, where that is a database's bytes
abbrev pub image_by : Standing → Option (List (List ℕ))
image_by (Stands bytes) = image_of bytes
image_by IsSuper = None
image_by IsTooLarge = None
image_by (IsShort page) = None

-- a database and its journal open to this image: the one of the database's bytes beside a cold journal, and of what
-- playback leaves beside a hot one
abbrev pub Opens : List (List ℕ) → Files → Type 0
Opens image f = image_by (standing f) ≡ Some image
