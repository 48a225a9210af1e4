-- A database that is open.
use Rattle.std.specs.Prelude.{◌≡◌, true}
use Rattle.alter_disk.specs.declared.disk.Disk.{Ghosts}
use Rattle.pager_core.specs.Pages as pages
use Rattle.plain_schema.specs.Image.{Image}
use Rattle.plain_schema.specs.Served as forms
use Rattle.alter_session.specs.declared.session.Session.{Session}
use Rattle.alter_session.specs.Committing.{IsClean}

-- the disk that a session owns
abbrev pub disk_of : {D : Type 0} → Session D → D
disk_of session = pages.disk_of session.pages

-- what holds of every session, whatever its disk tells
pub record IsReady {D : Type 0} (disk : Ghosts D) (session : Session D) : Type 0 where
  pub called : disk.called (disk_of session) ≡ true
  pub ready : forms.IsReady session.form
  pub shape : session.form.shape ≡ pages.shape_of session.pages
  pub count : pages.before_of session.pages ≡ (pages.shape_of session.pages).count

-- The session has this image: nothing is pending on its disk, the journal is cold, and the database is that of the image. Its
-- pages are those of the database, and what it knows of the tables is what the image holds.
pub record Holds {D : Type 0} (disk : Ghosts D) (image : Image) (session : Session D) : Type 0 where
  pub clean : IsClean disk image session.pages
  pub of : forms.IsFormOf image session.form
