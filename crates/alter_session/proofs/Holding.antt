-- What holds of the files of a session, and of files that are served: for callers.
use Rattle.std.proofs.Common.{◌≡◌, Some, sym, ap, ◌∙◌}
use Rattle.std.proofs.lemmas.Option.{same_Some}
use Rattle.alter_disk.specs.declared.disk.Disk.{Ghosts}
use Rattle.alter_disk.specs.Files.{Files}
use Rattle.rollback_journal.specs.Standing.{standing}
use Rattle.rollback_journal.proofs.Shut.{stands_cold}
use Rattle.pager_commit.specs.Opens.{Opens, image_by}
use Rattle.plain_schema.specs.Image.{Image}
use Rattle.alter_session.specs.declared.session.Session.{Session}
use Rattle.alter_session.specs.Serves.{Serves}
use Rattle.alter_session.specs.Session.{Holds, disk_of}
use Rattle.alter_session.proofs.Staging.{opened_crash}

-- files that are served open to their image
pub serves_opens : (f : Files) (image : Image) → Serves f image → Opens image f
serves_opens f image serves = ap image_by serves.stood ∙ serves.image_is

-- so two files have one image that is served at most
pub one_image : (f : Files) (a b : Image) → Opens a f → Opens b f → a ≡ b
one_image f a b first second = same_Some a b (sym first ∙ second)

module _ {D : Type 0} (disk : Ghosts D) (image : Image) (session : Session D) (holds : Holds disk image session) where
  -- what a read of the session's disk gives opens to its image
  pub holds_reads : (f : Files) → disk.files (disk_of session) ≡ Some f → Opens image f
  holds_reads f is =
      let clean = holds.clean in
      let told : record { db = clean.base; journal = clean.log } ≡ f = same_Some _ f (sym clean.opened.told ∙ is) in
      let now : Opens image (record { db = clean.base; journal = clean.log }) = ap image_by (stands_cold (record { db = clean.base; journal = clean.log }) clean.opened.cold) ∙ clean.image_is in
      ap (λ (g : Files). image_by (standing g)) (sym told) ∙ now

  -- and so does what a crash leaves
  pub holds_crash : (c : Files) → disk.may_leave (disk_of session) c → Opens image c
  holds_crash = opened_crash disk image session.pages holds.clean.base holds.clean.log holds.clean.opened holds.clean.image_is
