-- What the run of a script rests on.
use Rattle.std.specs.Prelude.{ℕ, List}
use Rattle.alter_disk.specs.Files.{Files}
use Rattle.alter_cli.specs.declared.file_code.FileCode.{FileCode}
use Rattle.plain_schema.specs.declared.verdict.Verdict.{Verdict}

-- scripts of commands, files that open to images, and what a command does to an image
pub record Rules (Image Command : Type 0) : Type 1 where
  -- the text is a script of these commands
  pub IsScript : List ℕ → List Command → Type 0
  -- the two files open to this image
  pub OpensTo : Image → Files → Type 0
  -- the two files open to this image, and it is served
  pub Serves : Files → Image → Type 0
  -- the two files are refused with this code
  pub Refuses : Files → FileCode → Type 0
  -- the two files after a recovery
  pub recovered : Files → Files
  -- the second two files stand for what the first two do
  pub Alike : Files → Files → Type 0
  -- the command gets this verdict on the first image, and leaves the other
  pub Step : Image → Command → Verdict → Image → Type 0
