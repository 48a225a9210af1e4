-- The rules of the run on the files that are served so far.
use Rattle.std.specs.Prelude.{◌≡◌}
use Rattle.plain_sql.specs.declared.script.Command.{Command}
use Rattle.plain_sql.specs.Script.{IsScript}
use Rattle.rollback_journal.specs.Recovery.{recovered}
use Rattle.rollback_journal.specs.Standing.{standing}
use Rattle.pager_commit.specs.Opens.{Opens}
use Rattle.plain_schema.specs.Image.{Image}
use Rattle.plain_schema.specs.Step.{Step}
use Rattle.alter_session.specs.declared.open_error.OpenError.{OpenError}
use Rattle.alter_session.specs.declared.open_error.OpenError.TheVariants as errors
use Rattle.alter_session.specs.Serves.{Refuses, Serves}
use Rattle.alter_cli.specs.declared.file_code.FileCode.{FileCode}
use Rattle.alter_cli.specs.declared.file_code.FileCode.TheVariants.{SuperJournal, JournalTooLarge, ShortJournal, Database, Unbuilt}
use Rattle.alter_cli.specs.Rules.{Rules}

-- the error with which a session refuses the files for this code
abbrev pub error_of : FileCode → OpenError
error_of SuperJournal = errors.Super
error_of JournalTooLarge = errors.Journal
error_of (ShortJournal page) = errors.Short page
error_of (Database refusal) = errors.Refused refusal
error_of Unbuilt = errors.Unbuilt

-- plain scripts on files of the first form, by what the two files stand for together
abbrev pub first_rules : Rules Image Command
first_rules = record {
  IsScript = IsScript;
  OpensTo = Opens;
  Serves = Serves;
  Refuses = λ files code. Refuses files (error_of code);
  recovered = recovered;
  Alike = λ files c. standing c ≡ standing files;
  Step = Step;
}
