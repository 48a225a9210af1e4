-- Faults of the parts as reasons to stop.
use Rattle.alter_disk.specs.declared.way.Way.{Way}
use Rattle.alter_disk.specs.declared.way.Way.TheVariants.{Read, Write}
use Rattle.alter_session.specs.declared.open_error.OpenError.{OpenError}
use Rattle.alter_session.specs.declared.open_error.OpenError.TheVariants as errors
use Rattle.alter_cli.specs.declared.file_code.FileCode.TheVariants as codes
use Rattle.alter_cli.specs.declared.stop.Stop.{Stop}
use Rattle.alter_cli.specs.declared.stop.Stop.TheVariants as stops
use Rattle.alter_cli.specs.declared.script_text.NoText.{NoText}
use Rattle.alter_cli.specs.declared.script_text.NoText.TheVariants as texts

abbrev pub stop_of_text : NoText → Stop
stop_of_text texts.Memory = stops.Memory
stop_of_text texts.Failed = stops.Unread
stop_of_text texts.TooLong = stops.TooLong

abbrev pub stop_of_way : Way → Stop
stop_of_way Read = stops.Unreadable
stop_of_way Write = stops.Unwritten

abbrev pub stop_of_error : OpenError → Stop
stop_of_error (errors.Memory fault) = stops.Memory
stop_of_error (errors.Failed way) = stop_of_way way
stop_of_error errors.Super = stops.Unserved codes.SuperJournal
stop_of_error (errors.Short page) = stops.Unserved (codes.ShortJournal page)
stop_of_error errors.Journal = stops.Unserved codes.JournalTooLarge
stop_of_error (errors.Refused refusal) = stops.Unserved (codes.Database refusal)
stop_of_error errors.Unbuilt = stops.Unserved codes.Unbuilt
