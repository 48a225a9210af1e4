use Rattle.std.proofs.Common.{sym}
use Rattle.rollback_journal.proofs.Shut.{header_parts}
use Rattle.rollback_journal.proofs.heat.live_in.Goals as goal

pub returns-then-has_records-clause-allowed : goal.returns-then-has_records-clause-allowed
returns-then-has_records-clause-allowed c = (header_parts c.args.bytes.now c.in_ok-header.header (sym c.in_ok-header.ensures)).1
