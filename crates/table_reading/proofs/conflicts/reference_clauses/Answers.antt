use Rattle.std.proofs.Common.{◌∙◌, sym, subst}
use Rattle.sql_reader.proofs.Loops.{Goes, goes_on, goes_start}
use Rattle.sql_tree.specs.declared.conflict.ReferenceClause.{ReferenceClause}
use Rattle.table_reading.specs.Conflicts.{clause_starts, read_reference_clause}
use Rattle.table_reading.proofs.ConflictLaws.{reference_clause_takes}
use Rattle.table_reading.proofs.conflicts.reference_clauses.Goals as goal

pub loop-cursor-init : goal.loop-cursor-init
loop-cursor-init c =
    subst (λ done. Goes ReferenceClause clause_starts read_reference_clause c.args.cursor.now done c.args.cursor.now) (sym c.new-clauses.ensures)
    (goes_start ReferenceClause clause_starts read_reference_clause reference_clause_takes c.args.cursor.now)

pub loop-cursor-smaller : goal.loop-cursor-smaller
loop-cursor-smaller c = reference_clause_takes c.loop-cursor.cursor.text _ _ _ c.in_ok-next.ensures.0

pub loop-cursor-preserved : goal.loop-cursor-preserved
loop-cursor-preserved c =
    subst (λ done. Goes ReferenceClause clause_starts read_reference_clause c.args.cursor.now done c.reference_clause.new.cursor) (sym c.in_ok-push.ensures.ok)
    (goes_on ReferenceClause clause_starts read_reference_clause reference_clause_takes c.args.cursor.now c.loop-cursor.cursor c.reference_clause.new.cursor
    c.loop-cursor.clauses _ c.loop-cursor.invariant (sym c.starts_clause.ensures ∙ c.loop-cursor-test.true) c.in_ok-next.ensures)
