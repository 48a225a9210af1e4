use Rattle.std.proofs.Common.{◌∙◌, sym, subst}
use Rattle.sql_token.specs.declared.token.Token.{Token}
use Rattle.sql_reader.proofs.Loops.{Goes, goes_on, goes_start}
use Rattle.query_reading.specs.Types.{read_next_type_name, type_name_starts}
use Rattle.query_reading.proofs.TypeLaws.{next_type_name_takes}
use Rattle.query_reading.proofs.types.more_type_names.Goals as goal

pub loop-cursor-init : goal.loop-cursor-init
loop-cursor-init c =
    subst (λ done. Goes Token type_name_starts read_next_type_name c.args.cursor.now done c.args.cursor.now) (sym c.new-more.ensures)
    (goes_start Token type_name_starts read_next_type_name next_type_name_takes c.args.cursor.now)

pub loop-cursor-smaller : goal.loop-cursor-smaller
loop-cursor-smaller c = next_type_name_takes c.loop-cursor.cursor.text _ _ _ c.in_ok-next.ensures.0

pub loop-cursor-preserved : goal.loop-cursor-preserved
loop-cursor-preserved c =
    subst (λ done. Goes Token type_name_starts read_next_type_name c.args.cursor.now done c.next_type_name.new.cursor) (sym c.in_ok-push.ensures.ok)
    (goes_on Token type_name_starts read_next_type_name next_type_name_takes c.args.cursor.now c.loop-cursor.cursor c.next_type_name.new.cursor
    c.loop-cursor.more _ c.loop-cursor.invariant (sym c.starts_type_name.ensures ∙ c.loop-cursor-test.true) c.in_ok-next.ensures)
