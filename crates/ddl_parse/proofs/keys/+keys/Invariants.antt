use Rattle.std.proofs.Common.{◌*◌, ◌+◌}
use Rattle.ddl_parse.proofs.keys.+keys.Given as goal

-- the height, and of one height the operand before its list before the expression in it
abbrev pub decreases-as_key_with : goal.decreases-as_key_with
decreases-as_key_with l = 3 * l.height

abbrev pub decreases-key_operand : goal.decreases-key_operand
decreases-key_operand l = 3 * l.height + 2

abbrev pub decreases-lone_key : goal.decreases-lone_key
decreases-lone_key l = 3 * l.height + 1
