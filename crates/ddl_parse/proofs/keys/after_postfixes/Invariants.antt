use Rattle.std.proofs.Common.{◌≡◌, drop}
use Rattle.sql_tree.specs.Keys.{after_postfixes}
use Rattle.ddl_parse.proofs.keys.after_postfixes.Given as goal

-- what is left of the postfixes decides, with the COLLATEs that are left
abbrev pub invariant-loop-postfix : goal.invariant-loop-postfix
invariant-loop-postfix l = after_postfixes (drop l.postfix-index l.postfixes) l.left ≡ after_postfixes l.postfixes l.initial.left
