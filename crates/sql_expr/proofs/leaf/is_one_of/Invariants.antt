use Rattle.std.proofs.Common.{drop}
use Rattle.sql_expr.specs.Leaf.{IsOneOf}
use Rattle.sql_expr.proofs.leaf.is_one_of.Given as goal

-- the token is one of the words where it is one of those yet to come
abbrev pub invariant-loop-word : goal.invariant-loop-word
invariant-loop-word l = record {
  onward : IsOneOf l.text l.words l.token → IsOneOf l.text (drop l.word-index l.words) l.token;
  back : IsOneOf l.text (drop l.word-index l.words) l.token → IsOneOf l.text l.words l.token;
}
