use Rattle.std.proofs.Common.{◌-◌, ◌≤◌, length}
use Rattle.sql_token.specs.Token.{AreTokensIn}
use Rattle.sql_token.proofs.Fillers.{IsFree}
use Rattle.sql_token.proofs.TokenLists.{AllGoOn}
use Rattle.sql_token.proofs.tokenize.tokens.Given as goal

-- what was read are the tokens up to the place, and each list of the text's tokens goes on from there
abbrev pub invariant-loop-at : goal.invariant-loop-at
invariant-loop-at l = record {
  within : l.at ≤ length l.text;
  free : IsFree l.text l.at;
  read : AreTokensIn l.text 0 l.at l.list.items;
  only : AllGoOn l.text l.list.items l.at;
}

abbrev pub decreases-loop-at : goal.decreases-loop-at
decreases-loop-at l = length l.text - l.at
