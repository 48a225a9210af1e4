use Rattle.std.proofs.Common.{◌≡◌, ◌++◌, drop, take}
use Rattle.script_parse.specs.Script.{first_piece}
use Rattle.script_parse.proofs.pieces.first_piece.Given as goal

-- no token that was passed is a `;`
abbrev pub invariant-loop-token : goal.invariant-loop-token
invariant-loop-token l =
    (l.count ≡ l.token-index) × (first_piece l.text l.tokens ≡ take l.count l.tokens ++ first_piece l.text (drop l.count l.tokens))
