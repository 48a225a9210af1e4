use Rattle.std.proofs.Common.{arith, refl}
use Rattle.sql_token.proofs.Places.{token_found, no_token_found, none_said}
use Rattle.sql_token.proofs.tokenize.token_at.Goals as goal

pub returns-in_err-kind-clause-none : goal.returns-in_err-kind-clause-none
returns-in_err-kind-clause-none c =
    none_said c.from_residual.result _ (no_token_found c.args.text.now c.args.at c.front.result c.front.ensures c.in_err-kind.was)

pub overflow_add-result : goal.overflow_add-result
overflow_add-result c =
    let token = token_found c.args.text.now c.args.at c.front.result c.in_ok-kind.kind c.in_ok-kind.length c.requires.within c.requires.free_of_comment c.front.ensures c.in_ok-kind.was in
    omega (arith, token.within)

pub returns-clause-found : goal.returns-clause-found
returns-clause-found c =
    (refl, token_found c.args.text.now c.args.at c.front.result c.in_ok-kind.kind c.in_ok-kind.length c.requires.within c.requires.free_of_comment c.front.ensures c.in_ok-kind.was)
