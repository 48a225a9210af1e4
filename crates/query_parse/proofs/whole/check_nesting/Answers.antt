use Rattle.query_parse.proofs.whole.check_nesting.Goals as goal

pub returns-in-None-clause-depth : goal.returns-in-None-clause-depth
returns-in-None-clause-depth c = λ at first.
    let found = c.in_ok-at.ensures.only at first in
    let none = c.in-None.is in
    absurd (cc)
