use Rattle.std.proofs.Common.{subst, sym, length, arith, ◌≤◌}
use Rattle.common_laws.proofs.Options.{if_some}
use Rattle.sql_tree.specs.Nesting.{FirstTooDeep}
use Rattle.script_parse.proofs.Causes.{deep_first}
use Rattle.script_parse.proofs.script.script_tokens.Goals as goal

pub returns-in-Some-clause-fault : goal.returns-in-Some-clause-fault
returns-in-Some-clause-fault c =
    let text = c.args.text.now in
    let at = c.in-Some.at in
    let long = c.if-text-gt-MAX_BYTES.false in
    let short : length text ≤ 1048576 = omega arith in
    deep_first text c.in_ok-list.list.items at short c.in_ok-list.ensures.found
    (subst (λ list. FirstTooDeep text list at) c.as_slice.ensures.value (if_some _ _ _ c.in-Some.is c.in_ok-at.ensures.found))

pub returns-in-None-clause-found : goal.returns-in-None-clause-found
returns-in-None-clause-found c =
    let text = c.args.text.now in
    let long = c.if-text-gt-MAX_BYTES.false in
    record {
      short = omega arith;
      tokens = c.in_ok-list.ensures.found;
      shallow = λ at deep.
          let found = c.in_ok-at.ensures.only at (subst (λ list. FirstTooDeep text list at) (sym c.as_slice.ensures.value) deep) in
          let none = c.in-None.is in
          absurd (cc);
    }
