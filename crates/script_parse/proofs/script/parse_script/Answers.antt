use Rattle.std.proofs.Common.{subst, sym}
use Rattle.std.proofs.lemmas.Result.{IfErr-weaker, err_from_is_err_and}
use Rattle.script_parse.specs.Script.{IsFirstCause, IsListFault, IsReadable, OnRefused}
use Rattle.script_parse.proofs.Causes.{answer_first, list_refused, refused_first}
use Rattle.script_parse.proofs.script.parse_script.Goals as goal
use Rattle.script_parse.proofs.script.parse_script.Goals.{After-drop-list}

pub returns-in_err-list-clause-first : goal.returns-in_err-list-clause-first
returns-in_err-list-clause-first c = λ at cause is.
    let p = err_from_is_err_and c.from_residual.result c.from_residual.ensures.1 in
    rw (p.1, p.2) (refused_first c.args.text.now c.in_err-list.field-0.0 at cause c.in_err-list.ensures.fault is)

-- the text that is read is neither too long nor nested too deep
readable : (c : After-drop-list) → IsReadable c.args.text.now c.as_slice.result.now
readable c = subst (IsReadable c.args.text.now) (sym c.as_slice.ensures.value) c.in_ok-list.ensures.found

pub returns-clause-fault : goal.returns-clause-fault
returns-clause-fault c =
    IfErr-weaker c.commands_of.result (OnRefused (IsListFault c.args.text.now c.as_slice.result.now)) (OnRefused (IsFirstCause c.args.text.now))
    (λ error. list_refused c.args.text.now c.as_slice.result.now error (readable c)) c.commands_of.ensures.fault

pub returns-clause-first : goal.returns-clause-first
returns-clause-first c = λ at cause is.
    answer_first c.args.text.now c.as_slice.result.now c.commands_of.result at cause (readable c) c.commands_of.ensures.found c.commands_of.ensures.fault is
