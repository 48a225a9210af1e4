use Rattle.std.proofs.Common.{sym, subst}
use Rattle.plain_schema.specs.FirstForm.{HasItsName}
use Rattle.plain_schema.proofs.FormLemmas.{unread, its_text, is_table}
use Rattle.std.proofs.lemmas.Bool.{false≢true}
use Rattle.plain_schema.proofs.table.table_of.Goals as goal
use Rattle.plain_schema.proofs.table.table_of.Goals.{then-not-has_its_name-via-then-not-has_its_name, then-not-has_its_name-via-else-not-has_its_name+then-not-are_apart}

pub returns-in_default-clause-only : goal.returns-in_default-clause-only
returns-in_default-clause-only c = λ table same is.
    unread c.args.row table c.in_ok-name.field-0 c.as_slice.result.now c.as_slice.ensures same is c.in_ok-name.ensures.only c.in_default.is

pub returns-then-not-has_its_name-clause-only : goal.returns-then-not-has_its_name-clause-only
returns-then-not-has_its_name-clause-only c = λ table same is.
    let its = its_text c.args.row table c.in_ok-name.field-0 c.in-Some.field-0 c.as_slice.result.now c.as_slice.ensures same is c.in_ok-name.ensures.only c.in-Some.is in
    elim c.then-not-has_its_name.branch [
      | then-not-has_its_name-via-then-not-has_its_name w ↦
          false≢true (w.if-not-has_its_name.ensures.1 (subst (λ n. HasItsName n c.args.row) (sym c.as_slice-2.ensures) its.its_name))
      | then-not-has_its_name-via-else-not-has_its_name+then-not-are_apart w ↦ false≢true (w.if-not-are_apart.ensures.1 its.apart)
    ]

pub returns-clause-only : goal.returns-clause-only
returns-clause-only c = λ table same is.
    let its = its_text c.args.row table c.in_ok-name.field-0 c.in-Some.field-0 c.as_slice.result.now c.as_slice.ensures same is c.in_ok-name.ensures.only c.in-Some.is in
    is_table c.args.row table c.in-Some.field-0 same its
