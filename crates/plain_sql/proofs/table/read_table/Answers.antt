use Rattle.std.proofs.Common.{sym, ◌∙◌, subst}
use Rattle.std.proofs.lemmas.Bool.{both_ways}
use Rattle.plain_sql.specs.Words.{IsPlainName}
use Rattle.plain_sql.proofs.ColumnsLemmas.{list_of, made_of_five, made_of_read, read_spells, ends_within}
use Rattle.common_laws.proofs.Options.{read_none, read_some, if_some}
use Rattle.plain_sql.proofs.WordsLemmas.{read_only, tokens_read}
use Rattle.plain_sql.proofs.table.read_table.Goals as goal

pub returns-in_default-clause-only : goal.returns-in_default-clause-only
returns-in_default-clause-only c = λ name columns end spells. read_none _ _ c.in_default.is (c.in_ok-list.ensures.only (list_of spells) spells.tokens)

pub returns-in_default-as_slice-clause-only : goal.returns-in_default-as_slice-clause-only
returns-in_default-as_slice-clause-only c = λ name columns end.
    made_of_five _ name columns end _ (read_only _ _ _ _ c.in-Some.is c.as_slice.ensures.value c.in_ok-list.ensures.only) c.in_default-as_slice.len_below

pub returns-then-not-is_frame-clause-only : goal.returns-then-not-is_frame-clause-only
returns-then-not-is_frame-clause-only c = λ name columns end spells.
    let only = read_only _ _ _ _ c.in-Some.is c.as_slice.ensures.value c.in_ok-list.ensures.only in
    let made = made_of_read _ name columns end _ only c.in-len5-up.len_at_least spells in
    both_ways _ c.if-not-is_frame.true (c.is_frame.ensures.1 made.frame)

pub returns-in_default-plain_name-clause-only : goal.returns-in_default-plain_name-clause-only
returns-in_default-plain_name-clause-only c = λ name columns end spells.
    let only = read_only _ _ _ _ c.in-Some.is c.as_slice.ensures.value c.in_ok-list.ensures.only in
    let made = made_of_read _ name columns end _ only c.in-len5-up.len_at_least spells in
    c.in_default-plain_name.ensures.none name made.named

pub returns-in_default-2-clause-only : goal.returns-in_default-2-clause-only
returns-in_default-2-clause-only c = λ name columns end spells.
    let only = read_only _ _ _ _ c.in-Some.is c.as_slice.ensures.value c.in_ok-list.ensures.only in
    let made = made_of_read _ name columns end _ only c.in-len5-up.len_at_least spells in
    read_none _ _ c.in_default-2.is (c.in_ok-columns.ensures.only columns made.are_columns)

pub returns-clause-found : goal.returns-clause-found
returns-clause-found c =
    let tokens = tokens_read _ _ _ _ c.in-Some.is c.as_slice.ensures.value c.in_ok-list.ensures.found in
    read_spells _ _ _ _ _ tokens c.in-len5-up.len_at_least (record {
      frame = c.is_frame.ensures.0 c.if-not-is_frame.false;
      named = subst (IsPlainName c.args.text.now _) (sym c.in_ok-name.ensures) c.in-Some-plain_name.ensures.found;
      are_columns = if_some _ _ _ c.in-Some-2.is c.in_ok-columns.ensures.found;
      ends = c.end_of.ensures;
    })

pub returns-clause-only : goal.returns-clause-only
returns-clause-only c = λ name columns end spells.
    let only = read_only _ _ _ _ c.in-Some.is c.as_slice.ensures.value c.in_ok-list.ensures.only in
    let made = made_of_read _ name columns end _ only c.in-len5-up.len_at_least spells in (
      c.in_ok-name.ensures ∙ c.in-Some-plain_name.ensures.found.spelled ∙ sym made.named.spelled,
      read_some _ _ _ c.in-Some-2.is (c.in_ok-columns.ensures.only columns made.are_columns),
      c.end_of.ensures ∙ sym made.ends,
    )

pub returns-clause-inside : goal.returns-clause-inside
returns-clause-inside c = ends_within _ _ _ _ (returns-clause-found c)
