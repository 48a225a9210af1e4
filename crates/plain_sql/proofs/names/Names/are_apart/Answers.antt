use Rattle.std.proofs.Common.{true, false, length, take, drop, ◌-◌, sym, ap, ◌∙◌, ◌≡◌}
use Rattle.std.proofs.lemmas.Bool.{false≢true}
use Rattle.std.specs.List.{list_any}
use Rattle.plain_sql.proofs.NamesLemmas.{is_alike, AreUnlike, alike_among, apart_in_front}
use Rattle.common_laws.proofs.Lists.{first_and_rest}
use Rattle.common_laws.proofs.Pairs.{pairs_behind}
use Rattle.plain_sql.proofs.names.Names.are_apart.Goals as goal

pub returns-then-any_alike : goal.returns-then-any_alike
returns-then-any_alike c =
    let names = c.loop-rest.rest.now in
    let others = take (length names - 1) (drop 1 names) in
    let front = first_and_rest names c.name-item.result c.in-len1-up.len_at_least c.name-item.is in
    let some : list_any (is_alike c.name-item.result) others ≡ true =
    ap (λ n. list_any (is_alike n) others) (sym c.as_slice.ensures) ∙ sym c.any_alike.ensures ∙ c.if-any_alike.true in
    (λ f. absurd (false≢true f), λ apart. absurd (alike_among names others c.name-item.result front some (c.loop-rest.invariant.1 apart)))

pub loop-rest-preserved : goal.loop-rest-preserved
loop-rest-preserved c =
    let names = c.loop-rest.rest.now in
    let others = take (length names - 1) (drop 1 names) in
    let front = first_and_rest names c.name-item.result c.in-len1-up.len_at_least c.name-item.is in
    let none : list_any (is_alike c.name-item.result) others ≡ false =
    ap (λ n. list_any (is_alike n) others) (sym c.as_slice.ensures) ∙ sym c.any_alike.ensures ∙ c.if-any_alike.false in (
      λ apart. c.loop-rest.invariant.0 (apart_in_front names others c.name-item.result front none apart),
      λ apart. pairs_behind AreUnlike names others c.name-item.result front (c.loop-rest.invariant.1 apart),
    )
