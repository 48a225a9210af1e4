use Rattle.std.proofs.Common.{ap, sym, ◌∙◌, arith}
use Rattle.std.proofs.lemmas.List.{drop_all, take_rest}
use Rattle.alter_bytes.specs.Varint.{varint_from}
use Rattle.alter_bytes.proofs.VarintLemmas.{found_at, none_at, varint_from-nil}
use Rattle.alter_bytes.proofs.varint.read_varint.Goals as goal

pub returns-then-b-at-clause-exact : goal.returns-then-b-at-clause-exact
returns-then-b-at-clause-exact c =
    sym (varint_from-nil 8 0) ∙ ap (varint_from 8 0) (sym (drop_all c.args.at c.args.b.now (omega arith)))

pub returns-clause-exact : goal.returns-clause-exact
returns-clause-exact c = c.read_rest.ensures ∙ ap (varint_from 8 0) (take_rest c.args.b.now c.args.at)

pub returns-clause-found : goal.returns-clause-found
returns-clause-found c =
    found_at c.args.b.now c.args.at c.read_rest.result (c.read_rest.ensures ∙ ap (varint_from 8 0) (take_rest c.args.b.now c.args.at))

pub returns-clause-none : goal.returns-clause-none
returns-clause-none c =
    none_at c.args.b.now c.args.at c.read_rest.result (c.read_rest.ensures ∙ ap (varint_from 8 0) (take_rest c.args.b.now c.args.at))
