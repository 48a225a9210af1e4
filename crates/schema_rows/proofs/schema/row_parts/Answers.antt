use Rattle.std.proofs.Common.{rules, codes, ◌≡◌, [], ◌∷◌, pos, ℕ, ℤ, List, sym, ◌∙◌, subst}
use Rattle.common_laws.proofs.Options.{if_none_so}
use Rattle.common_laws.proofs.Lists as lists
use Rattle.std.specs.Prelude.{FitsSigned}
use Rattle.std.specs.Int.{w64}
use Rattle.std.proofs.lemmas.Int.{to_z-of_z}
use Rattle.record_codec.specs.declared.value.Value.{Value}
use Rattle.record_codec.specs.declared.value.Value.TheVariants.{Int, Text}
use Rattle.record_codec.specs.Record.{IsRecord}
use Rattle.record_codec.proofs.InPlace.{left_none, none_left}
use Rattle.record_codec.proofs.Only.{moved, parts_record, record_not_bad}
use Rattle.schema_rows.specs.Schema.{table_values}
use Rattle.schema_rows.proofs.RowFound.{same_integer, same_text}
use Rattle.schema_rows.proofs.schema.row_parts.Goals as goal
use Rattle.schema_rows.proofs.schema.row_parts.Goals.{else-is_empty-via-then-is_empty+else-eq, else-is_empty-via-else-is_empty}

pub returns-in_default-clause-none : goal.returns-in_default-clause-none
returns-in_default-clause-none c = λ name table root text limit is. record_not_bad c.args.payload.now (table_values name table root text) c.in_default.field-0 is c.in_default.ensures.bad

pub returns-in_err-kind-clause-none : goal.returns-in_err-kind-clause-none
returns-in_err-kind-clause-none c = if_none_so _ c.from_residual.result (λ name table root text limit is.
    let all = moved c.args.payload.now c.in-Ok.types.now c.in-Ok.bodies.now (table_values name table root text) c.in-Ok.ensures.found.0 is in
    c.in_err-kind.ensures.none (codes "table") _ all)

pub returns-in_err-name-clause-none : goal.returns-in_err-name-clause-none
returns-in_err-name-clause-none c = if_none_so _ c.from_residual-in_err-name.result (λ name table root text limit is.
    let all = moved c.args.payload.now c.in-Ok.types.now c.in-Ok.bodies.now (table_values name table root text) c.in-Ok.ensures.found.0 is in
    let behind_kind = (c.in_ok-kind.ensures.found.only _ _ all).1 in
    c.in_err-name.ensures.none name _ behind_kind)

pub returns-in_err-table-clause-none : goal.returns-in_err-table-clause-none
returns-in_err-table-clause-none c = if_none_so _ c.from_residual-in_err-table.result (λ name table root text limit is.
    let all = moved c.args.payload.now c.in-Ok.types.now c.in-Ok.bodies.now (table_values name table root text) c.in-Ok.ensures.found.0 is in
    let behind_kind = (c.in_ok-kind.ensures.found.only _ _ all).1 in
    let behind_name = (c.in_ok-name.ensures.found.only _ _ behind_kind).1 in
    c.in_err-table.ensures.none table _ behind_name)

pub returns-in_err-number-clause-none : goal.returns-in_err-number-clause-none
returns-in_err-number-clause-none c = if_none_so _ c.from_residual-in_err-number.result (λ name table root text limit is.
    let all = moved c.args.payload.now c.in-Ok.types.now c.in-Ok.bodies.now (table_values name table root text) c.in-Ok.ensures.found.0 is in
    let behind_kind = (c.in_ok-kind.ensures.found.only _ _ all).1 in
    let behind_name = (c.in_ok-name.ensures.found.only _ _ behind_kind).1 in
    let behind_table = (c.in_ok-table.ensures.found.only _ _ behind_name).1 in
    c.in_err-number.ensures.none (pos root) _ behind_table)

pub returns-in_err-root-clause-none : goal.returns-in_err-root-clause-none
returns-in_err-root-clause-none c = if_none_so _ c.from_residual-in_err-root.result (λ name table root text limit is.
    let fits : FitsSigned w64 c.in_ok-number.number = search rules in
    let all = moved c.args.payload.now c.in-Ok.types.now c.in-Ok.bodies.now (table_values name table root text) c.in-Ok.ensures.found.0 is in
    let behind_kind = (c.in_ok-kind.ensures.found.only _ _ all).1 in
    let behind_name = (c.in_ok-name.ensures.found.only _ _ behind_kind).1 in
    let behind_table = (c.in_ok-table.ensures.found.only _ _ behind_name).1 in
    c.in_err-root.ensures.none root limit (to_z-of_z w64 c.in_ok-number.number fits ∙ sym (same_integer _ _ (c.in_ok-number.ensures.found.only _ _ behind_table).0)))

pub returns-in_err-text-clause-none : goal.returns-in_err-text-clause-none
returns-in_err-text-clause-none c = if_none_so _ c.from_residual-in_err-text.result (λ name table root text limit is.
    let all = moved c.args.payload.now c.in-Ok.types.now c.in-Ok.bodies.now (table_values name table root text) c.in-Ok.ensures.found.0 is in
    let behind_kind = (c.in_ok-kind.ensures.found.only _ _ all).1 in
    let behind_name = (c.in_ok-name.ensures.found.only _ _ behind_kind).1 in
    let behind_table = (c.in_ok-table.ensures.found.only _ _ behind_name).1 in
    let behind_number = (c.in_ok-number.ensures.found.only _ _ behind_table).1 in
    c.in_err-text.ensures.none text _ behind_number)

pub returns-then-eq-clause-found : goal.returns-then-eq-clause-found
returns-then-eq-clause-found c =
    let kind = c.in_ok-kind.ensures.found in
    let name = c.in_ok-name.ensures.found in
    let table = c.in_ok-table.ensures.found in
    let number = c.in_ok-number.ensures.found in
    let text = c.in_ok-text.ensures.found in
    let fits : FitsSigned w64 c.in_ok-number.number = search rules in
    let none : c.in_ok-text.types.now ≡ [] = lists.none_left c.in_ok-text.types.now (sym c.is_empty.ensures ∙ c.if-is_empty.true) in
    let is_table : c.in_ok-kind.kind.now ≡ codes "table" = search rules in
    let end = left_none c.in_ok-text.types.now _ text.more none in
    let all = kind.there _ (name.there _ (table.there _ (number.there _ (text.there _ end)))) in
    let of : List ℕ → ℤ → List Value = λ k n. Text k ∷ Text c.in_ok-name.name.now ∷ Text c.in_ok-table.table.now ∷ Int n ∷ Text c.in_ok-text.text.now ∷ [] in
    let record_is = parts_record c.args.payload.now c.in-Ok.types.now c.in-Ok.bodies.now (of c.in_ok-kind.kind.now c.in_ok-number.number) c.in-Ok.ensures.found.0 all in (
      c.in_ok-root.ensures.found.0,
      subst (λ n. IsRecord c.args.payload.now (of (codes "table") n)) (sym (to_z-of_z w64 c.in_ok-number.number fits) ∙ c.in_ok-root.ensures.found.1) (subst (λ k. IsRecord c.args.payload.now (of k c.in_ok-number.number)) is_table record_is),
    )

pub returns-else-is_empty-clause-none : goal.returns-else-is_empty-clause-none
returns-else-is_empty-clause-none c = λ name table root text limit is.
    let all = moved c.args.payload.now c.in-Ok.types.now c.in-Ok.bodies.now (table_values name table root text) c.in-Ok.ensures.found.0 is in
    let behind_kind = (c.in_ok-kind.ensures.found.only _ _ all).1 in
    let behind_name = (c.in_ok-name.ensures.found.only _ _ behind_kind).1 in
    let behind_table = (c.in_ok-table.ensures.found.only _ _ behind_name).1 in
    let behind_number = (c.in_ok-number.ensures.found.only _ _ behind_table).1 in
    let behind_text = (c.in_ok-text.ensures.found.only _ _ behind_number).1 in
    let is_table : codes "table" ≡ c.in_ok-kind.kind.now = same_text _ _ (c.in_ok-kind.ensures.found.only _ _ all).0 in
    let none : c.in_ok-text.types.now ≡ [] = none_left _ _ behind_text in
    elim c.else-is_empty.branch [
      | else-is_empty-via-then-is_empty+else-eq w ↦ search rules
      | else-is_empty-via-else-is_empty w ↦ search rules
    ]
