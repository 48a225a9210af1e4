-- What the result of a conversion says, clause by clause.
use Rattle.std.proofs.Common.{◌↔◌, refl, sym, ◌∙◌}
use Rattle.std.specs.Prelude.{IfErr, IfOk, IsErrOf, Ok, Err, Result}
use Rattle.record_codec.specs.declared.value.Value.{Value}
use Rattle.value_order.specs.declared.affinity.Affinity.{Affinity}
use Rattle.value_order.specs.declared.conversion.ApplyError.{ApplyError}
use Rattle.value_order.specs.declared.conversion.ApplyError.TheVariants.{Memory, NeedsReal}
use Rattle.value_order.specs.Conversion.{Applied, AreForms, AsksReal, Becomes, IsMemory, IsWritten}
use Rattle.value_order.proofs.Forms.{integer_number, one_integer}

pub becomes : (from to : Affinity) (v : Value) (r : Result Value ApplyError) → Applied from to v r → IfOk r (λ after. Becomes to v after)
becomes from to v (Ok after) is = is.1
becomes from to v (Err error) is = tt

pub asks : (from to : Affinity) (v : Value) (r : Result Value ApplyError) → Applied from to v r → IsErrOf r NeedsReal ↔ AsksReal from to v
asks from to v (Ok after) is = (λ wrong. absurd cc, λ asked. absurd (is.0 asked))
asks from to v (Err NeedsReal) is = (λ same. is, λ asked. refl)
asks from to v (Err (Memory fault)) is = (λ wrong. absurd cc, λ asked. absurd (is.0 asked))

pub writes : (from to : Affinity) (v : Value) (r : Result Value ApplyError) → Applied from to v r
    → IfErr r (λ error. IsMemory error → IsWritten to v)
writes from to v (Ok after) is = tt
writes from to v (Err NeedsReal) is = λ wrong. absurd wrong
writes from to v (Err (Memory fault)) is = λ memory. is.1

pub forms : AreForms
forms = record {
  one_integer = λ text x y a b. one_integer text x a ∙ sym (one_integer text y b);
  integer_is_number = λ text z i. integer_number text z i;
}
