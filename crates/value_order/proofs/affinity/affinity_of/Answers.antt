use Rattle.std.proofs.Common.{rules}
use Rattle.value_order.specs.declared.affinity.Affinity.TheVariants.{Blob, Text, Integer, Real}
use Rattle.value_order.proofs.Found.{one_affinity}
use Rattle.value_order.proofs.affinity.affinity_of.Goals as goal

pub returns-then-contains-clause-only : goal.returns-then-contains-clause-only
returns-then-contains-clause-only c = λ affinity has. one_affinity c.args.type_text.now affinity Integer has (search rules)

pub returns-then-names_text-clause-only : goal.returns-then-names_text-clause-only
returns-then-names_text-clause-only c = λ affinity has. one_affinity c.args.type_text.now affinity Text has (search rules)

pub returns-then-names_blob-clause-only : goal.returns-then-names_blob-clause-only
returns-then-names_blob-clause-only c = λ affinity has. one_affinity c.args.type_text.now affinity Blob has (search rules)

pub returns-then-names_real-clause-only : goal.returns-then-names_real-clause-only
returns-then-names_real-clause-only c = λ affinity has. one_affinity c.args.type_text.now affinity Real has (search rules)
