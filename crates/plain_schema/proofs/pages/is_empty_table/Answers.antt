use Rattle.std.proofs.Common.{◌≡◌, true, false, []}
use Rattle.page_cells.specs.declared.kind.Kind.TheVariants.{TableLeaf}
use Rattle.plain_schema.specs.FirstPage.{leaf_of}
use Rattle.plain_schema.proofs.pages.is_empty_table.Goals as goal

pub returns-in-Err-Kind : goal.returns-in-Err-Kind
returns-in-Err-Kind c = (
  λ no. absurd (apart no),
  λ has. absurd (rw c.in-Err-Kind.field-0-is at (c.in-Err-Kind.ensures.only TableLeaf (leaf_of []) has)),
)
  where
    apart : false ≡ true → ⊥
    apart e = cc
