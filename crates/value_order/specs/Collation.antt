-- Collations (datatype3.html, "Collating Sequences").
use Rattle.std.specs.Prelude.{ℕ, ◌==◌, if◌then◌else◌, List, [], ◌∷◌, codes}
use Rattle.std.specs.List.{list_all}
use Rattle.sql_token.specs.Names.{folded}
use Rattle.value_order.specs.declared.collation.Collation.{Collation}
use Rattle.value_order.specs.declared.collation.Collation.TheVariants.{Binary, NoCase, RTrim}

-- the name of the collation, in lower-case letters
abbrev pub name_of : Collation → List ℕ
name_of Binary = codes "binary"
name_of NoCase = codes "nocase"
name_of RTrim = codes "rtrim"

-- the text up to its last byte that is no space
unfoldable pub without_end_spaces : List ℕ → List ℕ
without_end_spaces [] = []
without_end_spaces (b ∷ bytes) = if list_all (λ x. x == 32) (b ∷ bytes) then [] else b ∷ without_end_spaces bytes

-- the bytes of a text by which it is compared
abbrev pub collated : Collation → List ℕ → List ℕ
collated Binary text = text
collated NoCase text = folded text
collated RTrim text = without_end_spaces text
