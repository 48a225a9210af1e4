-- Literals: what denotes a text or a truth value where a name could stand (lang_keywords.html, lang_expr.html).
use Rattle.std.specs.Prelude.{◌≡◌, ℕ, ◌⊎◌, List, [], ◌∷◌, codes}
use Rattle.sql_token.specs.Names.{folded}

-- The bytes of a token are in double quotes, or the bare word TRUE or FALSE. The use of a column that consists of this one token and sees
-- nothing is then a literal.
abbrev pub MayBeLiteral : List ℕ → Type 0
MayBeLiteral token = ((rest : List ℕ) × (token ≡ 34 ∷ rest)) ⊎ ((folded token ≡ codes "true") ⊎ (folded token ≡ codes "false"))
