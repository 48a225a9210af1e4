-- What leaves, optional parts and lists of a tree spell.
use Rattle.std.specs.Prelude.{List, [], ◌∷◌, ◌++◌, Option, Some, None}
use Rattle.sql_token.specs.declared.token.Token.{Token}

-- a leaf spells its token
abbrev pub one : Token → List Token
one token = token ∷ []

-- what an optional part spells: nothing where it is absent
abbrev pub maybe : {A : Type 0} → (A → List Token) → Option A → List Token
maybe f None = []
maybe f (Some x) = f x

-- what the items of a list spell, one behind the other
abbrev pub flat : {A : Type 0} → (A → List Token) → List A → List Token
flat f [] = []
flat f (x ∷ xs) = f x ++ flat f xs
