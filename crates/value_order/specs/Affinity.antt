-- The affinity of a type text (datatype3.html, "Determination Of Column Affinity").
use Rattle.std.specs.Prelude.{◌≡◌, ℕ, ◌<◌, ◌⊎◌, List, [], ◌++◌, codes}
use Rattle.sql_token.specs.Names.{folded}
use Rattle.value_order.specs.declared.affinity.Affinity.{Affinity}
use Rattle.value_order.specs.declared.affinity.Affinity.TheVariants.{Blob, Text, Numeric, Integer, Real}

-- the text begins with the word, which is in lower-case letters
abbrev pub BeginsWith : List ℕ → List ℕ → Type 0
BeginsWith word text = (back : List ℕ) × (folded text ≡ word ++ back)

-- the word, which is in lower-case letters, stands somewhere in the text
abbrev pub Contains : List ℕ → List ℕ → Type 0
Contains word text = (front : List ℕ) × (back : List ℕ) × (folded text ≡ front ++ word ++ back)

abbrev pub NamesText : List ℕ → Type 0
NamesText text = Contains (codes "char") text ⊎ Contains (codes "clob") text ⊎ Contains (codes "text") text

abbrev pub NamesBlob : List ℕ → Type 0
NamesBlob text = (text ≡ []) ⊎ Contains (codes "blob") text

abbrev pub NamesReal : List ℕ → Type 0
NamesReal text = Contains (codes "real") text ⊎ Contains (codes "floa") text ⊎ Contains (codes "doub") text

-- the rule of the affinity holds of the type text, whatever rules come before it
abbrev pub Suits : Affinity → List ℕ → Type 0
Suits Integer text = Contains (codes "int") text
Suits Text text = NamesText text
Suits Blob text = NamesBlob text
Suits Real text = NamesReal text
Suits Numeric text = Unit {0}

-- the place of the affinity's rule
abbrev pub rank : Affinity → ℕ
rank Integer = 1
rank Text = 2
rank Blob = 3
rank Real = 4
rank Numeric = 5

-- the rule of the affinity is the first one that holds of the type text
pub record HasAffinity (affinity : Affinity) (text : List ℕ) : Type 0 where
  pub holds : Suits affinity text
  pub first : (earlier : Affinity) → rank earlier < rank affinity → Suits earlier text → ⊥
