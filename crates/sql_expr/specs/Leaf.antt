-- What a leaf may hold: the kind of its token, and its bytes in the text.
use Rattle.std.specs.Prelude.{◌≡◌, ℕ, List, [], ◌∷◌, ◌⊎◌, IsTrue, codes}
use Rattle.std.specs.List.{AllByRecursion}
use Rattle.sql_token.specs.declared.token.Token.{Token}
use Rattle.sql_token.specs.declared.token.TokenKind.TheVariants as Kind
use Rattle.sql_token.specs.declared.keyword.Keyword.{Keyword}
use Rattle.sql_token.specs.declared.keyword.Keyword.TheVariants as K
use Rattle.sql_token.specs.Keyword.{is_join_word}
use Rattle.sql_token.specs.Names.{folded}
use Rattle.sql_token.specs.Token.{span}
use Rattle.sql_token.specs.Fixed.{IsFixed, IsSign, IsName}
use Rattle.sql_expr.specs.declared.lists.TokenPair.{TokenPair}

-- a Word that spells these letters, in either case: a fixed word that is no keyword
abbrev pub IsSpelledWord : List ℕ → List ℕ → Token → Type 0
IsSpelledWord text letters t = (t.kind ≡ Kind.Word) × (folded (span text t) ≡ letters)

-- one of the fixed words
abbrev pub IsOneOf : List ℕ → List Keyword → Token → Type 0
IsOneOf text [] t = ⊥
IsOneOf text (keyword ∷ more) t = IsFixed text keyword t ⊎ IsOneOf text more t

-- none of the fixed words
abbrev pub IsNoneOf : List ℕ → List Keyword → Token → Type 0
IsNoneOf text keywords t = AllByRecursion (λ keyword. IsFixed text keyword t → ⊥) keywords

-- two fixed words in a row
abbrev pub AreFixed : List ℕ → Keyword → Keyword → TokenPair → Type 0
AreFixed text first second pair = IsFixed text first pair.first × IsFixed text second pair.second

-- an operator sign: a sign other than ( ) , ; .
abbrev pub IsOperatorSign : List ℕ → Token → Type 0
IsOperatorSign text t =
    (t.kind ≡ Kind.Op)
    × AllByRecursion (λ sign. IsSign text sign t → ⊥) (codes "(" ∷ codes ")" ∷ codes "," ∷ codes ";" ∷ codes "." ∷ [])

-- no join word
abbrev pub IsNoJoinWord : List ℕ → Token → Type 0
IsNoJoinWord text t = (keyword : Keyword) → IsTrue (is_join_word keyword) → IsFixed text keyword t → ⊥

-- an alias without AS: a name, but no join word and no word that may go on behind an expression
abbrev pub IsBareAlias : List ℕ → Token → Type 0
IsBareAlias text t =
    IsName text t × IsNoJoinWord text t
    × IsNoneOf text (K.Window ∷ K.Over ∷ K.Filter ∷ K.Like ∷ K.Glob ∷ K.Regexp ∷ K.Match ∷ []) t

-- a name in a type
abbrev pub IsTypeName : List ℕ → Token → Type 0
IsTypeName text t = IsName text t × IsNoJoinWord text t

-- no name of a type is GENERATED before ALWAYS
abbrev pub IsFreeOfGenerated : List ℕ → List Token → Type 0
IsFreeOfGenerated text [] = Unit {0}
IsFreeOfGenerated text (t ∷ []) = Unit {0}
IsFreeOfGenerated text (t ∷ u ∷ ts) =
    (IsFixed text K.Generated t → IsFixed text K.Always u → ⊥) × IsFreeOfGenerated text (u ∷ ts)

-- the words that are values
abbrev pub current_words : List Keyword
current_words = K.CurrentDate ∷ K.CurrentTime ∷ K.CurrentTimestamp ∷ []

-- a name that may begin an operand: no word that is a fixed word there
abbrev pub IsOperandName : List ℕ → Token → Type 0
IsOperandName text t = IsName text t × IsNoneOf text (K.Cast ∷ K.Raise ∷ current_words) t

-- a column's name that stands alone: also no Str
abbrev pub IsColumnName : List ℕ → Token → Type 0
IsColumnName text t = IsOperandName text t × (t.kind ≡ Kind.Str → ⊥)

-- the tokens begin with none of the fixed words
abbrev pub BeginsWithout : List ℕ → List Keyword → List Token → Type 0
BeginsWithout text keywords tokens = (t : Token) (rest : List Token) → tokens ≡ t ∷ rest → IsNoneOf text keywords t
