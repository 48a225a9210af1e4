-- Sets of sorts, and ways of looking ahead: what the next tokens may be.
use Rattle.std.specs.Prelude.{Bool, true, false, not, ◌||◌, ◌&&◌, List, [], ◌∷◌}
use Rattle.std.specs.List.{list_any, list_all}
use Rattle.sql_token.specs.declared.token.Token.{Token}
use Rattle.sql_token.specs.declared.keyword.Keyword.{Keyword}
use Rattle.sql_token.specs.Keyword.{is_reserved, is_join_word}
use Rattle.sql_reader.specs.declared.sort.Mark.{Mark}
use Rattle.sql_reader.specs.declared.sort.Sort.{Sort}
use Rattle.sql_reader.specs.declared.sort.Sort.TheVariants.{Fixed, Sign, Plain, Quoted, Str, Int, Hex, Float, End}
use Rattle.sql_reader.specs.Sorts.{sorts, same_sort}

-- a set of sorts
abbrev pub Set : Type 0
Set = Sort → Bool

-- this sort alone
abbrev pub only : Sort → Set
only s t = same_sort t s

-- this fixed word
abbrev pub word : Keyword → Set
word k = only (Fixed k)

-- one of the fixed words
abbrev pub words : List Keyword → Set
words ks s = list_any (λ k. same_sort s (Fixed k)) ks

-- this sign
abbrev pub sign : Mark → Set
sign m = only (Sign m)

-- either set
abbrev pub either : Set → Set → Set
either a b s = a s || b s

-- both sets
abbrev pub both : Set → Set → Set
both a b s = a s && b s

-- what the set lacks
abbrev pub none_of : Set → Set
none_of a s = not (a s)

-- a fixed word that passes the test
abbrev pub word_where : (Keyword → Bool) → Set
word_where test (Fixed k) = test k
word_where test _ = false

-- a fixed word that is never a name
abbrev pub reserved_word : Set
reserved_word = word_where is_reserved

-- a fixed word that may begin a join
abbrev pub join_word : Set
join_word = word_where is_join_word

-- a name: a Word that is not reserved, a Quoted or a Str
abbrev pub name : Set
name (Fixed k) = not (is_reserved k)
name Plain = true
name Quoted = true
name Str = true
name _ = false

-- a number
abbrev pub number : Set
number Int = true
number Hex = true
number Float = true
number _ = false

-- a sign
abbrev pub any_sign : Set
any_sign (Sign m) = true
any_sign _ = false

-- no sort is in both sets
abbrev pub disjoint : Set → Set → Bool
disjoint a b = list_all (λ s. not (a s && b s)) sorts

-- each sort of the first set is in the second
abbrev pub subset : Set → Set → Bool
subset a b = list_all (λ s. not (a s) || b s) sorts

-- Ways of looking ahead: in each a set for each of the next tokens.
abbrev pub Look : Type 0
Look = List (List Set)

-- the sort of the next token
abbrev pub next_sort : (Token → Sort) → List Token → Sort
next_sort sort [] = End
next_sort sort (t ∷ ts) = sort t

-- the tokens behind the next
abbrev pub behind_next : List Token → List Token
behind_next [] = []
behind_next (t ∷ ts) = ts

-- the next tokens are of the sets, each of its own
abbrev pub fits : (Token → Sort) → List Set → List Token → Bool
fits sort [] tokens = true
fits sort (set ∷ sets) tokens = set (next_sort sort tokens) && fits sort sets (behind_next tokens)

-- the next tokens look so in one of the ways
abbrev pub looks : (Token → Sort) → Look → List Token → Bool
looks sort look tokens = list_any (λ way. fits sort way tokens) look

-- no tokens fit both ways: at some place their sets are disjoint
abbrev pub ways_apart : List Set → List Set → Bool
ways_apart [] other = false
ways_apart (set ∷ sets) [] = false
ways_apart (set ∷ sets) (other ∷ others) = disjoint set other || ways_apart sets others

-- no tokens look both so and so
abbrev pub apart : Look → Look → Bool
apart look other = list_all (λ way. list_all (ways_apart way) other) look

-- what fits the first way fits the second
abbrev pub way_within : List Set → List Set → Bool
way_within narrow [] = true
way_within [] (set ∷ sets) = false
way_within (part ∷ parts) (set ∷ sets) = subset part set && way_within parts sets

-- what looks as the first says looks as the second says
abbrev pub within : Look → Look → Bool
within narrow wide = list_all (λ way. list_any (way_within way) wide) narrow
