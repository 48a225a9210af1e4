-- The resolved form of a text: its tokens, where each use is what it denotes, and the names that tables and columns declare are erased.
use Rattle.std.specs.Prelude.{◌≡◌, ◌↔◌, ◌==◌, ℕ, nat_le, nat_lt, cond, Bool, false, ◌&&◌, List, [], ◌∷◌, map, flat_map, Contains}
use Rattle.std.specs.List.{list_any}
use Rattle.sql_token.specs.declared.token.Token.{Token}
use Rattle.sql_tree.specs.declared.tree.Tree.{Tree}
use Rattle.sql_tree.specs.declared.tree.Tree.TheVariants as Tree'
use Rattle.name_rules.specs.Tables.{declared}
use Rattle.name_rules.specs.Texts.{demands_of}
use Rattle.name_rules.specs.Told.{told}
use Rattle.name_rules.specs.World.{Demand, Joined, Reply, Text, World}
use Rattle.name_rules.specs.World.Demand.{Asks}
use Rattle.name_rules.specs.World.Reply.{Pairs}

-- What stands at a token: its bytes as they are; a name that a table or column declares; a use, by what it denotes. A use of
-- several tokens stands at its first.
pub data Piece : Type 0 where
  Kept : List ℕ → Piece
  Declared : Piece
  Denoting : Reply → Piece

-- the uses of a text, each by its tokens
abbrev pub uses_among : List Demand → List (List Token)
uses_among [] = []
uses_among (Asks a ∷ more) = a.tokens ∷ uses_among more
uses_among (d ∷ more) = uses_among more

-- the names that a table and its columns declare
abbrev pub declared_names : Tree → List Token
declared_names (Tree'.Table x) = x.name ∷ map (λ c. c.name) (declared x)
declared_names _ = []

module _ (text : Text) (world : World) where
  abbrev place_is : Token → Token → Bool
  place_is t u = text.place t == text.place u

  -- the token is the first of these, or stands behind it up to the last
  abbrev begins : Token → List Token → Bool
  begins t [] = false
  begins t (first ∷ more) = place_is t first

  abbrev last_of : Token → List Token → Token
  last_of t [] = t
  last_of t (next ∷ more) = last_of next more

  abbrev is_inside : Token → List Token → Bool
  is_inside t [] = false
  is_inside t (first ∷ more) = nat_lt (text.place first) (text.place t) && nat_le (text.place t) (text.place (last_of first more))

  abbrev piece_of : List (List Token) → List Token → Token → List Piece
  piece_of uses names t =
      cond (list_any (begins t) uses) (Denoting (told text world t) ∷ [])
      (cond (list_any (is_inside t) uses) []
      (cond (list_any (place_is t) names) (Declared ∷ [])
      (Kept (text.bytes t) ∷ [])))

  -- the resolved form of the text of a tree that spells these tokens
  abbrev pub resolved : Tree → List Token → List Piece
  resolved x tokens = flat_map (piece_of (uses_among (demands_of text world x)) (declared_names x)) tokens

-- Two replies are the same: pairs of NATURAL in any order.
abbrev pub IsSameReply : Reply → Reply → Type 0
IsSameReply (Pairs pairs) (Pairs others) = (pair : Joined × Joined) → Contains pairs pair ↔ Contains others pair
IsSameReply a b = a ≡ b

abbrev pub IsSamePiece : Piece → Piece → Type 0
IsSamePiece (Denoting a) (Denoting b) = IsSameReply a b
IsSamePiece a b = a ≡ b

-- two resolved forms are the same
abbrev pub AreSamePieces : List Piece → List Piece → Type 0
AreSamePieces [] [] = Unit {0}
AreSamePieces (a ∷ as_) (b ∷ bs) = IsSamePiece a b × AreSamePieces as_ bs
AreSamePieces _ _ = ⊥
