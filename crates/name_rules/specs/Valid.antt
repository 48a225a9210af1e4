-- When a schema is valid, and the first refusal where it is not.
use Rattle.std.specs.Prelude.{◌≡◌, ◌≤◌, ℕ, zero, IsTrue, ◌⊎◌, List, Contains, Some, None}
use Rattle.sql_token.specs.declared.token.Token.{Token}
use Rattle.sql_token.specs.Token.{AreTokens, FirstBad}
use Rattle.sql_tree.specs.Nesting.{FirstTooDeep}
use Rattle.sql_tree.specs.declared.tree.Tree.{Tree}
use Rattle.name_scope.specs.declared.row.Row.{Row}
use Rattle.name_rules.specs.Circles.{IsCircular, TellsSources}
use Rattle.name_rules.specs.Schema.{HasFault, IsReadAs, IsReadable, IsWorld, Schema, is_read}
use Rattle.name_rules.specs.World.{Text, World}

-- Why a text can't be read, and where: a bad token; or it nests too deep; or, at 0, it is missing, or no tree of its row spells it.
abbrev pub IsUnreadableAt : Row → ℕ → Type 0
IsUnreadableAt r at = ((bytes : List ℕ) × (r.sql ≡ Some bytes) × IsBadAt bytes at) ⊎ ((at ≡ zero) × IsNoTree r)
  where
    IsBadAt : List ℕ → ℕ → Type 0
    IsBadAt bytes at = FirstBad bytes at ⊎ ((tokens : List Token) × AreTokens bytes tokens × FirstTooDeep bytes tokens at)

    HasNone : Row → List ℕ → List Token → Type 0
    HasNone r bytes tokens =
        AreTokens bytes tokens × ((at : ℕ) → ¬ FirstTooDeep bytes tokens at)
        × ((text : Text) (tree : Tree) → ¬ IsReadAs r bytes tokens text tree)

    IsNoTree : Row → Type 0
    IsNoTree r = (r.sql ≡ None) ⊎ ((bytes : List ℕ) × (tokens : List Token) × (r.sql ≡ Some bytes) × HasNone r bytes tokens)

module _ (schema : Schema) where
  -- The schema is valid, and this is its world.
  pub record IsValid (world : World) : Type 0 where
    pub readable : IsReadable schema
    pub world_of : IsWorld schema world
    pub straight : (r : Row) → Contains schema.rows r → IsTrue (is_read r) → ¬ IsCircular schema world r.rowid
    pub faultless : (r : Row) → Contains schema.rows r → IsTrue (is_read r) → (t : Token) → ¬ HasFault schema world r.rowid t

  -- it holds of the row, which is read, and of none before it
  pub record IsFirstRow (holds : Row → Type 0) (r : Row) : Type 0 where
    pub stands : Contains schema.rows r
    pub read : IsTrue (is_read r)
    pub true_of : holds r
    pub first : (other : Row) → Contains schema.rows other → IsTrue (is_read other) → holds other → r.rowid ≤ other.rowid

  -- The first refusal: each cause is asked of all objects before the next one.
  -- 1. an object can't be read, at this place
  pub record IsUnreadable (r : Row) (at : ℕ) : Type 0 where
    pub first : IsFirstRow (λ other. (place : ℕ) × IsUnreadableAt other place) r
    pub place : IsUnreadableAt r at

  -- 2. all can be read, and an object is circular
  pub record IsCircularSchema (world : World) (r : Row) : Type 0 where
    pub readable : IsReadable schema
    pub sources : TellsSources schema world
    pub first : IsFirstRow (λ other. IsCircular schema world other.rowid) r

  -- 3. none is circular, and a text has a fault; no fault of it is before this place
  pub record IsUnresolved (world : World) (r : Row) (at : ℕ) : Type 0 where
    pub readable : IsReadable schema
    pub world_of : IsWorld schema world
    pub straight : (other : Row) → Contains schema.rows other → IsTrue (is_read other) → ¬ IsCircular schema world other.rowid
    pub first : IsFirstRow (λ other. (t : Token) × HasFault schema world other.rowid t) r
    pub token : Token
    pub fault : HasFault schema world r.rowid token
    pub place : at ≡ token.start
    pub least : (t : Token) → HasFault schema world r.rowid t → at ≤ t.start
