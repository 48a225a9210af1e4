-- What is asked of the trees inside a tree.
use Rattle.std.specs.Prelude.{List, [], ◌∷◌, map, flat_map, Option}
use Rattle.std.specs.Option.{option_map_or}
use Rattle.sql_token.specs.declared.token.Token.{Token}
use Rattle.sql_expr.specs.declared.lists.Commas.{Commas}
use Rattle.sql_expr.specs.declared.lists.InParens.{InParens}
use Rattle.sql_expr.specs.declared.names.ColumnUse.{ColumnUse}
use Rattle.sql_expr.specs.declared.expr.Expr.{Expr}
use Rattle.sql_expr.specs.declared.select.Select.{Select}
use Rattle.sql_expr.specs.declared.source.Sources.{Sources}
use Rattle.name_rules.specs.World.{Demand, Joined, Origin, Shown, Where}

-- Where a FROM stands: what its selects in parentheses see, what its ON sees, the target of an UPDATE before it, and its columns
-- that are joined away.
pub record FromPlace : Type 0 where
  pub around : Where
  pub at : Where
  pub target : List Origin
  pub away : List Joined

-- What is said of the trees inside: what expressions and selects demand where they stand, and sources behind these others; the
-- columns that a select shows; the sources of a FROM in order, and their columns that its joins join away; and the column-use that
-- an expression is, in parentheses or not, and with COLLATE or not.
pub record Inner : Type 0 where
  pub expr : Where → Expr → List Demand
  pub select : Where → Select → List Demand
  pub from : FromPlace → List Origin → Sources → List Demand
  pub shown : Select → List Shown
  pub origins : Sources → List Origin
  pub away : Sources → List Joined
  pub lone : Expr → Option ColumnUse
  pub bare : Expr → Option ColumnUse

-- the items of a list
abbrev pub items_of : {A : Type 0} → Commas A → List A
items_of x = x.first ∷ map (λ next. next.item) x.more

-- the items of a list in parentheses that may be absent
abbrev pub names_in : Option (InParens (Commas Token)) → List Token
names_in x = option_map_or (λ list. items_of list.inner) x []

-- what an optional part demands
abbrev pub of_part : {A : Type 0} → (A → List Demand) → Option A → List Demand
of_part f x = option_map_or f x []

-- what each of a list demands
abbrev pub of_each : {A : Type 0} → (A → List Demand) → Commas A → List Demand
of_each f x = flat_map f (items_of x)
