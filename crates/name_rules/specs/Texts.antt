-- What the text of an object shows and demands.
use Rattle.std.specs.Prelude.{ℕ, List, [], ◌∷◌, ◌++◌, map, flat_map, codes, Some, None}
use Rattle.sql_token.specs.declared.token.Token.{Token}
use Rattle.sql_tree.specs.declared.index.CreateIndex.{CreateIndex}
use Rattle.sql_tree.specs.declared.index.CreateView.{CreateView}
use Rattle.sql_tree.specs.declared.tree.Tree.{Tree}
use Rattle.sql_tree.specs.declared.tree.Tree.TheVariants as Tree'
use Rattle.sql_tree.specs.declared.trigger.CreateTrigger.{CreateTrigger}
use Rattle.sql_tree.specs.declared.trigger.TriggerEvent.{TriggerEvent}
use Rattle.sql_tree.specs.declared.trigger.TriggerEvent.TheVariants as TriggerEvent'
use Rattle.name_scope.specs.declared.identity.Identity.TheVariants as identity
use Rattle.name_rules.specs.Inner.{Inner, items_of, of_part}
use Rattle.name_rules.specs.Levels.{qualified_level}
use Rattle.name_rules.specs.Selects.{listed_of, of_list}
use Rattle.name_rules.specs.Sources.{origin_by}
use Rattle.name_rules.specs.Statements.{around, asks_listed, of_statement}
use Rattle.name_rules.specs.Tables.{check_where, column_where, nowhere, of_keys, of_table}
use Rattle.name_rules.specs.Told.{object_names, object_start, source_at, told}
use Rattle.name_rules.specs.Trees.{inner_at}
use Rattle.name_rules.specs.World.{Binding, Demand, Origin, Text, World}
use Rattle.name_rules.specs.World.Asking.{Owner}
use Rattle.name_rules.specs.World.Demand.{Asks, HasKey, HasRowid, Shows}
use Rattle.name_rules.specs.World.Label.{FixedName}

module _ (text : Text) (world : World) (inner : Inner) where
  -- the table of an index is the one source of its text
  abbrev index_origin : CreateIndex → Origin
  index_origin x = origin_by text world inner x.table x.table None (told text world x.table)

  -- the keys see the columns of the table, the WHERE its rowid names, too
  abbrev pub of_index : CreateIndex → List Demand
  of_index x =
      Asks (record { asking = Owner; tokens = x.table ∷ []; levels = [] })
      ∷ of_keys text world inner (index_origin x) (column_where text world inner (index_origin x)) x.indexeds.inner
      ++ of_part (λ filter. inner.expr (check_where text world inner (index_origin x)) filter.part) x.filter

  -- a view shows the columns of its select, under its list if it has one; it has no rowid names and no key
  abbrev pub of_view : CreateView → List Demand
  of_view x =
      Shows (identity.Object text.row) (listed_of text world inner x.columns (inner.shown x.select)) ∷ HasRowid text.row None
      ∷ HasKey text.row []
      ∷ of_list text world inner x.columns (inner.shown x.select) ++ inner.select (nowhere text world inner) x.select

  -- the table or view of a trigger
  abbrev owner_origin : CreateTrigger → Origin
  owner_origin x =
      origin_by text world inner (object_start x.head.object) x.head.object.name None (told text world (object_start x.head.object))

  -- the same under this name, known by this token
  abbrev trigger_origin : CreateTrigger → Token → List ℕ → Origin
  trigger_origin x at name = record (owner_origin x) { source = source_at text world at; name = Some (FixedName name) }

  -- NEW stands for a row that is inserted or updated, OLD for one that is updated or deleted. NEW is known by the word ON, OLD by
  -- that of the event.
  abbrev event_origins : CreateTrigger → TriggerEvent → List Origin
  event_origins x (TriggerEvent'.Insert insert) = trigger_origin x x.head.on (codes "new") ∷ []
  event_origins x (TriggerEvent'.Update update columns) =
      trigger_origin x x.head.on (codes "new") ∷ trigger_origin x update (codes "old") ∷ []
  event_origins x (TriggerEvent'.Delete delete) = trigger_origin x delete (codes "old") ∷ []

  -- the outermost level of a trigger: NEW and OLD, with a qualifier
  abbrev pub trigger_level : CreateTrigger → List Binding
  trigger_level x = qualified_level (event_origins x x.head.event)

  -- the names after UPDATE OF
  abbrev event_names : TriggerEvent → List Token
  event_names (TriggerEvent'.Update update (Some columns)) = items_of columns.part
  event_names _ = []

  abbrev pub of_trigger : CreateTrigger → List Demand
  of_trigger x =
      Asks (record { asking = Owner; tokens = object_names x.head.object; levels = [] })
      ∷ map (asks_listed text world inner (trigger_level x) (owner_origin x)) (event_names x.head.event)
      ++ of_part (λ condition. inner.expr (around text world inner (trigger_level x)) condition.part) x.head.condition
      ++ flat_map (λ ended. of_statement text world inner (trigger_level x) ended.statement) (x.first ∷ x.more)

  -- what a text demands, of the trees inside it so much
  abbrev pub of_tree : Tree → List Demand
  of_tree (Tree'.Table x) = of_table text world inner x
  of_tree (Tree'.Index x) = of_index x
  of_tree (Tree'.View x) = of_view x
  of_tree (Tree'.Trigger x) = of_trigger x

-- what a text demands
abbrev pub demands_of : Text → World → Tree → List Demand
demands_of text world x = of_tree text world (inner_at text world text.size) x
