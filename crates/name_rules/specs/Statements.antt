-- What the statements of a trigger demand.
use Rattle.std.specs.Prelude.{List, [], ◌∷◌, ◌++◌, map, flat_map, codes, Option, Some, None}
use Rattle.sql_token.specs.declared.token.Token.{Token}
use Rattle.sql_expr.specs.declared.lists.After.{After}
use Rattle.sql_expr.specs.declared.expr.Expr.{Expr}
use Rattle.sql_expr.specs.declared.source.Sources.{Sources}
use Rattle.sql_tree.specs.declared.statement.Assignment.{Assignment}
use Rattle.sql_tree.specs.declared.statement.Delete.{Delete}
use Rattle.sql_tree.specs.declared.statement.Insert.{Insert}
use Rattle.sql_tree.specs.declared.statement.Sets.{Sets}
use Rattle.sql_tree.specs.declared.statement.Statement.{Statement}
use Rattle.sql_tree.specs.declared.statement.Statement.TheVariants as Statement'
use Rattle.sql_tree.specs.declared.statement.Target.{Target}
use Rattle.sql_tree.specs.declared.statement.Target.TheVariants as Target'
use Rattle.sql_tree.specs.declared.statement.Update.{Update}
use Rattle.sql_tree.specs.declared.statement.Upsert.{Upsert}
use Rattle.sql_tree.specs.declared.statement.UpsertAction.{UpsertAction}
use Rattle.sql_tree.specs.declared.statement.UpsertAction.TheVariants as UpsertAction'
use Rattle.sql_tree.specs.declared.statement.UpsertTarget.{UpsertTarget}
use Rattle.name_rules.specs.Inner.{Inner, items_of, names_in, of_each, of_part}
use Rattle.name_rules.specs.Levels.{level_of, qualified_level}
use Rattle.name_rules.specs.Selects.{from_away, from_origins}
use Rattle.name_rules.specs.Sources.{origin_by}
use Rattle.name_rules.specs.Told.{source_at, told}
use Rattle.name_rules.specs.World.{Binding, Demand, Origin, Text, Where, World}
use Rattle.name_rules.specs.World.Asking.{Listed, SourceName}
use Rattle.name_rules.specs.World.Demand.{Asks}
use Rattle.name_rules.specs.World.Label.{FixedName}

-- the names that an assignment sets
abbrev pub target_names : Target → List Token
target_names (Target'.Name name) = name ∷ []
target_names (Target'.Names names) = items_of names.inner

-- `trigger` is the level of NEW and OLD. All levels for source names begin empty.
module _ (text : Text) (world : World) (inner : Inner) (trigger : List Binding) where
  -- where what stands around a statement stands
  abbrev pub around : Where
  around = record { columns = trigger ∷ []; sources = [] }

  -- the level, and around it the trigger
  abbrev pub inside : List Binding → Where
  inside level = record { columns = level ∷ trigger ∷ []; sources = [] }

  -- the target of a statement, a source that is named as it is spelled
  abbrev pub target_origin : Token → Origin
  target_origin name = origin_by text world inner name name None (told text world name)

  abbrev pub asks_target : Token → Demand
  asks_target name = Asks (record { asking = SourceName; tokens = name ∷ []; levels = [] })

  -- a name that is set or listed sees the columns and rowid names of the target
  abbrev pub asks_listed : Origin → Token → Demand
  asks_listed target name = Asks (record { asking = Listed; tokens = name ∷ []; levels = level_of [] (target ∷ []) ∷ [] })

  abbrev of_assignment : Where → Origin → Assignment → List Demand
  of_assignment w target x = map (asks_listed target) (target_names x.target) ++ inner.expr w x.value

  abbrev pub of_sets : Where → Origin → Sets → List Demand
  of_sets w target x = of_each (of_assignment w target) x.assignments

  abbrev of_filter : Where → Option (After Expr) → List Demand
  of_filter w filter = of_part (λ after. inner.expr w after.part) filter

  -- the level of an UPDATE: its target and the sources of its FROM, as one scope
  abbrev update_where : Origin → Option (After Sources) → Where
  update_where target from = inside (level_of (from_away text world inner from) (target ∷ from_origins text world inner from))

  abbrev of_update_from : Origin → Option (After Sources) → List Demand
  of_update_from target from =
      of_part
      (λ f. inner.from (record { around = around; at = update_where target from; target = target ∷ []; away = inner.away f.part }) [] f.part)
      from

  abbrev pub of_update : Update → List Demand
  of_update x =
      asks_target x.name ∷ of_update_from (target_origin x.name) x.from
      ++ of_sets (update_where (target_origin x.name) x.from) (target_origin x.name) x.sets
      ++ of_filter (update_where (target_origin x.name) x.from) x.filter

  abbrev pub of_delete : Delete → List Demand
  of_delete x = asks_target x.name ∷ of_filter (inside (level_of [] (target_origin x.name ∷ []))) x.filter

  -- the source `excluded`, known by the word DO: it has the target's columns and rowid names
  abbrev excluded : Origin → Token → Origin
  excluded target do_word = record target { source = source_at text world do_word; name = Some (FixedName (codes "excluded")) }

  -- behind DO an upsert sees its target and, with a qualifier, `excluded`
  abbrev do_where : Origin → Token → Where
  do_where target do_word = inside (level_of [] (target ∷ []) ++ qualified_level (excluded target do_word ∷ []))

  abbrev of_action : Where → Origin → UpsertAction → List Demand
  of_action w target (UpsertAction'.Nothing nothing) = []
  of_action w target (UpsertAction'.Update update sets filter) = of_sets w target sets ++ of_filter w filter

  abbrev of_upsert_target : Where → UpsertTarget → List Demand
  of_upsert_target w x = of_each (λ key. inner.expr w key.expr) x.indexeds.inner ++ of_filter w x.filter

  abbrev pub of_upsert : Origin → Upsert → List Demand
  of_upsert target x =
      of_part (of_upsert_target (inside (level_of [] (target ∷ [])))) x.target
      ++ of_action (do_where target x.do_word) target x.action

  abbrev pub of_insert : Insert → List Demand
  of_insert x =
      asks_target x.name ∷ map (asks_listed (target_origin x.name)) (names_in x.columns) ++ inner.select around x.select
      ++ flat_map (of_upsert (target_origin x.name)) x.upserts

  -- what a statement demands
  abbrev pub of_statement : Statement → List Demand
  of_statement (Statement'.Select x) = inner.select around x
  of_statement (Statement'.Update x) = of_update x
  of_statement (Statement'.Insert x) = of_insert x
  of_statement (Statement'.Delete x) = of_delete x
