-- The sources of a FROM: what they show, what their joins join away, and what they demand.
use Rattle.std.specs.Prelude.{List, [], ◌∷◌, ◌++◌, map, flat_map, Option, Some, None, option_map}
use Rattle.std.specs.Option.{option_map_or}
use Rattle.sql_token.specs.declared.token.Token.{Token}
use Rattle.sql_expr.specs.Levels.{OpenTableSource}
use Rattle.sql_expr.specs.declared.names.Alias.{Alias}
use Rattle.sql_expr.specs.declared.source.Indexing.{Indexing}
use Rattle.sql_expr.specs.declared.source.Indexing.TheVariants as Indexing'
use Rattle.sql_expr.specs.declared.source.Join.{Join}
use Rattle.sql_expr.specs.declared.source.Join.TheVariants as Join'
use Rattle.sql_expr.specs.declared.source.JoinConstraint.{JoinConstraint}
use Rattle.sql_expr.specs.declared.source.JoinConstraint.TheVariants as JoinConstraint'
use Rattle.sql_expr.specs.declared.expr.Expr.{Expr}
use Rattle.sql_expr.specs.declared.expr.InSet.TheOpen.{TableSource-F}
use Rattle.sql_expr.specs.declared.source.JoinedSource.{JoinedSource, out-JoinedSource}
use Rattle.sql_expr.specs.declared.source.Sources.{Sources, out-Sources}
use Rattle.sql_expr.specs.declared.source.TableSource.{out-TableSource}
use Rattle.name_rules.specs.Expressions.{asks_function, asks_source}
use Rattle.name_rules.specs.Inner.{FromPlace, Inner, items_of, of_each, of_part}
use Rattle.name_rules.specs.Levels.{join_levels, level_of}
use Rattle.name_rules.specs.Told.{away_by, columns_by, name_by, object_start, rowid_by, source_at, told}
use Rattle.name_rules.specs.World.{Asking, Binding, Demand, Joined, Label, Origin, Reply, Text, Where, World}
use Rattle.name_rules.specs.World.Asking.{IndexedBy, NaturalWord, Using}
use Rattle.name_rules.specs.World.Demand.{Asks}
use Rattle.name_rules.specs.World.Label.{FixedName}

-- the word NATURAL of a join, if it has it
abbrev pub natural_word : Join → Option Token
natural_word (Join'.Comma comma) = None
natural_word (Join'.Join natural kind join) = natural

-- the names in USING
abbrev pub using_names : JoinConstraint Expr → List Token
using_names (JoinConstraint'.On on) = []
using_names (JoinConstraint'.Using using names) = items_of names.inner

module _ (text : Text) (world : World) (inner : Inner) where
  abbrev alias_label : Alias → Label
  alias_label alias = FixedName (text.spelled alias.name)

  -- a source of which this is told at its name token
  abbrev pub origin_by : Token → Token → Option Alias → Reply → Origin
  origin_by start name alias reply = record {
    source = source_at text world start;
    name = option_map_or (λ a. Some (alias_label a)) alias (name_by text world reply name);
    columns = columns_by world reply;
    rowid = rowid_by world reply;
  }

  -- a source in order: its name is its alias, else as it is spelled there; a select has none
  abbrev pub origins_of : OpenTableSource → List Origin
  origins_of (TableSource-F.Table object alias indexing) =
      origin_by (object_start object) object.name alias (told text world (object_start object)) ∷ []
  origins_of (TableSource-F.TableFunction name arguments alias) = origin_by name name alias (told text world name) ∷ []
  origins_of (TableSource-F.Derived select alias) =
      record {
        source = source_at text world select.opening;
        name = option_map alias_label alias;
        columns = inner.shown select.inner;
        rowid = None;
      }
      ∷ []
  origins_of (TableSource-F.Sources sources) = inner.origins sources.inner

  abbrev pub joined_origins : JoinedSource → List Origin
  joined_origins j = origins_of (out-TableSource (out-JoinedSource j).source)

  -- the sources of a FROM in order; those in parentheses count as standing in place
  abbrev pub sources_origins : Sources → List Origin
  sources_origins x = origins_of (out-TableSource (out-Sources x).first) ++ flat_map joined_origins (out-Sources x).more

  -- what the joins inside a source join away
  abbrev pub away_inside : OpenTableSource → List Joined
  away_inside (TableSource-F.Sources sources) = inner.away sources.inner
  away_inside _ = []

  abbrev away_at : Token → List Joined
  away_at t = away_by (told text world t)

  -- what a join, and those inside its source, join away
  abbrev pub joined_away : JoinedSource → List Joined
  joined_away j =
      option_map_or away_at (natural_word (out-JoinedSource j).join) []
      ++ option_map_or (λ c. flat_map away_at (using_names c)) (out-JoinedSource j).constraint []
      ++ away_inside (out-TableSource (out-JoinedSource j).source)

  -- the columns that the joins of a FROM join away
  abbrev pub sources_away : Sources → List Joined
  sources_away x = away_inside (out-TableSource (out-Sources x).first) ++ flat_map joined_away (out-Sources x).more

  module _ (place : FromPlace) where
    abbrev of_indexing : Reply → Indexing → List Demand
    of_indexing source (Indexing'.By indexed by name) = Asks (record { asking = IndexedBy source; tokens = name ∷ []; levels = [] }) ∷ []
    of_indexing source (Indexing'.Not not indexed) = []

    -- where the arguments of a table function stand: at a level of the sources before it
    abbrev arguments_where : List Origin → Where
    arguments_where before = record place.around { columns = level_of place.away (place.target ++ before) ∷ place.around.columns }

    -- what a source demands behind these others
    abbrev pub of_source : List Origin → OpenTableSource → List Demand
    of_source before (TableSource-F.Table object alias indexing) =
        asks_source inner place.around object ∷ of_part (of_indexing (told text world (object_start object))) indexing
    of_source before (TableSource-F.TableFunction name arguments alias) =
        asks_function inner place.around name ∷ of_part (of_each (inner.expr (arguments_where before))) arguments.inner
    of_source before (TableSource-F.Derived select alias) = inner.select place.around select.inner
    of_source before (TableSource-F.Sources sources) = inner.from place before sources.inner

    -- a name in USING, and NATURAL, between the sources to the left and those on the right
    abbrev asks_join : Asking → List (List Binding) → Token → Demand
    asks_join asking levels t = Asks (record { asking = asking; tokens = t ∷ []; levels = levels })

    abbrev of_constraint : List (List Binding) → JoinConstraint Expr → List Demand
    of_constraint levels (JoinConstraint'.On on) = inner.expr place.at on.part
    of_constraint levels (JoinConstraint'.Using using names) = map (asks_join Using levels) (items_of names.inner)

    -- the levels of a join: its right side, then each source to the left
    abbrev levels_of_join : List Origin → JoinedSource → List (List Binding)
    levels_of_join before j = join_levels (away_inside (out-TableSource (out-JoinedSource j).source)) (joined_origins j) before

    abbrev pub of_joined : List Origin → JoinedSource → List Demand
    of_joined before j =
        of_part (λ t. asks_join NaturalWord (levels_of_join before j) t ∷ []) (natural_word (out-JoinedSource j).join)
        ++ of_source before (out-TableSource (out-JoinedSource j).source)
        ++ of_part (of_constraint (levels_of_join before j)) (out-JoinedSource j).constraint

    abbrev pub of_more : List Origin → List JoinedSource → List Demand
    of_more before [] = []
    of_more before (j ∷ more) = of_joined before j ++ of_more (before ++ joined_origins j) more

    -- what a FROM demands behind these sources
    abbrev pub of_sources : List Origin → Sources → List Demand
    of_sources before x =
        of_source before (out-TableSource (out-Sources x).first)
        ++ of_more (before ++ origins_of (out-TableSource (out-Sources x).first)) (out-Sources x).more
