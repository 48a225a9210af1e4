-- What expressions, selects and sources demand and show, by their height.
use Rattle.std.specs.Prelude.{ℕ, zero, suc, [], None}
use Rattle.name_rules.specs.Expressions.{bare_use, lone_use, of_expr}
use Rattle.name_rules.specs.Inner.{Inner}
use Rattle.name_rules.specs.Selects.{of_select, shown_of}
use Rattle.name_rules.specs.Sources.{of_sources, sources_away, sources_origins}
use Rattle.name_rules.specs.World.{Text, World}

module _ (text : Text) (world : World) where
  -- What is said of trees of less than this height. Each tree in another has fewer tokens, so those of a text are of less than
  -- the number of its tokens.
  abbrev pub inner_at : ℕ → Inner
  inner_at zero = record {
    expr = λ w x. [];
    select = λ w x. [];
    from = λ place before x. [];
    shown = λ x. [];
    origins = λ x. [];
    away = λ x. [];
    lone = λ x. None;
    bare = λ x. None;
  }
  inner_at (suc n) = record {
    expr = of_expr (inner_at n);
    select = of_select text world (inner_at n);
    from = of_sources text world (inner_at n);
    shown = shown_of text world (inner_at n);
    origins = sources_origins text world (inner_at n);
    away = sources_away text world (inner_at n);
    lone = lone_use (inner_at n).lone;
    bare = bare_use (inner_at n).bare;
  }
