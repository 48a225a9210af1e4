-- Commands one after the other.
use Rattle.std.specs.Prelude.{◌≡◌, List, [], ◌∷◌}
use Rattle.plain_schema.specs.declared.verdict.Verdict.{Verdict}
use Rattle.alter_cli.specs.Rules.{Rules}

module _ {Image Command : Type 0} (rules : Rules Image Command) where
  -- the commands get these verdicts, one each, and take the first image to the last, each on the image of the one before
  abbrev pub Run : Image → List Command → List Verdict → Image → Type 0
  Run image [] [] last = last ≡ image
  Run image (command ∷ commands) (verdict ∷ verdicts) last = (next : Image) × rules.Step image command verdict next × Run next commands verdicts last
  Run image [] (verdict ∷ verdicts) last = ⊥
  Run image (command ∷ commands) [] last = ⊥
