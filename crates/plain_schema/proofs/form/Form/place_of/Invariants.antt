use Rattle.std.proofs.Common.{◌≡◌, take, false}
use Rattle.std.specs.List.{list_any}
use Rattle.plain_schema.specs.Step.{is_named}
use Rattle.plain_schema.proofs.form.Form.place_of.Given as goal

-- no table so far is the one that the command is about
abbrev pub invariant-loop-place : goal.invariant-loop-place
invariant-loop-place l = list_any (is_named l.command) (take l.place l.self.tables.items) ≡ false
