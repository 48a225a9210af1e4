use Rattle.std.proofs.Common.{ap, ◌++◌, List, ℕ, sym, ◌∙◌}
use Rattle.alter_cli.proofs.Gave.{grows}
use Rattle.alter_cli.proofs.sink.print.Goals as goal

-- the front that was written grows by what this write took
pub loop-rest-preserved : goal.loop-rest-preserved
loop-rest-preserved g c =
    let was = c.loop-rest.invariant.written in
    let more = grows (g.K.Sink.written c.args.out.now) was.0 c.args.line.now c.loop-rest.rest.now c.in_ok-count.count was.1 was.2 c.in_ok-count.ensures.added in
    record {
      written = (more.0, more.1, more.2 ∙ ap (λ (x : List ℕ). more.0 ++ x) (sym c.split_at.ensures.back));
      same = c.in_ok-count.ensures.cause.only ∙ c.loop-rest.invariant.same;
    }
