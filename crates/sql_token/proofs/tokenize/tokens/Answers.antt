use Rattle.std.proofs.Common.{◌≡◌, length, is_ok, arith, sym, ap, subst}
use Rattle.std.proofs.ResultArms.{chosen}
use Rattle.sql_token.specs.Token.{AreTokensIn}
use Rattle.sql_token.proofs.Fillers.{IsFree}
use Rattle.sql_token.proofs.TokenLists.{IsStop, AllGoOn, AreTokensIn_push, stop_at_end, stop_at_bad, go_on_first, go_on_push, go_on_end}
use Rattle.sql_token.proofs.tokenize.tokens.Goals as goal
use Rattle.sql_token.proofs.tokenize.tokens.Goals.{After-drop-list, After-loop-at}

pub loop-at-init : goal.loop-at-init
loop-at-init c =
    let filled = c.filler_end-at.ensures in
    let free : IsFree c.args.text.now c.filler_end-at.result = record { no_blank = filled.no_blank; no_comment = filled.no_comment } in
    record {
      within = filled.within.1;
      free = free;
      read = subst (AreTokensIn c.args.text.now 0 c.filler_end-at.result) (sym c.new-list.ensures.items) filled.filler;
      only = subst (λ l. AllGoOn c.args.text.now l c.filler_end-at.result) (sym c.new-list.ensures.items) (go_on_first c.args.text.now c.filler_end-at.result filled.filler free);
    }

-- no token begins at the place of a bad byte
stop_here : (c : After-drop-list) → IsStop c.args.text.now c.loop-at.at
stop_here c = record { free = c.loop-at.invariant.free; no_token = c.in_default.ensures.none }

pub returns-in_default-clause-only : goal.returns-in_default-clause-only
returns-in_default-clause-only c = λ list tokens.
    let ended = go_on_end c.args.text.now c.loop-at.list.items c.loop-at.at (length c.args.text.now) list (stop_here c) (stop_at_end c.args.text.now) tokens c.loop-at.invariant.only in
    omega (arith, ended.1)

pub returns-in_default-clause-first : goal.returns-in_default-clause-first
returns-in_default-clause-first c = λ at bad.
    (go_on_end c.args.text.now c.loop-at.list.items c.loop-at.at at bad.before (stop_here c) (stop_at_bad c.args.text.now at bad) bad.tokens c.loop-at.invariant.only).1

pub loop-at-preserved : goal.loop-at-preserved
loop-at-preserved c =
    let text = c.args.text.now in
    let filled = c.filler_end-at-in-loop-at.ensures in
    let next = c.filler_end-at-in-loop-at.result in
    let free : IsFree text next = record { no_blank = filled.no_blank; no_comment = filled.no_comment } in
    let found = c.in-Some.ensures.found in
    let pushed = chosen _ _ _ _ c.push.ensures.items (ap is_ok c.in_ok-push.was) in
    record {
      within = filled.within.1;
      free = free;
      read = subst (AreTokensIn text 0 next) (sym pushed) (AreTokensIn_push text c.loop-at.list.items 0 c.loop-at.at next c.in-Some.token c.loop-at.invariant.read found.0 found.1 filled.filler);
      only = subst (λ l. AllGoOn text l next) (sym pushed) (go_on_push text c.loop-at.list.items c.loop-at.at next c.in-Some.token c.loop-at.invariant.free found.0 found.1 filled.filler free c.loop-at.invariant.only);
    }

-- the place is the text's end
stop_at : (c : After-loop-at) → IsStop c.args.text.now c.loop-at.at
stop_at c = let ends : length c.args.text.now ≡ c.loop-at.at = omega arith in subst (IsStop c.args.text.now) ends (stop_at_end c.args.text.now)

pub returns-clause-only : goal.returns-clause-only
returns-clause-only c = λ list tokens.
    (go_on_end c.args.text.now c.loop-at.list.items c.loop-at.at (length c.args.text.now) list (stop_at c) (stop_at_end c.args.text.now) tokens c.loop-at.invariant.only).0

pub returns-clause-first : goal.returns-clause-first
returns-clause-first c = λ at bad.
    let ended = go_on_end c.args.text.now c.loop-at.list.items c.loop-at.at at bad.before (stop_at c) (stop_at_bad c.args.text.now at bad) bad.tokens c.loop-at.invariant.only in
    omega (arith, ended.1, bad.within)
