use Rattle.std.proofs.Common.{sym, arith}
use Rattle.std.proofs.lemmas.Result.{on_ok_weaker}
use Rattle.std.proofs.lemmas.List.{length-take-le}
use Rattle.std.proofs.lemmas.List.{length-drop}
use Rattle.std.specs.Prelude.{drop}
use Rattle.rollback_journal.specs.Records.{page_in}
use Rattle.rollback_journal.proofs.Playing.{written_piece, piece_stops}
use Rattle.rollback_journal.proofs.playback.write_page.Goals as goal

pub returns-clause-played : goal.returns-clause-played
returns-clause-played g c = on_ok_weaker c.write.result
    (λ wrote f later playing.
    written_piece g.D.Disk f c.args.header.now (record { page = c.args.number; bytes = page_in c.args.header.now c.args.bytes.now }) later _ _ _ (sym c.page_in.ensures) c.requires.page.0
    (length-take-le c.args.header.now.page (drop 4 c.args.bytes.now) (omega (arith, length-drop 4 c.args.bytes.now))) playing c.write.ensures.crash wrote)
    c.write.ensures.written

pub returns-clause-stops : goal.returns-clause-stops
returns-clause-stops g c = λ f later playable playing.
    piece_stops g.D.Disk f c.args.header.now (record { page = c.args.number; bytes = page_in c.args.header.now c.args.bytes.now }) later _ _ _ (sym c.page_in.ensures) c.requires.page.0
    (length-take-le c.args.header.now.page (drop 4 c.args.bytes.now) (omega (arith, length-drop 4 c.args.bytes.now))) playing playable c.write.ensures.time c.write.ensures.crash
