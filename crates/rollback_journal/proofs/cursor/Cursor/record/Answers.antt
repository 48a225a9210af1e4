use Rattle.std.proofs.Common.{◌≡◌, ℕ, ◌+◌, ◌-◌, List, length, take, drop, sym, ap, ◌∙◌, arith}
use Rattle.rollback_journal.specs.Records.{record_len, entries_from}
use Rattle.rollback_journal.proofs.Cursors.{record_none, record_some, record_step, step_passes, names_page, read_whole}
use Rattle.rollback_journal.proofs.cursor.Cursor.record.Goals as goal

pub returns-then-self-end-clause-passes : goal.returns-then-self-end-clause-passes
returns-then-self-end-clause-passes g c = λ f told long.
    let s = c.args.self.now in
    record_none f.journal s.header s.nonce s.left s.at s.sector.0 c.requires.some (omega arith)

pub returns-clause-passes : goal.returns-clause-passes
returns-clause-passes g c = λ f told long.
    let s = c.args.self.now in
    let bytes : List ℕ = c.read_journal.new.buf in
    let room : length c.args.buf.now ≡ record_len s.header = c.requires.room in
    let read : bytes ≡ take (record_len s.header) (drop s.at f.journal) =
    read_whole f.journal s.at _ c.args.buf.now bytes (c.in_ok-read_journal.ensures.read f told) (omega arith) ∙ ap (λ k. take k (drop s.at f.journal)) room in
    step_passes s.header bytes _ _ c.judge-verdict.result
    (record_some f.journal s.header s.nonce s.left s.at bytes c.judge-verdict.result s.sector.0 c.requires.some read c.judge-verdict.ensures
    ∙ ap (λ n. record_step s.header c.judge-verdict.result bytes (entries_from (length f.journal) f.journal s.header s.nonce (s.left - 1) (s.at + n))) (sym c.record_len.ensures))

pub returns-clause-page : goal.returns-clause-page
returns-clause-page g c = names_page c.args.self.now.header c.args.self.now.nonce c.read_journal.new.buf c.judge-verdict.result c.judge-verdict.ensures
