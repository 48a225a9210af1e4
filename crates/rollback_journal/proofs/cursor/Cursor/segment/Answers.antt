use Rattle.std.proofs.Common.{◌≡◌, ℕ, ◌+◌, true, false, List, length, take, drop, nat_le, sym, ap, ap₂, ◌∙◌, arith}
use Rattle.std.proofs.lemmas.Bool.{and_right, and_from, le-leb}
use Rattle.rollback_journal.specs.Header.{has_magic, number_at}
use Rattle.rollback_journal.specs.Records.{next_sector, records_in, is_segment, entries_from}
use Rattle.rollback_journal.proofs.Cursors.{segment_none, segment_some, no_segment, read_whole}
use Rattle.rollback_journal.proofs.cursor.Cursor.segment.Goals as goal

pub returns-then-self-head-clause-passes : goal.returns-then-self-head-clause-passes
returns-then-self-head-clause-passes g c = λ f told long.
    let s = c.args.self.now in
    segment_none f.journal s.header s.nonce s.left s.at s.sector.0 c.requires.none (no_segment f.journal (next_sector s.header.sector s.at) (omega arith))

pub returns-then-not-begins_with_magic-clause-passes : goal.returns-then-not-begins_with_magic-clause-passes
returns-then-not-begins_with_magic-clause-passes g c = λ f told long.
    let s = c.args.self.now in
    let bytes : List ℕ = c.read_journal.new.buf in
    let read : bytes ≡ take 28 (drop (next_sector s.header.sector s.at) f.journal) =
    read_whole f.journal (next_sector s.header.sector s.at) _ _ bytes (c.in_ok-read_journal.ensures.read f told) (omega arith) in
    let without : has_magic bytes ≡ false = sym c.begins_with_magic.ensures ∙ c.if-not-begins_with_magic.true in
    segment_none f.journal s.header s.nonce s.left s.at s.sector.0 c.requires.none (ap is_segment (sym read) ∙ and_right (nat_le 28 (length bytes)) (has_magic bytes) without)

pub returns-clause-passes : goal.returns-clause-passes
returns-clause-passes g c = λ f told long.
    let s = c.args.self.now in
    let bytes : List ℕ = c.read_journal.new.buf in
    let at : ℕ = next_sector s.header.sector s.at + s.header.sector in
    let read : bytes ≡ take 28 (drop (next_sector s.header.sector s.at) f.journal) =
    read_whole f.journal (next_sector s.header.sector s.at) _ _ bytes (c.in_ok-read_journal.ensures.read f told) (omega arith) in
    let with : has_magic bytes ≡ true = sym c.begins_with_magic.ensures ∙ c.if-not-begins_with_magic.false in
    let whole : is_segment bytes ≡ true = and_from (nat_le 28 (length bytes)) (has_magic bytes) (le-leb 28 (length bytes) (omega arith)) with in
    let counted : c.records_in-self.result ≡ records_in (length f.journal) (number_at bytes 8) = c.records_in-self.ensures ∙ ap₂ records_in long c.u32_at.ensures in
    segment_some f.journal s.header s.nonce s.left s.at bytes s.sector.0 c.requires.none read whole
    ∙ ap₂ (λ (nonce left : ℕ). entries_from (length f.journal) f.journal s.header nonce left at) (sym c.u32_at-self.ensures) (sym counted)
