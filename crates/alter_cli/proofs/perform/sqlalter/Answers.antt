use Rattle.std.proofs.Common.{inl, inr, map, string_bytes, refl, arith}
use Rattle.alter_disk.specs.Faults.{Rose}
use Rattle.alter_disk.specs.Outside.{Span, rises, span}
use Rattle.alter_cli.specs.declared.stop.Stop.TheVariants.{Unread, Unreadable, Unwritten, Unprinted}
use Rattle.alter_cli.specs.Counted.{rises_alone}
use Rattle.alter_cli.specs.Ending.{EndsByFile, EndsByRun, EndsByScript, EndsComplete, EndsMisused, EndsPerformed, EndsStopped, EndsUnwritten}
use Rattle.alter_cli.specs.First.{first_rules}
use Rattle.alter_cli.specs.Left.{left_on}
use Rattle.alter_cli.specs.Outcome.{file_of}
use Rattle.alter_cli.proofs.CauseLemmas.{completes_told}
use Rattle.alter_cli.proofs.EndLemmas.{caused_alone, end_cause, end_faultless, end_file, end_performed, end_printed, end_run, end_script, end_script_stop, end_used}
use Rattle.alter_cli.proofs.FinishLemmas.{if_none, if_some, misused_told, rose_before, rose_later}
use Rattle.alter_cli.proofs.Printed.{printed_misused}
use Rattle.alter_cli.proofs.perform.sqlalter.Given.{Over}
use Rattle.alter_cli.proofs.perform.sqlalter.Goals as goal

pub returns-in_default-clause-misused : goal.returns-in_default-clause-misused
returns-in_default-clause-misused g c =
    let between = (span g.S.Source g.D.Disk g.K.Sink (c.args.script.now, c.args.disk, c.args.out.now) (c.args.script.now, c.args.disk, c.stopped-status.new.out)) in
    let given = g.K.Sink.written c.args.out.now in
    let now = g.K.Sink.written c.stopped-status.new.out in
    if_none (file_of (map string_bytes c.args.words.now)) (EndsMisused between c.stopped-status.result)
    (record { line = misused_told (rises between) c.stopped-status.result given now c.stopped-status.ensures.told; ended = c.stopped-status.ensures.status })

pub returns-in_default-clause-printed : goal.returns-in_default-clause-printed
returns-in_default-clause-printed g c =
    printed_misused (rises_alone (span g.S.Source g.D.Disk g.K.Sink (c.args.script.now, c.args.disk, c.args.out.now) (c.args.script.now, c.args.disk, c.stopped-status.new.out))) (g.K.Sink.written c.args.out.now) (g.K.Sink.written c.stopped-status.new.out) c.stopped-status.result
    c.stopped-status.ensures.told

-- the whole call
abbrev whole : (g : Over) → goal.After-finish-status g → Span
whole g c =
    span g.S.Source g.D.Disk g.K.Sink (c.args.script.now, c.args.disk, c.args.out.now)
    (c.perform-ran.new.script, c.perform-ran.result.disk, c.finish-status.new.out)

-- the sink failed in the run
abbrev Ran_sunk : (g : Over) → goal.After-finish-status g → Type 0
Ran_sunk g c = Rose (g.K.Sink.faults c.args.out.now) (g.K.Sink.faults c.perform-ran.new.out)

-- the sink failed at the end
abbrev End_sunk : (g : Over) → goal.After-finish-status g → Type 0
End_sunk g c = Rose (g.K.Sink.faults c.perform-ran.new.out) (g.K.Sink.faults c.finish-status.new.out)

-- either is a failure in the call
first : (g : Over) (c : goal.After-finish-status g) → Ran_sunk g c → (rises (whole g c)).sink
first g c rose =
    rose_later (g.K.Sink.faults c.args.out.now) (g.K.Sink.faults c.perform-ran.new.out) (g.K.Sink.faults c.finish-status.new.out) rose
    c.finish-status.ensures.counts.later

later : (g : Over) (c : goal.After-finish-status g) → End_sunk g c → (rises (whole g c)).sink
later g c rose =
    rose_before (g.K.Sink.faults c.args.out.now) (g.K.Sink.faults c.perform-ran.new.out) (g.K.Sink.faults c.finish-status.new.out)
    c.perform-ran.ensures.kept.counts.sink rose

-- the verdicts, the files and what was printed
performed : (g : Over) (c : goal.After-finish-status g) → EndsPerformed first_rules g.D.Disk c.args.disk c.perform-ran.result.disk (whole g c) c.finish-status.result
performed g c =
    end_performed first_rules (rises (whole g c)) (Ran_sunk g c) (End_sunk g c) (g.D.Disk.called c.perform-ran.result.disk) c.perform-ran.result.result
    c.finish-status.result (g.S.Source.left c.args.script.now) (g.S.Source.left c.perform-ran.new.script) (g.D.Disk.files c.args.disk)
    (g.D.Disk.may_leave c.args.disk) (left_on g.D.Disk c.perform-ran.result.disk) (g.K.Sink.written c.args.out.now) (g.K.Sink.written c.perform-ran.new.out) (g.K.Sink.written c.finish-status.new.out)
    (first g c) (later g c) c.perform-ran.ensures.told c.finish-status.ensures.ended

pub returns-clause-performed : goal.returns-clause-performed
returns-clause-performed g c =
    if_some (file_of (map string_bytes c.args.words.now)) (EndsPerformed first_rules g.D.Disk c.args.disk c.perform-ran.result.disk (whole g c) c.finish-status.result)
    (performed g c)

pub returns-clause-complete : goal.returns-clause-complete
returns-clause-complete g c =
    if_some (file_of (map string_bytes c.args.words.now)) (EndsComplete first_rules g.D.Disk c.args.disk c.perform-ran.result.disk (whole g c) c.finish-status.result)
    (completes_told first_rules (rises (whole g c)) (g.D.Disk.called c.perform-ran.result.disk) c.finish-status.result (g.S.Source.left c.args.script.now)
    (g.S.Source.left c.perform-ran.new.script) (g.D.Disk.files c.args.disk) (g.D.Disk.may_leave c.args.disk) (left_on g.D.Disk c.perform-ran.result.disk)
    (g.K.Sink.written c.args.out.now) (g.K.Sink.written c.finish-status.new.out) (performed g c))

pub returns-clause-stops : goal.returns-clause-stops
returns-clause-stops g c =
    if_some (file_of (map string_bytes c.args.words.now)) (EndsStopped first_rules g.D.Disk c.args.disk c.perform-ran.result.disk (whole g c)) c.perform-ran.ensures.stops

pub returns-clause-unwritten : goal.returns-clause-unwritten
returns-clause-unwritten g c =
    if_some (file_of (map string_bytes c.args.words.now)) (EndsUnwritten first_rules g.D.Disk c.args.disk c.perform-ran.result.disk) c.perform-ran.ensures.unwritten

pub returns-clause-script : goal.returns-clause-script
returns-clause-script g c =
    if_some (file_of (map string_bytes c.args.words.now)) (EndsByScript first_rules (whole g c) c.finish-status.result)
    (end_script first_rules (rises (whole g c)) (Ran_sunk g c) (End_sunk g c) c.perform-ran.result.result c.finish-status.result
    (g.S.Source.left c.args.script.now) (g.D.Disk.files c.args.disk) (g.K.Sink.written c.perform-ran.new.out) (g.K.Sink.written c.finish-status.new.out)
    (first g c) (later g c) c.perform-ran.ensures.cause c.perform-ran.ensures.able c.finish-status.ensures.ended)

pub returns-clause-file : goal.returns-clause-file
returns-clause-file g c =
    if_some (file_of (map string_bytes c.args.words.now)) (EndsByFile first_rules (whole g c) c.finish-status.result)
    (end_file first_rules (rises (whole g c)) (Ran_sunk g c) (End_sunk g c) c.perform-ran.result.result c.finish-status.result
    (g.S.Source.left c.args.script.now) (g.D.Disk.files c.args.disk) (g.K.Sink.written c.perform-ran.new.out) (g.K.Sink.written c.finish-status.new.out)
    (first g c) (later g c) c.perform-ran.ensures.cause c.perform-ran.ensures.able c.finish-status.ensures.ended)

pub returns-clause-run : goal.returns-clause-run
returns-clause-run g c =
    if_some (file_of (map string_bytes c.args.words.now)) (EndsByRun first_rules (whole g c) c.finish-status.result)
    (end_run first_rules (rises (whole g c)) (Ran_sunk g c) (End_sunk g c) c.perform-ran.result.result c.finish-status.result
    (g.S.Source.left c.args.script.now) (g.D.Disk.files c.args.disk) (g.K.Sink.written c.perform-ran.new.out) (g.K.Sink.written c.finish-status.new.out)
    (first g c) (later g c) c.perform-ran.ensures.cause c.perform-ran.ensures.able c.finish-status.ensures.ended)

pub returns-clause-usage : goal.returns-clause-usage
returns-clause-usage g c is =
    absurd (end_used first_rules (rises (whole g c)) (Ran_sunk g c) (End_sunk g c) c.perform-ran.result.result c.finish-status.result
    (g.S.Source.left c.args.script.now) (g.D.Disk.files c.args.disk) (g.K.Sink.written c.perform-ran.new.out) (g.K.Sink.written c.finish-status.new.out)
    c.perform-ran.ensures.cause c.finish-status.ensures.ended is)

pub returns-clause-cause : goal.returns-clause-cause
returns-clause-cause g c =
    let counts = c.perform-ran.ensures.counts in
    let end = c.finish-status.ensures in
    record {
      rose = end_cause first_rules (rises (whole g c)) (Ran_sunk g c) (End_sunk g c) c.perform-ran.result.result c.finish-status.result
          (g.S.Source.left c.args.script.now) (g.D.Disk.files c.args.disk) (g.K.Sink.written c.perform-ran.new.out) (g.K.Sink.written c.finish-status.new.out)
          (first g c) (later g c) c.perform-ran.ensures.cause end.ended;
      only = λ none.
          let by = end_faultless (End_sunk g c) c.perform-ran.result.result c.finish-status.result (g.K.Sink.written c.perform-ran.new.out)
          (g.K.Sink.written c.finish-status.new.out) end.ended none in
          record {
            source = counts.source.only (by Unread refl);
            reading = counts.reading.only (by Unreadable refl);
            writing = counts.writing.only (by Unwritten refl);
            sink = omega (arith, end.counts.only none, counts.printing.only (by Unprinted refl));
          };
    }

pub returns-clause-printed : goal.returns-clause-printed
returns-clause-printed g c =
    let ran = span g.S.Source g.D.Disk g.K.Sink (c.args.script.now, c.args.disk, c.args.out.now) (c.perform-ran.new.script, c.perform-ran.result.disk, c.perform-ran.new.out) in
    end_printed first_rules (rises_alone (whole g c)) (Ran_sunk g c) (End_sunk g c) c.perform-ran.result.result c.finish-status.result
    (g.S.Source.left c.args.script.now) (g.D.Disk.files c.args.disk) (g.K.Sink.written c.args.out.now) (g.K.Sink.written c.perform-ran.new.out)
    (g.K.Sink.written c.finish-status.new.out) (first g c) (later g c)
    (caused_alone first_rules ran (Ran_sunk g c) (g.S.Source.left c.args.script.now) (g.D.Disk.files c.args.disk) c.perform-ran.result.result
    c.perform-ran.ensures.counts c.perform-ran.ensures.cause) c.perform-ran.ensures.printed c.finish-status.ensures.ended

pub returns-clause-untouched : goal.returns-clause-untouched
returns-clause-untouched g c (inl is) =
    c.perform-ran.ensures.untouched (end_script_stop (End_sunk g c) c.perform-ran.result.result c.finish-status.result
    (g.K.Sink.written c.perform-ran.new.out) (g.K.Sink.written c.finish-status.new.out) c.finish-status.ensures.ended is)
returns-clause-untouched g c (inr is) =
    absurd (end_used first_rules (rises (whole g c)) (Ran_sunk g c) (End_sunk g c) c.perform-ran.result.result c.finish-status.result
    (g.S.Source.left c.args.script.now) (g.D.Disk.files c.args.disk) (g.K.Sink.written c.perform-ran.new.out) (g.K.Sink.written c.finish-status.new.out)
    c.perform-ran.ensures.cause c.finish-status.ensures.ended is)

pub returns-clause-kept : goal.returns-clause-kept
returns-clause-kept g c =
    let kept = c.perform-ran.ensures.kept in
    record {
      label = kept.label;
      telling = kept.telling;
      taken = kept.taken;
      counts = record {
        source = kept.counts.source;
        reading = kept.counts.reading;
        writing = kept.counts.writing;
        sink = omega (arith, kept.counts.sink, c.finish-status.ensures.counts.later);
      };
    }
