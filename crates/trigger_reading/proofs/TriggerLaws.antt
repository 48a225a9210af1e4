-- The laws of what is read as the head of a trigger, and as the text of a whole trigger.
use Rattle.std.proofs.Common.{IfSome, List, Option, inl, inr, refl, ℕ}
use Rattle.std.specs.List.{AllByRecursion}
use Rattle.sql_token.specs.Spelled.{flat, maybe, one}
use Rattle.sql_token.specs.declared.token.Token.{Token}
use Rattle.sql_expr.specs.Rules.{AreCommas, IsAfter}
use Rattle.sql_token.specs.Fixed.{IsName}
use Rattle.sql_expr.specs.Tokens.{after_tokens, commas_tokens}
use Rattle.sql_expr.specs.declared.lists.After.{After}
use Rattle.sql_expr.specs.declared.lists.Commas.{Commas}
use Rattle.sql_reader.proofs.Choices.{choice_reads, many_reads, opt_reads}
use Rattle.sql_reader.proofs.Forms.{begun_reads, formed_reads, leaf_before_reads, ruled, variant_reads}
use Rattle.sql_reader.proofs.Laws.{Reads, leaf_reads, seq_reads}
use Rattle.sql_reader.proofs.Leaves.{name_fits, sign_fits, word_fits}
use Rattle.sql_reader.specs.Looks.{word}
use Rattle.sql_reader.specs.Sorts.{sort_of}
use Rattle.sql_reader.specs.declared.sort.Mark.TheVariants.{Semicolon}
use Rattle.sql_tree.specs.Rules.{IsCreateTrigger, IsEndedStatement, IsForEachRow, IsTriggerEvent, IsTriggerHead, IsTriggerTime}
use Rattle.sql_tree.specs.Tokens.{create_trigger_tokens, ended_statement_tokens, for_each_row_tokens, trigger_event_tokens, trigger_head_tokens, trigger_time_tokens}
use Rattle.sql_tree.specs.declared.trigger.CreateTrigger.{CreateTrigger}
use Rattle.sql_tree.specs.declared.trigger.EndedStatement.{EndedStatement}
use Rattle.sql_tree.specs.declared.trigger.ForEachRow.{ForEachRow}
use Rattle.sql_tree.specs.declared.trigger.TriggerEvent.{TriggerEvent}
use Rattle.sql_tree.specs.declared.trigger.TriggerHead.{TriggerHead}
use Rattle.sql_tree.specs.declared.trigger.TriggerTime.{TriggerTime}
use Rattle.query_reading.proofs.ListLaws.{after_reads, pair_reads}
use Rattle.query_reading.proofs.NameLaws.{name_list_reads, object_reads}
use Rattle.query_reading.proofs.WindowLaws.{opt_after_reads}
use Rattle.query_reading.specs.Exprs.{Inner}
use Rattle.table_reading.proofs.TableLaws.{opt_if_not_exists_reads}
use Rattle.trigger_reading.proofs.InsertLaws.{statement_reads}
use Rattle.trigger_reading.proofs.StatementLaws.{Given}
use Rattle.trigger_reading.specs.Triggers.{create_trigger, ended_statement, event, for_each_row, head, more_statements, opt_for_each_row, opt_of_names, opt_time, read_create_trigger, read_ended_statement, read_event, read_for_each_row, read_head, read_more_statements, read_opt_for_each_row, read_opt_of_names, read_opt_time, read_time, time}
use Rattle.sql_token.specs.declared.keyword.Keyword.TheVariants as K
use Rattle.sql_tree.specs.declared.trigger.TriggerEvent.TheVariants as TriggerEvent'
use Rattle.sql_tree.specs.declared.trigger.TriggerTime.TheVariants as TriggerTime'

module _ (text : List ℕ) {b : ℕ} where
  -- BEFORE | AFTER | INSTEAD OF
  pub time_reads : Reads (sort_of text) TriggerTime (IsTriggerTime text) (IsTriggerTime text) trigger_time_tokens b
      (time (sort_of text)) (read_time (sort_of text))
  unfolding read_time
  time_reads =
      ruled
      (choice_reads (variant_reads (leaf_reads (word_fits text K.Before)) (λ t. refl) (λ t h. h))
      (choice_reads (variant_reads (leaf_reads (word_fits text K.After)) (λ t. refl) (λ t h. h))
      (variant_reads (pair_reads (word_fits text K.Instead) (word_fits text K.Of)) (λ v. refl) (λ v h. h))
      refl refl refl) refl refl refl)
      (λ x h. h)
      (elim [
        | TriggerTime'.Before t ↦ λ h. inl (t, refl, h)
        | TriggerTime'.After t ↦ λ h. inr (inl (t, refl, h))
        | TriggerTime'.InsteadOf v ↦ λ h. inr (inr (v, refl, h))
      ])

  -- [BEFORE|AFTER|INSTEAD OF]
  pub opt_time_reads : Reads (sort_of text) (Option TriggerTime) (λ x. IfSome x (IsTriggerTime text)) (λ x. IfSome x (IsTriggerTime text)) (maybe trigger_time_tokens) b
      (opt_time (sort_of text)) (read_opt_time (sort_of text))
  unfolding read_opt_time
  opt_time_reads = opt_reads time_reads refl

  -- [OF names]
  pub opt_of_names_reads : Reads (sort_of text) (Option (After (Commas Token))) (λ x. IfSome x (IsAfter text K.Of (AreCommas text (IsName text)))) (λ x. IfSome x (IsAfter text K.Of (AreCommas text (IsName text)))) (maybe (after_tokens (commas_tokens one))) b
      (opt_of_names (sort_of text)) (read_opt_of_names (sort_of text))
  unfolding read_opt_of_names
  opt_of_names_reads = opt_reads (after_reads K.Of (name_list_reads text)) refl

  -- DELETE | INSERT | UPDATE [OF names]
  pub event_reads : Reads (sort_of text) TriggerEvent (IsTriggerEvent text) (IsTriggerEvent text) trigger_event_tokens b
      (event (sort_of text)) (read_event (sort_of text))
  unfolding read_event
  event_reads =
      ruled
      (choice_reads (variant_reads (leaf_reads (word_fits text K.Delete)) (λ t. refl) (λ t h. h))
      (choice_reads (variant_reads (leaf_reads (word_fits text K.Insert)) (λ t. refl) (λ t h. h))
      (variant_reads (begun_reads (word_fits text K.Update) opt_of_names_reads) (λ v. refl) (λ v h. h))
      refl refl refl) refl refl refl)
      (λ x h. h)
      (elim [
        | TriggerEvent'.Delete t ↦ λ h. inl (t, refl, h)
        | TriggerEvent'.Insert t ↦ λ h. inr (inl (t, refl, h))
        | TriggerEvent'.Update update columns ↦ λ h. inr (inr ((update, columns), refl, h))
      ])

  -- FOR EACH ROW
  pub for_each_row_reads : Reads (sort_of text) ForEachRow (IsForEachRow text) (IsForEachRow text) for_each_row_tokens b
      (for_each_row (sort_of text)) (read_for_each_row (sort_of text))
  unfolding read_for_each_row
  for_each_row_reads =
      formed_reads (begun_reads (word_fits text K.For) (begun_reads (word_fits text K.Each) (leaf_reads (word_fits text K.Row))))
      (record {
        spelled = λ v. refl;
        meets = λ v h. (h.0, h.1.0, h.1.1);
        covers = λ x h. ((x.for_word, (x.each, x.row)), refl, (h.0, (h.1, h.2)));
      })

  -- [FOR EACH ROW]
  pub opt_for_each_row_reads : Reads (sort_of text) (Option ForEachRow) (λ x. IfSome x (IsForEachRow text)) (λ x. IfSome x (IsForEachRow text)) (maybe for_each_row_tokens) b
      (opt_for_each_row (sort_of text)) (read_opt_for_each_row (sort_of text))
  unfolding read_opt_for_each_row
  opt_for_each_row_reads = opt_reads for_each_row_reads refl

module _ {text : List ℕ} {b m : ℕ} {inner twin : Inner} where
  -- [BEFORE|AFTER|INSTEAD OF] event ON object [FOR EACH ROW] [WHEN expr]
  pub head_reads : Given text b m inner twin → Reads (sort_of text) TriggerHead (IsTriggerHead text m) (IsTriggerHead text m) trigger_head_tokens b
      (head (sort_of text) inner) (read_head (sort_of text) twin)
  unfolding read_head
  head_reads given =
      let nested = given.nested in
      formed_reads
      (seq_reads
      (seq_reads
      (seq_reads
      (seq_reads (seq_reads (opt_time_reads text) (event_reads text) refl) (leaf_reads (word_fits text K.On)) refl)
      (object_reads text) refl)
      (opt_for_each_row_reads text) refl)
      (opt_after_reads nested K.When) refl)
      (record {
        spelled = λ v. refl;
        meets = λ v h. (h.0.0.0.0.0, h.0.0.0.0.1, h.0.0.0.1, h.0.0.1, h.0.1, h.1);
        covers = λ x h. (
          (((((x.time, x.event), x.on), x.object), x.for_each_row), x.condition),
          refl,
          (((((h.0, h.1), h.2), h.3), h.4), h.5),
        );
      })

  -- statement ";"
  pub ended_statement_reads : Given text b m inner twin → Reads (sort_of text) EndedStatement (IsEndedStatement text m) (IsEndedStatement text m) ended_statement_tokens b
      (ended_statement (sort_of text) inner) (read_ended_statement (sort_of text) twin)
  unfolding read_ended_statement
  ended_statement_reads given =
      formed_reads (seq_reads (statement_reads given) (leaf_reads (sign_fits text Semicolon 59 refl refl)) refl)
      (record { spelled = λ v. refl; meets = λ v h. h; covers = λ x h. ((x.statement, x.semicolon), refl, h) })

  -- {statement ";"}
  pub more_statements_reads : Given text b m inner twin → Reads (sort_of text) (List EndedStatement) (AllByRecursion (IsEndedStatement text m)) (AllByRecursion (IsEndedStatement text m)) (flat ended_statement_tokens) b
      (more_statements (sort_of text) inner) (read_more_statements (sort_of text) twin)
  unfolding read_more_statements
  more_statements_reads given = many_reads (ended_statement_reads given) refl refl

  -- CREATE TRIGGER [IF NOT EXISTS] name head BEGIN statement ";" {statement ";"} END
  pub create_trigger_reads : Given text b m inner twin → Reads (sort_of text) CreateTrigger (IsCreateTrigger text m) (IsCreateTrigger text m) create_trigger_tokens b
      (create_trigger (sort_of text) inner) (read_create_trigger (sort_of text) twin)
  unfolding read_create_trigger
  create_trigger_reads given =
      formed_reads
      (seq_reads
      (seq_reads
      (seq_reads
      (seq_reads
      (seq_reads
      (seq_reads
      (seq_reads (begun_reads (word_fits text K.Create) (leaf_reads (word_fits text K.Trigger))) (opt_if_not_exists_reads text) refl)
      (leaf_before_reads {other = word K.Not} (name_fits text)) refl)
      (head_reads given) refl)
      (leaf_reads (word_fits text K.Begin)) refl)
      (ended_statement_reads given) refl)
      (more_statements_reads given) refl)
      (leaf_reads (word_fits text K.End)) refl)
      (record {
        spelled = λ v. refl;
        meets = λ v h. (h.0.0.0.0.0.0.0.0, h.0.0.0.0.0.0.0.1, h.0.0.0.0.0.0.1, h.0.0.0.0.0.1, h.0.0.0.0.1, h.0.0.0.1, h.0.0.1, h.0.1, h.1);
        covers = λ x h. (
          ((((((((x.create, x.trigger), x.if_not_exists), x.name), x.head), x.begin), x.first), x.more), x.end),
          refl,
          ((((((((h.0, h.1), h.2), h.3), h.4), h.5), h.6), h.7), h.8),
        );
      })
