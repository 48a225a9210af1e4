-- What is read as the head of a trigger, and as the text of a whole trigger.
use Rattle.std.specs.Prelude.{List, Option}
use Rattle.sql_token.specs.declared.token.Token.{Token}
use Rattle.sql_expr.specs.declared.lists.After.{After}
use Rattle.sql_expr.specs.declared.lists.Commas.{Commas}
use Rattle.sql_tree.specs.declared.trigger.CreateTrigger.{CreateTrigger}
use Rattle.sql_tree.specs.declared.trigger.EndedStatement.{EndedStatement}
use Rattle.sql_tree.specs.declared.trigger.ForEachRow.{ForEachRow}
use Rattle.sql_tree.specs.declared.trigger.TriggerEvent.{TriggerEvent}
use Rattle.sql_tree.specs.declared.trigger.TriggerHead.{TriggerHead}
use Rattle.sql_tree.specs.declared.trigger.TriggerTime.{TriggerTime}
use Rattle.sql_reader.specs.Looks.{name, sign, word}
use Rattle.sql_reader.specs.Reading.{Read, Reading, begun, choice, formed, leaf, leaf_before, many, opt, sealed, seq}
use Rattle.sql_reader.specs.declared.sort.Mark.TheVariants.{Semicolon}
use Rattle.sql_reader.specs.declared.sort.Sort.{Sort}
use Rattle.query_reading.specs.Exprs.{Inner}
use Rattle.query_reading.specs.Lists.{after, pair}
use Rattle.query_reading.specs.Names.{name_list, object}
use Rattle.query_reading.specs.Windows.{opt_after}
use Rattle.table_reading.specs.Tables.{opt_if_not_exists}
use Rattle.trigger_reading.specs.Statements.{statement}
use Rattle.sql_token.specs.declared.keyword.Keyword.TheVariants as K
use Rattle.sql_tree.specs.declared.trigger.TriggerEvent.TheVariants as TriggerEvent'
use Rattle.sql_tree.specs.declared.trigger.TriggerTime.TheVariants as TriggerTime'

-- BEFORE | AFTER | INSTEAD OF
abbrev time_form : (sort : Token → Sort) → Reading sort TriggerTime
time_form sort =
    choice (formed (λ t. TriggerTime'.Before t) (leaf (word K.Before)))
    (choice (formed (λ t. TriggerTime'.After t) (leaf (word K.After)))
    (formed (λ v. TriggerTime'.InsteadOf v) (pair (word K.Instead) (word K.Of))))

unfoldable pub read_time : (Token → Sort) → Read TriggerTime
read_time sort = (time_form sort).read

abbrev pub time : (sort : Token → Sort) → Reading sort TriggerTime
time sort = sealed (time_form sort) (read_time sort)

-- [BEFORE|AFTER|INSTEAD OF]
abbrev opt_time_form : (sort : Token → Sort) → Reading sort (Option TriggerTime)
opt_time_form sort = opt (time sort)

unfoldable pub read_opt_time : (Token → Sort) → Read (Option TriggerTime)
read_opt_time sort = (opt_time_form sort).read

abbrev pub opt_time : (sort : Token → Sort) → Reading sort (Option TriggerTime)
opt_time sort = sealed (opt_time_form sort) (read_opt_time sort)

-- [OF names]
abbrev opt_of_names_form : (sort : Token → Sort) → Reading sort (Option (After (Commas Token)))
opt_of_names_form sort = opt (after K.Of (name_list sort))

unfoldable pub read_opt_of_names : (Token → Sort) → Read (Option (After (Commas Token)))
read_opt_of_names sort = (opt_of_names_form sort).read

abbrev pub opt_of_names : (sort : Token → Sort) → Reading sort (Option (After (Commas Token)))
opt_of_names sort = sealed (opt_of_names_form sort) (read_opt_of_names sort)

-- DELETE | INSERT | UPDATE [OF names]
abbrev event_form : (sort : Token → Sort) → Reading sort TriggerEvent
event_form sort =
    choice (formed (λ t. TriggerEvent'.Delete t) (leaf (word K.Delete)))
    (choice (formed (λ t. TriggerEvent'.Insert t) (leaf (word K.Insert)))
    (formed (λ v. TriggerEvent'.Update v.0 v.1) (begun (word K.Update) (opt_of_names sort))))

unfoldable pub read_event : (Token → Sort) → Read TriggerEvent
read_event sort = (event_form sort).read

abbrev pub event : (sort : Token → Sort) → Reading sort TriggerEvent
event sort = sealed (event_form sort) (read_event sort)

-- FOR EACH ROW
abbrev for_each_row_form : (sort : Token → Sort) → Reading sort ForEachRow
for_each_row_form sort =
    formed (λ v. record { for_word = v.0; each = v.1.0; row = v.1.1 })
    (begun (word K.For) (begun (word K.Each) (leaf (word K.Row))))

unfoldable pub read_for_each_row : (Token → Sort) → Read ForEachRow
read_for_each_row sort = (for_each_row_form sort).read

abbrev pub for_each_row : (sort : Token → Sort) → Reading sort ForEachRow
for_each_row sort = sealed (for_each_row_form sort) (read_for_each_row sort)

-- [FOR EACH ROW]
abbrev opt_for_each_row_form : (sort : Token → Sort) → Reading sort (Option ForEachRow)
opt_for_each_row_form sort = opt (for_each_row sort)

unfoldable pub read_opt_for_each_row : (Token → Sort) → Read (Option ForEachRow)
read_opt_for_each_row sort = (opt_for_each_row_form sort).read

abbrev pub opt_for_each_row : (sort : Token → Sort) → Reading sort (Option ForEachRow)
opt_for_each_row sort = sealed (opt_for_each_row_form sort) (read_opt_for_each_row sort)

-- [BEFORE|AFTER|INSTEAD OF] event ON object [FOR EACH ROW] [WHEN expr]
abbrev head_form : (sort : Token → Sort) → Inner → Reading sort TriggerHead
head_form sort inner =
    formed
    (λ v. record { time = v.0.0.0.0.0; event = v.0.0.0.0.1; on = v.0.0.0.1; object = v.0.0.1; for_each_row = v.0.1; condition = v.1 })
    (seq
    (seq (seq (seq (seq (opt_time sort) (event sort)) (leaf (word K.On))) (object sort)) (opt_for_each_row sort))
    (opt_after sort inner K.When))

unfoldable pub read_head : (Token → Sort) → Inner → Read TriggerHead
read_head sort inner = (head_form sort inner).read

abbrev pub head : (sort : Token → Sort) → Inner → Reading sort TriggerHead
head sort inner = sealed (head_form sort inner) (read_head sort inner)

-- statement ";"
abbrev ended_statement_form : (sort : Token → Sort) → Inner → Reading sort EndedStatement
ended_statement_form sort inner =
    formed (λ v. record { statement = v.0; semicolon = v.1 }) (seq (statement sort inner) (leaf (sign Semicolon)))

unfoldable pub read_ended_statement : (Token → Sort) → Inner → Read EndedStatement
read_ended_statement sort inner = (ended_statement_form sort inner).read

abbrev pub ended_statement : (sort : Token → Sort) → Inner → Reading sort EndedStatement
ended_statement sort inner = sealed (ended_statement_form sort inner) (read_ended_statement sort inner)

-- {statement ";"}
abbrev more_statements_form : (sort : Token → Sort) → Inner → Reading sort (List EndedStatement)
more_statements_form sort inner = many (ended_statement sort inner)

unfoldable pub read_more_statements : (Token → Sort) → Inner → Read (List EndedStatement)
read_more_statements sort inner = (more_statements_form sort inner).read

abbrev pub more_statements : (sort : Token → Sort) → Inner → Reading sort (List EndedStatement)
more_statements sort inner = sealed (more_statements_form sort inner) (read_more_statements sort inner)

-- CREATE TRIGGER [IF NOT EXISTS] name head BEGIN statement ";" {statement ";"} END
abbrev create_trigger_form : (sort : Token → Sort) → Inner → Reading sort CreateTrigger
create_trigger_form sort inner =
    formed
    (λ v. record {
      create = v.0.0.0.0.0.0.0.0;
      trigger = v.0.0.0.0.0.0.0.1;
      if_not_exists = v.0.0.0.0.0.0.1;
      name = v.0.0.0.0.0.1;
      head = v.0.0.0.0.1;
      begin = v.0.0.0.1;
      first = v.0.0.1;
      more = v.0.1;
      end = v.1;
    })
    (seq
    (seq
    (seq
    (seq
    (seq
    (seq
    (seq (begun (word K.Create) (leaf (word K.Trigger))) (opt_if_not_exists sort))
    (leaf_before name (word K.Not)))
    (head sort inner))
    (leaf (word K.Begin)))
    (ended_statement sort inner))
    (more_statements sort inner))
    (leaf (word K.End)))

unfoldable pub read_create_trigger : (Token → Sort) → Inner → Read CreateTrigger
read_create_trigger sort inner = (create_trigger_form sort inner).read

abbrev pub create_trigger : (sort : Token → Sort) → Inner → Reading sort CreateTrigger
create_trigger sort inner = sealed (create_trigger_form sort inner) (read_create_trigger sort inner)
