-- What is read as conflict clauses and as the foreign keys of REFERENCES.
use Rattle.std.specs.Prelude.{List, Option, [], ◌∷◌}
use Rattle.sql_token.specs.declared.token.Token.{Token}
use Rattle.sql_token.specs.declared.keyword.Keyword.{Keyword}
use Rattle.sql_expr.specs.declared.lists.TokenPair.{TokenPair}
use Rattle.sql_tree.specs.declared.conflict.Conflict.{Conflict}
use Rattle.sql_tree.specs.declared.conflict.Deferral.{Deferral}
use Rattle.sql_tree.specs.declared.conflict.ReferenceAction.{ReferenceAction}
use Rattle.sql_tree.specs.declared.conflict.ReferenceClause.{ReferenceClause}
use Rattle.sql_tree.specs.declared.conflict.References.{References}
use Rattle.sql_tree.specs.declared.conflict.Resolution.{Resolution}
use Rattle.sql_reader.specs.Looks.{Look, name, word, words}
use Rattle.sql_reader.specs.Reading.{Read, Reading, begun, choice, formed, lead, leaf, many, opt, sealed, seq}
use Rattle.sql_reader.specs.declared.sort.Sort.{Sort}
use Rattle.query_reading.specs.Lists.{maybe_not, pair}
use Rattle.query_reading.specs.Names.{opt_names}
use Rattle.query_reading.specs.Operators.{action}
use Rattle.sql_token.specs.declared.keyword.Keyword.TheVariants as K
use Rattle.sql_tree.specs.declared.conflict.ReferenceAction.TheVariants as ReferenceAction'
use Rattle.sql_tree.specs.declared.conflict.ReferenceClause.TheVariants as ReferenceClause'
use Rattle.sql_tree.specs.declared.conflict.Resolution.TheVariants as Resolution'

-- action | IGNORE | REPLACE
abbrev resolution_form : (sort : Token → Sort) → Reading sort Resolution
resolution_form sort =
    choice (formed (λ t. Resolution'.Ignore t) (leaf (word K.Ignore)))
    (choice (formed (λ t. Resolution'.Replace t) (leaf (word K.Replace))) (formed (λ v. Resolution'.Action v) (action sort)))

unfoldable pub read_resolution : (Token → Sort) → Read Resolution
read_resolution sort = (resolution_form sort).read

abbrev pub resolution : (sort : Token → Sort) → Reading sort Resolution
resolution sort = sealed (resolution_form sort) (read_resolution sort)

-- ON CONFLICT (action | IGNORE | REPLACE)
abbrev conflict_form : (sort : Token → Sort) → Reading sort Conflict
conflict_form sort =
    formed (λ v. record { on = v.0; conflict = v.1.0; resolution = v.1.1 })
    (lead (word K.On) (begun (word K.Conflict) (resolution sort)))

unfoldable pub read_conflict : (Token → Sort) → Read Conflict
read_conflict sort = (conflict_form sort).read

abbrev pub conflict : (sort : Token → Sort) → Reading sort Conflict
conflict sort = sealed (conflict_form sort) (read_conflict sort)

-- [ON CONFLICT (action | IGNORE | REPLACE)]
abbrev opt_conflict_form : (sort : Token → Sort) → Reading sort (Option Conflict)
opt_conflict_form sort = opt (conflict sort)

unfoldable pub read_opt_conflict : (Token → Sort) → Read (Option Conflict)
read_opt_conflict sort = (opt_conflict_form sort).read

abbrev pub opt_conflict : (sort : Token → Sort) → Reading sort (Option Conflict)
opt_conflict sort = sealed (opt_conflict_form sort) (read_opt_conflict sort)

-- SET NULL | SET DEFAULT | CASCADE | RESTRICT | NO ACTION
abbrev reference_action_form : (sort : Token → Sort) → Reading sort ReferenceAction
reference_action_form sort =
    choice (formed (λ v. ReferenceAction'.SetNull v) (pair (word K.Set) (word K.Null)))
    (choice (formed (λ v. ReferenceAction'.SetDefault v) (pair (word K.Set) (word K.Default)))
    (choice (formed (λ t. ReferenceAction'.Cascade t) (leaf (word K.Cascade)))
    (choice (formed (λ t. ReferenceAction'.Restrict t) (leaf (word K.Restrict)))
    (formed (λ v. ReferenceAction'.NoAction v) (pair (word K.No) (word K.Action))))))

unfoldable pub read_reference_action : (Token → Sort) → Read ReferenceAction
read_reference_action sort = (reference_action_form sort).read

abbrev pub reference_action : (sort : Token → Sort) → Reading sort ReferenceAction
reference_action sort = sealed (reference_action_form sort) (read_reference_action sort)

-- the words behind which an action of a reference stands
abbrev pub events : List Keyword
events = K.Delete ∷ K.Update ∷ []

-- how a clause of a reference begins
abbrev pub clause_starts : Look
clause_starts = (word K.On ∷ words events ∷ []) ∷ (word K.Match ∷ []) ∷ []

-- ON (DELETE|UPDATE) reference-action | MATCH name
abbrev reference_clause_form : (sort : Token → Sort) → Reading sort ReferenceClause
reference_clause_form sort =
    choice
    (formed (λ v. ReferenceClause'.On v.0 v.1.0 v.1.1) (lead (word K.On) (begun (words events) (reference_action sort))))
    (formed (λ v. ReferenceClause'.Match v.0 v.1) (begun (word K.Match) (leaf name)))

unfoldable pub read_reference_clause : (Token → Sort) → Read ReferenceClause
read_reference_clause sort = (reference_clause_form sort).read

abbrev pub reference_clause : (sort : Token → Sort) → Reading sort ReferenceClause
reference_clause sort = sealed (reference_clause_form sort) (read_reference_clause sort)

-- {ON (DELETE|UPDATE) reference-action | MATCH name}
abbrev reference_clauses_form : (sort : Token → Sort) → Reading sort (List ReferenceClause)
reference_clauses_form sort = many (reference_clause sort)

unfoldable pub read_reference_clauses : (Token → Sort) → Read (List ReferenceClause)
read_reference_clauses sort = (reference_clauses_form sort).read

abbrev pub reference_clauses : (sort : Token → Sort) → Reading sort (List ReferenceClause)
reference_clauses sort = sealed (reference_clauses_form sort) (read_reference_clauses sort)

-- [INITIALLY (DEFERRED|IMMEDIATE)]
abbrev initially_form : (sort : Token → Sort) → Reading sort (Option TokenPair)
initially_form sort = opt (pair (word K.Initially) (words (K.Deferred ∷ K.Immediate ∷ [])))

unfoldable pub read_initially : (Token → Sort) → Read (Option TokenPair)
read_initially sort = (initially_form sort).read

abbrev pub initially : (sort : Token → Sort) → Reading sort (Option TokenPair)
initially sort = sealed (initially_form sort) (read_initially sort)

-- [NOT] DEFERRABLE [INITIALLY (DEFERRED|IMMEDIATE)]
abbrev deferral_form : (sort : Token → Sort) → Reading sort Deferral
deferral_form sort =
    formed (λ v. record { not = v.0.0; deferrable = v.0.1; initially = v.1 })
    (seq (maybe_not sort (word K.Deferrable)) (initially sort))

unfoldable pub read_deferral : (Token → Sort) → Read Deferral
read_deferral sort = (deferral_form sort).read

abbrev pub deferral : (sort : Token → Sort) → Reading sort Deferral
deferral sort = sealed (deferral_form sort) (read_deferral sort)

-- [[NOT] DEFERRABLE [INITIALLY (DEFERRED|IMMEDIATE)]]
abbrev opt_deferral_form : (sort : Token → Sort) → Reading sort (Option Deferral)
opt_deferral_form sort = opt (deferral sort)

unfoldable pub read_opt_deferral : (Token → Sort) → Read (Option Deferral)
read_opt_deferral sort = (opt_deferral_form sort).read

abbrev pub opt_deferral : (sort : Token → Sort) → Reading sort (Option Deferral)
opt_deferral sort = sealed (opt_deferral_form sort) (read_opt_deferral sort)

-- REFERENCES name ["(" names ")"] {reference-clause} [deferral]
abbrev references_form : (sort : Token → Sort) → Reading sort References
references_form sort =
    formed (λ v. record { references = v.0.0.0.0; table = v.0.0.0.1; columns = v.0.0.1; clauses = v.0.1; deferral = v.1 })
    (seq (seq (seq (begun (word K.References) (leaf name)) (opt_names sort)) (reference_clauses sort)) (opt_deferral sort))

unfoldable pub read_references : (Token → Sort) → Read References
read_references sort = (references_form sort).read

abbrev pub references : (sort : Token → Sort) → Reading sort References
references sort = sealed (references_form sort) (read_references sort)
