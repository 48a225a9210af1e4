-- The first cause is one, at one place, and a script has none.
use Rattle.std.proofs.Common.{◌≡◌, ◌≤◌, ℕ, List, Result, Ok, Err, Vec, Global, IfOk, IfErr, length, arith, refl, sym, subst, ◌∙◌}
use Rattle.common_laws.specs.Results.{Yields}
use Rattle.sql_token.specs.declared.token.Token.{Token}
use Rattle.sql_token.specs.Token.{AreTokens, FirstBad}
use Rattle.sql_tree.specs.Nesting.{FirstTooDeep}
use Rattle.sql_tree.specs.declared.command.Command.{Command}
use Rattle.script_parse.specs.declared.error.Cause.{Cause}
use Rattle.script_parse.specs.declared.error.Cause.TheVariants.{TooLong, BadToken, Depth, TooMany, Syntax}
use Rattle.script_parse.specs.declared.error.ScriptError.{ScriptError}
use Rattle.script_parse.specs.declared.error.ScriptError.TheVariants.{Memory, At}
use Rattle.script_parse.specs.Script.{AreCommands, Holds, IsFirstCause, IsListFault, IsReadable, IsScript, IsShallow, IsTooMany, IsUnspelled, NeverHolds, OnRefused, pieces_of}
use Rattle.script_parse.proofs.Cuts.{commands_not_too_many, commands_not_unspelled, one_too_many, one_unspelled}
use Rattle.script_parse.proofs.Tokens.{no_list, one_bad, one_depth, one_list}

-- ---- one place

one_place : (text : List ℕ) (at place : ℕ) (cause : Cause) → Holds text at cause → Holds text place cause → at ≡ place
one_place text at place TooLong holds other = holds.1 ∙ sym other.1
one_place text at place BadToken holds other = one_bad text at place holds other
one_place text at place Depth holds other =
    let same = one_list text holds.0 other.0 holds.1 other.1 in
    one_depth text other.0 at place (subst (λ list. FirstTooDeep text list at) same holds.2) other.2
one_place text at place TooMany holds other =
    let same = one_list text holds.0 other.0 holds.1 other.1 in
    one_too_many text (pieces_of text other.0) at place (subst (λ list. IsTooMany text (pieces_of text list) at) same holds.2) other.2
one_place text at place Syntax holds other =
    let same = one_list text holds.0 other.0 holds.1 other.1 in
    one_unspelled text (pieces_of text other.0) at place (subst (λ list. IsUnspelled text (pieces_of text list) at) same holds.2) other.2

-- ---- one cause

one_cause : (text : List ℕ) (at place : ℕ) (cause why : Cause) → IsFirstCause text at cause → IsFirstCause text place why → cause ≡ why
one_cause text at place TooLong TooLong is other = refl
one_cause text at place TooLong BadToken is other = absurd (other.first.0 at is.holds)
one_cause text at place TooLong Depth is other = absurd (other.first.0 at is.holds)
one_cause text at place TooLong TooMany is other = absurd (other.first.0 at is.holds)
one_cause text at place TooLong Syntax is other = absurd (other.first.0 at is.holds)
one_cause text at place BadToken TooLong is other = absurd (is.first.0 place other.holds)
one_cause text at place BadToken BadToken is other = refl
one_cause text at place BadToken Depth is other = absurd (other.first.1.0 at is.holds)
one_cause text at place BadToken TooMany is other = absurd (other.first.1.0 at is.holds)
one_cause text at place BadToken Syntax is other = absurd (other.first.1.0 at is.holds)
one_cause text at place Depth TooLong is other = absurd (is.first.0 place other.holds)
one_cause text at place Depth BadToken is other = absurd (is.first.1.0 place other.holds)
one_cause text at place Depth Depth is other = refl
one_cause text at place Depth TooMany is other = absurd (other.first.1.1.0 at is.holds)
one_cause text at place Depth Syntax is other = absurd (other.first.1.1.0 at is.holds)
one_cause text at place TooMany TooLong is other = absurd (is.first.0 place other.holds)
one_cause text at place TooMany BadToken is other = absurd (is.first.1.0 place other.holds)
one_cause text at place TooMany Depth is other = absurd (is.first.1.1.0 place other.holds)
one_cause text at place TooMany TooMany is other = refl
one_cause text at place TooMany Syntax is other = absurd (other.first.1.1.1.0 at is.holds)
one_cause text at place Syntax TooLong is other = absurd (is.first.0 place other.holds)
one_cause text at place Syntax BadToken is other = absurd (is.first.1.0 place other.holds)
one_cause text at place Syntax Depth is other = absurd (is.first.1.1.0 place other.holds)
one_cause text at place Syntax TooMany is other = absurd (is.first.1.1.1.0 place other.holds)
one_cause text at place Syntax Syntax is other = refl

pub one_first_cause : (text : List ℕ) (at place : ℕ) (cause why : Cause) → IsFirstCause text at cause → IsFirstCause text place why
    → (at ≡ place) × (cause ≡ why)
one_first_cause text at place cause why is other =
    let same = one_cause text at place cause why is other in
    (one_place text at place why (subst (Holds text at) same is.holds) other.holds, same)

-- ---- none

never_long : (text : List ℕ) → length text ≤ 1048576 → NeverHolds text TooLong
never_long text short at holds = omega (arith, short, holds.0)

never_bad : (text : List ℕ) (list : List Token) → AreTokens text list → NeverHolds text BadToken
never_bad text list tokens at bad = no_list text list at bad tokens

never_deep : (text : List ℕ) (list : List Token) → AreTokens text list → IsShallow text list → NeverHolds text Depth
never_deep text list tokens shallow at holds =
    shallow at (subst (λ l. FirstTooDeep text l at) (one_list text holds.0 list holds.1 tokens) holds.2)

never_too_many : (text : List ℕ) (list : List Token) → AreTokens text list → ((at : ℕ) → IsTooMany text (pieces_of text list) at → ⊥) → NeverHolds text TooMany
never_too_many text list tokens none at holds =
    none at (subst (λ l. IsTooMany text (pieces_of text l) at) (one_list text holds.0 list holds.1 tokens) holds.2)

never_unspelled : (text : List ℕ) (list : List Token) → AreTokens text list → ((at : ℕ) → IsUnspelled text (pieces_of text list) at → ⊥) → NeverHolds text Syntax
never_unspelled text list tokens none at holds =
    none at (subst (λ l. IsUnspelled text (pieces_of text l) at) (one_list text holds.0 list holds.1 tokens) holds.2)

-- a script has no cause
pub script_has_none : (text : List ℕ) (commands : List Command) (at : ℕ) (cause : Cause) → IsScript text commands → Holds text at cause → ⊥
script_has_none text commands at TooLong is holds = never_long text is.readable.short at holds
script_has_none text commands at BadToken is holds = never_bad text is.list is.readable.tokens at holds
script_has_none text commands at Depth is holds = never_deep text is.list is.readable.tokens is.readable.shallow at holds
script_has_none text commands at TooMany is holds =
    never_too_many text is.list is.readable.tokens (λ place. commands_not_too_many text (pieces_of text is.list) commands place is.spelled is.few) at holds
script_has_none text commands at Syntax is holds =
    never_unspelled text is.list is.readable.tokens (λ place. commands_not_unspelled text (pieces_of text is.list) commands place is.spelled) at holds

-- ---- the causes as they are found

pub long_first : (text : List ℕ) (at : ℕ) → Holds text at TooLong → IsFirstCause text at TooLong
long_first text at holds = record { holds = holds; first = tt }

pub bad_first : (text : List ℕ) (at : ℕ) → length text ≤ 1048576 → FirstBad text at → IsFirstCause text at BadToken
bad_first text at short bad = record { holds = bad; first = (never_long text short, tt) }

pub deep_first : (text : List ℕ) (list : List Token) (at : ℕ) → length text ≤ 1048576 → AreTokens text list → FirstTooDeep text list at
    → IsFirstCause text at Depth
deep_first text list at short tokens deep =
    record { holds = (list, tokens, deep); first = (never_long text short, (never_bad text list tokens, tt)) }

pub list_first : (text : List ℕ) (list : List Token) (at : ℕ) (cause : Cause) → IsReadable text list → IsListFault text list at cause
    → IsFirstCause text at cause
list_first text list at TooLong readable fault = absurd fault
list_first text list at BadToken readable fault = absurd fault
list_first text list at Depth readable fault = absurd fault
list_first text list at TooMany readable fault =
    record {
      holds = (list, readable.tokens, fault);
      first = (never_long text readable.short, (never_bad text list readable.tokens, (never_deep text list readable.tokens readable.shallow, tt)));
    }
list_first text list at Syntax readable fault =
    record {
      holds = (list, readable.tokens, fault.0);
      first = (never_long text readable.short, (never_bad text list readable.tokens, (never_deep text list readable.tokens readable.shallow, (never_too_many text list readable.tokens fault.1, tt))));
    }

-- ---- what a call answers

-- a cause that is the first is the one that an error names
pub refused_first : (text : List ℕ) (error : ScriptError) (at : ℕ) (cause : Cause) → OnRefused (IsFirstCause text) error → IsFirstCause text at cause
    → OnRefused (λ place why. (place ≡ at) × (why ≡ cause)) error
refused_first text (Memory fault) at cause is other = tt
refused_first text (At place why) at cause is other = one_first_cause text place at why cause is other

-- a fault of the list of a readable text is the text's first
pub list_refused : (text : List ℕ) (list : List Token) (error : ScriptError) → IsReadable text list → OnRefused (IsListFault text list) error
    → OnRefused (IsFirstCause text) error
list_refused text list (Memory fault) readable is = tt
list_refused text list (At at cause) readable is = list_first text list at cause readable is

-- where a cause is the first, it is what the commands of the list answer
pub answer_first : (text : List ℕ) (list : List Token) (answer : Result (Vec Command Global) ScriptError) (at : ℕ) (cause : Cause) → IsReadable text list
    → IfOk answer (λ read. AreCommands text (pieces_of text list) read.items × (length read.items ≤ 10000))
    → IfErr answer (OnRefused (IsListFault text list)) → IsFirstCause text at cause
    → Yields (OnRefused (λ place why. (place ≡ at) × (why ≡ cause))) (λ read. ⊥) answer
answer_first text list (Ok read) at cause readable found fault is =
    script_has_none text read.items at cause (record { list = list; readable = readable; spelled = found.0; few = found.1 }) is.holds
answer_first text list (Err error) at cause readable found fault is = refused_first text error at cause (list_refused text list error readable fault) is
