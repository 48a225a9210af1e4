-- How the commands of a script grow, piece by piece.
use Rattle.std.proofs.Common.{◌≡◌, ◌<◌, ◌≤◌, ◌+◌, ℕ, List, [], ◌∷◌, ◌++◌, ⊎_elim, length, length-append, arith, refl, sym, ap, subst, ◌∙◌, append_assoc}
use Rattle.std.specs.List.{AllByRecursion}
use Rattle.std.proofs.lemmas.Bool.{cond-true, cond-false, cases_Bool}
use Rattle.std.proofs.lemmas.List.{append-nil}
use Rattle.common_laws.proofs.Each.{all_at}
use Rattle.common_laws.proofs.Lists.{front_of_longer}
use Rattle.sql_token.specs.declared.token.Token.{Token}
use Rattle.sql_token.specs.Token.{AreTokens, IsTokenAt}
use Rattle.sql_tree.specs.declared.command.Command.{Command}
use Rattle.script_parse.specs.Command.{IsCommand}
use Rattle.script_parse.specs.declared.error.Cause.TheVariants.{TooLong, BadToken, Depth, TooMany, Syntax}
use Rattle.script_parse.specs.declared.error.ScriptError.{ScriptError}
use Rattle.script_parse.specs.declared.error.ScriptError.TheVariants.{Memory, At}
use Rattle.script_parse.specs.Script.{AreCommands, IsListFault, IsMemory, IsPieceFault, IsSpelled, IsTaken, IsTooMany, IsUnspelled, OnRefused, behind_first, filled, first_piece, is_end, pieces_of}
use Rattle.script_parse.proofs.Cuts.{all_behind_first, commands_first, commands_length, commands_not_too_many, commands_not_unspelled, commands_push, commands_spelled, pieces_cut}
use Rattle.script_parse.proofs.Tokens.{all_stand}

-- these commands are read, and these tokens are left
pub record Reads (text : List ℕ) (tokens : List Token) (commands : List Command) (rest : List Token) : Type 0 where
  pub done : List (List Token)
  pub whole : pieces_of text tokens ≡ done ++ pieces_of text rest
  pub spelled : AreCommands text done commands
  pub few : length commands ≤ 10000
  pub only : (all : List Command) → AreCommands text (pieces_of text tokens) all
      → (more : List Command) × (all ≡ commands ++ more) × AreCommands text (pieces_of text rest) more
  pub stand : AllByRecursion (IsTokenAt text) rest

pub reads_first : (text : List ℕ) (tokens : List Token) → AreTokens text tokens → Reads text tokens [] tokens
reads_first text tokens are =
    record {
      done = [];
      whole = refl;
      spelled = tt;
      few = omega arith;
      only = λ all spelled. (all, refl, spelled);
      stand = all_stand text tokens 0 (length text) are;
    }

-- the pieces, where the next one is empty
cut_empty : (text : List ℕ) (rest : List Token) → first_piece text rest ≡ [] → pieces_of text rest ≡ pieces_of text (behind_first text rest)
cut_empty text rest empty =
    pieces_cut text rest ∙ ap (λ piece. filled (piece ∷ []) ++ pieces_of text (behind_first text rest)) empty

-- the pieces, where it is not
pub cut_filled : (text : List ℕ) (rest : List Token) (t : Token) (ts : List Token) → first_piece text rest ≡ t ∷ ts
    → pieces_of text rest ≡ (t ∷ ts) ∷ pieces_of text (behind_first text rest)
cut_filled text rest t ts piece =
    pieces_cut text rest ∙ ap (λ p. filled (p ∷ []) ++ pieces_of text (behind_first text rest)) piece

-- an empty piece is passed over
pub reads_empty : (text : List ℕ) (tokens rest : List Token) (commands : List Command) → Reads text tokens commands rest → first_piece text rest ≡ []
    → Reads text tokens commands (behind_first text rest)
reads_empty text tokens rest commands reads empty =
    let cut = cut_empty text rest empty in
    record {
      done = reads.done;
      whole = reads.whole ∙ ap (λ ps. reads.done ++ ps) cut;
      spelled = reads.spelled;
      few = reads.few;
      only = λ all spelled.
          let (more, is, others) = reads.only all spelled in
          (more, is, subst (λ ps. AreCommands text ps more) cut others);
      stand = all_behind_first (IsTokenAt text) text rest reads.stand;
    }

-- one command more
pub reads_more : (text : List ℕ) (tokens rest : List Token) (commands : List Command) (t : Token) (ts : List Token) (command : Command)
    → Reads text tokens commands rest → first_piece text rest ≡ t ∷ ts → IsCommand text (t ∷ ts) command
    → ((other : Command) → IsCommand text (t ∷ ts) other → command ≡ other) → length commands < 10000
    → Reads text tokens (commands ++ command ∷ []) (behind_first text rest)
reads_more text tokens rest commands t ts command reads piece is one few =
    let cut = cut_filled text rest t ts piece in
    let behind = pieces_of text (behind_first text rest) in
    record {
      done = reads.done ++ (t ∷ ts) ∷ [];
      whole = reads.whole ∙ ap (λ ps. reads.done ++ ps) cut ∙ sym (append_assoc reads.done ((t ∷ ts) ∷ []) behind);
      spelled = commands_push text reads.done commands (t ∷ ts) command reads.spelled is;
      few = omega (arith, length-append commands (command ∷ []), few);
      only = λ all spelled.
          let (more, split, others) = reads.only all spelled in
          let (c, cs, first, here, later) = commands_first text (t ∷ ts) behind more (subst (λ ps. AreCommands text ps more) cut others) in (
            cs,
            split ∙ ap (λ m. commands ++ m) (first ∙ ap (λ d. d ∷ cs) (sym (one c here))) ∙ sym (append_assoc commands (command ∷ []) cs),
            later,
          );
      stand = all_behind_first (IsTokenAt text) text rest reads.stand;
    }

-- at the end the commands are all
pub reads_all : (text : List ℕ) (tokens rest : List Token) (commands : List Command) → Reads text tokens commands rest → rest ≡ []
    → AreCommands text (pieces_of text tokens) commands
reads_all text tokens rest commands reads none =
    subst (λ ps. AreCommands text ps commands)
    (sym (reads.whole ∙ ap (λ r. reads.done ++ pieces_of text r) none ∙ append-nil reads.done)) reads.spelled

pub reads_only : (text : List ℕ) (tokens rest : List Token) (commands all : List Command) → Reads text tokens commands rest → rest ≡ []
    → AreCommands text (pieces_of text tokens) all → commands ≡ all
reads_only text tokens rest commands all reads none spelled =
    let (more, split, others) = reads.only all spelled in
    let P : List Token → Type 0 = λ r. AreCommands text (pieces_of text r) more in
    sym (split ∙ ap (λ m. commands ++ m) (nothing more (subst P none others)) ∙ append-nil commands)
  where
    nothing : (more : List Command) → AreCommands text [] more → more ≡ []
    nothing [] are = refl
    nothing (c ∷ cs) are = absurd are

-- a piece behind 10,000 commands
pub reads_too_many : (text : List ℕ) (tokens rest : List Token) (commands : List Command) (t : Token) (ts : List Token)
    → Reads text tokens commands rest → first_piece text rest ≡ t ∷ ts → length commands ≡ 10000 → IsTooMany text (pieces_of text tokens) t.start
reads_too_many text tokens rest commands t ts reads piece full =
    record {
      before = reads.done;
      piece = t ∷ ts;
      behind = pieces_of text (behind_first text rest);
      whole = reads.whole ∙ ap (λ ps. reads.done ++ ps) (cut_filled text rest t ts piece);
      spelled = commands_spelled text reads.done commands reads.spelled;
      count = commands_length text reads.done commands reads.spelled ∙ full;
      place = refl;
    }

-- a piece that is no command
pub reads_unspelled : (text : List ℕ) (tokens rest : List Token) (commands : List Command) (t : Token) (ts : List Token)
    → Reads text tokens commands rest → first_piece text rest ≡ t ∷ ts → (IsSpelled text (t ∷ ts) → ⊥) → IsUnspelled text (pieces_of text tokens) t.start
reads_unspelled text tokens rest commands t ts reads piece fault =
    record {
      before = reads.done;
      piece = t ∷ ts;
      behind = pieces_of text (behind_first text rest);
      whole = reads.whole ∙ ap (λ ps. reads.done ++ ps) (cut_filled text rest t ts piece);
      spelled = commands_spelled text reads.done commands reads.spelled;
      fault = fault;
      place = refl;
    }

-- a piece that is no command, among the first 10,000, leaves no 10,000 commands
few_before : (text : List ℕ) (pieces : List (List Token)) (at place : ℕ) (bad : IsUnspelled text pieces at) → length bad.before < 10000
    → IsTooMany text pieces place → ⊥
few_before text pieces at place bad few many =
    let front = bad.before ++ bad.piece ∷ [] in
    let cut : front ++ bad.behind ≡ many.before ++ many.piece ∷ many.behind =
    append_assoc bad.before (bad.piece ∷ []) bad.behind ∙ sym bad.whole ∙ many.whole in
    let within : length front ≤ length many.before = omega (arith, few, many.count, length-append bad.before (bad.piece ∷ [])) in
    let (back, split) = front_of_longer front many.before bad.behind (many.piece ∷ many.behind) cut within in
    bad.fault (all_at (IsSpelled text) bad.before bad.piece back
    (subst (AllByRecursion (IsSpelled text)) (split ∙ append_assoc bad.before (bad.piece ∷ []) back) many.spelled))

pub reads_fault : (text : List ℕ) (tokens rest : List Token) (commands : List Command) (t : Token) (ts : List Token)
    → Reads text tokens commands rest → first_piece text rest ≡ t ∷ ts → (IsSpelled text (t ∷ ts) → ⊥) → length commands < 10000
    → IsListFault text tokens t.start Syntax
unfolding reads_unspelled
reads_fault text tokens rest commands t ts reads piece fault few =
    let bad = reads_unspelled text tokens rest commands t ts reads piece fault in
    (bad, λ place. few_before text (pieces_of text tokens) t.start place bad (omega (arith, commands_length text reads.done commands reads.spelled, few)))

-- with such a piece there are no commands
pub reads_none : (text : List ℕ) (tokens rest : List Token) (commands all : List Command) (t : Token) (ts : List Token)
    → Reads text tokens commands rest → first_piece text rest ≡ t ∷ ts → (IsSpelled text (t ∷ ts) → ⊥) → AreCommands text (pieces_of text tokens) all → ⊥
reads_none text tokens rest commands all t ts reads piece fault spelled =
    commands_not_unspelled text (pieces_of text tokens) all t.start spelled (reads_unspelled text tokens rest commands t ts reads piece fault)

-- ---- a piece more

-- what is left behind a piece is shorter
behind_within : (text : List ℕ) (tokens : List Token) → length (behind_first text tokens) ≤ length tokens
behind_within text [] = omega arith
behind_within text (t ∷ ts) =
    ⊎_elim
    (λ ends. let is = ap length (cond-true (is_end text t) ts (behind_first text ts) ends) in omega (arith, is))
    (λ goes. let is = ap length (cond-false (is_end text t) ts (behind_first text ts) goes) in omega (arith, is, behind_within text ts))
    (cases_Bool (is_end text t))

pub behind_shorter : (text : List ℕ) (tokens : List Token) → 1 ≤ length tokens → length (behind_first text tokens) < length tokens
behind_shorter text [] some = absurd (omega (arith, some))
behind_shorter text (t ∷ ts) some =
    ⊎_elim
    (λ ends. let is = ap length (cond-true (is_end text t) ts (behind_first text ts) ends) in omega (arith, is))
    (λ goes. let is = ap length (cond-false (is_end text t) ts (behind_first text ts) goes) in omega (arith, is, behind_within text ts))
    (cases_Bool (is_end text t))

pub reads_turn : (text : List ℕ) (tokens rest : List Token) (commands new : List Command) (piece : List Token) → Reads text tokens commands rest
    → first_piece text rest ≡ piece → IsTaken text piece commands new → Reads text tokens new (behind_first text rest)
reads_turn text tokens rest commands new [] reads here taken =
    subst (λ cs. Reads text tokens cs (behind_first text rest)) (sym taken) (reads_empty text tokens rest commands reads here)
reads_turn text tokens rest commands new (t ∷ ts) reads here taken =
    let (command, is, one, more, few) = taken in
    subst (λ cs. Reads text tokens cs (behind_first text rest)) (sym more) (reads_more text tokens rest commands t ts command reads here is one few)

-- a fault of the piece is one of the list
pub piece_refused : (text : List ℕ) (tokens rest : List Token) (commands : List Command) (piece : List Token) (error : ScriptError)
    → Reads text tokens commands rest → first_piece text rest ≡ piece → OnRefused (IsPieceFault text piece commands) error
    → OnRefused (IsListFault text tokens) error
piece_refused text tokens rest commands piece (Memory fault) reads here is = tt
piece_refused text tokens rest commands [] (At at cause) reads here is = absurd is
piece_refused text tokens rest commands (t ∷ ts) (At at TooLong) reads here is = absurd is
piece_refused text tokens rest commands (t ∷ ts) (At at BadToken) reads here is = absurd is
piece_refused text tokens rest commands (t ∷ ts) (At at Depth) reads here is = absurd is
piece_refused text tokens rest commands (t ∷ ts) (At at TooMany) reads here is =
    subst (IsTooMany text (pieces_of text tokens)) (sym is.0) (reads_too_many text tokens rest commands t ts reads here is.1)
piece_refused text tokens rest commands (t ∷ ts) (At at Syntax) reads here is =
    subst (λ place. IsListFault text tokens place Syntax) (sym is.0) (reads_fault text tokens rest commands t ts reads here is.2 is.1)

-- and the list then spells no commands
pub piece_unread : (text : List ℕ) (tokens rest : List Token) (commands all : List Command) (piece : List Token) (error : ScriptError)
    → Reads text tokens commands rest → first_piece text rest ≡ piece → OnRefused (IsPieceFault text piece commands) error
    → AreCommands text (pieces_of text tokens) all → length all ≤ 10000 → IsMemory error
piece_unread text tokens rest commands all piece (Memory fault) reads here is spelled few = tt
piece_unread text tokens rest commands all [] (At at cause) reads here is spelled few = is
piece_unread text tokens rest commands all (t ∷ ts) (At at TooLong) reads here is spelled few = is
piece_unread text tokens rest commands all (t ∷ ts) (At at BadToken) reads here is spelled few = is
piece_unread text tokens rest commands all (t ∷ ts) (At at Depth) reads here is spelled few = is
piece_unread text tokens rest commands all (t ∷ ts) (At at TooMany) reads here is spelled few =
    commands_not_too_many text (pieces_of text tokens) all t.start spelled few (reads_too_many text tokens rest commands t ts reads here is.1)
piece_unread text tokens rest commands all (t ∷ ts) (At at Syntax) reads here is spelled few =
    reads_none text tokens rest commands all t ts reads here is.2 spelled

-- ---- a piece's command

-- the piece's command comes behind the others
pub taken_one : (text : List ℕ) (piece : List Token) (first : Token) (others : List Token) (old new : List Command) (command : Command)
    → piece ≡ first ∷ others → length old < 10000 → IsCommand text piece command
    → ((other : Command) → IsCommand text piece other → command ≡ other) → new ≡ old ++ command ∷ [] → IsTaken text piece old new
taken_one text piece first others old new command cut few is one more =
    subst (λ ts. IsTaken text ts old new) (sym cut) (
      command,
      subst (λ ts. IsCommand text ts command) cut is,
      λ other there. one other (subst (λ ts. IsCommand text ts other) (sym cut) there),
      more,
      few,
    )

-- a piece that is no command is a fault
pub taken_fault : (text : List ℕ) (piece : List Token) (first : Token) (others : List Token) (old : List Command) (error : ScriptError)
    → piece ≡ first ∷ others → length old < 10000 → OnRefused (λ place cause. (place ≡ first.start) × (cause ≡ Syntax)) error
    → ((command : Command) → IsCommand text piece command → IsMemory error) → OnRefused (IsPieceFault text piece old) error
taken_fault text piece first others old (Memory fault) cut few is only = tt
taken_fault text piece first others old (At at cause) cut few is only =
    subst (λ ts. IsPieceFault text ts old at cause) (sym cut)
    (subst (IsPieceFault text (first ∷ others) old at) (sym is.1)
    (is.0, few, λ spelled. only spelled.0 (subst (λ ts. IsCommand text ts spelled.0) (sym cut) spelled.1)))
