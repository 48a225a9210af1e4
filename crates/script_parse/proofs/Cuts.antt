-- Pieces: how a list of tokens is cut into them, and their commands.
use Rattle.std.proofs.Common.{◌≡◌, ◌≤◌, ◌+◌, ℕ, List, [], ◌∷◌, ◌++◌, ⊎_elim, length, length-append, arith, refl, sym, ap, subst, ◌∙◌}
use Rattle.std.specs.List.{AllByRecursion}
use Rattle.std.proofs.lemmas.Bool.{cond-true, cond-false, cases_Bool}
use Rattle.common_laws.proofs.Each.{all_at, cut_one}
use Rattle.common_laws.proofs.Lists.{same_element}
use Rattle.sql_token.specs.declared.token.Token.{Token}
use Rattle.sql_tree.specs.declared.command.Command.{Command}
use Rattle.script_parse.specs.Command.{IsCommand}
use Rattle.script_parse.specs.Script.{AreCommands, BeginsAt, IsSpelled, IsTooMany, IsUnspelled, behind_first, filled, first_piece, is_end, later_pieces, pieces_of}

-- ---- cutting

-- the first piece and the others
filled_one : (piece : List Token) (pieces : List (List Token)) → filled (piece ∷ pieces) ≡ filled (piece ∷ []) ++ filled pieces
filled_one [] pieces = refl
filled_one (t ∷ ts) pieces = refl

-- the later pieces are those of what stands behind the first `;`
later_filled : (text : List ℕ) (tokens : List Token) → filled (later_pieces text tokens) ≡ pieces_of text (behind_first text tokens)
later_filled text [] = refl
later_filled text (t ∷ ts) =
    ⊎_elim
    (λ ends. ap filled (cond-true (is_end text t) (first_piece text ts ∷ later_pieces text ts) (later_pieces text ts) ends)
    ∙ sym (ap (pieces_of text) (cond-true (is_end text t) ts (behind_first text ts) ends)))
    (λ goes. ap filled (cond-false (is_end text t) (first_piece text ts ∷ later_pieces text ts) (later_pieces text ts) goes)
    ∙ later_filled text ts
    ∙ sym (ap (pieces_of text) (cond-false (is_end text t) ts (behind_first text ts) goes)))
    (cases_Bool (is_end text t))

-- the first piece, and the pieces of what stands behind its `;`
pub pieces_cut : (text : List ℕ) (tokens : List Token) → pieces_of text tokens ≡ filled (first_piece text tokens ∷ []) ++ pieces_of text (behind_first text tokens)
pieces_cut text tokens =
    filled_one (first_piece text tokens) (later_pieces text tokens)
    ∙ ap (λ ps. filled (first_piece text tokens ∷ []) ++ ps) (later_filled text tokens)

-- what holds of all tokens holds of all of the first piece, and of all behind it
pub all_of_first : (P : Token → Type 0) (text : List ℕ) (tokens : List Token) → AllByRecursion P tokens → AllByRecursion P (first_piece text tokens)
all_of_first P text [] all = tt
all_of_first P text (t ∷ ts) all =
    ⊎_elim
    (λ ends. subst (AllByRecursion P) (sym (cond-true (is_end text t) [] (t ∷ first_piece text ts) ends)) tt)
    (λ goes. subst (AllByRecursion P) (sym (cond-false (is_end text t) [] (t ∷ first_piece text ts) goes)) (all.0, all_of_first P text ts all.1))
    (cases_Bool (is_end text t))

pub all_behind_first : (P : Token → Type 0) (text : List ℕ) (tokens : List Token) → AllByRecursion P tokens → AllByRecursion P (behind_first text tokens)
all_behind_first P text [] all = tt
all_behind_first P text (t ∷ ts) all =
    ⊎_elim
    (λ ends. subst (AllByRecursion P) (sym (cond-true (is_end text t) ts (behind_first text ts) ends)) all.1)
    (λ goes. subst (AllByRecursion P) (sym (cond-false (is_end text t) ts (behind_first text ts) goes)) (all_behind_first P text ts all.1))
    (cases_Bool (is_end text t))

-- ---- commands of pieces

pub commands_length : (text : List ℕ) (pieces : List (List Token)) (commands : List Command) → AreCommands text pieces commands → length pieces ≡ length commands
commands_length text [] [] are = refl
commands_length text (p ∷ ps) (c ∷ cs) are = let rest = commands_length text ps cs are.1 in omega (arith, rest)
commands_length text [] (c ∷ cs) are = absurd are
commands_length text (p ∷ ps) [] are = absurd are

pub commands_spelled : (text : List ℕ) (pieces : List (List Token)) (commands : List Command) → AreCommands text pieces commands → AllByRecursion (IsSpelled text) pieces
commands_spelled text [] [] are = tt
commands_spelled text (p ∷ ps) (c ∷ cs) are = ((c, are.0), commands_spelled text ps cs are.1)
commands_spelled text [] (c ∷ cs) are = absurd are
commands_spelled text (p ∷ ps) [] are = absurd are

-- one more piece and its command
pub commands_push : (text : List ℕ) (pieces : List (List Token)) (commands : List Command) (piece : List Token) (command : Command)
    → AreCommands text pieces commands → IsCommand text piece command → AreCommands text (pieces ++ piece ∷ []) (commands ++ command ∷ [])
commands_push text [] [] piece command are is = (is, tt)
commands_push text (p ∷ ps) (c ∷ cs) piece command are is = (are.0, commands_push text ps cs piece command are.1 is)
commands_push text [] (c ∷ cs) piece command are is = absurd are
commands_push text (p ∷ ps) [] piece command are is = absurd are

-- the first piece and its command, and the others
pub commands_first : (text : List ℕ) (piece : List Token) (pieces : List (List Token)) (commands : List Command) → AreCommands text (piece ∷ pieces) commands
    → (command : Command) × (more : List Command) × (commands ≡ command ∷ more) × IsCommand text piece command × AreCommands text pieces more
commands_first text piece pieces [] are = absurd are
commands_first text piece pieces (c ∷ cs) are = (c, cs, refl, are.0, are.1)

-- ---- at most one place for a cause, and none where all pieces are commands

begins_once : (piece : List Token) (at place : ℕ) → BeginsAt at piece → BeginsAt place piece → at ≡ place
begins_once [] at place begins other = absurd begins
begins_once (t ∷ ts) at place begins other = begins ∙ sym other

pub one_too_many : (text : List ℕ) (pieces : List (List Token)) (at place : ℕ) → IsTooMany text pieces at → IsTooMany text pieces place → at ≡ place
one_too_many text pieces at place many other =
    let same = same_element many.before other.before many.piece other.piece many.behind other.behind (sym many.whole ∙ other.whole) (many.count ∙ sym other.count) in
    begins_once other.piece at place (subst (BeginsAt at) same many.place) other.place

pub one_unspelled : (text : List ℕ) (pieces : List (List Token)) (at place : ℕ) → IsUnspelled text pieces at → IsUnspelled text pieces place → at ≡ place
one_unspelled text pieces at place bad other =
    let same = (cut_one (IsSpelled text) bad.before other.before bad.piece other.piece bad.behind other.behind bad.spelled other.spelled bad.fault other.fault
    (sym bad.whole ∙ other.whole)).1 in
    begins_once other.piece at place (subst (BeginsAt at) same bad.place) other.place

pub commands_not_too_many : (text : List ℕ) (pieces : List (List Token)) (commands : List Command) (at : ℕ) → AreCommands text pieces commands
    → length commands ≤ 10000 → IsTooMany text pieces at → ⊥
commands_not_too_many text pieces commands at are few many =
    omega (arith, commands_length text pieces commands are, few, ap length many.whole, length-append many.before (many.piece ∷ many.behind), many.count)

pub commands_not_unspelled : (text : List ℕ) (pieces : List (List Token)) (commands : List Command) (at : ℕ) → AreCommands text pieces commands
    → IsUnspelled text pieces at → ⊥
commands_not_unspelled text pieces commands at are bad =
    bad.fault (all_at (IsSpelled text) bad.before bad.piece bad.behind (subst (AllByRecursion (IsSpelled text)) bad.whole (commands_spelled text pieces commands are)))
