-- The script that is read.
use Rattle.std.proofs.Common.{◌≡◌, ◌<◌, ◌≤◌, ◌^◌, ◌+◌, ℕ, IsSomeAnd, option_map, subst, refl, List, [], ◌∷◌, ◌++◌, Option, Some, None, length, drop, sym, ◌∙◌, ap, arith}
use Rattle.std.proofs.lemmas.List.{drop-drop, drop_at}
use Rattle.std.specs.List.{AllByRecursion}
use Rattle.alter_disk.specs.Changes.{IfTold}
use Rattle.alter_cli.specs.Outcome.{script_limit}
use Rattle.alter_cli.specs.Causes.{IsFrontTaken}
use Rattle.plain_sql.specs.declared.script.Command.{Command}
use Rattle.plain_sql.specs.Script.{IsWithin}

-- a source that had `text` and then the rest, with a text as long as the limit and one byte more, has the rest left
pub past_limit : (told left : Option (List ℕ)) (text : List ℕ) (n : ℕ) → length text ≡ n
    → IfTold told (λ bytes. (rest : List ℕ) × (left ≡ Some rest) × (bytes ≡ text ++ rest)) → IfTold told (λ bytes. left ≡ Some (drop n bytes))
past_limit None left text n long is = tt
past_limit (Some bytes) left text n long is = is.1 ∙ ap Some (sym (ap (drop n) is.2 ∙ drop_at text is.0 n long))

-- a source that had `text` and then the rest, of which so many bytes more are taken or none
pub taken_more : (told before after : Option (List ℕ)) (text : List ℕ) (n : ℕ) → length text + n ≤ script_limit + 1
    → IfTold told (λ bytes. (rest : List ℕ) × (before ≡ Some rest) × (bytes ≡ text ++ rest)) → after ≡ option_map (drop n) before
    → IfTold told (λ bytes. IsSomeAnd after (IsFrontTaken bytes))
taken_more None before after text n most is left = tt
taken_more (Some bytes) before after text n most is left =
    subst (λ (a : Option (List ℕ)). IsSomeAnd a (IsFrontTaken bytes)) (sym (left ∙ ap (option_map (drop n)) is.1))
    (record {
      count = length text + n;
      most = most;
      whole =
          ap (drop n) (sym (drop_at text is.0 (length text) refl))
          ∙ drop-drop n (length text) (text ++ is.0)
          ∙ ap (drop (length text + n)) (sym is.2);
    })

-- the same where none is taken
pub taken_stays : (told before after : Option (List ℕ)) (text : List ℕ) → length text ≤ script_limit + 1
    → IfTold told (λ bytes. (rest : List ℕ) × (before ≡ Some rest) × (bytes ≡ text ++ rest)) → after ≡ before
    → IfTold told (λ bytes. IsSomeAnd after (IsFrontTaken bytes))
taken_stays None before after text most is left = tt
taken_stays (Some bytes) before after text most is left =
    subst (λ (a : Option (List ℕ)). IsSomeAnd a (IsFrontTaken bytes)) (sym (left ∙ is.1))
    (record { count = length text; most = most; whole = sym (drop_at text is.0 (length text) refl) ∙ ap (drop (length text)) (sym is.2) })

-- the names of the commands of a short text are short
pub small_columns : (text : List ℕ) (commands : List Command) → length text < 2 ^ 30 → AllByRecursion (IsWithin text) commands
    → AllByRecursion (λ command. length command.column < 2 ^ 30) commands
small_columns text [] short within = tt
small_columns text (command ∷ commands) short within = (omega (arith, within.0.column, short), small_columns text commands short within.1)
