-- A text has one list of tokens at most, one first bad byte, and one first token that is nested too deep.
use Rattle.std.proofs.Common.{◌≡◌, ◌<◌, ◌≤◌, ◌+◌, ℕ, List, [], ◌∷◌, ◌++◌, ⊎_elim, length, length-append, arith, refl, sym, ap, ap₂, subst, ◌∙◌, append_assoc}
use Rattle.std.specs.List.{AllByRecursion}
use Rattle.std.proofs.lemmas.Bool.{cases_lt}
use Rattle.common_laws.proofs.Lists.{front_of_longer, same_element}
use Rattle.sql_token.specs.declared.token.Token.{Token}
use Rattle.sql_token.specs.Token.{AreTokens, AreTokensIn, FirstBad, IsTokenAt}
use Rattle.sql_token.proofs.Fillers.{fillers_meet}
use Rattle.sql_token.proofs.Places.{token_one}
use Rattle.sql_token.proofs.TokenLists.{IsStop, stop_at_bad, stop_at_end, token_free}
use Rattle.sql_tree.specs.Nesting.{FirstTooDeep}

-- two lists of tokens from one place up to stops are one
same_tokens : (text : List ℕ) (xs ys : List Token) (from to end : ℕ) → IsStop text to → IsStop text end → AreTokensIn text from to xs
    → AreTokensIn text from end ys → (xs ≡ ys) × (to ≡ end)
same_tokens text [] [] from to end here there tokens others = (refl, fillers_meet text from to end here.free there.free tokens others)
same_tokens text [] (u ∷ ys) from to end here there tokens others =
    absurd (here.no_token u (sym (fillers_meet text from to u.start here.free (token_free text u others.1) tokens others.0)) others.1)
same_tokens text (t ∷ xs) [] from to end here there tokens others =
    absurd (there.no_token t (fillers_meet text from t.start end (token_free text t tokens.1) there.free tokens.0 others) tokens.1)
same_tokens text (t ∷ xs) (u ∷ ys) from to end here there tokens others =
    let place : t.start ≡ u.start =
    fillers_meet text from t.start u.start (token_free text t tokens.1) (token_free text u others.1) tokens.0 others.0 in
    let same : t ≡ u = token_one text t u tokens.1 others.1 place in
    let rest = same_tokens text xs ys u.end to end here there (subst (λ k. AreTokensIn text k.end to xs) same tokens.2) others.2 in
    (ap₂ (λ z zs. z ∷ zs) same rest.0, rest.1)

pub one_list : (text : List ℕ) (xs ys : List Token) → AreTokens text xs → AreTokens text ys → xs ≡ ys
one_list text xs ys tokens others =
    (same_tokens text xs ys 0 (length text) (length text) (stop_at_end text) (stop_at_end text) tokens others).0

-- a text with a bad byte has no list of tokens
pub no_list : (text : List ℕ) (xs : List Token) (at : ℕ) → FirstBad text at → AreTokens text xs → ⊥
no_list text xs at bad tokens =
    omega (arith, (same_tokens text bad.before xs 0 at (length text) (stop_at_bad text at bad) (stop_at_end text) bad.tokens tokens).1, bad.within)

pub one_bad : (text : List ℕ) (at place : ℕ) → FirstBad text at → FirstBad text place → at ≡ place
one_bad text at place bad other =
    (same_tokens text bad.before other.before 0 at place (stop_at_bad text at bad) (stop_at_bad text place other) bad.tokens other.tokens).1

-- of two tokens behind which too many levels are open, the first such one is no later
no_later : (text : List ℕ) (list : List Token) (at place : ℕ) (deep : FirstTooDeep text list at) (other : FirstTooDeep text list place)
    → length deep.before < length other.before → ⊥
no_later text list at place deep other less =
    let front = deep.before ++ deep.token ∷ [] in
    let cut : front ++ deep.rest ≡ other.before ++ other.token ∷ other.rest =
    append_assoc deep.before (deep.token ∷ []) deep.rest ∙ sym deep.whole ∙ other.whole in
    let within : length front ≤ length other.before = omega (arith, less, length-append deep.before (deep.token ∷ [])) in
    let (back, split) = front_of_longer front other.before deep.rest (other.token ∷ other.rest) cut within in
    omega (arith, other.shallow front back split, deep.deep)

pub one_depth : (text : List ℕ) (list : List Token) (at place : ℕ) → FirstTooDeep text list at → FirstTooDeep text list place → at ≡ place
one_depth text list at place deep other =
    ⊎_elim (λ less. absurd (no_later text list at place deep other less))
    (λ most. ⊎_elim (λ less. absurd (no_later text list place at other deep less))
    (λ least.
    let count : length deep.before ≡ length other.before = omega (arith, most, least) in
    deep.place
    ∙ ap (λ t. t.start) (same_element deep.before other.before deep.token other.token deep.rest other.rest (sym deep.whole ∙ other.whole) count)
    ∙ sym other.place)
    (cases_lt (length other.before) (length deep.before)))
    (cases_lt (length deep.before) (length other.before))

-- each token of a list stands in the text
pub all_stand : (text : List ℕ) (list : List Token) (from to : ℕ) → AreTokensIn text from to list → AllByRecursion (IsTokenAt text) list
all_stand text [] from to tokens = tt
all_stand text (t ∷ ts) from to tokens = (tokens.1, all_stand text ts t.end to tokens.2)
