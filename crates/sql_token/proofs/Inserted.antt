-- The tokens of a text in which `, name` was inserted behind a token.
use Rattle.std.proofs.Common.{◌≡◌, ℕ, ◌+◌, ◌-◌, ◌≤◌, Bool, true, false, List, [], ◌∷◌, ◌++◌, ⊎_elim, inl, inr, length, take, drop, map, get_or, arith, refl, sym, ap, subst, ◌∙◌}
use Rattle.std.specs.Prelude.{codes, slice_range}
use Rattle.std.specs.List.{AllByRecursion}
use Rattle.std.proofs.lemmas.Bool.{both_ways, cases_Bool, eqb-true}
use Rattle.std.proofs.lemmas.List.{length-append, length-drop, length-take-le, get_or-take, get_or_append_left, take-append-drop, take-append-le, drop-append-le, drop-drop, drop_at, drop_all}
use Rattle.sql_token.specs.declared.token.Token.{Token}
use Rattle.sql_token.specs.declared.token.TokenKind.TheVariants.{Word, Op}
use Rattle.sql_token.specs.Byte.{is_blank, starts_word, in_word, begins}
use Rattle.sql_token.specs.Filler.{IsGap, AreGaps, IsFiller}
use Rattle.sql_token.specs.Form.{IsWord}
use Rattle.sql_token.specs.Token.{span, IsTokenAt, AreTokensIn, AreTokens}
use Rattle.sql_token.proofs.Fillers.{IsFiller_none, begins_comment}
use Rattle.common_laws.proofs.Lists.{range_at}
use Rattle.sql_token.proofs.Places.{split_at_token}
use Rattle.sql_token.proofs.Words.{is_quote}
use Rattle.sql_token.proofs.Stands.{is_list_sign, IsSimple, first_byte, first_within, word_stands, word_ends, word_form, closed_by, sign_stands, simple_cases}
use Rattle.sql_token.proofs.Grown.{Grows, moved, word_stays, tokens_move, tokens_stay, spans_stay_by, spans_move_by, simple_stay, simple_move}

-- ---- `, name` put in at a place

-- the text with `, name` put in at the place
abbrev pub inserted : List ℕ → ℕ → List ℕ → List ℕ
inserted text at name = take at text ++ (codes ", " ++ (name ++ drop at text))

-- the comma that was put in at the place
abbrev pub comma_at : ℕ → Token
comma_at at = record { kind = Op; start = at; end = at + 1 }

-- the Word of so many bytes that was put in behind the comma and a blank
abbrev pub word_behind : ℕ → ℕ → Token
word_behind at size = record { kind = Word; start = at + 2; end = at + (2 + size) }

-- a range of the bytes in front is there whatever follows them
range_in_front : (a rest : List ℕ) (from to : ℕ) → from ≤ to → to ≤ length a → slice_range (a ++ rest) from to ≡ slice_range a from to
range_in_front a rest from to ordered within =
    ap (take (to - from)) (drop-append-le from a rest (omega arith)) ∙ take-append-le (to - from) (drop from a) rest (omega (arith, length-drop from a))

-- the bytes from the place on are the new ones and the old ones
pub middle : (text name : List ℕ) (at : ℕ) → at ≤ length text → drop at (inserted text at name) ≡ 44 ∷ 32 ∷ (name ++ drop at text)
middle text name at within = drop_at (take at text) (44 ∷ 32 ∷ (name ++ drop at text)) at (length-take-le at text within)

-- from the place on the old bytes stand behind the new ones
inserted_behind : (text name : List ℕ) (at k : ℕ) → at ≤ length text → at ≤ k → drop (k + (2 + length name)) (inserted text at name) ≡ drop k text
inserted_behind text name at k within past =
    let far : k + (2 + length name) ≡ (at + (2 + length name)) + (k - at) = omega arith in
    let near : at + (k - at) ≡ k = omega arith in
    let seam : drop (at + (2 + length name)) (inserted text at name) ≡ drop at text =
    sym (drop-drop (2 + length name) at (inserted text at name)) ∙ ap (drop (2 + length name)) (middle text name at within)
    ∙ drop_at (44 ∷ 32 ∷ name) (drop at text) (2 + length name) (omega arith) in
    ap (λ n. drop n (inserted text at name)) far ∙ sym (drop-drop (k - at) (at + (2 + length name)) (inserted text at name)) ∙ ap (drop (k - at)) seam
    ∙ drop-drop (k - at) at text ∙ ap (λ n. drop n text) near

-- the text with `, name` put in grew there
pub inserted_grows : (text name : List ℕ) (at : ℕ) → at ≤ length text → Grows text (inserted text at name) at (2 + length name)
inserted_grows text name at within =
    let size = length-take-le at text within in
    let whole = take-append-drop at text in
    let rest : List ℕ = 44 ∷ 32 ∷ (name ++ drop at text) in
    record {
      within = within;
      longer = omega (arith, size, length-append (take at text) rest, length-append name (drop at text), length-drop at text);
      before = λ k less. get_or_append_left (take at text) rest 0 k (omega arith) ∙ get_or-take at text k 0 less;
      ranges = λ from to ordered less. range_in_front (take at text) rest from to ordered (omega arith)
          ∙ sym (range_in_front (take at text) (drop at text) from to ordered (omega arith)) ∙ ap (λ l. slice_range l from to) whole;
      behind = λ k past. inserted_behind text name at k within past;
    }

-- ---- what stands behind the last token

-- no quote begins what a blank or comment begins
no_quote_at_gap : (text : List ℕ) (at end : ℕ) → IsGap text at end → is_quote (get_or text at 0) ≡ true → ⊥
no_quote_at_gap text at end gap quote =
    let is : get_or text at 0 ≡ 39 = eqb-true (get_or text at 0) 39 quote in
    ⊎_elim
    (λ blank. let computed : is_blank 39 ≡ true = sym (ap is_blank is) ∙ blank.0.blank in absurd (cc))
    (λ comment. ⊎_elim (λ line. omega (arith, is, line.0)) (λ block. omega (arith, is, block.0)) (begins_comment text at end comment))
    gap

-- no quote begins a Word
word_no_quote : (front rest : List ℕ) → IsWord front → begins is_quote (front ++ rest) ≡ true → ⊥
word_no_quote [] rest form quote = form
word_no_quote (b ∷ bytes) rest form quote =
    let computed : starts_word 39 ≡ true = sym (ap starts_word (eqb-true b 39 quote)) ∙ form.0 in
    absurd (cc)

-- no quote begins a simple token
no_quote_at_token : (text : List ℕ) (t : Token) → IsTokenAt text t → IsSimple text t → begins is_quote (drop t.start text) ≡ true → ⊥
no_quote_at_token text t token simple quote =
    let split = split_at_token text t token in
    ⊎_elim
    (λ word. word_no_quote (span text t) (drop t.end text) (word_form text t token word) (ap (begins is_quote) (sym split) ∙ quote))
    (λ sign.
    let first : is_quote sign.1.0 ≡ true = ap (begins is_quote) (sym (split ∙ ap (λ l. l ++ drop t.end text) sign.1.2)) ∙ quote in
    let computed : is_list_sign 39 ≡ true = sym (ap is_list_sign (eqb-true sign.1.0 39 first)) ∙ sign.1.1 in
    absurd (cc))
    (simple_cases text t simple)

-- bytes that begin with one of a class stand where one of the class does
begins_in : (p : ℕ → Bool) (text : List ℕ) (at : ℕ) (rest : List ℕ) → drop at text ≡ rest → begins p rest ≡ true → p (get_or text at 0) ≡ true
begins_in p text at [] split passes = absurd (cc)
begins_in p text at (b ∷ rest) split passes = ap p (first_byte text at b rest split) ∙ passes

-- the same of what stands from a place on
begins_with_one : (p : ℕ → Bool) (text : List ℕ) (at : ℕ) → begins p (drop at text) ≡ true → p (get_or text at 0) ≡ true
begins_with_one p text at passes = begins_in p text at (drop at text) refl passes

-- no quote begins what stands at the beginning of a list of simple tokens
no_quote_before : (text ends : List ℕ) (from to : ℕ) → AreGaps text from ends to → (begins is_quote (drop to text) ≡ true → ⊥)
    → begins is_quote (drop from text) ≡ true → ⊥
no_quote_before text [] from to gaps none quote = none (subst (λ k. begins is_quote (drop k text) ≡ true) gaps quote)
no_quote_before text (end ∷ ends) from to gaps none quote = no_quote_at_gap text from end gaps.0 (begins_with_one is_quote text from quote)

-- no quote begins what stands in front of simple tokens, up to the end of the text
no_quote_behind : (text : List ℕ) (from : ℕ) (behind : List Token) → AreTokensIn text from (length text) behind → AllByRecursion (IsSimple text) behind
    → begins is_quote (drop from text) ≡ true → ⊥
no_quote_behind text from [] tokens simple =
    no_quote_before text tokens.ends from (length text) tokens.gaps
    (λ quote. let none : begins is_quote (drop (length text) text) ≡ false = ap (begins is_quote) (drop_all (length text) text (omega arith)) in both_ways _ none quote)
no_quote_behind text from (t ∷ behind) tokens simple =
    no_quote_before text tokens.0.ends from t.start tokens.0.gaps (no_quote_at_token text t tokens.1 simple.0)

-- the last of the tokens in front stands in the text, and the tokens behind it do
tokens_behind : (text : List ℕ) (before : List Token) (last : Token) (behind : List Token) (from to : ℕ) → AreTokensIn text from to (before ++ last ∷ behind)
    → IsTokenAt text last × AreTokensIn text last.end to behind
tokens_behind text [] last behind from to tokens = (tokens.1, tokens.2)
tokens_behind text (t ∷ before) last behind from to tokens = tokens_behind text before last behind t.end to tokens.2

-- the tokens behind the last are simple
simple_behind : (text : List ℕ) (before : List Token) (last : Token) (behind : List Token) → AllByRecursion (IsSimple text) (before ++ last ∷ behind)
    → AllByRecursion (IsSimple text) behind
simple_behind text [] last behind simple = simple.1
simple_behind text (t ∷ before) last behind simple = simple_behind text before last behind simple.1

-- ---- the comma and the Word

-- the comma spells a comma
pub span_comma : (text name : List ℕ) (at : ℕ) → at ≤ length text → span (inserted text at name) (comma_at at) ≡ codes ","
span_comma text name at within = range_at (inserted text at name) (44 ∷ []) (32 ∷ (name ++ drop at text)) at (at + 1) (middle text name at within) refl

-- behind the comma and the blank stand the name and the old bytes
word_split : (text name : List ℕ) (at : ℕ) → at ≤ length text → drop (at + 2) (inserted text at name) ≡ name ++ drop at text
word_split text name at within = sym (drop-drop 2 at (inserted text at name)) ∙ ap (drop 2) (middle text name at within)

-- the new Word spells the name
pub span_word : (text name : List ℕ) (at : ℕ) → at ≤ length text → span (inserted text at name) (word_behind at (length name)) ≡ name
span_word text name at within = range_at (inserted text at name) name (drop at text) (at + 2) (at + (2 + length name)) (word_split text name at within) (omega arith)

-- the comma stands in the new text
comma_stands : (text name : List ℕ) (at : ℕ) → at ≤ length text → IsTokenAt (inserted text at name) (comma_at at)
comma_stands text name at within = sign_stands (inserted text at name) (comma_at at) 44 (32 ∷ (name ++ drop at text)) refl refl (middle text name at within) refl

-- the new Word stands before the bytes that stood behind the last token, where that is a Word
new_word_stands : (text name : List ℕ) (at : ℕ) → at ≤ length text → IsWord name → begins in_word (drop at text) ≡ false → begins is_quote (drop at text) ≡ false
    → IsTokenAt (inserted text at name) (word_behind at (length name))
new_word_stands text name at within word stops no_quote =
    word_stands (inserted text at name) (word_behind at (length name)) name (drop at text) refl (omega arith) (word_split text name at within) word stops
    (closed_by name (drop at text) no_quote)

-- a blank stands between the comma and the new Word
blank_between : (text name : List ℕ) (at : ℕ) → at ≤ length text → IsFiller (inserted text at name) (at + 1) (at + 2)
blank_between text name at within =
    let split : drop (at + 1) (inserted text at name) ≡ 32 ∷ (name ++ drop at text) =
    sym (drop-drop 1 at (inserted text at name)) ∙ ap (drop 1) (middle text name at within) in
    let first = first_byte (inserted text at name) (at + 1) 32 (name ++ drop at text) split in
    record {
      ends = (at + 2) ∷ [];
      gaps = (inl (record { within = first_within (inserted text at name) (at + 1) 32 (name ++ drop at text) split; blank = ap is_blank first }, omega arith), refl);
    }

-- ---- the whole

-- the tokens of a text in which a comma and a Word were put in behind a Word
pub inserted_tokens : (text name : List ℕ) (before behind : List Token) (last : Token) → AreTokens text (before ++ last ∷ behind)
    → AllByRecursion (IsSimple text) (before ++ last ∷ behind) → last.kind ≡ Word → IsWord name
    → AreTokens (inserted text last.end name) (before ++ last ∷ comma_at last.end ∷ word_behind last.end (length name) ∷ map (moved (2 + length name)) behind)
inserted_tokens text name before behind last tokens simple kind word =
    let new : List ℕ = inserted text last.end name in
    let after = tokens_behind text before last behind 0 (length text) tokens in
    let token : IsTokenAt text last = after.0 in
    let within : last.end ≤ length text = token.within in
    let g : Grows text (inserted text last.end name) last.end (2 + length name) = inserted_grows text name last.end within in
    let stops : begins in_word (drop last.end text) ≡ false = word_ends text last token kind in
    let no_quote : begins is_quote (drop last.end text) ≡ false =
    ⊎_elim
    (λ quote. absurd (no_quote_behind text last.end behind after.1 (simple_behind text before last behind simple) quote))
    (λ none. none)
    (cases_Bool (begins is_quote (drop last.end text))) in
    let split = middle text name last.end within in
    let stands : IsTokenAt new last =
    word_stays text new last.end (2 + length name) last g (omega arith) token kind (ap (begins in_word) split)
    (closed_by (span text last) (drop last.end new) (ap (begins is_quote) split)) in
    let moves : AreTokensIn new (last.end + (2 + length name)) (length new) (map (moved (2 + length name)) behind) =
    subst (λ k. AreTokensIn new (last.end + (2 + length name)) k (map (moved (2 + length name)) behind)) (sym g.longer)
    (tokens_move text new last.end (2 + length name) behind last.end (length text) g (omega arith) after.1) in
    tokens_stay text new last.end (2 + length name) before last behind (comma_at last.end ∷ word_behind last.end (length name) ∷ map (moved (2 + length name)) behind)
    0 (length text) (length new) g refl tokens simple stands (
      IsFiller_none new last.end,
      comma_stands text name last.end within,
      (blank_between text name last.end within, new_word_stands text name last.end within word stops no_quote, moves),
    )

-- ---- what the tokens spell in the new text

-- the last of the tokens up to the inserted ones is in the text
pub last_within : (text : List ℕ) (before behind : List Token) (last : Token) → AreTokens text (before ++ last ∷ behind) → last.end ≤ length text
last_within text before behind last tokens = let token : IsTokenAt text last = (tokens_behind text before last behind 0 (length text) tokens).0 in token.within

-- the tokens up to the inserted ones spell what they spelled
pub spans_stay : (text name : List ℕ) (before behind : List Token) (last : Token) → AreTokens text (before ++ last ∷ behind)
    → AllByRecursion (λ t. span (inserted text last.end name) t ≡ span text t) (before ++ last ∷ [])
spans_stay text name before behind last tokens =
    let g = inserted_grows text name last.end (last_within text before behind last tokens) in
    spans_stay_by text (inserted text last.end name) last.end (2 + length name) before last behind 0 (length text) g refl tokens

-- the tokens behind the inserted ones spell, moved, what they spelled
pub spans_move : (text name : List ℕ) (before behind : List Token) (last : Token) → AreTokens text (before ++ last ∷ behind)
    → AllByRecursion (λ t. span (inserted text last.end name) (moved (2 + length name) t) ≡ span text t) behind
spans_move text name before behind last tokens =
    let after = tokens_behind text before last behind 0 (length text) tokens in
    let g = inserted_grows text name last.end (last_within text before behind last tokens) in
    spans_move_by text (inserted text last.end name) last.end (2 + length name) behind last.end (length text) g (omega arith) after.1

-- the tokens of the new text are Words and signs too
pub inserted_simple : (text name : List ℕ) (before behind : List Token) (last : Token) → AreTokens text (before ++ last ∷ behind)
    → AllByRecursion (IsSimple text) (before ++ last ∷ behind)
    → AllByRecursion (IsSimple (inserted text last.end name))
    (before ++ last ∷ comma_at last.end ∷ word_behind last.end (length name) ∷ map (moved (2 + length name)) behind)
inserted_simple text name before behind last tokens simple =
    let new : List ℕ = inserted text last.end name in
    let comma = span_comma text name last.end (last_within text before behind last tokens) in
    let after = simple_move text new (2 + length name) behind (spans_move text name before behind last tokens) (simple_behind text before last behind simple) in
    simple_stay text new before last behind (comma_at last.end ∷ word_behind last.end (length name) ∷ map (moved (2 + length name)) behind)
    (spans_stay text name before behind last tokens) simple (inr (refl, inr (inr comma)), (inl refl, after))
