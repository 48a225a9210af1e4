-- A text that grew at a place: its bytes, blanks, comments and tokens before the place stay, and those behind it move.
use Rattle.std.proofs.Common.{◌≡◌, ℕ, ◌+◌, ◌-◌, ◌<◌, ◌≤◌, Bool, true, false, List, [], ◌∷◌, ◌++◌, ⊎_elim, inl, inr, length, take, drop, map, get_or, arith, add-zero, refl, sym, ap, subst, ◌∙◌}
use Rattle.std.specs.Prelude.{slice_range}
use Rattle.std.specs.List.{AllByRecursion}
use Rattle.std.proofs.lemmas.List.{get_or-drop, drop_more}
use Rattle.std.proofs.lemmas.List.Folds.{drop_split}
use Rattle.sql_token.specs.declared.token.Token.{Token}
use Rattle.sql_token.specs.declared.token.TokenKind.TheVariants.{Word, Op}
use Rattle.sql_token.specs.Byte.{is_blank, in_word, begins}
use Rattle.sql_token.specs.Filler.{EndsBlock, BeginsComment, IsBlankAt, IsLineComment, IsBlockComment, IsGap, AreGaps, IsFiller}
use Rattle.sql_token.specs.Form.{IsForm}
use Rattle.sql_token.specs.Token.{span, is_spoiled, IsTokenAt, AreTokensIn}
use Rattle.common_laws.proofs.Lists.{range_length}
use Rattle.sql_token.proofs.Words.{is_quote}
use Rattle.sql_token.proofs.Stands.{is_list_sign, IsSimple, word_stands, word_ends, word_form, word_is_closed, spoiled_by, sign_stands, simple_cases}

-- ---- a text that grew at a place

-- the new text is the old one with so many bytes put in at the place
pub record Grows (text new : List ℕ) (at more : ℕ) : Type 0 where
  pub within : at ≤ length text
  pub longer : length new ≡ length text + more
  pub before : (k : ℕ) → k < at → get_or new k 0 ≡ get_or text k 0
  pub ranges : (from to : ℕ) → from ≤ to → to ≤ at → slice_range new from to ≡ slice_range text from to
  pub behind : (k : ℕ) → at ≤ k → drop (k + more) new ≡ drop k text

-- the token so many bytes further
abbrev pub moved : ℕ → Token → Token
moved more t = record { kind = t.kind; start = t.start + more; end = t.end + more }

-- a byte from the place on, where it stands in the new text
byte_moves : (text new : List ℕ) (at more k j : ℕ) → Grows text new at more → at ≤ k → j ≡ k + more → get_or new j 0 ≡ get_or text k 0
byte_moves text new at more k j g past is =
    ap (λ n. get_or new n 0) (is ∙ sym (add-zero (k + more))) ∙ sym (get_or-drop (k + more) new 0 0) ∙ ap (λ l. get_or l 0 0) (g.behind k past) ∙ get_or-drop k text 0 0
    ∙ ap (λ n. get_or text n 0) (add-zero k)

-- two bytes before the place stay
two_stay : (text new : List ℕ) (at more k a b : ℕ) → Grows text new at more → k + 1 < at → (get_or text k 0 ≡ a) × (get_or text (k + 1) 0 ≡ b)
    → (get_or new k 0 ≡ a) × (get_or new (k + 1) 0 ≡ b)
two_stay text new at more k a b g less both = (g.before k (omega arith) ∙ both.0, g.before (k + 1) less ∙ both.1)

-- two bytes before the place stood in the old text
two_stood : (text new : List ℕ) (at more k a b : ℕ) → Grows text new at more → k + 1 < at → (get_or new k 0 ≡ a) × (get_or new (k + 1) 0 ≡ b)
    → (get_or text k 0 ≡ a) × (get_or text (k + 1) 0 ≡ b)
two_stood text new at more k a b g less both = (sym (g.before k (omega arith)) ∙ both.0, sym (g.before (k + 1) less) ∙ both.1)

-- two bytes from the place on move
two_move : (text new : List ℕ) (at more k j a b : ℕ) → Grows text new at more → at ≤ k → j ≡ k + more → (get_or text k 0 ≡ a) × (get_or text (k + 1) 0 ≡ b)
    → (get_or new j 0 ≡ a) × (get_or new (j + 1) 0 ≡ b)
two_move text new at more k j a b g past is both =
    (byte_moves text new at more k j g past is ∙ both.0, byte_moves text new at more (k + 1) (j + 1) g (omega arith) (omega arith) ∙ both.1)

-- two bytes from the place on were there in the old text
two_moved : (text new : List ℕ) (at more k j a b : ℕ) → Grows text new at more → at ≤ k → j ≡ k + more → (get_or new j 0 ≡ a) × (get_or new (j + 1) 0 ≡ b)
    → (get_or text k 0 ≡ a) × (get_or text (k + 1) 0 ≡ b)
two_moved text new at more k j a b g past is both =
    (sym (byte_moves text new at more k j g past is) ∙ both.0, sym (byte_moves text new at more (k + 1) (j + 1) g (omega arith) (omega arith)) ∙ both.1)

-- ---- blanks and comments

-- a blank or comment is not empty
gap_ascends : (text : List ℕ) (at end : ℕ) → IsGap text at end → at < end
gap_ascends text at end gap =
    ⊎_elim
    (λ blank. omega (arith, blank.1))
    (λ comment. ⊎_elim
    (λ line. omega (arith, line.past_opening))
    (λ block. ⊎_elim (λ ends. omega (arith, ends.1, block.past_opening)) (λ past. omega (arith, past.1, block.past_opening)) block.ends)
    comment)
    gap

-- blanks and comments one behind the other end no earlier than they begin
gaps_ascend : (text ends : List ℕ) (from to : ℕ) → AreGaps text from ends to → from ≤ to
gaps_ascend text [] from to gaps = omega (arith, gaps)
gaps_ascend text (end ∷ ends) from to gaps = omega (arith, gap_ascends text from end gaps.0, gaps_ascend text ends end to gaps.1)

-- blanks and comments end no earlier than they begin
pub filler_ascends : (text : List ℕ) (from to : ℕ) → IsFiller text from to → from ≤ to
filler_ascends text from to filler = gaps_ascend text filler.ends from to filler.gaps

-- a line comment that ends before the place stays
line_stays : (text new : List ℕ) (at more from to : ℕ) → Grows text new at more → to < at → IsLineComment text from to → IsLineComment new from to
line_stays text new at more from to g less line = record {
  begins = two_stay text new at more from 45 45 g (omega (arith, line.past_opening)) line.begins;
  past_opening = line.past_opening;
  within = omega (arith, line.within, g.longer);
  one_line = λ k low high feed. line.one_line k low high (sym (g.before k (omega arith)) ∙ feed);
  ends = λ _. g.before to less ∙ line.ends (omega (arith, g.within));
}

-- a block comment that ends before the place stays: it is closed, since the text goes on
block_stays : (text new : List ℕ) (at more from to : ℕ) → Grows text new at more → to < at → IsBlockComment text from to → IsBlockComment new from to
block_stays text new at more from to g less block =
    let ended : EndsBlock text block.close × (to ≡ block.close + 2) =
    ⊎_elim (λ ends. ends) (λ past. absurd (omega (arith, past.0, past.1, g.within))) block.ends in
    let opening : from + 2 ≤ block.close = block.past_opening in
    let last : to ≡ block.close + 2 = ended.1 in
    record {
      begins = two_stay text new at more from 47 42 g (omega arith) block.begins;
      within = omega (arith, block.within, g.longer);
      close = block.close;
      past_opening = opening;
      first = λ k low high ends. block.first k low high (two_stood text new at more k 42 47 g (omega arith) ends);
      ends = inl (two_stay text new at more block.close 42 47 g (omega arith) ended.0, last);
    }

-- a blank before the place stays
blank_stays : (text new : List ℕ) (at more from : ℕ) → Grows text new at more → from < at → IsBlankAt text from → IsBlankAt new from
blank_stays text new at more from g less blank =
    record { within = omega (arith, blank.within, g.longer); blank = ap is_blank (g.before from less) ∙ blank.blank }

-- a blank or comment that ends before the place stays
gap_stays : (text new : List ℕ) (at more from to : ℕ) → Grows text new at more → to < at → IsGap text from to → IsGap new from to
gap_stays text new at more from to g less gap =
    ⊎_elim
    (λ blank. inl (blank_stays text new at more from g (omega (arith, blank.1)) blank.0, blank.1))
    (λ comment. inr (⊎_elim (λ line. inl (line_stays text new at more from to g less line)) (λ block. inr (block_stays text new at more from to g less block)) comment))
    gap

-- blanks and comments one behind the other that end before the place stay
gaps_stay : (text new : List ℕ) (at more : ℕ) (ends : List ℕ) (from to : ℕ) → Grows text new at more → to < at → AreGaps text from ends to → AreGaps new from ends to
gaps_stay text new at more [] from to g less gaps = gaps
gaps_stay text new at more (end ∷ ends) from to g less gaps =
    (gap_stays text new at more from end g (omega (arith, gaps_ascend text ends end to gaps.1)) gaps.0, gaps_stay text new at more ends end to g less gaps.1)

-- blanks and comments that end before the place stay
pub filler_stays : (text new : List ℕ) (at more from to : ℕ) → Grows text new at more → to < at → IsFiller text from to → IsFiller new from to
filler_stays text new at more from to g less filler = record { ends = filler.ends; gaps = gaps_stay text new at more filler.ends from to g less filler.gaps }

-- a line comment from the place on moves
line_moves : (text new : List ℕ) (at more from to : ℕ) → Grows text new at more → at ≤ from → IsLineComment text from to → IsLineComment new (from + more) (to + more)
line_moves text new at more from to g past line =
    let opening : from + 2 ≤ to = line.past_opening in
    record {
      begins = two_move text new at more from (from + more) 45 45 g past refl line.begins;
      past_opening = omega arith;
      within = omega (arith, line.within, g.longer);
      one_line = λ k low high feed.
          line.one_line (k - more) (omega arith) (omega arith) (sym (byte_moves text new at more (k - more) k g (omega arith) (omega arith)) ∙ feed);
      ends = λ less. byte_moves text new at more to (to + more) g (omega arith) refl ∙ line.ends (omega (arith, less, g.longer));
    }

-- a block comment from the place on moves
block_moves : (text new : List ℕ) (at more from to : ℕ) → Grows text new at more → at ≤ from → IsBlockComment text from to
    → IsBlockComment new (from + more) (to + more)
block_moves text new at more from to g past block =
    let opening : from + 2 ≤ block.close = block.past_opening in
    record {
      begins = two_move text new at more from (from + more) 47 42 g past refl block.begins;
      within = omega (arith, block.within, g.longer);
      close = block.close + more;
      past_opening = omega arith;
      first = λ k low high ends. block.first (k - more) (omega arith) (omega arith) (two_moved text new at more (k - more) k 42 47 g (omega arith) (omega arith) ends);
      ends = ⊎_elim
          (λ ends. inl (two_move text new at more block.close (block.close + more) 42 47 g (omega arith) refl ends.0, omega (arith, ends.1)))
          (λ end. inr (omega (arith, end.0, g.longer), omega (arith, end.1)))
          block.ends;
    }

-- a blank from the place on moves
blank_moves : (text new : List ℕ) (at more from : ℕ) → Grows text new at more → at ≤ from → IsBlankAt text from → IsBlankAt new (from + more)
blank_moves text new at more from g past blank =
    record { within = omega (arith, blank.within, g.longer); blank = ap is_blank (byte_moves text new at more from (from + more) g past refl) ∙ blank.blank }

-- a blank or comment from the place on moves
gap_moves : (text new : List ℕ) (at more from to : ℕ) → Grows text new at more → at ≤ from → IsGap text from to → IsGap new (from + more) (to + more)
gap_moves text new at more from to g past gap =
    ⊎_elim
    (λ blank. inl (blank_moves text new at more from g past blank.0, omega (arith, blank.1)))
    (λ comment. inr (⊎_elim (λ line. inl (line_moves text new at more from to g past line)) (λ block. inr (block_moves text new at more from to g past block)) comment))
    gap

-- blanks and comments one behind the other move from the place on
gaps_move : (text new : List ℕ) (at more : ℕ) (ends : List ℕ) (from to : ℕ) → Grows text new at more → at ≤ from → AreGaps text from ends to
    → AreGaps new (from + more) (map (λ end. end + more) ends) (to + more)
gaps_move text new at more [] from to g past gaps = ap (λ k. k + more) gaps
gaps_move text new at more (end ∷ ends) from to g past gaps =
    (gap_moves text new at more from end g past gaps.0, gaps_move text new at more ends end to g (omega (arith, gap_ascends text from end gaps.0)) gaps.1)

-- blanks and comments from the place on move
pub filler_moves : (text new : List ℕ) (at more from to : ℕ) → Grows text new at more → at ≤ from → IsFiller text from to → IsFiller new (from + more) (to + more)
filler_moves text new at more from to g past filler =
    record { ends = map (λ end. end + more) filler.ends; gaps = gaps_move text new at more filler.ends from to g past filler.gaps }

-- ---- the tokens from the place on

-- the bytes from the place on move
range_moves : (text new : List ℕ) (at more from to low high : ℕ) → Grows text new at more → at ≤ from → low ≡ from + more → high ≡ to + more
    → slice_range new low high ≡ slice_range text from to
range_moves text new at more from to low high g past lows highs =
    let size : high - low ≡ to - from = omega arith in
    ap (λ n. take n (drop low new)) size ∙ ap (take (to - from)) (ap (λ n. drop n new) lows ∙ g.behind from past)

-- a moved token spells what it spelled
pub span_moves : (text new : List ℕ) (at more : ℕ) (t : Token) → Grows text new at more → at ≤ t.start → span new (moved more t) ≡ span text t
span_moves text new at more t g past = range_moves text new at more t.start t.end (t.start + more) (t.end + more) g past refl refl

-- a comment that begins from the place on began in the old text
comment_back : (text new : List ℕ) (at more from : ℕ) → Grows text new at more → at ≤ from → BeginsComment new (from + more) → BeginsComment text from
comment_back text new at more from g past comment =
    ⊎_elim
    (λ line. inl (two_moved text new at more from (from + more) 45 45 g past refl line))
    (λ block. inr (two_moved text new at more from (from + more) 47 42 g past refl block))
    comment

-- a token from the place on moves
pub token_moves : (text new : List ℕ) (at more : ℕ) (t : Token) → Grows text new at more → at ≤ t.start → IsTokenAt text t → IsTokenAt new (moved more t)
token_moves text new at more t g past token =
    let same = span_moves text new at more t g past in
    let ascends : t.start < t.end = token.ascends in
    record {
      ascends = omega arith;
      within = omega (arith, token.within, g.longer);
      form = subst (IsForm t.kind) (sym same) token.form;
      longest = λ kind end further bound form.
          token.longest kind (end - more) (omega arith) (omega (arith, bound, g.longer))
          (subst (IsForm kind) (range_moves text new at more t.start (end - more) (t.start + more) end g past refl (omega arith)) form);
      free_of_comment = λ comment. token.free_of_comment (comment_back text new at more t.start g past comment);
      closed = ap (λ l. is_spoiled t.kind l (drop (t.end + more) new)) same ∙ ap (is_spoiled t.kind (span text t)) (g.behind t.end (omega arith)) ∙ token.closed;
    }

-- the tokens from the place on move
pub tokens_move : (text new : List ℕ) (at more : ℕ) (list : List Token) (from to : ℕ) → Grows text new at more → at ≤ from → AreTokensIn text from to list
    → AreTokensIn new (from + more) (to + more) (map (moved more) list)
tokens_move text new at more [] from to g past tokens = filler_moves text new at more from to g past tokens
tokens_move text new at more (t ∷ list) from to g past tokens =
    let begins : from ≤ t.start = filler_ascends text from t.start tokens.0 in (
      filler_moves text new at more from t.start g past tokens.0,
      token_moves text new at more t g (omega arith) tokens.1,
      tokens_move text new at more list t.end to g (omega (arith, tokens.1.ascends)) tokens.2,
    )

-- ---- the tokens before the place

-- a token before the place spells what it spelled
pub span_stays : (text new : List ℕ) (at more : ℕ) (t : Token) → Grows text new at more → t.start ≤ t.end → t.end ≤ at → span new t ≡ span text t
span_stays text new at more t g ordered less = g.ranges t.start t.end ordered less

-- what stands behind a token before the place
split_stays : (text new : List ℕ) (at more : ℕ) (t : Token) → Grows text new at more → t.start ≤ t.end → t.end ≤ at → drop t.start new ≡ span text t ++ drop t.end new
split_stays text new at more t g ordered less =
    drop_split new t.start t.end ordered ∙ ap (λ l. l ++ drop t.end new) (span_stays text new at more t g ordered less)

-- whether what stands at a place begins with a byte of the class
begins_drop : (p : ℕ → Bool) (text : List ℕ) (at : ℕ) → at < length text → begins p (drop at text) ≡ p (get_or text at 0)
begins_drop p text at within = ap (begins p) (drop_more text at 0 within)

-- a byte before the place is of the class that it was of
begins_stays : (text new : List ℕ) (at more k : ℕ) (p : ℕ → Bool) → Grows text new at more → k < at → begins p (drop k new) ≡ begins p (drop k text)
begins_stays text new at more k p g less =
    begins_drop p new k (omega (arith, g.within, g.longer)) ∙ ap p (g.before k less) ∙ sym (begins_drop p text k (omega (arith, g.within)))

-- the length of a token
token_length : (text : List ℕ) (t : Token) → IsTokenAt text t → t.end ≡ t.start + length (span text t)
token_length text t token = omega (arith, range_length text t.start t.end token.within, token.ascends)

-- a sign up to the place stays
sign_stays : (text new : List ℕ) (at more : ℕ) (t : Token) (b : ℕ) → Grows text new at more → t.end ≤ at → IsTokenAt text t → t.kind ≡ Op → is_list_sign b ≡ true
    → span text t ≡ b ∷ [] → IsTokenAt new t
sign_stays text new at more t b g less token kind sign spelled =
    sign_stands new t b (drop t.end new) kind (omega (arith, token_length text t token, ap length spelled))
    (split_stays text new at more t g (omega (arith, token.ascends)) less ∙ ap (λ l. l ++ drop t.end new) spelled) sign

-- a Word up to the place stays where its end does
pub word_stays : (text new : List ℕ) (at more : ℕ) (t : Token) → Grows text new at more → t.end ≤ at → IsTokenAt text t → t.kind ≡ Word
    → begins in_word (drop t.end new) ≡ false
    → is_spoiled Word (span text t) (drop t.end new) ≡ false → IsTokenAt new t
word_stays text new at more t g less token kind stops closed =
    let split = split_stays text new at more t g (omega (arith, token.ascends)) less in
    word_stands new t (span text t) (drop t.end new) kind (token_length text t token) split (word_form text t token kind) stops closed

-- a simple token that ends before the place stays
pub token_stays : (text new : List ℕ) (at more : ℕ) (t : Token) → Grows text new at more → t.end < at → IsTokenAt text t → IsSimple text t → IsTokenAt new t
token_stays text new at more t g less token simple =
    ⊎_elim
    (λ word. word_stays text new at more t g (omega arith) token word
    (begins_stays text new at more t.end in_word g less ∙ word_ends text t token word)
    (spoiled_by (span text t) (drop t.end new) (drop t.end text) (begins_stays text new at more t.end is_quote g less) ∙ word_is_closed text t token word))
    (λ sign. sign_stays text new at more t sign.1.0 g (omega arith) token sign.0 sign.1.1 sign.1.2)
    (simple_cases text t simple)

-- a token of a list ends behind where the list begins
pub ends_behind : (text : List ℕ) (before : List Token) (last : Token) (behind : List Token) (from to : ℕ) → AreTokensIn text from to (before ++ last ∷ behind)
    → from < last.end
ends_behind text [] last behind from to tokens = omega (arith, filler_ascends text from last.start tokens.0, tokens.1.ascends)
ends_behind text (t ∷ before) last behind from to tokens =
    omega (arith, filler_ascends text from t.start tokens.0, tokens.1.ascends, ends_behind text before last behind t.end to tokens.2)

-- the tokens up to the place stay, before others that follow the last of them
pub tokens_stay : (text new : List ℕ) (at more : ℕ) (before : List Token) (last : Token) (behind others : List Token) (from to end : ℕ) → Grows text new at more
    → last.end ≡ at
    → AreTokensIn text from to (before ++ last ∷ behind) → AllByRecursion (IsSimple text) (before ++ last ∷ behind) → IsTokenAt new last → AreTokensIn new at end others
    → AreTokensIn new from end (before ++ last ∷ others)
tokens_stay text new at more [] last behind others from to end g is tokens simple stands after =
    (filler_stays text new at more from last.start g (omega (arith, tokens.1.ascends)) tokens.0, stands, subst (λ k. AreTokensIn new k end others) (sym is) after)
tokens_stay text new at more (t ∷ before) last behind others from to end g is tokens simple stands after =
    let beyond : t.end < last.end = ends_behind text before last behind t.end to tokens.2 in (
      filler_stays text new at more from t.start g (omega (arith, tokens.1.ascends)) tokens.0,
      token_stays text new at more t g (omega arith) tokens.1 simple.0,
      tokens_stay text new at more before last behind others t.end to end g is tokens.2 simple.1 stands after,
    )

-- ---- what the tokens spell

-- the tokens up to the place spell what they spelled
pub spans_stay_by : (text new : List ℕ) (at more : ℕ) (before : List Token) (last : Token) (behind : List Token) (from to : ℕ) → Grows text new at more → last.end ≡ at
    → AreTokensIn text from to (before ++ last ∷ behind) → AllByRecursion (λ t. span new t ≡ span text t) (before ++ last ∷ [])
spans_stay_by text new at more [] last behind from to g is tokens = (span_stays text new at more last g (omega (arith, tokens.1.ascends)) (omega arith), tt)
spans_stay_by text new at more (t ∷ before) last behind from to g is tokens = (
  span_stays text new at more t g (omega (arith, tokens.1.ascends)) (omega (arith, ends_behind text before last behind t.end to tokens.2)),
  spans_stay_by text new at more before last behind t.end to g is tokens.2,
)

-- the tokens from the place on spell, moved, what they spelled
pub spans_move_by : (text new : List ℕ) (at more : ℕ) (list : List Token) (from to : ℕ) → Grows text new at more → at ≤ from → AreTokensIn text from to list
    → AllByRecursion (λ t. span new (moved more t) ≡ span text t) list
spans_move_by text new at more [] from to g past tokens = tt
spans_move_by text new at more (t ∷ list) from to g past tokens =
    let begins : from ≤ t.start = filler_ascends text from t.start tokens.0 in
    (span_moves text new at more t g (omega arith), spans_move_by text new at more list t.end to g (omega (arith, tokens.1.ascends)) tokens.2)

-- a token of the same kind and bytes is as simple
simple_same : (text new : List ℕ) (t u : Token) → t.kind ≡ u.kind → span new u ≡ span text t → IsSimple text t → IsSimple new u
simple_same text new t u kinds spans simple =
    ⊎_elim
    (λ word. inl (sym kinds ∙ word))
    (λ sign. inr (sym kinds ∙ sign.0, ⊎_elim (λ e. inl (spans ∙ e)) (λ other. ⊎_elim (λ e. inr (inl (spans ∙ e))) (λ e. inr (inr (spans ∙ e))) other) sign.1))
    simple

-- the tokens up to the place are simple still
pub simple_stay : (text new : List ℕ) (before : List Token) (last : Token) (behind others : List Token)
    → AllByRecursion (λ t. span new t ≡ span text t) (before ++ last ∷ [])
    → AllByRecursion (IsSimple text) (before ++ last ∷ behind) → AllByRecursion (IsSimple new) others → AllByRecursion (IsSimple new) (before ++ last ∷ others)
simple_stay text new [] last behind others spans simple after = (simple_same text new last last refl spans.0 simple.0, after)
simple_stay text new (t ∷ before) last behind others spans simple after =
    (simple_same text new t t refl spans.0 simple.0, simple_stay text new before last behind others spans.1 simple.1 after)

-- the tokens from the place on are simple, moved
pub simple_move : (text new : List ℕ) (more : ℕ) (list : List Token) → AllByRecursion (λ t. span new (moved more t) ≡ span text t) list
    → AllByRecursion (IsSimple text) list → AllByRecursion (IsSimple new) (map (moved more) list)
simple_move text new more [] spans simple = tt
simple_move text new more (t ∷ list) spans simple = (simple_same text new t (moved more t) refl spans.0 simple.0, simple_move text new more list spans.1 simple.1)
