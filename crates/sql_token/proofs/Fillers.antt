-- Blanks and comments: where one ends is fixed, so where they all end is.
use Rattle.std.proofs.Common.{◌≡◌, ℕ, ◌<◌, ◌≤◌, ◌⊎◌, ⊎_elim, inl, inr, true, List, [], ◌∷◌, ◌++◌, length, get_or, arith, refl, sym, ap, subst, ◌∙◌}
use Rattle.std.proofs.lemmas.Bool.{cases_lt}
use Rattle.sql_token.specs.Byte.{is_blank}
use Rattle.std.proofs.lemmas.List.{get_or_past}
use Rattle.sql_token.specs.Filler.{BeginsComment, IsBlankAt, IsLineComment, IsBlockComment, IsComment, IsGap, AreGaps, IsFiller}

-- a byte that is not 0 is there
pub within_from : (text : List ℕ) (at b : ℕ) → get_or text at 0 ≡ b → 0 < b → at < length text
within_from text at b is positive = ⊎_elim (λ here. here) (λ past. absurd (omega (arith, get_or_past text at 0 past))) (cases_lt at (length text))

-- one more blank or comment
AreGaps_push : (text ends : List ℕ) (from at end : ℕ) → AreGaps text from ends at → IsGap text at end → AreGaps text from (ends ++ end ∷ []) end
AreGaps_push text [] from at end start gap = (subst (λ k. IsGap text k end) (sym start) gap, refl)
AreGaps_push text (next ∷ ends) from at end gaps gap = (gaps.0, AreGaps_push text ends next at end gaps.1 gap)

pub IsFiller_push : (text : List ℕ) (from at end : ℕ) → IsFiller text from at → IsGap text at end → IsFiller text from end
IsFiller_push text from at end filler gap = record { ends = filler.ends ++ end ∷ []; gaps = AreGaps_push text filler.ends from at end filler.gaps gap }

pub IsFiller_none : (text : List ℕ) (at : ℕ) → IsFiller text at at
IsFiller_none text at = record { ends = []; gaps = refl }

-- a byte is no blank where a comment begins
blank_apart : (b : ℕ) → is_blank b ≡ true → (b ≡ 45) ⊎ (b ≡ 47) → ⊥
blank_apart b blank begins =
    ⊎_elim
    (λ dash. let computed : is_blank 45 ≡ true = sym (ap is_blank dash) ∙ blank in cc)
    (λ slash. let computed : is_blank 47 ≡ true = sym (ap is_blank slash) ∙ blank in cc)
    begins

pub no_comment_at_blank : (text : List ℕ) (at : ℕ) → IsBlankAt text at → BeginsComment text at → ⊥
no_comment_at_blank text at blank comment =
    blank_apart (get_or text at 0) blank.blank (⊎_elim (λ line. inl line.0) (λ block. inr block.0) comment)

-- a comment begins where it does
pub begins_comment : (text : List ℕ) (at end : ℕ) → IsComment text at end → BeginsComment text at
begins_comment text at end comment = ⊎_elim (λ line. inl line.begins) (λ block. inr block.begins) comment

cases_le : (m n : ℕ) → (m ≤ n) ⊎ (n < m)
cases_le m n = ⊎_elim (λ less. inr less) (λ more. inl more) (cases_lt n m)

-- a line comment has one end
line_end_one : (text : List ℕ) (at end other : ℕ) → IsLineComment text at end → IsLineComment text at other → end ≤ other
line_end_one text at end other one two =
    ⊎_elim (λ less. less)
    (λ more. absurd (one.one_line other two.past_opening more (two.ends (omega (arith, one.within)))))
    (cases_le end other)

-- the `*/` of a block comment, or the end that stands for it, is in the text
close_within : (text : List ℕ) (at end : ℕ) (block : IsBlockComment text at end) → block.close ≤ length text
close_within text at end block = ⊎_elim (λ ends. omega (arith, block.within, ends.1)) (λ past. omega (arith, past.0)) block.ends

-- where the `*/` of a block comment may be, no later one is
close_first : (text : List ℕ) (at end other : ℕ) (one : IsBlockComment text at end) (two : IsBlockComment text at other) → one.close ≤ two.close
close_first text at end other one two =
    ⊎_elim (λ less. less)
    (λ more.
    ⊎_elim
    (λ ends. absurd (one.first two.close two.past_opening more ends.0))
    (λ past. omega (arith, close_within text at end one))
    two.ends)
    (cases_le one.close two.close)

same_close : (text : List ℕ) (at end other : ℕ) (one : IsBlockComment text at end) (two : IsBlockComment text at other) → one.close ≡ two.close
same_close text at end other one two = omega (arith, close_first text at end other one two, close_first text at other end two one)

-- a block comment has one end
block_end_one : (text : List ℕ) (at end other : ℕ) → IsBlockComment text at end → IsBlockComment text at other → end ≡ other
block_end_one text at end other one two =
    let same = same_close text at end other one two in
    ⊎_elim
    (λ a. ⊎_elim (λ b. omega (arith, a.1, b.1, same)) (λ b. absurd (omega (arith, within_from text one.close 42 a.0.0 (omega arith), b.0, same))) two.ends)
    (λ a. ⊎_elim (λ b. absurd (omega (arith, within_from text two.close 42 b.0.0 (omega arith), a.0, same))) (λ b. omega (arith, a.1, b.1, same)) two.ends)
    one.ends

-- a line comment begins where no block comment does
line_apart : (text : List ℕ) (at : ℕ) → get_or text at 0 ≡ 45 → get_or text at 0 ≡ 47 → ⊥
line_apart text at dash slash = omega arith

comment_end_one : (text : List ℕ) (at end other : ℕ) → IsComment text at end → IsComment text at other → end ≡ other
comment_end_one text at end other one two =
    ⊎_elim
    (λ a. ⊎_elim (λ b. omega (arith, line_end_one text at end other a b, line_end_one text at other end b a)) (λ b. absurd (line_apart text at a.begins.0 b.begins.0)) two)
    (λ a. ⊎_elim (λ b. absurd (line_apart text at b.begins.0 a.begins.0)) (λ b. block_end_one text at end other a b) two)
    one

-- a blank or comment has one end
pub gap_end_one : (text : List ℕ) (at end other : ℕ) → IsGap text at end → IsGap text at other → end ≡ other
gap_end_one text at end other one two =
    ⊎_elim
    (λ a. ⊎_elim (λ b. a.1 ∙ sym b.1) (λ b. absurd (no_comment_at_blank text at a.0 (begins_comment text at other b))) two)
    (λ a. ⊎_elim (λ b. absurd (no_comment_at_blank text at b.0 (begins_comment text at end a))) (λ b. comment_end_one text at end other a b) two)
    one

-- neither a blank nor a comment begins at the place
pub record IsFree (text : List ℕ) (at : ℕ) : Type 0 where
  pub no_blank : IsBlankAt text at → ⊥
  pub no_comment : BeginsComment text at → ⊥

pub no_gap : (text : List ℕ) (at end : ℕ) → IsFree text at → IsGap text at end → ⊥
no_gap text at end free gap = ⊎_elim (λ blank. free.no_blank blank.0) (λ comment. free.no_comment (begins_comment text at end comment)) gap

-- two runs of blanks and comments from one place, which both end where none begins, have one end
gaps_meet : (text ends : List ℕ) (from at : ℕ) (others : List ℕ) (to : ℕ) → IsFree text at → IsFree text to → AreGaps text from ends at → AreGaps text from others to → at ≡ to
gaps_meet text [] from at [] to free_at free_to one two = sym one ∙ two
gaps_meet text [] from at (next ∷ others) to free_at free_to one two = absurd (no_gap text at next free_at (subst (λ k. IsGap text k next) one two.0))
gaps_meet text (next ∷ ends) from at [] to free_at free_to one two = absurd (no_gap text to next free_to (subst (λ k. IsGap text k next) two one.0))
gaps_meet text (next ∷ ends) from at (other ∷ others) to free_at free_to one two =
    gaps_meet text ends next at others to free_at free_to one.1 (subst (λ k. AreGaps text k others to) (sym (gap_end_one text from next other one.0 two.0)) two.1)

pub fillers_meet : (text : List ℕ) (from at to : ℕ) → IsFree text at → IsFree text to → IsFiller text from at → IsFiller text from to → at ≡ to
fillers_meet text from at to free_at free_to one two = gaps_meet text one.ends from at two.ends to free_at free_to one.gaps two.gaps
