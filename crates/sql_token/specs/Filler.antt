-- What stands between tokens: blanks and comments (lang_comment.html).
use Rattle.std.specs.Prelude.{◌≡◌, ◌≢◌, ◌<◌, ◌≤◌, ℕ, ◌+◌, ◌⊎◌, List, [], ◌∷◌, length, slice_index, IsTrue}
use Rattle.sql_token.specs.Byte.{is_blank}

-- `--` stands at the place
abbrev pub BeginsLine : List ℕ → ℕ → Type 0
BeginsLine text at = (slice_index text at ≡ 45) × (slice_index text (at + 1) ≡ 45)

-- `/*` stands at the place
abbrev pub BeginsBlock : List ℕ → ℕ → Type 0
BeginsBlock text at = (slice_index text at ≡ 47) × (slice_index text (at + 1) ≡ 42)

-- `*/` stands at the place
abbrev pub EndsBlock : List ℕ → ℕ → Type 0
EndsBlock text at = (slice_index text at ≡ 42) × (slice_index text (at + 1) ≡ 47)

-- a comment begins at the place
abbrev pub BeginsComment : List ℕ → ℕ → Type 0
BeginsComment text at = BeginsLine text at ⊎ BeginsBlock text at

-- from `--` to a line feed, which is not part of it, or to the text's end
pub record IsLineComment (text : List ℕ) (at end : ℕ) : Type 0 where
  pub begins : BeginsLine text at
  pub past_opening : at + 2 ≤ end
  pub within : end ≤ length text
  pub one_line : (k : ℕ) → at + 2 ≤ k → k < end → slice_index text k ≢ 10
  pub ends : end < length text → slice_index text end ≡ 10

-- from `/*` to behind the first `*/` that begins behind it, or to the text's end where there is none
pub record IsBlockComment (text : List ℕ) (at end : ℕ) : Type 0 where
  pub begins : BeginsBlock text at
  pub within : end ≤ length text
  -- the place of the `*/`, or of the text's end
  pub close : ℕ
  pub past_opening : at + 2 ≤ close
  pub first : (k : ℕ) → at + 2 ≤ k → k < close → EndsBlock text k → ⊥
  pub ends : (EndsBlock text close × (end ≡ close + 2)) ⊎ ((close ≡ length text) × (end ≡ close))

-- a comment from its first byte to behind its last
abbrev pub IsComment : List ℕ → ℕ → ℕ → Type 0
IsComment text at end = IsLineComment text at end ⊎ IsBlockComment text at end

-- a byte at the place is a blank
pub record IsBlankAt (text : List ℕ) (at : ℕ) : Type 0 where
  pub within : at < length text
  pub blank : IsTrue (is_blank (slice_index text at))

-- one blank or one comment
abbrev pub IsGap : List ℕ → ℕ → ℕ → Type 0
IsGap text at end = (IsBlankAt text at × (end ≡ at + 1)) ⊎ IsComment text at end

-- blanks and comments one behind the other, which end at these places
abbrev pub AreGaps : List ℕ → ℕ → List ℕ → ℕ → Type 0
AreGaps text from [] to = from ≡ to
AreGaps text from (end ∷ ends) to = IsGap text from end × AreGaps text end ends to

-- the bytes from..to are blanks and whole comments
pub record IsFiller (text : List ℕ) (from to : ℕ) : Type 0 where
  pub ends : List ℕ
  pub gaps : AreGaps text from ends to
