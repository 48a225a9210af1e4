-- A cursor over the records of a journal.
use Rattle.std.specs.Prelude.{◌≡◌, ℕ, ◌≤◌, ◌<◌, List, [], ◌∷◌, length, Option, Some, None}
use Rattle.rollback_journal.specs.declared.header.Header.{Header}
use Rattle.rollback_journal.specs.declared.record.Verdict.{Verdict}
use Rattle.rollback_journal.specs.declared.record.Verdict.TheVariants.{End, Skip, Take}
use Rattle.rollback_journal.specs.declared.cursor.Cursor.{Cursor}
use Rattle.rollback_journal.specs.Records.{Entry, entries_from}

-- the entries that playback takes from the cursor on
abbrev pub entries_left : List ℕ → Cursor → List Entry
entries_left journal c = entries_from (length journal) journal c.header c.nonce c.left c.at

-- a step over entries found the end, or nothing, or the first of those before it, with these bytes
abbrev pub Passes : List Entry → List Entry → List ℕ → Verdict → Type 0
Passes before after bytes End = before ≡ []
Passes before after bytes Skip = before ≡ after
Passes before after bytes (Take n) = before ≡ record { page = n; bytes = bytes } ∷ after

-- several steps found the first entry, or the end
abbrev pub Gives : List Entry → List Entry → List ℕ → Option ℕ → Type 0
Gives before after bytes None = before ≡ []
Gives before after bytes (Some n) = before ≡ record { page = n; bytes = bytes } ∷ after

-- a page's number is one of those up to the size
abbrev pub IsPage : Header → Option ℕ → Type 0
IsPage h None = Unit {0}
IsPage h (Some n) = (1 ≤ n) × (n ≤ h.size)

-- the page that a verdict names
abbrev pub page_of : Verdict → Option ℕ
page_of End = None
page_of Skip = None
page_of (Take n) = Some n

-- unless it found the end, a step went on by a byte at least, and so did several
abbrev pub Advances : Cursor → Cursor → Verdict → Type 0
Advances old new End = Unit {0}
Advances old new Skip = old.at < new.at
Advances old new (Take n) = old.at < new.at

abbrev pub AdvancesFor : Cursor → Cursor → Option ℕ → Type 0
AdvancesFor old new None = Unit {0}
AdvancesFor old new (Some n) = old.at < new.at

-- a cursor that went on in its journal
pub record GoesOn (old new : Cursor) : Type 0 where
  pub header : new.header ≡ old.header
  pub len : new.len ≡ old.len
  pub forward : old.at ≤ new.at
