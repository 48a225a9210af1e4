-- What playback leaves of a database (fileformat2.html, "The Rollback Journal").
use Rattle.std.specs.Prelude.{◌≡◌, ◌≤◌, ℕ, zero, suc, ◌-◌, ◌*◌, ◌==◌, nat_le, Bool, ◌||◌, if◌then◌else◌, List, [], ◌∷◌, ◌++◌, length, take, drop, Option, Some, None, is_some, unwrap_or}
use Rattle.rollback_journal.specs.Records.{Entry}

-- page n, from 1, of a file of pages of this size
abbrev pub file_page : ℕ → List ℕ → ℕ → List ℕ
file_page page db n = take page (drop ((n - 1) * page) db)

-- the bytes of the last entry of a page, where it has one
abbrev pub last_entry : List Entry → ℕ → Option (List ℕ)
last_entry [] n = None
last_entry (entry ∷ later) n = elim (last_entry later n) [
  | Some bytes ↦ Some bytes
  | None ↦ if entry.page == n then Some entry.bytes else None
]

-- a page after playback: its last entry, or else what the file has
abbrev pub page_after : ℕ → List Entry → List ℕ → ℕ → List ℕ
page_after page entries db n = unwrap_or (last_entry entries n) (file_page page db n)

-- the database after playback: its pages from 1 up to the size, and nothing more
unfoldable pub played : (page size : ℕ) → List Entry → List ℕ → List ℕ
played page zero entries db = []
played page (suc n) entries db = played page n entries db ++ page_after page entries db (suc n)

-- whether playback knows a page: it has an entry, or stands wholly in the file
abbrev pub is_known : ℕ → List Entry → List ℕ → ℕ → Bool
is_known page entries db n = is_some (last_entry entries n) || nat_le (n * page) (length db)

-- the first page up to the size that playback does not know
unfoldable pub first_missing : (page size : ℕ) → List Entry → List ℕ → Option ℕ
first_missing page zero entries db = None
first_missing page (suc n) entries db = elim (first_missing page n entries db) [
  | Some missing ↦ Some missing
  | None ↦ if is_known page entries db (suc n) then None else Some (suc n)
]

-- each page up to the size that has no entry and stood in the old file stands in the new one as it was
pub record KeepsUnjournaled (page size : ℕ) (entries : List Entry) (old new : List ℕ) : Type 0 where
  pub each : (n : ℕ) → 1 ≤ n → n ≤ size → last_entry entries n ≡ None → n * page ≤ length old → (n * page ≤ length new) × (file_page page new n ≡ file_page page old n)
