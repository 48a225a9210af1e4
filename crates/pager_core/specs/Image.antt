-- The image of a database file: the list of its pages.
use Rattle.std.specs.Prelude.{ℕ, zero, suc, ◌*◌, nat_le, if◌then◌else◌, List, [], ◌∷◌, ◌++◌, length, Option, Some, None}
use Rattle.alter_disk.specs.declared.disk.Disk.{Ghosts}
use Rattle.pager_core.specs.declared.pages.Pages.{Pages}
use Rattle.pager_core.specs.Header.{is_page_size, page_count, page_size}
use Rattle.pager_core.specs.Pages.{known, page_bytes, shape_of}

-- the list with one more at its end, where both are there
abbrev pub with_last : {X : Type 0} → Option (List X) → Option X → Option (List X)
with_last (Some xs) (Some x) = Some (xs ++ x ∷ [])
with_last (Some xs) None = None
with_last None last = None

-- what the numbers from 1 to n have, where each has something
abbrev pub all_upto : {X : Type 0} → (ℕ → Option X) → ℕ → Option (List X)
all_upto has zero = Some []
all_upto has (suc n) = with_last (all_upto has n) (has (suc n))

-- the page of this number, where it stands wholly in the bytes
abbrev pub whole_page : ℕ → List ℕ → ℕ → Option (List ℕ)
whole_page size bytes n = if nat_le (n * size) (length bytes) then Some (page_bytes size n bytes) else None

-- the pages of a database's bytes: of the size that its header gives, and as many as its page count says; none where
-- that is no size of a page, or one of them does not stand wholly there
unfoldable pub image_of : List ℕ → Option (List (List ℕ))
image_of bytes = if is_page_size (page_size bytes) then all_upto (whole_page (page_size bytes) bytes) (page_count bytes (length bytes)) else None

-- the pages with their changes, where each is known
unfoldable pub known_image : {D : Type 0} → Ghosts D → Pages D → Option (List (List ℕ))
known_image disk pages = all_upto (known disk pages) (shape_of pages).count
