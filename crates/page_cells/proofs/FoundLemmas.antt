-- What a reader finds in a written page.
use Rattle.std.proofs.Common.{◌≡◌, Bool, ℕ, zero, suc, ◌+◌, ◌-◌, ◌^◌, ◌<◌, ◌≤◌, inl, inr, nat_lt, if◌then◌else◌, List, [], ◌∷◌, ◌++◌, length, take, drop, get_or, Option, Some, None, refl, sym, ap, ap₂, subst, ◌∙◌, arith, length-append, length-drop, append_assoc}
use Rattle.std.proofs.lemmas.Bool.{cases_lt}
use Rattle.std.proofs.lemmas.Bool.Decides.{nat_tests}
use Rattle.std.proofs.lemmas.List.{append_cancel_left, drop-drop, drop_at, length-take-le, take_at}
use Rattle.std.proofs.lemmas.List.Elements.{All-head, All-tail}
use Rattle.std.proofs.lemmas.Option.{same_Some, slice_get-get_or, slice_get_within}
use Rattle.std.specs.List.{All, slice_get}
use Rattle.byteorder.specs.Endian.{big_bytes, big_number}
use Rattle.alter_bytes.specs.Varint.{IsVarint}
use Rattle.common_laws.proofs.Lists.{same_front}
use Rattle.common_laws.proofs.Places.{slice_get-take}
use Rattle.byteorder.specs.Numbers.{big_number-reads_back}
use Rattle.std.specs.Option.{IsSomeAnd}
use Rattle.alter_bytes.proofs.Fields.{big_number-big_bytes, big_number-append}
use Rattle.alter_bytes.proofs.VarintLemmas.{one_form}
use Rattle.page_cells.proofs.LayoutLemmas.{overflow_size-some}
use Rattle.page_cells.specs.Cells.{AreCells, HasCells, HasChild, HasLength, HasPageNumber, HasRowid, HasVarint, IsCellAt, cell_end}
use Rattle.page_cells.specs.Layout.{IsUsable, child_len, local_payload, overflow_size, pointer, pointers_end}
use Rattle.page_cells.specs.Write.{Fits, HoldsCells, IsChild, IsLengthPart, IsRowidPart, IsWholeCell, child_bytes, number_bytes, room, rooms, rowid_of, written_page}
use Rattle.page_cells.specs.declared.cell.Cell.{Cell}
use Rattle.page_cells.specs.declared.cell.PageCells.{PageCells}
use Rattle.page_cells.specs.declared.kind.Kind.{Kind}
use Rattle.page_cells.specs.declared.kind.Kind.TheVariants.{IndexInner, TableInner, IndexLeaf, TableLeaf}
use Rattle.page_cells.proofs.WriteLemmas.{cell-written_page, cell_count-written_page, cell_place, content_start, kind-written_page, length-child_bytes, length-written_page, pointer-written_page, right-written_page, rooms-cons, rooms_at_cell}

-- the cell that a reader finds where a whole cell stands
abbrev pub found_cell : (kind : Kind) (usable at : ℕ) (bytes : List ℕ) → IsWholeCell kind usable bytes → Cell
found_cell kind usable at bytes w = record {
  left = w.left;
  rowid = rowid_of kind w.rowid;
  payload = w.payload;
  start = at + child_len kind + length w.length_part + length w.rowid_part;
  end = at + child_len kind + length w.length_part + length w.rowid_part + local_payload kind usable w.payload;
  overflow = if nat_lt (local_payload kind usable w.payload) w.payload then Some (big_number 4 w.overflow_part) else None;
}

-- the lengths of a whole cell's parts
pub length-whole : (kind : Kind) (usable : ℕ) (bytes : List ℕ) (w : IsWholeCell kind usable bytes)
    → length bytes ≡ child_len kind + length w.length_part + length w.rowid_part + local_payload kind usable w.payload + overflow_size kind usable w.payload
length-whole kind usable bytes w =
    ap length w.whole ∙ length-append (child_bytes kind w.left) (w.length_part ++ (w.rowid_part ++ (w.local_part ++ w.overflow_part)))
    ∙ omega (arith, length-child_bytes kind w.left, length-append w.length_part (w.rowid_part ++ (w.local_part ++ w.overflow_part)), length-append w.rowid_part (w.local_part ++ w.overflow_part), length-append w.local_part w.overflow_part, w.local, w.overflow)

pub cell_end-found : (kind : Kind) (usable at : ℕ) (bytes : List ℕ) (w : IsWholeCell kind usable bytes) → cell_end kind usable (found_cell kind usable at bytes w) ≡ at + length bytes
cell_end-found kind usable at bytes w = omega (arith, length-whole kind usable bytes w)

-- the parts of a page at the places of a whole cell's parts
pub record StandsAt (page : List ℕ) (kind : Kind) (usable at : ℕ) (bytes : List ℕ) (w : IsWholeCell kind usable bytes) : Type 0 where
  pub within : at + length bytes ≤ length page
  pub after : List ℕ
  pub left_part : drop at page ≡ child_bytes kind w.left ++ after
  pub length_part : take (length w.length_part) (drop (at + child_len kind) page) ≡ w.length_part
  pub rowid_part : take (length w.rowid_part) (drop (at + child_len kind + length w.length_part) page) ≡ w.rowid_part
  pub local_part : take (local_payload kind usable w.payload) (drop (at + child_len kind + length w.length_part + length w.rowid_part) page) ≡ w.local_part
  pub behind : List ℕ
  pub overflow_part : drop (at + child_len kind + length w.length_part + length w.rowid_part + local_payload kind usable w.payload) page ≡ w.overflow_part ++ behind

pub stands_at : (page : List ℕ) (kind : Kind) (usable at : ℕ) (bytes rest : List ℕ) (w : IsWholeCell kind usable bytes) → at ≤ length page → drop at page ≡ bytes ++ rest
    → StandsAt page kind usable at bytes w
stands_at page kind usable at bytes rest w within is =
    let e = child_bytes kind w.left in
    let a = w.length_part in
    let b = w.rowid_part in
    let c = w.local_part in
    let d = w.overflow_part in
    let place = at + child_len kind in
    let whole : drop at page ≡ e ++ (a ++ (b ++ (c ++ (d ++ rest)))) = is ∙ ap (λ l. l ++ rest) w.whole ∙ regroup e a b c d rest in
    let first : drop place page ≡ a ++ (b ++ (c ++ (d ++ rest))) =
    ap (λ n. drop (at + n) page) (sym (length-child_bytes kind w.left)) ∙ behind page at e (a ++ (b ++ (c ++ (d ++ rest)))) whole in
    let second : drop (place + length a) page ≡ b ++ (c ++ (d ++ rest)) = behind page place a (b ++ (c ++ (d ++ rest))) first in
    let third : drop (place + length a + length b) page ≡ c ++ (d ++ rest) = behind page (place + length a) b (c ++ (d ++ rest)) second in
    let fourth : drop (place + length a + length b + length c) page ≡ d ++ rest = behind page (place + length a + length b) c (d ++ rest) third in
    record {
      within = omega (arith, ap length is, length-drop at page, length-append bytes rest);
      after = a ++ (b ++ (c ++ (d ++ rest)));
      left_part = whole;
      length_part = ap (take (length a)) first ∙ take_at a (b ++ (c ++ (d ++ rest))) (length a) refl;
      rowid_part = ap (take (length b)) second ∙ take_at b (c ++ (d ++ rest)) (length b) refl;
      local_part = ap (take (local_payload kind usable w.payload)) third ∙ take_at c (d ++ rest) (local_payload kind usable w.payload) w.local;
      behind = rest;
      overflow_part = ap (λ n. drop (place + length a + length b + n) page) (sym w.local) ∙ fourth;
    }
  where
    regroup : (e a b c d r : List ℕ) → (e ++ (a ++ (b ++ (c ++ d)))) ++ r ≡ e ++ (a ++ (b ++ (c ++ (d ++ r))))
    regroup e a b c d r = simp append_assoc

    behind : (page : List ℕ) (at : ℕ) (a r : List ℕ) → drop at page ≡ a ++ r → drop (at + length a) page ≡ r
    behind page at a r is = sym (drop-drop (length a) at page) ∙ ap (drop (length a)) is ∙ drop_at a r (length a) refl

-- it is a cell of the page
overflow_same : (local payload a b : ℕ) → (local < payload → a ≡ b)
    → (if nat_lt local payload then Some a else None) ≡ (if nat_lt local payload then Some b else None)
overflow_same local payload a b same = elim (cases_lt local payload) [
  | inl more ↦ ap (λ n. if nat_lt local payload then Some n else None) (same more)
  | inr all ↦ grind (arith, nat_tests)
]

-- each field of the cell is found where its bytes stand
number_found : (page : List ℕ) (at child : ℕ) (after : List ℕ) → at + 4 ≤ length page → drop at page ≡ big_bytes 4 child ++ after → child < 2 ^ 32
    → HasPageNumber page at (Some child)
number_found page at child after within is small =
    record { within = within; number = ap Some (sym (ap (big_number 4) is ∙ big_number-reads_back 4 child after small)) }

child_found : (kind : Kind) (page : List ℕ) (at : ℕ) (child : Option ℕ) (after : List ℕ) → at + child_len kind ≤ length page
    → drop at page ≡ child_bytes kind child ++ after → IsChild kind child → HasChild kind page at child
child_found IndexInner page at None after within is child = absurd child
child_found IndexInner page at (Some n) after within is child = number_found page at n after within is child
child_found TableInner page at None after within is child = absurd child
child_found TableInner page at (Some n) after within is child = number_found page at n after within is child
child_found IndexLeaf page at child after within is none = none
child_found TableLeaf page at child after within is none = none

varint_found : (page : List ℕ) (at : ℕ) (part : List ℕ) (v : ℕ) → at + length part ≤ length page → take (length part) (drop at page) ≡ part → IsVarint part v
    → HasVarint page at (length part) v
varint_found page at part v within there is = record { within = within; form = subst (λ l. IsVarint l v) (sym there) is }

length_found : (kind : Kind) (page : List ℕ) (at : ℕ) (part : List ℕ) (payload : ℕ) → at + length part ≤ length page → take (length part) (drop at page) ≡ part
    → IsLengthPart kind part payload → HasLength kind page at (length part) payload
length_found IndexInner page at part payload within there is = varint_found page at part payload within there is
length_found TableInner page at part payload within there is = (ap length is.0, is.1)
length_found IndexLeaf page at part payload within there is = varint_found page at part payload within there is
length_found TableLeaf page at part payload within there is = varint_found page at part payload within there is

rowid_found : (kind : Kind) (page : List ℕ) (at : ℕ) (part : List ℕ) (rowid : ℕ) → at + length part ≤ length page → take (length part) (drop at page) ≡ part
    → IsRowidPart kind part rowid → HasRowid kind page at (length part) (rowid_of kind rowid)
rowid_found IndexInner page at part rowid within there is = (ap length is.0, refl)
rowid_found TableInner page at part rowid within there is = record { bits = rowid; form = varint_found page at part rowid within there is; value = refl }
rowid_found IndexLeaf page at part rowid within there is = (ap length is.0, refl)
rowid_found TableLeaf page at part rowid within there is = record { bits = rowid; form = varint_found page at part rowid within there is; value = refl }

pub cell_found : (page : List ℕ) (kind : Kind) (usable at : ℕ) (bytes : List ℕ) (w : IsWholeCell kind usable bytes) → StandsAt page kind usable at bytes w
    → IsCellAt page kind usable at (found_cell kind usable at bytes w)
cell_found page kind usable at bytes w s =
    let len = length-whole kind usable bytes w in
    let end = at + child_len kind + length w.length_part + length w.rowid_part + local_payload kind usable w.payload in
    record {
      length_size = length w.length_part;
      rowid_size = length w.rowid_part;
      left = child_found kind page at w.left s.after (omega (arith, s.within, len)) s.left_part w.is_left;
      payload = length_found kind page (at + child_len kind) w.length_part w.payload (omega (arith, s.within, len)) s.length_part w.is_length;
      rowid = rowid_found kind page (at + child_len kind + length w.length_part) w.rowid_part w.rowid (omega (arith, s.within, len)) s.rowid_part w.is_rowid;
      start = refl;
      end = refl;
      overflow = overflow_same (local_payload kind usable w.payload) w.payload (big_number 4 w.overflow_part) (big_number 4 (drop end page))
          (λ more. sym (ap (big_number 4) s.overflow_part
          ∙ big_number-append 4 w.overflow_part s.behind (omega (arith, w.overflow, overflow_size-some kind usable w.payload more))));
    }

-- the cells that a reader finds where whole cells stand one after the other
pub found_cells : (kind : Kind) (usable at : ℕ) (cells : List (List ℕ)) → All (IsWholeCell kind usable) cells → List Cell
found_cells kind usable at [] whole = []
found_cells kind usable at (x ∷ xs) whole =
    found_cell kind usable at x (All-head (IsWholeCell kind usable) x xs whole) ∷ found_cells kind usable (at + room x) xs (All-tail (IsWholeCell kind usable) x xs whole)

pub length-found_cells : (kind : Kind) (usable at : ℕ) (cells : List (List ℕ)) (whole : All (IsWholeCell kind usable) cells)
    → length (found_cells kind usable at cells whole) ≡ length cells
unfolding found_cells
length-found_cells kind usable at [] whole = refl
length-found_cells kind usable at (x ∷ xs) whole = ap suc (length-found_cells kind usable (at + room x) xs (All-tail (IsWholeCell kind usable) x xs whole))

-- the cell that is found in place i is that of the given cell i
pub record FoundAt (kind : Kind) (usable at : ℕ) (cells : List (List ℕ)) (i : ℕ) (c : Cell) : Type 0 where
  pub bytes : List ℕ
  pub whole : IsWholeCell kind usable bytes
  pub given : slice_get cells i ≡ Some bytes
  pub is : c ≡ found_cell kind usable (at + rooms (take i cells)) bytes whole

pub found_at : (kind : Kind) (usable at : ℕ) (cells : List (List ℕ)) (whole : All (IsWholeCell kind usable) cells) (i : ℕ) (c : Cell)
    → slice_get (found_cells kind usable at cells whole) i ≡ Some c → FoundAt kind usable at cells i c
unfolding found_cells
found_at kind usable at [] whole i c found = absurd (none c found)
  where
    none : (c : Cell) → ◌≡◌ {A = Option Cell} None (Some c) → ⊥
    none c e = cc
found_at kind usable at (x ∷ xs) whole zero c found =
    let w = All-head (IsWholeCell kind usable) x xs whole in
    record {
      bytes = x;
      whole = w;
      given = refl;
      is = same_Some c (found_cell kind usable at x w) (sym found) ∙ ap (λ n. found_cell kind usable n x w) (omega arith);
    }
found_at kind usable at (x ∷ xs) whole (suc i) c found =
    let f = found_at kind usable (at + room x) xs (All-tail (IsWholeCell kind usable) x xs whole) i c found in
    record {
      bytes = f.bytes;
      whole = f.whole;
      given = f.given;
      is = f.is ∙ ap (λ n. found_cell kind usable n f.bytes f.whole) (omega (arith, rooms-cons x (take i xs)));
    }

-- cells of earlier places end before cell i begins
rooms_before : (cells : List (List ℕ)) (j i : ℕ) (bytes : List ℕ) → j < i → slice_get cells j ≡ Some bytes
    → rooms (take j cells) + length bytes ≤ rooms (take i cells)
rooms_before [] j i bytes less is = absurd (none bytes is)
  where
    none : (x : List ℕ) → ◌≡◌ {A = Option (List ℕ)} None (Some x) → ⊥
    none x e = cc
rooms_before (x ∷ xs) j zero bytes less is = absurd (omega arith)
rooms_before (x ∷ xs) zero (suc i) bytes less is =
    let same : bytes ≡ x = same_Some bytes x (sym is) in
    omega (arith, rooms-cons x (take i xs), ap length same)
rooms_before (x ∷ xs) (suc j) (suc i) bytes less is =
    omega (arith, rooms-cons x (take i xs), rooms-cons x (take j xs), rooms_before xs j i bytes (omega arith) is)

-- the page that a reader finds
abbrev pub found_page : (kind : Kind) (right : Option ℕ) (usable : ℕ) (cells : List (List ℕ)) → All (IsWholeCell kind usable) cells → PageCells
found_page kind right usable cells whole = record {
  kind = kind;
  right = right;
  cells = found_cells kind usable (content_start usable cells) cells whole;
}

-- what the cell in place i of a written page is, and where it stands
pub record WrittenCell (page : List ℕ) (first : Bool) (kind : Kind) (right : Option ℕ) (usable : ℕ) (cells : List (List ℕ)) (i : ℕ) (c : Cell) : Type 0 where
  pub bytes : List ℕ
  pub whole : IsWholeCell kind usable bytes
  pub given : slice_get cells i ≡ Some bytes
  pub is : c ≡ found_cell kind usable (cell_place usable cells i) bytes whole
  pub place : pointer page first kind i ≡ cell_place usable cells i
  pub ends : cell_end kind usable c ≡ cell_place usable cells i + length bytes
  pub bytes_there : take (length bytes) (drop (cell_place usable cells i) page) ≡ bytes
  pub local_part : take (c.end - c.start) (drop c.start page) ≡ whole.local_part
  pub stands : IsCellAt page kind usable (pointer page first kind i) c

pub written_cell : (old : List ℕ) (first : Bool) (kind : Kind) (right : Option ℕ) (usable : ℕ) (cells : List (List ℕ)) → IsUsable usable (length old) → Fits first kind usable cells
    → (whole : All (IsWholeCell kind usable) cells) (i : ℕ) (c : Cell) → slice_get (found_page kind right usable cells whole).cells i ≡ Some c
    → WrittenCell (written_page old first kind right usable cells) first kind right usable cells i c
written_cell old first kind right usable cells u fits whole i c found =
    let page = written_page old first kind right usable cells in
    let f = found_at kind usable (content_start usable cells) cells whole i c found in
    let at = cell_place usable cells i in
    let place = pointer-written_page old first kind right usable cells u fits i f.bytes f.given in
    let there = cell-written_page old first kind right usable cells u fits i f.bytes f.given in
    let within : at ≤ length page = omega (arith, length-written_page old first kind right usable cells u fits, u.within, rooms_at_cell cells i f.bytes f.given, fits) in
    let stands = stands_at page kind usable at f.bytes there.0 f.whole within there.1 in
    let c_is = found_cell kind usable at f.bytes f.whole in
    record {
      bytes = f.bytes;
      whole = f.whole;
      given = f.given;
      is = f.is;
      place = place;
      ends = ap (cell_end kind usable) f.is ∙ cell_end-found kind usable at f.bytes f.whole;
      bytes_there = ap (take (length f.bytes)) there.1 ∙ take_at f.bytes there.0 (length f.bytes) refl;
      local_part =
          ap (λ (d : Cell). take (d.end - d.start) (drop d.start page)) f.is
          ∙ ap (λ n. take n (drop c_is.start page)) (omega arith)
          ∙ stands.local_part;
      stands = subst (λ p. IsCellAt page kind usable p c) (sym place)
          (subst (IsCellAt page kind usable at) (sym f.is) (cell_found page kind usable at f.bytes f.whole stands));
    }

-- a reader finds the cells that were written
pub cells-written_page : (old : List ℕ) (first : Bool) (kind : Kind) (right : Option ℕ) (usable : ℕ) (cells : List (List ℕ)) → IsUsable usable (length old) → Fits first kind usable cells
    → (whole : All (IsWholeCell kind usable) cells) → AreCells (written_page old first kind right usable cells) first kind usable (found_page kind right usable cells whole).cells
cells-written_page old first kind right usable cells u fits whole i c found =
    let page = written_page old first kind right usable cells in
    let all = (found_page kind right usable cells whole).cells in
    let w = written_cell old first kind right usable cells u fits whole i c found in
    let below = slice_get_within all i c found in
    let len : length (take i all) ≡ i = length-take-le i all (omega arith) in
    let count = cell_count-written_page old first kind right usable cells u fits in
    let room = rooms_at_cell cells i w.bytes w.given in
    record {
      stands = subst (λ n. IsCellAt page kind usable (pointer page first kind n) c) (sym len) w.stands;
      above = subst (λ n. pointers_end page first kind ≤ pointer page first kind n) (sym len) (omega (arith, w.place, count, fits));
      below = omega (arith, w.ends, room, fits);
      apart = λ j d earlier.
          let before = slice_get-take all i j d earlier in
          let v = written_cell old first kind right usable cells u fits whole j d before.1 in
          inl (subst (λ n. cell_end kind usable d ≤ pointer page first kind n) (sym len)
          (omega (arith, v.ends, w.place, rooms_before cells j i v.bytes before.0 v.given)));
    }

pub has_cells-written_page : (old : List ℕ) (first : Bool) (kind : Kind) (right : Option ℕ) (usable : ℕ) (cells : List (List ℕ)) → IsUsable usable (length old) → Fits first kind usable cells
    → IsChild kind right → (whole : All (IsWholeCell kind usable) cells) → HasCells (written_page old first kind right usable cells) first kind usable (found_page kind right usable cells whole)
has_cells-written_page old first kind right usable cells u fits child whole =
    let count = cell_count-written_page old first kind right usable cells u fits in
    record {
      byte = kind-written_page old first kind right usable cells u fits;
      of_kind = refl;
      right = right-written_page old first kind right usable cells u fits child;
      room = omega (arith, count, fits);
      count = length-found_cells kind usable (content_start usable cells) cells whole ∙ sym count;
      cells = cells-written_page old first kind right usable cells u fits whole;
    }

pub holds-written_page : (old : List ℕ) (first : Bool) (kind : Kind) (right : Option ℕ) (usable : ℕ) (cells : List (List ℕ)) → IsUsable usable (length old) → Fits first kind usable cells
    → IsChild kind right → All (IsWholeCell kind usable) cells → HoldsCells (written_page old first kind right usable cells) first kind right usable cells
holds-written_page old first kind right usable cells u fits child whole =
    let page = written_page old first kind right usable cells in
    record {
      found = found_page kind right usable cells whole;
      has = has_cells-written_page old first kind right usable cells u fits child whole;
      child = refl;
      count = length-found_cells kind usable (content_start usable cells) cells whole;
      bytes = λ i c found.
          let w = written_cell old first kind right usable cells u fits whole i c found in
          let size : cell_end kind usable c - pointer page first kind i ≡ length w.bytes = omega (arith, w.ends, w.place) in
          w.given ∙ ap Some (sym (ap₂ (λ n p. take n (drop p page)) size w.place ∙ w.bytes_there));
    }

-- two readings of one cell's bytes agree
pub record SameWhole (kind : Kind) (usable : ℕ) (a b : List ℕ) (v : IsWholeCell kind usable a) (w : IsWholeCell kind usable b) : Type 0 where
  pub left : v.left ≡ w.left
  pub payload : v.payload ≡ w.payload
  pub rowid : v.rowid ≡ w.rowid
  pub local_part : v.local_part ≡ w.local_part
  pub overflow_part : v.overflow_part ≡ w.overflow_part

one_number : (a b : Option ℕ) → IsSomeAnd a (λ page. page < 2 ^ 32) → IsSomeAnd b (λ page. page < 2 ^ 32) → number_bytes a ≡ number_bytes b → a ≡ b
one_number None b h k e = absurd h
one_number (Some a) None h k e = absurd k
one_number (Some a) (Some b) h k e = ap Some (sym (big_number-big_bytes 4 a h) ∙ ap (big_number 4) e ∙ big_number-big_bytes 4 b k)

one_left : (kind : Kind) (a b : Option ℕ) → IsChild kind a → IsChild kind b → child_bytes kind a ≡ child_bytes kind b → a ≡ b
one_left IndexInner a b h k e = one_number a b h k e
one_left TableInner a b h k e = one_number a b h k e
one_left IndexLeaf a b h k e = h ∙ sym k
one_left TableLeaf a b h k e = h ∙ sym k

one_length_part : (kind : Kind) (a b x y : List ℕ) (m n : ℕ) → IsLengthPart kind a m → IsLengthPart kind b n → a ++ x ≡ b ++ y → (a ≡ b) × (m ≡ n)
one_length_part IndexInner a b x y m n h k e = one_form a b x y m n h k e
one_length_part TableInner a b x y m n h k e = (h.0 ∙ sym k.0, h.1 ∙ sym k.1)
one_length_part IndexLeaf a b x y m n h k e = one_form a b x y m n h k e
one_length_part TableLeaf a b x y m n h k e = one_form a b x y m n h k e

one_rowid_part : (kind : Kind) (a b x y : List ℕ) (m n : ℕ) → IsRowidPart kind a m → IsRowidPart kind b n → a ++ x ≡ b ++ y → (a ≡ b) × (m ≡ n)
one_rowid_part IndexInner a b x y m n h k e = (h.0 ∙ sym k.0, h.1 ∙ sym k.1)
one_rowid_part TableInner a b x y m n h k e = one_form a b x y m n h k e
one_rowid_part IndexLeaf a b x y m n h k e = (h.0 ∙ sym k.0, h.1 ∙ sym k.1)
one_rowid_part TableLeaf a b x y m n h k e = one_form a b x y m n h k e

pub same_whole : (kind : Kind) (usable : ℕ) (a b : List ℕ) (v : IsWholeCell kind usable a) (w : IsWholeCell kind usable b) → a ≡ b → SameWhole kind usable a b v w
same_whole kind usable a b v w same =
    let all = sym v.whole ∙ same ∙ w.whole in
    let v_row = v.rowid_part ++ (v.local_part ++ v.overflow_part) in
    let w_row = w.rowid_part ++ (w.local_part ++ w.overflow_part) in
    let child_same = same_front (child_bytes kind v.left) (child_bytes kind w.left) (v.length_part ++ v_row) (w.length_part ++ w_row) all
    (length-child_bytes kind v.left ∙ sym (length-child_bytes kind w.left)) in
    let after = rest_same (child_bytes kind v.left) (child_bytes kind w.left) (v.length_part ++ v_row) (w.length_part ++ w_row) child_same all in
    let length_same = one_length_part kind v.length_part w.length_part v_row w_row v.payload w.payload v.is_length w.is_length after in
    let behind = rest_same v.length_part w.length_part v_row w_row length_same.0 after in
    let rowid_same = one_rowid_part kind v.rowid_part w.rowid_part (v.local_part ++ v.overflow_part) (w.local_part ++ w.overflow_part) v.rowid w.rowid v.is_rowid w.is_rowid behind in
    let parts = rest_same v.rowid_part w.rowid_part (v.local_part ++ v.overflow_part) (w.local_part ++ w.overflow_part) rowid_same.0 behind in
    let local_same = same_front v.local_part w.local_part v.overflow_part w.overflow_part parts (v.local ∙ ap (local_payload kind usable) length_same.1 ∙ sym w.local) in
    record {
      left = one_left kind v.left w.left v.is_left w.is_left child_same;
      payload = length_same.1;
      rowid = rowid_same.1;
      local_part = local_same;
      overflow_part = rest_same v.local_part w.local_part v.overflow_part w.overflow_part local_same parts;
    }
  where
    rest_same : (a b x y : List ℕ) → a ≡ b → a ++ x ≡ b ++ y → x ≡ y
    rest_same a b x y same e = append_cancel_left a x y (e ∙ ap (λ l. l ++ y) (sym same))

-- what a reader finds of a whole cell in a page
pub record ReadsBack (page : List ℕ) (kind : Kind) (usable : ℕ) (bytes : List ℕ) (w : IsWholeCell kind usable bytes) (c : Cell) : Type 0 where
  pub left : c.left ≡ w.left
  pub payload : c.payload ≡ w.payload
  pub rowid : c.rowid ≡ rowid_of kind w.rowid
  pub local_part : take (c.end - c.start) (drop c.start page) ≡ w.local_part
  pub overflow : c.overflow ≡ (if nat_lt (local_payload kind usable w.payload) w.payload then Some (big_number 4 w.overflow_part) else None)

-- each given cell is found in its place
pub reads_back : (old : List ℕ) (first : Bool) (kind : Kind) (right : Option ℕ) (usable : ℕ) (cells : List (List ℕ)) → IsUsable usable (length old) → Fits first kind usable cells
    → (whole : All (IsWholeCell kind usable) cells) (i : ℕ) (bytes : List ℕ) → slice_get cells i ≡ Some bytes → (w : IsWholeCell kind usable bytes)
    → (c : Cell) × (slice_get (found_page kind right usable cells whole).cells i ≡ Some c) × ReadsBack (written_page old first kind right usable cells) kind usable bytes w c
reads_back old first kind right usable cells u fits whole i bytes given w =
    let all = (found_page kind right usable cells whole).cells in
    let some = found_cell kind usable (cell_place usable cells i) bytes w in
    let count = length-found_cells kind usable (content_start usable cells) cells whole in
    let c = get_or all i some in
    let found : slice_get all i ≡ Some c = slice_get-get_or all i some (omega (arith, count, slice_get_within cells i bytes given)) in
    let v = written_cell old first kind right usable cells u fits whole i c found in
    let same = same_whole kind usable v.bytes bytes v.whole w (same_Some v.bytes bytes (sym v.given ∙ given)) in (
      c,
      found,
      record {
        left = ap (λ (d : Cell). d.left) v.is ∙ same.left;
        payload = ap (λ (d : Cell). d.payload) v.is ∙ same.payload;
        rowid = ap (λ (d : Cell). d.rowid) v.is ∙ ap (rowid_of kind) same.rowid;
        local_part = v.local_part ∙ same.local_part;
        overflow =
            ap (λ (d : Cell). d.overflow) v.is
            ∙ ap₂ (λ p o. if nat_lt (local_payload kind usable p) p then Some (big_number 4 o) else None) same.payload same.overflow_part;
      },
    )
