-- The bytes of a written page.
use Rattle.std.proofs.Common.{◌≡◌, Bool, ℕ, ◌+◌, ◌-◌, ◌*◌, ◌%◌, ◌^◌, ◌<◌, ◌≤◌, List, [], ◌∷◌, ◌++◌, length, take, drop, replicate, get_or, slice_index, Option, Some, None, refl, sym, ap, ap₂, ◌∙◌, arith, length-append, length-drop, append_assoc}
use Rattle.std.proofs.lemmas.List.{append-nil, drop_at, drop_more, get_or_at, length-replicate, length-take-le, take-append-drop, take_at, take_more}
use Rattle.std.proofs.lemmas.List.Sums.{sum_by-append, sum_by-cons, sum_by_push}
use Rattle.std.proofs.lemmas.Option.{get_or_from_slice_get, slice_get_within}
use Rattle.std.specs.List.{slice_get}
use Rattle.byteorder.specs.Endian.{big_bytes, big_number}
use Rattle.alter_bytes.specs.Field.{overlaid}
use Rattle.alter_bytes.proofs.Fields.{big_number_inside, length-big_bytes, overlaid-behind}
use Rattle.page_cells.specs.Cells.{HasChild, HasPageNumber}
use Rattle.page_cells.specs.Layout.{IsUsable, cell_count, child_len, header_start, kind_byte, most_usable, page_header_len, pointer, pointer_place}
use Rattle.page_cells.specs.Write.{Fits, IsChild, cell_bytes, child_bytes, header_bytes, number_bytes, pointer_bytes, room, rooms, written_page}
use Rattle.page_cells.specs.declared.kind.Kind.{Kind}
use Rattle.page_cells.specs.declared.kind.Kind.TheVariants.{IndexInner, TableInner, IndexLeaf, TableLeaf}

-- the bytes that a cell takes
abbrev pub room_bytes : List ℕ → List ℕ
room_bytes cell = cell ++ replicate (room cell - length cell) 0

pub length-room_bytes : (cell : List ℕ) → length (room_bytes cell) ≡ room cell
length-room_bytes cell =
    length-append cell (replicate (room cell - length cell) 0) ∙ omega (arith, length-replicate {A = ℕ} (room cell - length cell) 0)

pub rooms-cons : (cell : List ℕ) (cells : List (List ℕ)) → rooms (cell ∷ cells) ≡ room cell + rooms cells
rooms-cons cell cells = sum_by-cons room cell cells

-- pointers and cells joined
pub pointer_bytes-append : (at : ℕ) (xs ys : List (List ℕ)) → pointer_bytes at (xs ++ ys) ≡ pointer_bytes at xs ++ pointer_bytes (at + rooms xs) ys
pointer_bytes-append at [] ys = ap (λ n. pointer_bytes n ys) (omega arith)
pointer_bytes-append at (x ∷ xs) ys =
    let ih = pointer_bytes-append (at + room x) xs ys in
    let place : at + room x + rooms xs ≡ at + rooms (x ∷ xs) = omega (arith, rooms-cons x xs) in
    ap (λ l. big_bytes 2 at ++ l) (ih ∙ ap (λ n. pointer_bytes (at + room x) xs ++ pointer_bytes n ys) place)
    ∙ sym (append_assoc (big_bytes 2 at) (pointer_bytes (at + room x) xs) (pointer_bytes (at + rooms (x ∷ xs)) ys))

pub cell_bytes-append : (xs ys : List (List ℕ)) → cell_bytes (xs ++ ys) ≡ cell_bytes xs ++ cell_bytes ys
cell_bytes-append [] ys = refl
cell_bytes-append (x ∷ xs) ys =
    ap (λ l. room_bytes x ++ l) (cell_bytes-append xs ys) ∙ sym (append_assoc (room_bytes x) (cell_bytes xs) (cell_bytes ys))

pub length-pointer_bytes : (at : ℕ) (cells : List (List ℕ)) → length (pointer_bytes at cells) ≡ 2 * length cells
length-pointer_bytes at [] = refl
length-pointer_bytes at (x ∷ xs) =
    length-append (big_bytes 2 at) (pointer_bytes (at + room x) xs)
    ∙ omega (arith, length-pointer_bytes (at + room x) xs, length-big_bytes 2 at)

pub length-cell_bytes : (cells : List (List ℕ)) → length (cell_bytes cells) ≡ rooms cells
length-cell_bytes [] = refl
length-cell_bytes (x ∷ xs) =
    length-append (room_bytes x) (cell_bytes xs)
    ∙ omega (arith, length-cell_bytes xs, length-room_bytes x, rooms-cons x xs)

-- the room of the cells so far
pub rooms_more : (cells : List (List ℕ)) (i : ℕ) (cell : List ℕ) → i < length cells → cell ≡ get_or cells i cell
    → rooms (take (i + 1) cells) ≡ rooms (take i cells) + room cell
rooms_more cells i cell within is =
    ap rooms (take_more cells i cell within) ∙ sum_by_push room (take i cells) (get_or cells i cell)
    ∙ ap (λ c. rooms (take i cells) + room c) (sym is)

pub rooms-take-le : (cells : List (List ℕ)) (i : ℕ) → rooms (take i cells) ≤ rooms cells
rooms-take-le cells i =
    omega (arith, ap rooms (take-append-drop i cells), sum_by-append room (take i cells) (drop i cells))

-- one pointer more
pub pointer_bytes_more : (at : ℕ) (cells : List (List ℕ)) (i : ℕ) (cell : List ℕ) → i < length cells
    → pointer_bytes at (take (i + 1) cells) ≡ pointer_bytes at (take i cells) ++ big_bytes 2 (at + rooms (take i cells))
pointer_bytes_more at cells i cell within =
    ap (pointer_bytes at) (take_more cells i cell within)
    ∙ pointer_bytes-append at (take i cells) (get_or cells i cell ∷ [])
    ∙ ap (λ l. pointer_bytes at (take i cells) ++ l) (append-nil (big_bytes 2 (at + rooms (take i cells))))

pub pointers_more : (page : List ℕ) (at content : ℕ) (cells : List (List ℕ)) (i place start : ℕ) (cell was : List ℕ)
    → i < length cells → at + 2 * length cells ≤ length page → place ≡ at + 2 * i → start ≡ content + rooms (take i cells)
    → was ≡ overlaid page at (pointer_bytes content (take i cells))
    → overlaid was place (big_bytes 2 start) ≡ overlaid page at (pointer_bytes content (take (i + 1) cells))
pointers_more page at content cells i place start cell was within fits is_place is_start is =
    let len : length (pointer_bytes content (take i cells)) ≡ 2 * i =
    omega (arith, length-pointer_bytes content (take i cells), length-take-le i cells (omega arith)) in
    ap₂ (λ p n. overlaid p place (big_bytes 2 n)) is is_start
    ∙ overlaid-behind page at (pointer_bytes content (take i cells)) (big_bytes 2 (content + rooms (take i cells))) place (omega arith) (omega arith)
    ∙ ap (overlaid page at) (sym (pointer_bytes_more content cells i cell within))

-- one cell more
pub cell_bytes_more : (cells : List (List ℕ)) (i : ℕ) (cell : List ℕ) → i < length cells → cell ≡ get_or cells i cell
    → cell_bytes (take (i + 1) cells) ≡ cell_bytes (take i cells) ++ room_bytes cell
cell_bytes_more cells i cell within is =
    ap cell_bytes (take_more cells i cell within)
    ∙ cell_bytes-append (take i cells) (get_or cells i cell ∷ [])
    ∙ ap (λ l. cell_bytes (take i cells) ++ l) (append-nil (room_bytes (get_or cells i cell)))
    ∙ ap (λ c. cell_bytes (take i cells) ++ room_bytes c) (sym is)

pub cells_more : (page : List ℕ) (content : ℕ) (cells : List (List ℕ)) (i start : ℕ) (cell was : List ℕ)
    → i < length cells → cell ≡ get_or cells i cell → content + rooms cells ≤ length page → start ≡ content + rooms (take i cells)
    → was ≡ overlaid page content (cell_bytes (take i cells))
    → overlaid was start (room_bytes cell) ≡ overlaid page content (cell_bytes (take (i + 1) cells))
cells_more page content cells i start cell was within at fits is_start is =
    ap (λ p. overlaid p start (room_bytes cell)) is
    ∙ overlaid-behind page content (cell_bytes (take i cells)) (room_bytes cell) start
    (omega (arith, length-cell_bytes (take i cells))) (omega (arith, rooms-take-le cells i))
    ∙ ap (overlaid page content) (sym (cell_bytes_more cells i cell within at))

-- the lengths of a child's number and of the page's own header
length-number_bytes : (child : Option ℕ) → length (number_bytes child) ≡ 4
length-number_bytes None = length-big_bytes 4 0
length-number_bytes (Some page) = length-big_bytes 4 page

pub length-child_bytes : (kind : Kind) (child : Option ℕ) → length (child_bytes kind child) ≡ child_len kind
length-child_bytes IndexInner child = length-number_bytes child
length-child_bytes TableInner child = length-number_bytes child
length-child_bytes IndexLeaf child = refl
length-child_bytes TableLeaf child = refl

pub child_bytes-some : (kind : Kind) (right : Option ℕ) (child : ℕ) → IsChild kind right → right ≡ Some child → child_bytes kind right ≡ big_bytes 4 child
child_bytes-some IndexInner right child h is = ap number_bytes is
child_bytes-some TableInner right child h is = ap number_bytes is
child_bytes-some IndexLeaf right child h is = absurd (apart child (sym h ∙ is))
  where
    apart : (n : ℕ) → ◌≡◌ {A = Option ℕ} None (Some n) → ⊥
    apart n e = cc
child_bytes-some TableLeaf right child h is = absurd (apart child (sym h ∙ is))
  where
    apart : (n : ℕ) → ◌≡◌ {A = Option ℕ} None (Some n) → ⊥
    apart n e = cc

pub length-header_bytes : (kind : Kind) (right : Option ℕ) (count content : ℕ) → length (header_bytes kind right count content) ≡ page_header_len kind
length-header_bytes kind right count content = omega (arith, length-child_bytes kind right)

-- the parts that are written one behind the other
pub written_parts : (old : List ℕ) (first : Bool) (kind : Kind) (right : Option ℕ) (usable content : ℕ) (cells : List (List ℕ))
    → usable ≤ length old → Fits first kind usable cells → content ≡ usable - rooms cells
    → overlaid (overlaid (overlaid (overlaid old (header_start first) (header_bytes kind right (length cells) content)) (header_start first + page_header_len kind) (pointer_bytes content cells)) (pointer_place first kind (length cells)) (replicate (content - pointer_place first kind (length cells)) 0)) content (cell_bytes cells)
    ≡ written_page old first kind right usable cells
unfolding written_page
written_parts old first kind right usable content cells within fits is =
    let n = length cells in
    let at = header_start first in
    let header = header_bytes kind right n content in
    let pointers = pointer_bytes content cells in
    let behind = pointer_place first kind n in
    let zeros : List ℕ = replicate (content - behind) 0 in
    let body = cell_bytes cells in
    let len = length-header_bytes kind right n content in
    let two : length (header ++ pointers) ≡ page_header_len kind + 2 * n = length-append header pointers ∙ omega (arith, len, length-pointer_bytes content cells) in
    let three : length (header ++ pointers ++ zeros) ≡ page_header_len kind + 2 * n + (content - behind) =
    length-append (header ++ pointers) zeros ∙ omega (arith, two, length-replicate {A = ℕ} (content - behind) 0) in
    let four : length (header ++ pointers ++ zeros ++ body) ≡ usable - at =
    length-append (header ++ pointers ++ zeros) body ∙ omega (arith, three, length-cell_bytes cells) in
    let one_place : overlaid (overlaid old at header) (at + page_header_len kind) pointers ≡ overlaid old at (header ++ pointers) =
    overlaid-behind old at header pointers (at + page_header_len kind) (omega (arith, len)) (omega arith) in
    let two_places : overlaid (overlaid old at (header ++ pointers)) behind zeros ≡ overlaid old at (header ++ pointers ++ zeros) =
    overlaid-behind old at (header ++ pointers) zeros behind (omega (arith, two)) (omega arith) in
    let three_places : overlaid (overlaid old at (header ++ pointers ++ zeros)) content body ≡ overlaid old at (header ++ pointers ++ zeros ++ body) =
    overlaid-behind old at (header ++ pointers ++ zeros) body content (omega (arith, three)) (omega arith) in
    ap (λ p. overlaid (overlaid p behind zeros) content body) one_place
    ∙ ap (λ p. overlaid p content body) two_places
    ∙ three_places
    ∙ ap (λ k. take at old ++ (header ++ pointers ++ zeros ++ body) ++ drop k old) (omega (arith, four))
    ∙ regroup (take at old) header pointers zeros body (drop usable old)
    ∙ ap (λ k. take at old ++ (header_bytes kind right n k ++ (pointer_bytes k cells ++ (replicate (k - behind) 0 ++ (body ++ drop usable old))))) is
  where
    regroup : (t h p z c d : List ℕ) → t ++ (h ++ p ++ z ++ c) ++ d ≡ t ++ (h ++ (p ++ (z ++ (c ++ d))))
    regroup t h p z c d = simp append_assoc

pub page_written : (old one two three four : List ℕ) (first : Bool) (kind : Kind) (right : Option ℕ) (usable at len content : ℕ) (cells : List (List ℕ))
    → usable ≤ length old → Fits first kind usable cells → at ≡ header_start first → len ≡ page_header_len kind → content ≡ usable - rooms cells
    → one ≡ overlaid old at (header_bytes kind right (length cells) content)
    → two ≡ overlaid one (at + len) (pointer_bytes content cells)
    → three ≡ overlaid two (at + len + 2 * length cells) (replicate (content - (at + len + 2 * length cells)) 0)
    → four ≡ overlaid three content (cell_bytes cells)
    → four ≡ written_page old first kind right usable cells
page_written old one two three four first kind right usable at len content cells within fits is_at is_len is e1 e2 e3 e4 =
    let n = length cells in
    let pointers = pointer_bytes content cells in
    let header = header_bytes kind right n content in
    e4
    ∙ ap (λ p. overlaid p content (cell_bytes cells)) (
    e3
    ∙ ap (λ p. overlaid p (at + len + 2 * n) (replicate (content - (at + len + 2 * n)) 0))
    (e2 ∙ ap (λ p. overlaid p (at + len) pointers) e1)
    )
    ∙ ap₂ (λ a k. overlaid (overlaid (overlaid (overlaid old a header) (a + k) pointers) (a + k + 2 * n) (replicate (content - (a + k + 2 * n)) 0)) content (cell_bytes cells)) is_at is_len
    ∙ written_parts old first kind right usable content cells within fits is

-- where the cells of a written page begin
abbrev pub content_start : ℕ → List (List ℕ) → ℕ
content_start usable cells = usable - rooms cells

-- the place of cell i of a written page
abbrev pub cell_place : ℕ → List (List ℕ) → ℕ → ℕ
cell_place usable cells i = content_start usable cells + rooms (take i cells)

-- the written page up to its own header, and behind it
record Parts (old : List ℕ) (first : Bool) (kind : Kind) (right : Option ℕ) (usable : ℕ) (cells : List (List ℕ)) : Type 0 where
  file : List ℕ
  zeros : List ℕ
  rest : List ℕ
  is_file : file ≡ take (header_start first) old
  is_rest : rest ≡ drop usable old
  file_len : length file ≡ header_start first
  header_len : length (header_bytes kind right (length cells) (content_start usable cells)) ≡ page_header_len kind
  zeros_len : length zeros ≡ content_start usable cells - pointer_place first kind (length cells)
  rest_len : length rest ≡ length old - usable
  whole : written_page old first kind right usable cells
      ≡ file ++ (header_bytes kind right (length cells) (content_start usable cells)
      ++ (pointer_bytes (content_start usable cells) cells
      ++ (zeros ++ (cell_bytes cells ++ rest))))

parts_of : (old : List ℕ) (first : Bool) (kind : Kind) (right : Option ℕ) (usable : ℕ) (cells : List (List ℕ)) → IsUsable usable (length old) → Fits first kind usable cells
    → Parts old first kind right usable cells
unfolding written_page
parts_of old first kind right usable cells u fits = record {
  file = take (header_start first) old;
  zeros = replicate (content_start usable cells - pointer_place first kind (length cells)) 0;
  rest = drop usable old;
  is_file = refl;
  is_rest = refl;
  file_len = length-take-le (header_start first) old (omega (arith, u.within, fits));
  header_len = length-header_bytes kind right (length cells) (content_start usable cells);
  zeros_len = length-replicate {A = ℕ} (content_start usable cells - pointer_place first kind (length cells)) 0;
  rest_len = length-drop usable old;
  whole = refl;
}

-- what stays of the page
pub length-written_page : (old : List ℕ) (first : Bool) (kind : Kind) (right : Option ℕ) (usable : ℕ) (cells : List (List ℕ)) → IsUsable usable (length old) → Fits first kind usable cells
    → length (written_page old first kind right usable cells) ≡ length old
length-written_page old first kind right usable cells u fits =
    let p = parts_of old first kind right usable cells u fits in
    let header = header_bytes kind right (length cells) (content_start usable cells) in
    let pointers = pointer_bytes (content_start usable cells) cells in
    ap length p.whole
    ∙ length-append p.file (header ++ (pointers ++ (p.zeros ++ (cell_bytes cells ++ p.rest))))
    ∙ omega (
      arith,
      length-append header (pointers ++ (p.zeros ++ (cell_bytes cells ++ p.rest))),
      length-append pointers (p.zeros ++ (cell_bytes cells ++ p.rest)),
      length-append p.zeros (cell_bytes cells ++ p.rest),
      length-append (cell_bytes cells) p.rest,
      length-pointer_bytes (content_start usable cells) cells,
      length-cell_bytes cells,
      p.file_len,
      p.header_len,
      p.zeros_len,
      p.rest_len,
      u.within,
      fits,
    )

pub take-written_page : (old : List ℕ) (first : Bool) (kind : Kind) (right : Option ℕ) (usable : ℕ) (cells : List (List ℕ)) → IsUsable usable (length old) → Fits first kind usable cells
    → take (header_start first) (written_page old first kind right usable cells) ≡ take (header_start first) old
take-written_page old first kind right usable cells u fits =
    let p = parts_of old first kind right usable cells u fits in
    ap (take (header_start first)) p.whole
    ∙ take_at p.file (header_bytes kind right (length cells) (content_start usable cells) ++ (pointer_bytes (content_start usable cells) cells ++ (p.zeros ++ (cell_bytes cells ++ p.rest)))) (header_start first) p.file_len
    ∙ p.is_file

pub drop-written_page : (old : List ℕ) (first : Bool) (kind : Kind) (right : Option ℕ) (usable : ℕ) (cells : List (List ℕ)) → IsUsable usable (length old) → Fits first kind usable cells
    → drop usable (written_page old first kind right usable cells) ≡ drop usable old
drop-written_page old first kind right usable cells u fits =
    let p = parts_of old first kind right usable cells u fits in
    let header = header_bytes kind right (length cells) (content_start usable cells) in
    let pointers = pointer_bytes (content_start usable cells) cells in
    let len : length (p.file ++ header ++ pointers ++ p.zeros ++ cell_bytes cells) ≡ usable =
    length-append (p.file ++ header ++ pointers ++ p.zeros) (cell_bytes cells)
    ∙ omega (
      arith,
      length-append (p.file ++ header ++ pointers) p.zeros,
      length-append (p.file ++ header) pointers,
      length-append p.file header,
      length-pointer_bytes (content_start usable cells) cells,
      length-cell_bytes cells,
      p.file_len,
      p.header_len,
      p.zeros_len,
      fits,
    ) in
    ap (drop usable) (p.whole ∙ regroup p.file header pointers p.zeros (cell_bytes cells) p.rest)
    ∙ drop_at (p.file ++ header ++ pointers ++ p.zeros ++ cell_bytes cells) p.rest usable len
    ∙ p.is_rest
  where
    regroup : (f h p z c d : List ℕ) → f ++ (h ++ (p ++ (z ++ (c ++ d)))) ≡ f ++ h ++ p ++ z ++ c ++ d
    regroup f h p z c d = simp append_assoc

-- the fields of the page's own header
pub kind-written_page : (old : List ℕ) (first : Bool) (kind : Kind) (right : Option ℕ) (usable : ℕ) (cells : List (List ℕ)) → IsUsable usable (length old) → Fits first kind usable cells
    → slice_index (written_page old first kind right usable cells) (header_start first) ≡ kind_byte kind
kind-written_page old first kind right usable cells u fits =
    let p = parts_of old first kind right usable cells u fits in
    ap (λ l. slice_index l (header_start first)) p.whole
    ∙ get_or_at p.file (kind_byte kind) (drop 1 (header_bytes kind right (length cells) (content_start usable cells)) ++ (pointer_bytes (content_start usable cells) cells ++ (p.zeros ++ (cell_bytes cells ++ p.rest)))) 0 (header_start first) p.file_len

pub cell_count-written_page : (old : List ℕ) (first : Bool) (kind : Kind) (right : Option ℕ) (usable : ℕ) (cells : List (List ℕ)) → IsUsable usable (length old) → Fits first kind usable cells
    → cell_count (written_page old first kind right usable cells) first ≡ length cells
cell_count-written_page old first kind right usable cells u fits =
    let p = parts_of old first kind right usable cells u fits in
    let n = length cells in
    let behind = big_bytes 2 (content_start usable cells % most_usable) ++ 0 ∷ child_bytes kind right in
    let rest = pointer_bytes (content_start usable cells) cells ++ (p.zeros ++ (cell_bytes cells ++ p.rest)) in
    let split : p.file ++ (header_bytes kind right n (content_start usable cells) ++ rest) ≡ (p.file ++ kind_byte kind ∷ 0 ∷ 0 ∷ []) ++ big_bytes 2 n ++ (behind ++ rest) =
    regroup p.file (kind_byte kind ∷ 0 ∷ 0 ∷ []) (big_bytes 2 n) (big_bytes 2 (content_start usable cells % most_usable)) (0 ∷ child_bytes kind right) rest in
    let len : length (p.file ++ kind_byte kind ∷ 0 ∷ 0 ∷ []) ≡ header_start first + 3 = length-append p.file (kind_byte kind ∷ 0 ∷ 0 ∷ []) ∙ omega (arith, p.file_len) in
    ap (λ l. big_number 2 (drop (header_start first + 3) l)) (p.whole ∙ split)
    ∙ big_number_inside 2 n (p.file ++ kind_byte kind ∷ 0 ∷ 0 ∷ []) (behind ++ rest) (header_start first + 3) (omega (arith, u.most, fits)) len
  where
    regroup : (f a b c d rest : List ℕ) → f ++ (a ++ b ++ c ++ d ++ rest) ≡ (f ++ a) ++ b ++ ((c ++ d) ++ rest)
    regroup f a b c d rest = simp append_assoc

-- the child behind the other fields of an interior page's own header
right_inside : (old : List ℕ) (first : Bool) (kind : Kind) (page : ℕ) (usable : ℕ) (cells : List (List ℕ)) → IsUsable usable (length old) → Fits first kind usable cells
    → page < 2 ^ 32 → child_len kind ≡ 4 → child_bytes kind (Some page) ≡ big_bytes 4 page
    → HasPageNumber (written_page old first kind (Some page) usable cells) (header_start first + 8) (Some page)
right_inside old first kind page usable cells u fits small four is =
    let p = parts_of old first kind (Some page) usable cells u fits in
    let fields = kind_byte kind ∷ 0 ∷ 0 ∷ big_bytes 2 (length cells) ++ big_bytes 2 (content_start usable cells % most_usable) ++ 0 ∷ [] in
    let rest = pointer_bytes (content_start usable cells) cells ++ (p.zeros ++ (cell_bytes cells ++ p.rest)) in
    let split : p.file ++ ((fields ++ child_bytes kind (Some page)) ++ rest) ≡ (p.file ++ fields) ++ big_bytes 4 page ++ rest =
    ap (λ l. p.file ++ ((fields ++ l) ++ rest)) is ∙ regroup p.file fields (big_bytes 4 page) rest in
    let len : length (p.file ++ fields) ≡ header_start first + 8 = length-append p.file fields ∙ omega (arith, p.file_len) in
    record {
      within = omega (arith, length-written_page old first kind (Some page) usable cells u fits, u.within, fits, four);
      number = ap Some (sym (ap (λ l. big_number 4 (drop (header_start first + 8) l)) (p.whole ∙ split)
          ∙ big_number_inside 4 page (p.file ++ fields) rest (header_start first + 8) small len));
    }
  where
    regroup : (f h x r : List ℕ) → f ++ ((h ++ x) ++ r) ≡ (f ++ h) ++ x ++ r
    regroup f h x r = simp append_assoc

pub right-written_page : (old : List ℕ) (first : Bool) (kind : Kind) (right : Option ℕ) (usable : ℕ) (cells : List (List ℕ)) → IsUsable usable (length old)
    → Fits first kind usable cells → IsChild kind right → HasChild kind (written_page old first kind right usable cells) (header_start first + 8) right
right-written_page old first IndexInner None usable cells u fits is = absurd is
right-written_page old first IndexInner (Some page) usable cells u fits is = right_inside old first IndexInner page usable cells u fits is refl refl
right-written_page old first TableInner None usable cells u fits is = absurd is
right-written_page old first TableInner (Some page) usable cells u fits is = right_inside old first TableInner page usable cells u fits is refl refl
right-written_page old first IndexLeaf right usable cells u fits is = is
right-written_page old first TableLeaf right usable cells u fits is = is

-- the cells from cell i on, and the bytes that cell i takes
pub drop_at_cell : (cells : List (List ℕ)) (i : ℕ) (bytes : List ℕ) → slice_get cells i ≡ Some bytes → drop i cells ≡ bytes ∷ drop (i + 1) cells
drop_at_cell cells i bytes is =
    drop_more cells i bytes (slice_get_within cells i bytes is) ∙ ap (λ b. b ∷ drop (i + 1) cells) (get_or_from_slice_get cells i bytes bytes is)

pub rooms_at_cell : (cells : List (List ℕ)) (i : ℕ) (bytes : List ℕ) → slice_get cells i ≡ Some bytes
    → rooms (take i cells) + room bytes + rooms (drop (i + 1) cells) ≡ rooms cells
rooms_at_cell cells i bytes is =
    omega (
      arith,
      ap rooms (take-append-drop i cells),
      sum_by-append room (take i cells) (drop i cells),
      ap rooms (drop_at_cell cells i bytes is),
      rooms-cons bytes (drop (i + 1) cells),
    )

-- the pointer of a cell
pub pointer-written_page : (old : List ℕ) (first : Bool) (kind : Kind) (right : Option ℕ) (usable : ℕ) (cells : List (List ℕ)) → IsUsable usable (length old) → Fits first kind usable cells
    → (i : ℕ) (bytes : List ℕ) → slice_get cells i ≡ Some bytes
    → pointer (written_page old first kind right usable cells) first kind i ≡ cell_place usable cells i
pointer-written_page old first kind right usable cells u fits i bytes is =
    let p = parts_of old first kind right usable cells u fits in
    let content = content_start usable cells in
    let at = cell_place usable cells i in
    let header = header_bytes kind right (length cells) content in
    let before = pointer_bytes content (take i cells) in
    let after = pointer_bytes (at + room bytes) (drop (i + 1) cells) in
    let rest = p.zeros ++ (cell_bytes cells ++ p.rest) in
    let within = slice_get_within cells i bytes is in
    let parted : pointer_bytes content cells ≡ before ++ (big_bytes 2 at ++ after) =
    ap (pointer_bytes content) (sym (take-append-drop i cells)) ∙ pointer_bytes-append content (take i cells) (drop i cells)
    ∙ ap (λ l. before ++ pointer_bytes at l) (drop_at_cell cells i bytes is) in
    let split : p.file ++ (header ++ (pointer_bytes content cells ++ rest)) ≡ (p.file ++ header ++ before) ++ big_bytes 2 at ++ (after ++ rest) =
    ap (λ l. p.file ++ (header ++ (l ++ rest))) parted ∙ regroup p.file header before (big_bytes 2 at) after rest in
    let len : length (p.file ++ header ++ before) ≡ pointer_place first kind i =
    length-append (p.file ++ header) before
    ∙ omega (arith, length-append p.file header, p.file_len, p.header_len, length-pointer_bytes content (take i cells), length-take-le i cells (omega arith)) in
    ap (λ l. big_number 2 (drop (pointer_place first kind i) l)) (p.whole ∙ split)
    ∙ big_number_inside 2 at (p.file ++ header ++ before) (after ++ rest) (pointer_place first kind i)
    (omega (arith, u.most, fits, rooms_at_cell cells i bytes is)) len
  where
    regroup : (f h b x a rest : List ℕ) → f ++ (h ++ (b ++ (x ++ a) ++ rest)) ≡ (f ++ h ++ b) ++ x ++ (a ++ rest)
    regroup f h b x a rest = simp append_assoc

-- what stands from a cell's place on
pub cell-written_page : (old : List ℕ) (first : Bool) (kind : Kind) (right : Option ℕ) (usable : ℕ) (cells : List (List ℕ)) → IsUsable usable (length old) → Fits first kind usable cells
    → (i : ℕ) (bytes : List ℕ) → slice_get cells i ≡ Some bytes
    → (rest : List ℕ) × (drop (cell_place usable cells i) (written_page old first kind right usable cells) ≡ bytes ++ rest)
cell-written_page old first kind right usable cells u fits i bytes is =
    let p = parts_of old first kind right usable cells u fits in
    let content = content_start usable cells in
    let at = cell_place usable cells i in
    let header = header_bytes kind right (length cells) content in
    let pointers = pointer_bytes content cells in
    let before = cell_bytes (take i cells) in
    let fill : List ℕ = replicate (room bytes - length bytes) 0 in
    let after = cell_bytes (drop (i + 1) cells) in
    let parted : cell_bytes cells ≡ before ++ ((bytes ++ fill) ++ after) =
    ap cell_bytes (sym (take-append-drop i cells)) ∙ cell_bytes-append (take i cells) (drop i cells)
    ∙ ap (λ l. before ++ cell_bytes l) (drop_at_cell cells i bytes is) in
    let split : p.file ++ (header ++ (pointers ++ (p.zeros ++ (cell_bytes cells ++ p.rest)))) ≡ (p.file ++ header ++ pointers ++ p.zeros ++ before) ++ (bytes ++ (fill ++ (after ++ p.rest))) =
    ap (λ l. p.file ++ (header ++ (pointers ++ (p.zeros ++ (l ++ p.rest))))) parted
    ∙ regroup p.file header pointers p.zeros before bytes fill after p.rest in
    let len : length (p.file ++ header ++ pointers ++ p.zeros ++ before) ≡ at =
    length-append (p.file ++ header ++ pointers ++ p.zeros) before
    ∙ omega (
      arith,
      length-append (p.file ++ header ++ pointers) p.zeros,
      length-append (p.file ++ header) pointers,
      length-append p.file header,
      p.file_len,
      p.header_len,
      p.zeros_len,
      length-pointer_bytes content cells,
      length-cell_bytes (take i cells),
      fits,
    ) in (
      fill ++ (after ++ p.rest),
      ap (drop at) (p.whole ∙ split) ∙ drop_at (p.file ++ header ++ pointers ++ p.zeros ++ before) (bytes ++ (fill ++ (after ++ p.rest))) at len,
    )
  where
    regroup : (f h p z b x y a d : List ℕ) → f ++ (h ++ (p ++ (z ++ ((b ++ ((x ++ y) ++ a)) ++ d)))) ≡ (f ++ h ++ p ++ z ++ b) ++ (x ++ (y ++ (a ++ d)))
    regroup f h p z b x y a d = simp append_assoc
