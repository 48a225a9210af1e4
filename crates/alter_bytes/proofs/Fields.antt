-- Bytes written over others, and big-endian numbers inside a list.
use Rattle.std.proofs.Common.{◌≡◌, ℕ, ◌+◌, ◌-◌, ◌^◌, ◌<◌, ◌≤◌, ◌⊎◌, inl, inr, List, [], ◌++◌, length, take, drop, slice_index, refl, sym, ap, ap₂, ◌∙◌, arith, append-nil, length-append, length-drop, append_assoc}
use Rattle.std.proofs.lemmas.List.{drop-drop, drop-take, get_or-drop, get_or-take, length-take-le, take-append-drop, take-append-le, take_at}
use Rattle.byteorder.specs.Endian.{big_bytes, big_number}
use Rattle.byteorder.specs.Numbers.{big_from-append, big_from-take, big_number-reads_back, length-bytes_high_first}
use Rattle.common_laws.proofs.Lists.{drop_front, drop_mid, take_mid}
use Rattle.alter_bytes.specs.Field.{overlaid}

-- bytes that are written over others: how many there are, and those before, inside and behind the piece
pub length-overlaid : (bytes : List ℕ) (at : ℕ) (piece : List ℕ) → at + length piece ≤ length bytes
    → length (overlaid bytes at piece) ≡ length bytes
length-overlaid bytes at piece fits =
    let whole = length-append (take at bytes ++ piece) (drop (at + length piece) bytes) in
    let front = length-append (take at bytes) piece in
    omega (arith, whole, front, length-take-le at bytes (omega arith), length-drop (at + length piece) bytes)

pub take-overlaid : (bytes : List ℕ) (at : ℕ) (piece : List ℕ) (n : ℕ) → n ≤ at → at ≤ length bytes
    → take n (overlaid bytes at piece) ≡ take n bytes
take-overlaid bytes at piece n below fits =
    let front : length (take at bytes) ≡ at = length-take-le at bytes fits in
    ap (take n) (append_assoc (take at bytes) piece (drop (at + length piece) bytes))
    ∙ take-append-le n (take at bytes) (piece ++ drop (at + length piece) bytes) (omega arith)
    ∙ sym (take-append-le n (take at bytes) (drop at bytes) (omega arith))
    ∙ ap (take n) (take-append-drop at bytes)

pub mid-overlaid : (bytes : List ℕ) (at : ℕ) (piece : List ℕ) → at ≤ length bytes
    → take (length piece) (drop at (overlaid bytes at piece)) ≡ piece
mid-overlaid bytes at piece fits =
    take_mid (take at bytes) piece (drop (at + length piece) bytes) at (length piece) (length-take-le at bytes fits) refl

pub drop-overlaid : (bytes : List ℕ) (at : ℕ) (piece : List ℕ) (n : ℕ) → at + length piece ≤ n → at ≤ length bytes
    → drop n (overlaid bytes at piece) ≡ drop n bytes
drop-overlaid bytes at piece n behind fits =
    let front : length (take at bytes) ≡ at = length-take-le at bytes fits in
    let split : (at + length piece) + (n - (at + length piece)) ≡ n = omega arith in
    ap (λ k. drop k (overlaid bytes at piece)) (sym split)
    ∙ sym (drop-drop (n - (at + length piece)) (at + length piece) (overlaid bytes at piece))
    ∙ ap (drop (n - (at + length piece))) (drop_mid (take at bytes) piece (drop (at + length piece) bytes) (at + length piece) (omega arith))
    ∙ drop-drop (n - (at + length piece)) (at + length piece) bytes
    ∙ ap (λ k. drop k bytes) split

-- the k bytes from m are apart from a piece of n bytes that is written from `at`
abbrev pub IsApart : ℕ → ℕ → ℕ → ℕ → Type 0
IsApart at n k m = (m + k ≤ at) ⊎ (at + n ≤ m)

-- bytes that are apart from the piece stay
pub part-overlaid : (bytes : List ℕ) (at : ℕ) (piece : List ℕ) (k m : ℕ) → IsApart at (length piece) k m → at ≤ length bytes
    → take k (drop m (overlaid bytes at piece)) ≡ take k (drop m bytes)
part-overlaid bytes at piece k m (inl before) fits =
    sym (drop-take m k (overlaid bytes at piece)) ∙ ap (drop m) (take-overlaid bytes at piece (m + k) before fits) ∙ drop-take m k bytes
part-overlaid bytes at piece k m (inr behind) fits = ap (take k) (drop-overlaid bytes at piece m behind fits)

-- a piece written right behind another is written with it
pub overlaid-behind : (bytes : List ℕ) (at : ℕ) (a b : List ℕ) (behind : ℕ) → behind ≡ at + length a → behind ≤ length bytes
    → overlaid (overlaid bytes at a) behind b ≡ overlaid bytes at (a ++ b)
overlaid-behind bytes at a b behind place fits =
    let front : length (take at bytes ++ a) ≡ behind = length-append (take at bytes) a ∙ omega (arith, length-take-le at bytes (omega arith)) in
    let before : take behind (overlaid bytes at a) ≡ take at bytes ++ a = take_at (take at bytes ++ a) (drop (at + length a) bytes) behind front in
    let after : drop (behind + length b) (overlaid bytes at a) ≡ drop (behind + length b) bytes =
    drop-overlaid bytes at a (behind + length b) (omega arith) (omega arith) in
    let len : behind + length b ≡ at + length (a ++ b) = omega (arith, length-append a b) in
    ap₂ (λ x y. x ++ b ++ y) before (after ∙ ap (λ n. drop n bytes) len)
    ∙ ap (λ x. x ++ drop (at + length (a ++ b)) bytes) (append_assoc (take at bytes) a b)

-- a number that stands inside a list is read back there
pub big_number_inside : (n v : ℕ) (front back : List ℕ) (at : ℕ) → v < 256 ^ n → length front ≡ at
    → big_number n (drop at (front ++ big_bytes n v ++ back)) ≡ v
big_number_inside n v front back at small e =
    ap (big_number n) (drop_front front (big_bytes n v) back at e) ∙ big_number-reads_back n v back small

-- a number reads only its own bytes
pub big_number-append : (n : ℕ) (xs ys : List ℕ) → n ≤ length xs → big_number n (xs ++ ys) ≡ big_number n xs
big_number-append n xs ys h = big_from-append n xs ys h

pub length-big_bytes : (n v : ℕ) → length (big_bytes n v) ≡ n
length-big_bytes n v = length-bytes_high_first n v

-- a number in so many bytes is read back
pub big_number-big_bytes : (n v : ℕ) → v < 256 ^ n → big_number n (big_bytes n v) ≡ v
big_number-big_bytes n v small = ap (big_number n) (sym (append-nil (big_bytes n v))) ∙ big_number-reads_back n v [] small

-- equal bytes at a place make one number there, and are one byte there
pub same_number : (n m : ℕ) (a b : List ℕ) → take n (drop m a) ≡ take n (drop m b) → big_number n (drop m a) ≡ big_number n (drop m b)
same_number n m a b same =
    sym (big_from-take 0 n n (drop m a) (omega arith)) ∙ ap (big_number n) same ∙ big_from-take 0 n n (drop m b) (omega arith)

pub same_byte : (m : ℕ) (a b : List ℕ) → take 1 (drop m a) ≡ take 1 (drop m b) → slice_index a m ≡ slice_index b m
same_byte m a b same = sym (first a) ∙ ap (λ (l : List ℕ). slice_index l 0) same ∙ first b
  where
    first : (l : List ℕ) → slice_index (take 1 (drop m l)) 0 ≡ slice_index l m
    first l =
        let at : m + 0 ≡ m = omega arith in
        get_or-take 1 (drop m l) 0 0 (omega arith) ∙ get_or-drop m l 0 0 ∙ ap (slice_index l) at

-- a number that is apart from the piece stays
pub number-overlaid : (bytes : List ℕ) (at : ℕ) (piece : List ℕ) (n m : ℕ) → IsApart at (length piece) n m → at ≤ length bytes
    → big_number n (drop m (overlaid bytes at piece)) ≡ big_number n (drop m bytes)
number-overlaid bytes at piece n m apart fits =
    same_number n m (overlaid bytes at piece) bytes (part-overlaid bytes at piece n m apart fits)
