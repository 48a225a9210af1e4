-- Each element of what is written is a byte, and the number of some bytes is bounded.
use Rattle.std.proofs.Common.{ℕ, zero, suc, ◌+◌, ◌/◌, ◌%◌, ◌^◌, ◌<◌, inl, inr, slice_index, List, ◌++◌, length, refl, sym, subst, arith}
use Rattle.std.specs.Int.{byte_at, bytes_high_first}
use Rattle.std.specs.List.{All}
use Rattle.std.proofs.lemmas.Bool.{cases_lt}
use Rattle.std.proofs.lemmas.List.{drop_at, get_or_past, take_at}
use Rattle.std.proofs.lemmas.List.Elements.{All-cons, All-drop, All-get_or, All-nil, All-push, All-take}
use Rattle.byteorder.specs.Endian.{big_bytes, big_number}
use Rattle.byteorder.specs.Numbers.{big_from-lt}
use Rattle.alter_bytes.specs.Varint.{higher_septets, septet_bytes, varint}
use Rattle.alter_bytes.proofs.VarintLemmas.{varint-long, varint-short}

-- a byte
abbrev pub IsByte : ℕ → Type 0
IsByte b = b < 256

pub bytes_left : (xs ys : List ℕ) → All IsByte (xs ++ ys) → All IsByte xs
bytes_left xs ys h = subst (All IsByte) (take_at xs ys (length xs) refl) (All-take IsByte (length xs) (xs ++ ys) h)

pub bytes_right : (xs ys : List ℕ) → All IsByte (xs ++ ys) → All IsByte ys
bytes_right xs ys h = subst (All IsByte) (drop_at xs ys (length xs) refl) (All-drop IsByte (length xs) (xs ++ ys) h)

-- the number of some bytes stays below its power
pub big_number-lt : (n : ℕ) (bytes : List ℕ) → All IsByte bytes → big_number n bytes < 256 ^ n
big_number-lt n bytes h = big_from-lt 0 n bytes below
  where
    below : (k : ℕ) → slice_index bytes k < 256
    below k = elim (cases_lt k (length bytes)) [
      | inl inside ↦ All-get_or IsByte bytes k 0 inside h
      | inr past ↦ subst (λ (b : ℕ). b < 256) (sym (get_or_past bytes k 0 past)) (omega arith)
    ]

-- the bytes of varints and of numbers
septet_bytes-bytes : (n v : ℕ) → All IsByte (septet_bytes n v)
unfolding septet_bytes
septet_bytes-bytes zero v = All-nil IsByte
septet_bytes-bytes (suc n) v =
    All-push IsByte (septet_bytes n (v / 128)) (128 + v % 128) (septet_bytes-bytes n (v / 128)) (omega arith)

pub varint-bytes : (v : ℕ) → All IsByte (varint v)
varint-bytes v = elim (cases_lt (higher_septets 8 v) 8) [
  | inl few ↦
      subst (All IsByte) (sym (varint-short v few))
      (All-push IsByte (septet_bytes (higher_septets 8 v) (v / 128)) (v % 128) (septet_bytes-bytes (higher_septets 8 v) (v / 128)) (omega arith))
  | inr many ↦
      subst (All IsByte) (sym (varint-long v many))
      (All-push IsByte (septet_bytes 8 (v / 256)) (v % 256) (septet_bytes-bytes 8 (v / 256)) (omega arith))
]

pub big_bytes-bytes : (n v : ℕ) → All IsByte (big_bytes n v)
big_bytes-bytes zero v = All-nil IsByte
big_bytes-bytes (suc n) v = All-cons IsByte (byte_at n v) (bytes_high_first n v) (low n v) (big_bytes-bytes n v)
  where
    low : (k v : ℕ) → byte_at k v < 256
    low zero v = omega arith
    low (suc k) v = omega arith
