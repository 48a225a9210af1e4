-- What is written is a record of the values.
use Rattle.std.proofs.Common.{◌≡◌, ℕ, suc, ◌+◌, ◌-◌, ◌*◌, ◌/◌, ◌%◌, ◌^◌, ◌<◌, ◌≤◌, inl, inr, ℤ, pos, negsuc, ◌-ℤ◌, Bool, ◌==◌, ◌&&◌, nat_lt, if◌then◌else◌, List, [], ◌∷◌, length, map, refl, sym, ap, subst, ◌∙◌, arith}
use Rattle.std.specs.Prelude.{FitsSigned, IfOk, Result, Ok, Err}
use Rattle.std.specs.Int.{w64}
use Rattle.std.specs.List.{AllByRecursion}
use Rattle.std.proofs.lemmas.Bool.{and_parts, cases_Bool, cases_lt, le-ltb, lt-ltb, ltb-true}
use Rattle.std.proofs.lemmas.Bool.Decides.{nat_tests}
use Rattle.std.proofs.lemmas.Int.{ints}
use Rattle.byteorder.specs.Endian.{big_number, low_bytes, twos_complement}
use Rattle.alter_bytes.specs.Varint.{IsVarint, varint}
use Rattle.alter_bytes.proofs.Fields.{big_number-big_bytes, length-big_bytes}
use Rattle.alter_bytes.proofs.VarintLemmas.{varint-is}
use Rattle.record_codec.specs.declared.value.Value.{Value}
use Rattle.record_codec.specs.declared.value.Value.TheVariants.{Null, Int, Real, Text, Blob}
use Rattle.record_codec.specs.Serial.{IsBody, body_size, value_of}
use Rattle.record_codec.specs.Record.{AreBodies, AreSerials, IsRecord}
use Rattle.record_codec.specs.Written.{IsWritable, bodies_of, body_of, integer_bytes, integer_serial, record_of, serial_of, size_len, sized_serial, types_of}
use Rattle.record_codec.proofs.Sizes.{length-size, size_len-le}

-- an integer in two's complement
pub below_half : (w n : ℕ) → n < 2 ^ (8 * w - 1) → twos_complement w n ≡ pos n
below_half w n h = ap (λ (b : Bool). if b then pos n else pos n -ℤ pos (2 ^ (8 * w))) (lt-ltb n (2 ^ (8 * w - 1)) h)

pub above_half : (w n : ℕ) → 2 ^ (8 * w - 1) ≤ n → twos_complement w n ≡ pos n -ℤ pos (2 ^ (8 * w))
above_half w n h = ap (λ (b : Bool). if b then pos n else pos n -ℤ pos (2 ^ (8 * w))) (le-ltb n (2 ^ (8 * w - 1)) h)

pub less_than_none : (m n p : ℕ) → m + suc n ≡ p → pos m -ℤ pos p ≡ negsuc n
less_than_none m n p sum = omega (arith, ints)

back_pos : (w n : ℕ) → n % 2 ^ (8 * w) ≡ n → n < 2 ^ (8 * w - 1) → twos_complement w (low_bytes w64 w (pos n)) ≡ pos n
back_pos w n low small = ap (twos_complement w) low ∙ below_half w n small

back_negsuc : (w n m : ℕ) → (2 ^ 64 - suc n) % 2 ^ (8 * w) ≡ m → 2 ^ (8 * w - 1) ≤ m → m + suc n ≡ 2 ^ (8 * w)
    → twos_complement w (low_bytes w64 w (negsuc n)) ≡ negsuc n
back_negsuc w n m low large sum = ap (twos_complement w) low ∙ above_half w m large ∙ less_than_none m n (2 ^ (8 * w)) sum

-- the integer, or -1 less a negative one
abbrev pub bits_of : ℤ → ℕ
bits_of (pos n) = n
bits_of (negsuc n) = n

-- the value under the serial types of integers
pub value_of-sized : (serial : ℕ) (body : List ℕ) → 1 ≤ serial → serial ≤ 6
    → value_of serial body ≡ Int (twos_complement (length body) (big_number (length body) body))
unfolding value_of
value_of-sized serial body low high = grind (arith, nat_tests)

-- the bytes of an integer that come back are its body
sized_body : (serial w : ℕ) (z : ℤ) → 1 ≤ serial → serial ≤ 6 → body_size serial ≡ w → low_bytes w64 w z < 256 ^ w
    → twos_complement w (low_bytes w64 w z) ≡ z → IsBody serial (Int z) (integer_bytes (body_size serial) z)
sized_body serial w z low high size small back =
    let len : length (integer_bytes w z) ≡ w = length-big_bytes w (low_bytes w64 w z) in
    let number : twos_complement (length (integer_bytes w z)) (big_number (length (integer_bytes w z)) (integer_bytes w z)) ≡ z =
    ap (λ (k : ℕ). twos_complement k (big_number k (integer_bytes w z))) len ∙ ap (twos_complement w) (big_number-big_bytes w (low_bytes w64 w z) small) ∙ back in
    subst (λ (k : ℕ). IsBody serial (Int z) (integer_bytes k z)) (sym size) (record {
      known = (λ e. omega arith, λ e. omega arith);
      size = len ∙ sym size;
      meaning = sym (value_of-sized serial (integer_bytes w z) low high ∙ ap (λ y. Int y) number);
    })

abbrev pub HasBody : ℤ → ℕ → Type 0
HasBody z serial = IsBody serial (Int z) (integer_bytes (body_size serial) z)

one_byte : (z : ℤ) → bits_of z < 2 ^ 7 → HasBody z 1
unfolding body_size
one_byte (pos n) small = sized_body 1 1 (pos n) (omega arith) (omega arith) refl (omega arith) (back_pos 1 n (omega arith) small)
one_byte (negsuc n) small =
    sized_body 1 1 (negsuc n) (omega arith) (omega arith) refl (omega arith) (back_negsuc 1 n (2 ^ 8 - suc n) (omega arith) (omega arith) (omega arith))

two_bytes : (z : ℤ) → bits_of z < 2 ^ 15 → HasBody z 2
unfolding body_size
two_bytes (pos n) small = sized_body 2 2 (pos n) (omega arith) (omega arith) refl (omega arith) (back_pos 2 n (omega arith) small)
two_bytes (negsuc n) small =
    sized_body 2 2 (negsuc n) (omega arith) (omega arith) refl (omega arith) (back_negsuc 2 n (2 ^ 16 - suc n) (omega arith) (omega arith) (omega arith))

three_bytes : (z : ℤ) → bits_of z < 2 ^ 23 → HasBody z 3
unfolding body_size
three_bytes (pos n) small = sized_body 3 3 (pos n) (omega arith) (omega arith) refl (omega arith) (back_pos 3 n (omega arith) small)
three_bytes (negsuc n) small =
    sized_body 3 3 (negsuc n) (omega arith) (omega arith) refl (omega arith) (back_negsuc 3 n (2 ^ 24 - suc n) (omega arith) (omega arith) (omega arith))

four_bytes : (z : ℤ) → bits_of z < 2 ^ 31 → HasBody z 4
unfolding body_size
four_bytes (pos n) small = sized_body 4 4 (pos n) (omega arith) (omega arith) refl (omega arith) (back_pos 4 n (omega arith) small)
four_bytes (negsuc n) small =
    sized_body 4 4 (negsuc n) (omega arith) (omega arith) refl (omega arith) (back_negsuc 4 n (2 ^ 32 - suc n) (omega arith) (omega arith) (omega arith))

six_bytes : (z : ℤ) → bits_of z < 2 ^ 47 → HasBody z 5
unfolding body_size
six_bytes (pos n) small = sized_body 5 6 (pos n) (omega arith) (omega arith) refl (omega arith) (back_pos 6 n (omega arith) small)
six_bytes (negsuc n) small =
    sized_body 5 6 (negsuc n) (omega arith) (omega arith) refl (omega arith) (back_negsuc 6 n (2 ^ 48 - suc n) (omega arith) (omega arith) (omega arith))

eight_bytes : (z : ℤ) → bits_of z < 2 ^ 63 → HasBody z 6
unfolding body_size
eight_bytes (pos n) small = sized_body 6 8 (pos n) (omega arith) (omega arith) refl (omega arith) (back_pos 8 n (omega arith) small)
eight_bytes (negsuc n) small =
    sized_body 6 8 (negsuc n) (omega arith) (omega arith) refl (omega arith) (back_negsuc 8 n (2 ^ 64 - suc n) (omega arith) (omega arith) (omega arith))

-- the shortest serial type, from the least on
sized_1 : (n : ℕ) → n < 2 ^ 7 → sized_serial n ≡ 1
unfolding sized_serial
sized_1 n small = grind (arith, nat_tests)

sized_2 : (n : ℕ) → 2 ^ 7 ≤ n → n < 2 ^ 15 → sized_serial n ≡ 2
unfolding sized_serial
sized_2 n large small = grind (arith, nat_tests)

sized_3 : (n : ℕ) → 2 ^ 15 ≤ n → n < 2 ^ 23 → sized_serial n ≡ 3
unfolding sized_serial
sized_3 n large small = grind (arith, nat_tests)

sized_4 : (n : ℕ) → 2 ^ 23 ≤ n → n < 2 ^ 31 → sized_serial n ≡ 4
unfolding sized_serial
sized_4 n large small = grind (arith, nat_tests)

sized_5 : (n : ℕ) → 2 ^ 31 ≤ n → n < 2 ^ 47 → sized_serial n ≡ 5
unfolding sized_serial
sized_5 n large small = grind (arith, nat_tests)

sized_6 : (n : ℕ) → 2 ^ 47 ≤ n → sized_serial n ≡ 6
unfolding sized_serial
sized_6 n large = grind (arith, nat_tests)

pub sized_cases : (n : ℕ) (P : ℕ → Type 0) → (n < 2 ^ 7 → P 1) → (2 ^ 7 ≤ n → n < 2 ^ 15 → P 2) → (2 ^ 15 ≤ n → n < 2 ^ 23 → P 3)
    → (2 ^ 23 ≤ n → n < 2 ^ 31 → P 4) → (2 ^ 31 ≤ n → n < 2 ^ 47 → P 5) → (2 ^ 47 ≤ n → P 6) → P (sized_serial n)
sized_cases n P one two three four five six = elim (cases_lt n (2 ^ 7)) [
  | inl small ↦ subst P (sym (sized_1 n small)) (one small)
  | inr a ↦ elim (cases_lt n (2 ^ 15)) [
    | inl small ↦ subst P (sym (sized_2 n a small)) (two a small)
    | inr b ↦ elim (cases_lt n (2 ^ 23)) [
      | inl small ↦ subst P (sym (sized_3 n b small)) (three b small)
      | inr c ↦ elim (cases_lt n (2 ^ 31)) [
        | inl small ↦ subst P (sym (sized_4 n c small)) (four c small)
        | inr d ↦ elim (cases_lt n (2 ^ 47)) [
          | inl small ↦ subst P (sym (sized_5 n d small)) (five d small)
          | inr e ↦ subst P (sym (sized_6 n e)) (six e)
        ]
      ]
    ]
  ]
]

sized_is : (z : ℤ) → bits_of z < 2 ^ 63 → HasBody z (sized_serial (bits_of z))
sized_is z most =
    sized_cases (bits_of z) (HasBody z) (one_byte z) (λ a b. two_bytes z b) (λ a b. three_bytes z b) (λ a b. four_bytes z b) (λ a b. six_bytes z b)
    (λ a. eight_bytes z most)

-- the integers 0 and 1
zero_body : HasBody (pos 0) 8
unfolding body_size value_of
zero_body = record { known = (λ e. omega arith, λ e. omega arith); size = refl; meaning = refl }

one_body : HasBody (pos 1) 9
unfolding body_size value_of
one_body = record { known = (λ e. omega arith, λ e. omega arith); size = refl; meaning = refl }

no_byte : (n : ℕ) → n < 2 → HasBody (pos n) (8 + n)
no_byte n small = elim (cases_lt n 1) [
  | inl below ↦ let none : 0 ≡ n = omega arith in subst (λ (k : ℕ). HasBody (pos k) (8 + k)) none zero_body
  | inr some ↦ let one : 1 ≡ n = omega arith in subst (λ (k : ℕ). HasBody (pos k) (8 + k)) one one_body
]

integer_is : (format : ℕ) (z : ℤ) → bits_of z < 2 ^ 63 → HasBody z (integer_serial format z)
unfolding integer_serial
integer_is format (negsuc n) most = sized_is (negsuc n) most
integer_is format (pos n) most = let P : Bool → Type 0 = λ b. HasBody (pos n) (if b then 8 + n else sized_serial n) in
    elim (cases_Bool ((format == 4) && nat_lt n 2)) [
      | inl both ↦ subst P (sym both) (no_byte n (ltb-true n 2 (and_parts (format == 4) (nat_lt n 2) both).1))
      | inr either ↦ subst P (sym either) (sized_is (pos n) most)
    ]

pub integer_serial-le : (format : ℕ) (z : ℤ) → integer_serial format z ≤ 9
unfolding integer_serial sized_serial
integer_serial-le format (pos n) = grind (arith, nat_tests)
integer_serial-le format (negsuc n) = grind (arith, nat_tests)

-- a signed number of 64 bits
pub bits_of-lt : (z : ℤ) → FitsSigned w64 z → bits_of z < 2 ^ 63
bits_of-lt (pos n) fits = fits.sfits
bits_of-lt (negsuc n) fits = fits.sfits

-- what follows of a value that is there follows anyway
pub if_ok_so : {T E : Type 0} (P : T → Type 0) (Q : Type 0) (r : Result T E) → ((x : T) → P x → Q) → IfOk r P → IfOk r (λ x. Q)
if_ok_so P Q (Ok x) so is = so x is
if_ok_so P Q (Err e) so is = is

-- each value
pub null_writable : (format : ℕ) → IsWritable format Null
unfolding serial_of body_of body_size value_of
null_writable format = record { fits = omega arith; body = record { known = (λ e. omega arith, λ e. omega arith); size = refl; meaning = refl } }

pub integer_writable : (format : ℕ) (z : ℤ) → bits_of z < 2 ^ 63 → IsWritable format (Int z)
unfolding serial_of body_of
integer_writable format z most = record { fits = omega (arith, integer_serial-le format z); body = integer_is format z most }

pub real_writable : (format : ℕ) (bytes : List ℕ) → length bytes ≡ 8 → IsWritable format (Real bytes)
unfolding serial_of body_of body_size value_of
real_writable format bytes len = record { fits = omega arith; body = record { known = (λ e. omega arith, λ e. omega arith); size = len; meaning = refl } }

pub value_of-text : (serial : ℕ) (body : List ℕ) → 13 ≤ serial → serial % 2 ≡ 1 → value_of serial body ≡ Text body
unfolding value_of
value_of-text serial body least odd = grind (arith, nat_tests)

pub value_of-blob : (serial : ℕ) (body : List ℕ) → 12 ≤ serial → serial % 2 ≡ 0 → value_of serial body ≡ Blob body
unfolding value_of
value_of-blob serial body least even = grind (arith, nat_tests)

pub body_size-long : (serial : ℕ) → 12 ≤ serial → body_size serial ≡ (serial - 12) / 2
unfolding body_size
body_size-long serial least = grind (arith, nat_tests)

pub text_writable : (format : ℕ) (bytes : List ℕ) → 13 + 2 * length bytes < 2 ^ 64 → IsWritable format (Text bytes)
unfolding serial_of body_of
text_writable format bytes fits =
    let serial = 13 + 2 * length bytes in
    record {
      fits = fits;
      body = record {
        known = (λ e. omega arith, λ e. omega arith);
        size = omega (arith, body_size-long serial (omega arith));
        meaning = sym (value_of-text serial bytes (omega arith) (omega arith));
      };
    }

pub blob_writable : (format : ℕ) (bytes : List ℕ) → 12 + 2 * length bytes < 2 ^ 64 → IsWritable format (Blob bytes)
unfolding serial_of body_of
blob_writable format bytes fits =
    let serial = 12 + 2 * length bytes in
    record {
      fits = fits;
      body = record {
        known = (λ e. omega arith, λ e. omega arith);
        size = omega (arith, body_size-long serial (omega arith));
        meaning = sym (value_of-blob serial bytes (omega arith) (omega arith));
      };
    }

-- all values
types_are : (format : ℕ) (values : List Value) → AllByRecursion (IsWritable format) values → AreSerials (map (serial_of format) values) (types_of format values)
types_are format [] all = refl
types_are format (v ∷ vs) all = (
  varint (serial_of format v),
  types_of format vs,
  refl,
  varint-is (serial_of format v) all.0.fits,
  all.0.body.known,
  types_are format vs all.1,
)

bodies_are : (format : ℕ) (values : List Value) → AllByRecursion (IsWritable format) values → AreBodies (map (serial_of format) values) values (bodies_of format values)
bodies_are format [] all = refl
bodies_are format (v ∷ vs) all = (body_of format v, bodies_of format vs, refl, all.0.body, bodies_are format vs all.1)

pub record_is : (format : ℕ) (values : List Value) → AllByRecursion (IsWritable format) values → length (types_of format values) < 2 ^ 63
    → IsRecord (record_of format values) values
unfolding record_of
record_is format values all few =
    let n = length (types_of format values) in
    let size : size_len n + n ≡ length (varint (size_len n + n)) + n = omega (arith, length-size n) in
    record {
      types = types_of format values;
      bodies = bodies_of format values;
      serials = map (serial_of format) values;
      header = record {
        size_field = varint (size_len n + n);
        whole = refl;
        size = subst (IsVarint (varint (size_len n + n))) size (varint-is (size_len n + n) (omega (arith, size_len-le n)));
      };
      types_are = types_are format values all;
      bodies_are = bodies_are format values all;
    }
