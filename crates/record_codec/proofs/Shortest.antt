-- No record of the values is shorter than the one that is written.
use Rattle.std.proofs.Common.{◌≡◌, ℕ, zero, suc, ◌+◌, ◌-◌, ◌*◌, ◌%◌, ◌^◌, ◌<◌, ◌≤◌, ◌⊎◌, inl, inr, ℤ, pos, negsuc, Bool, ◌==◌, ◌&&◌, nat_lt, if◌then◌else◌, List, [], ◌∷◌, ◌++◌, length, refl, sym, ap, subst, ◌∙◌, arith, length-append}
use Rattle.std.specs.List.{All}
use Rattle.std.proofs.lemmas.Bool.{and_parts, cases_Bool, cases_eq, cases_lt, ltb-true}
use Rattle.byteorder.specs.Endian.{big_number, low_bytes, twos_complement}
use Rattle.std.specs.Int.{w64}
use Rattle.alter_bytes.specs.Varint.{varint}
use Rattle.alter_bytes.proofs.Bounds.{IsByte, big_number-lt, bytes_left, bytes_right}
use Rattle.alter_bytes.proofs.Fields.{length-big_bytes}
use Rattle.alter_bytes.proofs.VarintLemmas.{length-varint-least, length-varint-pos}
use Rattle.record_codec.specs.declared.value.Value.{Value}
use Rattle.record_codec.specs.Serial.{body_size, value_of}
use Rattle.record_codec.specs.Record.{AreBodies, AreSerials}
use Rattle.record_codec.specs.Written.{AreOfFormat, IsShortest, bodies_of, body_of, integer_bytes, integer_serial, record_of, serial_of, size_len, sized_serial, types_of}
use Rattle.record_codec.proofs.Fronts.{header_length}
use Rattle.record_codec.proofs.Sizes.{few_bytes, length-size, size_len-least_of}
use Rattle.record_codec.proofs.Writable.{above_half, below_half, bits_of, body_size-long, integer_serial-le, less_than_none, sized_cases, value_of-blob, value_of-sized, value_of-text}

-- what is read of so many bytes is within half of their range
half : (w n : ℕ) → 2 ^ (8 * w) ≡ 2 * 2 ^ (8 * w - 1) → n < 2 ^ (8 * w) → bits_of (twos_complement w n) < 2 ^ (8 * w - 1)
half w n double small = elim (cases_lt n (2 ^ (8 * w - 1))) [
  | inl below ↦ subst (λ z. bits_of z < 2 ^ (8 * w - 1)) (sym (below_half w n below)) below
  | inr above ↦
      let is : twos_complement w n ≡ negsuc (2 ^ (8 * w) - suc n) = above_half w n above ∙ less_than_none n (2 ^ (8 * w) - suc n) (2 ^ (8 * w)) (omega arith) in
      subst (λ z. bits_of z < 2 ^ (8 * w - 1)) (sym is) (omega (arith, double, above, small))
]

-- the fewest bytes of an integer within half of a range
fewest_1 : (n : ℕ) → n < 2 ^ 7 → body_size (sized_serial n) ≤ 1
unfolding body_size
fewest_1 n h = sized_cases n (λ s. body_size s ≤ 1) (λ a. omega arith) (λ a b. omega arith) (λ a b. omega arith) (λ a b. omega arith) (λ a b. omega arith) (λ a. omega arith)

fewest_2 : (n : ℕ) → n < 2 ^ 15 → body_size (sized_serial n) ≤ 2
unfolding body_size
fewest_2 n h = sized_cases n (λ s. body_size s ≤ 2) (λ a. omega arith) (λ a b. omega arith) (λ a b. omega arith) (λ a b. omega arith) (λ a b. omega arith) (λ a. omega arith)

fewest_3 : (n : ℕ) → n < 2 ^ 23 → body_size (sized_serial n) ≤ 3
unfolding body_size
fewest_3 n h = sized_cases n (λ s. body_size s ≤ 3) (λ a. omega arith) (λ a b. omega arith) (λ a b. omega arith) (λ a b. omega arith) (λ a b. omega arith) (λ a. omega arith)

fewest_4 : (n : ℕ) → n < 2 ^ 31 → body_size (sized_serial n) ≤ 4
unfolding body_size
fewest_4 n h = sized_cases n (λ s. body_size s ≤ 4) (λ a. omega arith) (λ a b. omega arith) (λ a b. omega arith) (λ a b. omega arith) (λ a b. omega arith) (λ a. omega arith)

fewest_6 : (n : ℕ) → n < 2 ^ 47 → body_size (sized_serial n) ≤ 6
unfolding body_size
fewest_6 n h = sized_cases n (λ s. body_size s ≤ 6) (λ a. omega arith) (λ a b. omega arith) (λ a b. omega arith) (λ a b. omega arith) (λ a b. omega arith) (λ a. omega arith)

fewest_8 : (n : ℕ) → body_size (sized_serial n) ≤ 8
unfolding body_size
fewest_8 n = sized_cases n (λ s. body_size s ≤ 8) (λ a. omega arith) (λ a b. omega arith) (λ a b. omega arith) (λ a b. omega arith) (λ a b. omega arith) (λ a. omega arith)

-- an integer of so many bytes needs no more
sized_least : (serial n : ℕ) → 1 ≤ serial → serial ≤ 6 → n < 256 ^ body_size serial
    → body_size (sized_serial (bits_of (twos_complement (body_size serial) n))) ≤ body_size serial
unfolding body_size
sized_least zero n low high small = absurd (omega arith)
sized_least (suc zero) n low high small = fewest_1 (bits_of (twos_complement 1 n)) (half 1 n refl small)
sized_least (suc (suc zero)) n low high small = fewest_2 (bits_of (twos_complement 2 n)) (half 2 n refl small)
sized_least (suc (suc (suc zero))) n low high small = fewest_3 (bits_of (twos_complement 3 n)) (half 3 n refl small)
sized_least (suc (suc (suc (suc zero)))) n low high small = fewest_4 (bits_of (twos_complement 4 n)) (half 4 n refl small)
sized_least (suc (suc (suc (suc (suc zero))))) n low high small = fewest_6 (bits_of (twos_complement 6 n)) (half 6 n refl small)
sized_least (suc (suc (suc (suc (suc (suc zero)))))) n low high small = fewest_8 (bits_of (twos_complement 8 n))
sized_least (suc (suc (suc (suc (suc (suc (suc serial))))))) n low high small = absurd (omega arith)

no_body : (n m : ℕ) → n < 2 → body_size (8 + n) ≤ m
unfolding body_size
no_body n m small = elim (cases_lt n 1) [
  | inl below ↦ let none : 0 ≡ n = omega arith in subst (λ (k : ℕ). body_size (8 + k) ≤ m) none (omega arith)
  | inr some ↦ let one : 1 ≡ n = omega arith in subst (λ (k : ℕ). body_size (8 + k) ≤ m) one (omega arith)
]

integer_least : (format : ℕ) (z : ℤ) → body_size (integer_serial format z) ≤ body_size (sized_serial (bits_of z))
unfolding integer_serial
integer_least format (negsuc n) = omega arith
integer_least format (pos n) = let P : Bool → Type 0 = λ b. body_size (if b then 8 + n else sized_serial n) ≤ body_size (sized_serial n) in
    elim (cases_Bool ((format == 4) && nat_lt n 2)) [
      | inl both ↦ subst P (sym both) (no_body n (body_size (sized_serial n)) (ltb-true n 2 (and_parts (format == 4) (nat_lt n 2) both).1))
      | inr either ↦ subst P (sym either) (omega arith)
    ]

-- a value takes no more bytes in the header and none more behind it
record IsNoLonger (format serial : ℕ) (value : Value) (body : List ℕ) : Type 0 where
  pub header : length (varint (serial_of format value)) ≤ length (varint serial)
  pub behind : length (body_of format value) ≤ length body

null_case : (format : ℕ) (body : List ℕ) → IsNoLonger format 0 (value_of 0 body) body
unfolding value_of serial_of body_of
null_case format body = record { header = omega arith; behind = omega arith }

real_case : (format : ℕ) (body : List ℕ) → IsNoLonger format 7 (value_of 7 body) body
unfolding value_of serial_of body_of
real_case format body = record { header = omega arith; behind = omega arith }

zero_case : (body : List ℕ) → IsNoLonger 4 8 (value_of 8 body) body
unfolding value_of serial_of body_of integer_serial body_size
zero_case body = record { header = omega arith; behind = omega arith }

one_case : (body : List ℕ) → IsNoLonger 4 9 (value_of 9 body) body
unfolding value_of serial_of body_of integer_serial body_size
one_case body = record { header = omega arith; behind = omega arith }

integer_case : (format serial : ℕ) (body : List ℕ) → 1 ≤ serial → serial ≤ 6 → All IsByte body → length body ≡ body_size serial
    → IsNoLonger format serial (value_of serial body) body
unfolding serial_of body_of
integer_case format serial body low high small len =
    let z = twos_complement (length body) (big_number (length body) body) in
    let number : big_number (length body) body < 256 ^ body_size serial =
    subst (λ (k : ℕ). big_number (length body) body < 256 ^ k) len (big_number-lt (length body) body small) in
    let least : body_size (sized_serial (bits_of z)) ≤ body_size serial =
    subst (λ (k : ℕ). body_size (sized_serial (bits_of (twos_complement k (big_number (length body) body)))) ≤ body_size serial) (sym len)
    (sized_least serial (big_number (length body) body) low high number) in
    let own : length (integer_bytes (body_size (integer_serial format z)) z) ≡ body_size (integer_serial format z) =
    length-big_bytes (body_size (integer_serial format z)) (low_bytes w64 (body_size (integer_serial format z)) z) in
    subst (λ v. IsNoLonger format serial v body) (sym (value_of-sized serial body low high)) (record {
      header = omega (arith, few_bytes (integer_serial format z) 0 (omega (arith, integer_serial-le format z)), length-varint-pos serial);
      behind = omega (arith, own, integer_least format z, least, len);
    })

text_case : (format serial : ℕ) (body : List ℕ) → 13 ≤ serial → serial % 2 ≡ 1 → length body ≡ body_size serial
    → IsNoLonger format serial (value_of serial body) body
unfolding serial_of body_of
text_case format serial body least odd len =
    let is : 13 + 2 * length body ≡ serial = omega (arith, len, body_size-long serial (omega arith)) in
    subst (λ v. IsNoLonger format serial v body) (sym (value_of-text serial body least odd))
    (record { header = omega (arith, ap (λ (s : ℕ). length (varint s)) is); behind = omega arith })

blob_case : (format serial : ℕ) (body : List ℕ) → 12 ≤ serial → serial % 2 ≡ 0 → length body ≡ body_size serial
    → IsNoLonger format serial (value_of serial body) body
unfolding serial_of body_of
blob_case format serial body least even len =
    let is : 12 + 2 * length body ≡ serial = omega (arith, len, body_size-long serial least) in
    subst (λ v. IsNoLonger format serial v body) (sym (value_of-blob serial body least even))
    (record { header = omega (arith, ap (λ (s : ℕ). length (varint s)) is); behind = omega arith })

-- each value
no_longer : (format serial : ℕ) (body : List ℕ) → All IsByte body → length body ≡ body_size serial → (serial ≡ 10 → ⊥) → (serial ≡ 11 → ⊥)
    → ((serial ≡ 8) ⊎ (serial ≡ 9) → format ≡ 4) → IsNoLonger format serial (value_of serial body) body
no_longer format serial body small len not_10 not_11 of_format = let P : ℕ → Type 0 = λ s. IsNoLonger format s (value_of s body) body in
    elim (cases_eq serial 0) [
      | inl is ↦ subst P (sym is) (null_case format body)
      | inr not_0 ↦ elim (cases_lt serial 7) [
        | inl below ↦ integer_case format serial body (above_zero serial not_0) (omega arith) small len
        | inr a ↦ elim (cases_eq serial 7) [
          | inl is ↦ subst P (sym is) (real_case format body)
          | inr not_7 ↦ elim (cases_eq serial 8) [
            | inl is ↦ subst P (sym is) (subst (λ f. IsNoLonger f 8 (value_of 8 body) body) (sym (of_format (inl is))) (zero_case body))
            | inr not_8 ↦ elim (cases_eq serial 9) [
              | inl is ↦ subst P (sym is) (subst (λ f. IsNoLonger f 9 (value_of 9 body) body) (sym (of_format (inr is))) (one_case body))
              | inr not_9 ↦
                  let from : 12 ≤ serial = past serial a not_7 not_8 not_9 not_10 not_11 in
                  elim (cases_eq (serial % 2) 0) [
                    | inl even ↦ blob_case format serial body from even len
                    | inr not_even ↦ text_case format serial body (odd_from serial from not_even) (odd serial not_even) len
                  ]
            ]
          ]
        ]
      ]
    ]
  where
    above_zero : (s : ℕ) → (s ≡ 0 → ⊥) → 1 ≤ s
    above_zero s not = elim (cases_lt s 1) [
      | inl none ↦ absurd (not (omega arith))
      | inr some ↦ some
    ]

    next : (s n : ℕ) → n ≤ s → (s ≡ n → ⊥) → n + 1 ≤ s
    next s n at not = elim (cases_lt n s) [
      | inl above ↦ omega arith
      | inr within ↦ absurd (not (omega arith))
    ]

    past : (s : ℕ) → 7 ≤ s → (s ≡ 7 → ⊥) → (s ≡ 8 → ⊥) → (s ≡ 9 → ⊥) → (s ≡ 10 → ⊥) → (s ≡ 11 → ⊥) → 12 ≤ s
    past s at a b c d e = next s 11 (next s 10 (next s 9 (next s 8 (next s 7 at a) b) c) d) e

    odd : (s : ℕ) → (s % 2 ≡ 0 → ⊥) → s % 2 ≡ 1
    odd s not = let some = above_zero (s % 2) not in omega arith

    odd_from : (s : ℕ) → 12 ≤ s → (s % 2 ≡ 0 → ⊥) → 13 ≤ s
    odd_from s from not = let is = odd s not in omega arith

-- all values
pieces : (format : ℕ) (serials : List ℕ) (values : List Value) (types bodies : List ℕ) → AreSerials serials types → AreBodies serials values bodies
    → AreOfFormat format serials → All IsByte bodies
    → (length (types_of format values) ≤ length types) × (length (bodies_of format values) ≤ length bodies)
pieces format [] [] types bodies are have of_format small = (omega arith, omega arith)
pieces format [] (v ∷ vs) types bodies are have of_format small = absurd have
pieces format (s ∷ ss) [] types bodies are have of_format small = absurd have
pieces format (s ∷ ss) (v ∷ vs) types bodies are have of_format small =
    let bytes : All IsByte (have.0 ++ have.1) = subst (All IsByte) have.2 small in
    let rest = pieces format ss vs are.1 have.1 are.5 have.4 of_format.1 (bytes_right have.0 have.1 bytes) in
    let one = subst (λ w. IsNoLonger format s w have.0) (sym have.3.meaning)
    (no_longer format s have.0 (bytes_left have.0 have.1 bytes) have.3.size have.3.known.0 have.3.known.1 of_format.0) in
    let field = length-varint-least s are.0 are.3 in (
      omega (arith, ap length are.2, length-append are.0 are.1, length-append (varint (serial_of format v)) (types_of format vs), rest.0, one.header, field),
      omega (arith, ap length have.2, length-append have.0 have.1, length-append (body_of format v) (bodies_of format vs), rest.1, one.behind),
    )

pub record_shortest : (format : ℕ) (values : List Value) → IsShortest format (record_of format values) values
unfolding record_of
record_shortest format values = λ other r small of_format.
    let n = length (types_of format values) in
    let whole : All IsByte (r.header.size_field ++ r.types ++ r.bodies) = subst (All IsByte) r.header.whole small in
    let parts = pieces format r.serials values r.types r.bodies r.types_are r.bodies_are of_format (bytes_right (r.header.size_field ++ r.types) r.bodies whole) in
    let size = size_len-least_of n (length r.header.size_field) (length r.types) parts.0
    (length-varint-least (length r.header.size_field + length r.types) r.header.size_field r.header.size) in
    omega (
      arith,
      header_length other r.types r.bodies r.header,
      length-append (varint (size_len n + n) ++ types_of format values) (bodies_of format values),
      length-append (varint (size_len n + n)) (types_of format values),
      length-size n,
      size,
      parts.0,
      parts.1,
    )
