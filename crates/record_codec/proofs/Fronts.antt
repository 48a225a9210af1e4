-- What stands in front: the header, a serial type, a body.
use Rattle.std.proofs.Common.{◌≡◌, ℕ, ◌+◌, ◌-◌, ◌<◌, ◌≤◌, ◌⊎◌, inl, inr, List, [], ◌∷◌, ◌++◌, length, take, drop, Option, Some, None, refl, sym, ap, subst, ◌∙◌, arith, append-nil, length-append, length-drop, append_assoc}
use Rattle.std.proofs.lemmas.List.{drop_at, length-take-le, take-append-drop, take-take}
use Rattle.common_laws.proofs.Lists.{same_front}
use Rattle.alter_bytes.specs.Varint.{IsVarint, varint_at, varint_from}
use Rattle.alter_bytes.proofs.VarintLemmas.{one_form, same_reading, varint_from-form, varint_from-reads}
use Rattle.record_codec.specs.declared.value.Value.{Value}
use Rattle.record_codec.specs.Serial.{IsBody, IsSerial}
use Rattle.record_codec.specs.Record.{AreBodies, AreSerials, HasHeader}
use Rattle.record_codec.specs.Faults.{BeginsNoSerial, HasNoHeader}

-- behind fronts of one length equal lists are equal
pub same_back : {X : Type 0} (a b x y : List X) → a ++ x ≡ b ++ y → length a ≡ length b → x ≡ y
same_back a b x y same len = sym (drop_at a x (length a) refl) ∙ ap (drop (length a)) same ∙ drop_at b y (length a) (sym len)

-- a varint has a byte
pub length-varint-some : (bytes : List ℕ) (v : ℕ) → IsVarint bytes v → 1 ≤ length bytes
length-varint-some bytes v is = elim is [
  | inl s ↦ omega (arith, ap length s.whole, length-append s.front (s.last ∷ []))
  | inr l ↦ omega (arith, ap length l.whole, length-append l.front (l.last ∷ []))
]

-- no serial type stands where nothing does
pub nothing_begins : (bytes : List ℕ) → bytes ≡ [] → BeginsNoSerial bytes
nothing_begins bytes none = λ first others serial whole is known.
    omega (arith, length-varint-some first serial is, ap length whole, ap length none, length-append first others)

-- the number of a varint in front, and its length
pub front_reads : (bytes first rest : List ℕ) (v : ℕ) → bytes ≡ first ++ rest → IsVarint first v → varint_at bytes 0 ≡ Some (v, length first)
front_reads bytes first rest v whole is = ap (varint_from 8 0) whole ∙ varint_from-form first v rest is

-- a header's size in front
pub header_reads : (bytes types bodies : List ℕ) (h : HasHeader bytes types bodies)
    → varint_at bytes 0 ≡ Some (length h.size_field + length types, length h.size_field)
header_reads bytes types bodies h =
    front_reads bytes h.size_field (types ++ bodies) (length h.size_field + length types) (h.whole ∙ append_assoc h.size_field types bodies) h.size

pub header_length : (bytes types bodies : List ℕ) (h : HasHeader bytes types bodies) → length bytes ≡ length h.size_field + length types + length bodies
header_length bytes types bodies h =
    omega (arith, ap length h.whole, length-append (h.size_field ++ types) bodies, length-append h.size_field types)

-- the bytes of a number that fits are a header's size
pub header_found : (bytes : List ℕ) (size len : ℕ) → varint_at bytes 0 ≡ Some (size, len) → len ≤ size → size ≤ length bytes
    → HasHeader bytes (drop len (take size bytes)) (drop size bytes)
header_found bytes size len read long fits =
    let r = varint_from-reads bytes size len read in
    let front : take len (take size bytes) ≡ take len bytes = take-take len size bytes long in
    let header : take len bytes ++ drop len (take size bytes) ≡ take size bytes =
    ap (λ l. l ++ drop len (take size bytes)) (sym front) ∙ take-append-drop len (take size bytes) in
    let field : length (take len bytes) ≡ len = length-take-le len bytes (omega arith) in
    let types : length (drop len (take size bytes)) ≡ size - len = omega (arith, length-drop len (take size bytes), length-take-le size bytes fits) in
    let number : size ≡ length (take len bytes) + length (drop len (take size bytes)) = omega arith in
    record {
      size_field = take len bytes;
      whole = sym (ap (λ l. l ++ drop size bytes) header ∙ take-append-drop size bytes);
      size = subst (IsVarint (take len bytes)) number r.form;
    }

-- other bytes are none
pub no_header_without : (bytes : List ℕ) → varint_at bytes 0 ≡ None → HasNoHeader bytes
no_header_without bytes none = λ types bodies h. apart (length h.size_field + length types, length h.size_field) (sym none ∙ header_reads bytes types bodies h)
  where
    apart : (read : ℕ × ℕ) → ◌≡◌ {A = Option (ℕ × ℕ)} None (Some read) → ⊥
    apart read e = cc

pub no_header_so_long : (bytes : List ℕ) (size len : ℕ) → varint_at bytes 0 ≡ Some (size, len) → (size < len) ⊎ (length bytes < size) → HasNoHeader bytes
no_header_so_long bytes size len read unfit = λ types bodies h.
    let same = same_reading size (length h.size_field + length types) len (length h.size_field) (sym read ∙ header_reads bytes types bodies h) in
    elim unfit [
      | inl less ↦ omega (arith, same.0, same.1)
      | inr more ↦ omega (arith, same.0, same.1, header_length bytes types bodies h)
    ]

-- bytes have one header
pub one_header : (bytes types bodies others behind : List ℕ) → HasHeader bytes types bodies → HasHeader bytes others behind
    → (types ≡ others) × (bodies ≡ behind)
one_header bytes types bodies others behind h g =
    let same = same_reading (length h.size_field + length types) (length g.size_field + length others) (length h.size_field) (length g.size_field)
    (sym (header_reads bytes types bodies h) ∙ header_reads bytes others behind g) in
    let joined : h.size_field ++ (types ++ bodies) ≡ g.size_field ++ (others ++ behind) =
    sym (append_assoc h.size_field types bodies) ∙ sym h.whole ∙ g.whole ∙ append_assoc g.size_field others behind in
    let rest = same_back h.size_field g.size_field (types ++ bodies) (others ++ behind) joined same.1 in
    let len : length types ≡ length others = omega (arith, same.0, same.1) in
    (same_front types others bodies behind rest len, same_back types others bodies behind rest len)

-- a serial type in front
pub serial_found : (types : List ℕ) (serial len : ℕ) → varint_at types 0 ≡ Some (serial, len)
    → (types ≡ take len types ++ drop len types) × IsVarint (take len types) serial × (length (drop len types) < length types)
serial_found types serial len read =
    let r = varint_from-reads types serial len read in
    let some : 1 ≤ length (take len types) = length-varint-some (take len types) serial r.form in
    let front : length (take len types) ≡ len = length-take-le len types (omega arith) in
    (sym (take-append-drop len types), r.form, omega (arith, length-drop len types))

pub no_serial_without : (types : List ℕ) → varint_at types 0 ≡ None → BeginsNoSerial types
no_serial_without types none = λ first others serial whole is known. apart (serial, length first) (sym none ∙ front_reads types first others serial whole is)
  where
    apart : (read : ℕ × ℕ) → ◌≡◌ {A = Option (ℕ × ℕ)} None (Some read) → ⊥
    apart read e = cc

pub no_serial_reserved : (types : List ℕ) (number len : ℕ) → varint_at types 0 ≡ Some (number, len) → (number ≡ 10) ⊎ (number ≡ 11) → BeginsNoSerial types
no_serial_reserved types number len read reserved = λ first others serial whole is known.
    let same = same_reading number serial len (length first) (sym read ∙ front_reads types first others serial whole is) in
    elim reserved [
      | inl ten ↦ known.0 (sym same.0 ∙ ten)
      | inr eleven ↦ known.1 (sym same.0 ∙ eleven)
    ]

-- one more serial type, and one more body
pub serials_push : (serials : List ℕ) (serial : ℕ) (front first : List ℕ) → AreSerials serials front → IsVarint first serial → IsSerial serial
    → AreSerials (serials ++ serial ∷ []) (front ++ first)
serials_push [] serial front first are is known = (first, [], ap (λ l. l ++ first) are ∙ sym (append-nil first), is, known, refl)
serials_push (s ∷ ss) serial front first are is known = (
  are.0,
  are.1 ++ first,
  ap (λ l. l ++ first) are.2 ∙ append_assoc are.0 are.1 first,
  are.3,
  are.4,
  serials_push ss serial are.1 first are.5 is known,
)

pub bodies_push : (serials : List ℕ) (values : List Value) (serial : ℕ) (value : Value) (front first : List ℕ)
    → AreBodies serials values front → IsBody serial value first → AreBodies (serials ++ serial ∷ []) (values ++ value ∷ []) (front ++ first)
bodies_push [] [] serial value front first are is = (first, [], ap (λ l. l ++ first) are ∙ sym (append-nil first), is, refl)
bodies_push [] (v ∷ vs) serial value front first are is = absurd are
bodies_push (s ∷ ss) [] serial value front first are is = absurd are
bodies_push (s ∷ ss) (v ∷ vs) serial value front first are is = (
  are.0,
  are.1 ++ first,
  ap (λ l. l ++ first) are.2 ∙ append_assoc are.0 are.1 first,
  are.3,
  bodies_push ss vs serial value are.1 first are.4 is,
)

-- where a serial type stands in front, it is the first of those that stand there
pub next_serial : (all types first behind : List ℕ) (serial : ℕ) → AreSerials all types → types ≡ first ++ behind → IsVarint first serial
    → (others : List ℕ) × (all ≡ serial ∷ others) × AreSerials others behind
next_serial [] types first behind serial are whole is =
    absurd (omega (arith, length-varint-some first serial is, ap length are, ap length whole, length-append first behind))
next_serial (s ∷ ss) types first behind serial are whole is =
    let joined : are.0 ++ are.1 ≡ first ++ behind = sym are.2 ∙ whole in
    let same = one_form are.0 first are.1 behind s serial are.3 is joined in
    let back : are.1 ≡ behind = same_back are.0 first are.1 behind joined (ap length same.0) in
    (ss, ap (λ n. n ∷ ss) same.1, subst (λ l. AreSerials ss l) back are.5)

-- where none stands in front, there are no more
pub no_more_serials : (all types : List ℕ) → AreSerials all types → BeginsNoSerial types → all ≡ []
no_more_serials [] types are none = refl
no_more_serials (s ∷ ss) types are none = absurd (none are.0 are.1 s are.2 are.3 are.4)
