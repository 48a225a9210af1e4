-- Bytes are a record of one list of values, or have one first fault, and not both.
use Rattle.std.proofs.Common.{◌≡◌, ℕ, ◌<◌, ◌⊎◌, inl, inr, List, [], ◌∷◌, ◌++◌, length, refl, sym, ap, ap₂, subst, ◌∙◌, arith, append-nil, length-append, append_assoc}
use Rattle.common_laws.proofs.Lists.{same_front}
use Rattle.alter_bytes.proofs.VarintLemmas.{one_form}
use Rattle.record_codec.specs.declared.value.Value.{Value}
use Rattle.record_codec.specs.Serial.{body_size, value_of}
use Rattle.record_codec.specs.Record.{AreBodies, AreSerials, AreValues, HasHeader, HaveValues, IsRecord}
use Rattle.record_codec.specs.Faults.{BeginsNoSerial, FirstBad, IsBadSerial, IsShortBody, IsSurplus}
use Rattle.record_codec.proofs.Fronts.{nothing_begins, one_header, same_back}

-- the serial types in front are one list
pub same_stop : (ss ts : List ℕ) (a b x y : List ℕ) → AreSerials ss a → AreSerials ts b → a ++ x ≡ b ++ y → BeginsNoSerial x → BeginsNoSerial y
    → (ss ≡ ts) × (x ≡ y)
same_stop [] [] a b x y are be same none end = (refl, ap (λ l. l ++ x) (sym are) ∙ same ∙ ap (λ l. l ++ y) be)
same_stop [] (t ∷ ts) a b x y are be same none end =
    absurd (none be.0 (be.1 ++ y) t (ap (λ l. l ++ x) (sym are) ∙ same ∙ ap (λ l. l ++ y) be.2 ∙ append_assoc be.0 be.1 y) be.3 be.4)
same_stop (s ∷ ss) [] a b x y are be same none end =
    absurd (end are.0 (are.1 ++ x) s (ap (λ l. l ++ y) (sym be) ∙ sym same ∙ ap (λ l. l ++ x) are.2 ∙ append_assoc are.0 are.1 x) are.3 are.4)
same_stop (s ∷ ss) (t ∷ ts) a b x y are be same none end =
    let joined : are.0 ++ (are.1 ++ x) ≡ be.0 ++ (be.1 ++ y) =
    sym (ap (λ l. l ++ x) are.2 ∙ append_assoc are.0 are.1 x) ∙ same ∙ ap (λ l. l ++ y) be.2 ∙ append_assoc be.0 be.1 y in
    let one = one_form are.0 be.0 (are.1 ++ x) (be.1 ++ y) s t are.3 be.3 joined in
    let rest = same_stop ss ts are.1 be.1 x y are.5 be.5 (same_back are.0 be.0 (are.1 ++ x) (be.1 ++ y) joined (ap length one.0)) none end in
    (ap₂ (λ n l. n ∷ l) one.1 rest.0, rest.1)

pub same_serials : (ss ts types : List ℕ) → AreSerials ss types → AreSerials ts types → ss ≡ ts
same_serials ss ts types are be = (same_stop ss ts types types [] [] are be refl (nothing_begins [] refl) (nothing_begins [] refl)).0

-- no serial type is due at the end of serial types
stops_apart : (ss types rest : List ℕ) → AreSerials ss types → IsBadSerial types rest → ⊥
stops_apart ss types rest are bad =
    let same = same_stop ss bad.serials types bad.before [] rest are bad.so_far (append-nil types ∙ bad.whole) (nothing_begins [] refl) bad.no_serial in
    omega (arith, bad.more, ap length same.1)

-- for the next serial type there are too few bytes
abbrev HasNoRoom : List ℕ → List ℕ → Type 0
HasNoRoom [] rest = Unit {0}
HasNoRoom (serial ∷ serials) rest = length rest < body_size serial

-- the bodies in front are those of one list of serial types
same_place : (ss ts more others : List ℕ) (vs ws : List Value) (a b x y : List ℕ) → AreBodies ss vs a → AreBodies ts ws b
    → ss ++ more ≡ ts ++ others → a ++ x ≡ b ++ y → HasNoRoom more x → HasNoRoom others y → (more ≡ others) × (x ≡ y) × (vs ≡ ws)
same_place [] [] more others [] [] a b x y are be same joined none end =
    (same, ap (λ l. l ++ x) (sym are) ∙ joined ∙ ap (λ l. l ++ y) be, refl)
same_place [] [] more others [] (w ∷ ws) a b x y are be same joined none end = absurd be
same_place [] [] more others (v ∷ vs) ws a b x y are be same joined none end = absurd are
same_place [] (t ∷ ts) more others (v ∷ vs) ws a b x y are be same joined none end = absurd are
same_place [] (t ∷ ts) more others [] [] a b x y are be same joined none end = absurd be
same_place [] (t ∷ ts) more others [] (w ∷ ws) a b x y are be same joined none end =
    let room : length x < body_size t = subst (λ l. HasNoRoom l x) same none in
    let split : x ≡ be.0 ++ (be.1 ++ y) = ap (λ l. l ++ x) (sym are) ∙ joined ∙ ap (λ l. l ++ y) be.2 ∙ append_assoc be.0 be.1 y in
    absurd (omega (arith, room, be.3.size, ap length split, length-append be.0 (be.1 ++ y)))
same_place (s ∷ ss) ts more others [] ws a b x y are be same joined none end = absurd are
same_place (s ∷ ss) [] more others (v ∷ vs) (w ∷ ws) a b x y are be same joined none end = absurd be
same_place (s ∷ ss) [] more others (v ∷ vs) [] a b x y are be same joined none end =
    let room : length y < body_size s = subst (λ l. HasNoRoom l y) (sym same) end in
    let split : y ≡ are.0 ++ (are.1 ++ x) = ap (λ l. l ++ y) (sym be) ∙ sym joined ∙ ap (λ l. l ++ x) are.2 ∙ append_assoc are.0 are.1 x in
    absurd (omega (arith, room, are.3.size, ap length split, length-append are.0 (are.1 ++ x)))
same_place (s ∷ ss) (t ∷ ts) more others (v ∷ vs) [] a b x y are be same joined none end = absurd be
same_place (s ∷ ss) (t ∷ ts) more others (v ∷ vs) (w ∷ ws) a b x y are be same joined none end =
    let first : s ≡ t = cc in
    let behind : ss ++ more ≡ ts ++ others = cc in
    let front : are.0 ++ (are.1 ++ x) ≡ be.0 ++ (be.1 ++ y) =
    sym (ap (λ l. l ++ x) are.2 ∙ append_assoc are.0 are.1 x) ∙ joined ∙ ap (λ l. l ++ y) be.2 ∙ append_assoc be.0 be.1 y in
    let len : length are.0 ≡ length be.0 = are.3.size ∙ ap body_size first ∙ sym be.3.size in
    let body : are.0 ≡ be.0 = same_front are.0 be.0 (are.1 ++ x) (be.1 ++ y) front len in
    let rest = same_place ss ts more others vs ws are.1 be.1 x y are.4 be.4 behind (same_back are.0 be.0 (are.1 ++ x) (be.1 ++ y) front len) none end in
    let value : v ≡ w = are.3.meaning ∙ ap₂ value_of first body ∙ sym be.3.meaning in
    (rest.0, rest.1, ap₂ (λ z zs. z ∷ zs) value rest.2)

-- the bodies of some of the serial types stand in front, and for the next one there are too few bytes
record IsEnd (types bodies more rest : List ℕ) (values : List Value) : Type 0 where
  pub before : List ℕ
  pub serials : List ℕ
  pub types_are : AreSerials (serials ++ more) types
  pub whole : bodies ≡ before ++ rest
  pub so_far : AreBodies serials values before
  pub no_room : HasNoRoom more rest

same_end : (types bodies more rest others behind : List ℕ) (vs ws : List Value) → IsEnd types bodies more rest vs → IsEnd types bodies others behind ws
    → (more ≡ others) × (rest ≡ behind) × (vs ≡ ws)
same_end types bodies more rest others behind vs ws a b =
    same_place a.serials b.serials more others vs ws a.before b.before rest behind a.so_far b.so_far
    (same_serials (a.serials ++ more) (b.serials ++ others) types a.types_are b.types_are) (sym a.whole ∙ b.whole) a.no_room b.no_room

record_end : (types bodies serials : List ℕ) (values : List Value) → AreSerials serials types → AreBodies serials values bodies → IsEnd types bodies [] [] values
record_end types bodies serials values are have = record {
  before = bodies;
  serials = serials;
  types_are = subst (λ l. AreSerials l types) (sym (append-nil serials)) are;
  whole = sym (append-nil bodies);
  so_far = have;
  no_room = tt;
}

short_end : (types bodies rest : List ℕ) (s : IsShortBody types bodies rest) → IsEnd types bodies (s.serial ∷ s.others) rest s.values
short_end types bodies rest s =
    record { before = s.before; serials = s.serials; types_are = s.types_are; whole = s.whole; so_far = s.so_far; no_room = s.short }

surplus_end : (types bodies rest : List ℕ) (s : IsSurplus types bodies rest) → IsEnd types bodies [] rest s.values
surplus_end types bodies rest s = record {
  before = s.before;
  serials = s.serials;
  types_are = subst (λ l. AreSerials l types) (sym (append-nil s.serials)) s.types_are;
  whole = s.whole;
  so_far = s.so_far;
  no_room = tt;
}

-- a record's header and its bodies, under another name for the same bytes
pub moved : (bytes types bodies : List ℕ) (values : List Value) → HasHeader bytes types bodies → IsRecord bytes values → AreValues types bodies values
moved bytes types bodies values h r =
    let same = one_header bytes r.types r.bodies types bodies r.header h in
    (r.serials, subst (λ l. AreSerials r.serials l) same.0 r.types_are, subst (λ l. AreBodies r.serials values l) same.1 r.bodies_are)

pub one_record : (bytes : List ℕ) (vs ws : List Value) → IsRecord bytes vs → IsRecord bytes ws → vs ≡ ws
one_record bytes vs ws r q =
    let m = moved bytes r.types r.bodies ws r.header q in
    (same_end r.types r.bodies [] [] [] [] vs ws
    (record_end r.types r.bodies r.serials vs r.types_are r.bodies_are) (record_end r.types r.bodies m.0 ws m.1 m.2)).2

pub record_not_bad : (bytes : List ℕ) (values : List Value) (at : ℕ) → IsRecord bytes values → FirstBad bytes at → ⊥
record_not_bad bytes values at r bad = elim bad [
  | inl header ↦ elim header [
    | inl none ↦ none.0 r.types r.bodies r.header
    | inr serial ↦
        let m = moved bytes serial.0 serial.1 values serial.3 r in
        stops_apart m.0 serial.0 serial.2 m.1 serial.4
  ]
  | inr body ↦
      let m = moved bytes body.0 body.1 values body.3 r in
      let whole = record_end body.0 body.1 m.0 values m.1 m.2 in
      elim body.4 [
        | inl short ↦
            let same = same_end body.0 body.1 [] [] (short.serial ∷ short.others) body.2 values short.values whole (short_end body.0 body.1 body.2 short) in
            omega (arith, ap length same.0)
        | inr surplus ↦
            let same = same_end body.0 body.1 [] [] [] body.2 values surplus.values whole (surplus_end body.0 body.1 body.2 surplus) in
            omega (arith, ap length same.1, surplus.more)
      ]
]

-- what is left at a fault of the bodies
body_left : (types bodies rest behind : List ℕ) → (IsShortBody types bodies rest ⊎ IsSurplus types bodies rest)
    → (IsShortBody types bodies behind ⊎ IsSurplus types bodies behind) → rest ≡ behind
body_left types bodies rest behind (inl s) (inl t) =
    (same_end types bodies (s.serial ∷ s.others) rest (t.serial ∷ t.others) behind s.values t.values (short_end types bodies rest s) (short_end types bodies behind t)).1
body_left types bodies rest behind (inl s) (inr t) =
    (same_end types bodies (s.serial ∷ s.others) rest [] behind s.values t.values (short_end types bodies rest s) (surplus_end types bodies behind t)).1
body_left types bodies rest behind (inr s) (inl t) =
    (same_end types bodies [] rest (t.serial ∷ t.others) behind s.values t.values (surplus_end types bodies rest s) (short_end types bodies behind t)).1
body_left types bodies rest behind (inr s) (inr t) =
    (same_end types bodies [] rest [] behind s.values t.values (surplus_end types bodies rest s) (surplus_end types bodies behind t)).1

-- serial types of which one is at fault have no bodies
serial_before_body : (types rest bodies behind : List ℕ) → IsBadSerial types rest → (IsShortBody types bodies behind ⊎ IsSurplus types bodies behind) → ⊥
serial_before_body types rest bodies behind bad (inl s) = stops_apart (s.serials ++ s.serial ∷ s.others) types rest s.types_are bad
serial_before_body types rest bodies behind bad (inr s) = stops_apart s.serials types rest s.types_are bad

pub one_bad : (bytes : List ℕ) (at place : ℕ) → FirstBad bytes at → FirstBad bytes place → at ≡ place
one_bad bytes at place (inl (inl a)) (inl (inl b)) = a.1 ∙ sym b.1
one_bad bytes at place (inl (inl a)) (inl (inr b)) = absurd (a.0 b.0 b.1 b.3)
one_bad bytes at place (inl (inl a)) (inr b) = absurd (a.0 b.0 b.1 b.3)
one_bad bytes at place (inl (inr a)) (inl (inl b)) = absurd (b.0 a.0 a.1 a.3)
one_bad bytes at place (inr a) (inl (inl b)) = absurd (b.0 a.0 a.1 a.3)
one_bad bytes at place (inl (inr a)) (inl (inr b)) =
    let same = one_header bytes b.0 b.1 a.0 a.1 b.3 a.3 in
    let bad : IsBadSerial a.0 b.2 = subst (λ l. IsBadSerial l b.2) same.0 b.4 in
    let stop = same_stop a.4.serials bad.serials a.4.before bad.before a.2 b.2 a.4.so_far bad.so_far (sym a.4.whole ∙ bad.whole) a.4.no_serial bad.no_serial in
    omega (arith, a.5, b.5, ap length stop.1, ap length same.1)
one_bad bytes at place (inl (inr a)) (inr b) =
    let same = one_header bytes b.0 b.1 a.0 a.1 b.3 a.3 in
    absurd (serial_before_body b.0 a.2 b.1 b.2 (subst (λ l. IsBadSerial l a.2) (sym same.0) a.4) b.4)
one_bad bytes at place (inr a) (inl (inr b)) =
    let same = one_header bytes b.0 b.1 a.0 a.1 b.3 a.3 in
    absurd (serial_before_body a.0 b.2 a.1 a.2 (subst (λ l. IsBadSerial l b.2) same.0 b.4) a.4)
one_bad bytes at place (inr a) (inr b) =
    let same = one_header bytes b.0 b.1 a.0 a.1 b.3 a.3 in
    let fault : IsShortBody a.0 a.1 b.2 ⊎ IsSurplus a.0 a.1 b.2 =
    subst (λ l. IsShortBody a.0 l b.2 ⊎ IsSurplus a.0 l b.2) same.1 (subst (λ l. IsShortBody l b.1 b.2 ⊎ IsSurplus l b.1 b.2) same.0 b.4) in
    omega (arith, a.5, b.5, ap length (body_left a.0 a.1 a.2 b.2 a.4 fault))

-- a header and the values of its bodies make a record, which has no fault
pub parts_record : (bytes types bodies : List ℕ) (values : List Value) → HasHeader bytes types bodies → AreValues types bodies values → IsRecord bytes values
parts_record bytes types bodies values h are =
    record { types = types; bodies = bodies; serials = are.0; header = h; types_are = are.1; bodies_are = are.2 }

pub parts_not_bad : (bytes types bodies : List ℕ) → HasHeader bytes types bodies → HaveValues types bodies → (at : ℕ) → FirstBad bytes at → ⊥
parts_not_bad bytes types bodies h have at fault = record_not_bad bytes have.0 at (parts_record bytes types bodies have.0 h have.1) fault

-- what is read of them is all that there is
pub parts_only : (bytes types bodies : List ℕ) (read : List Value) → HasHeader bytes types bodies → AreValues types bodies read
    → (values : List Value) → IsRecord bytes values → read ≡ values
parts_only bytes types bodies read h are values is = one_record bytes read values (parts_record bytes types bodies read h are) is
