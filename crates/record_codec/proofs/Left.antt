-- The reading of the bodies: what is read so far, what is left, and how it ends.
use Rattle.std.proofs.Common.{◌≡◌, ℕ, ◌+◌, ◌-◌, ◌<◌, ◌≤◌, inl, inr, List, [], ◌∷◌, ◌++◌, length, refl, sym, ap, subst, ◌∙◌, arith, append-nil, length-append, append_assoc}
use Rattle.alter_bytes.specs.Varint.{IsVarint}
use Rattle.record_codec.specs.declared.value.Value.{Value}
use Rattle.record_codec.specs.Serial.{IsBody, body_size}
use Rattle.record_codec.specs.Record.{AreBodies, AreSerials, HasHeader, HaveValues}
use Rattle.record_codec.specs.Faults.{BeginsNoSerial, IsBodyFault, IsShortBody, IsSurplus}
use Rattle.record_codec.proofs.Fronts.{bodies_push, header_length, next_serial, no_more_serials}

-- some serial types and their bodies are read, and these bytes of both are left
pub record IsLeft (all_types all_bodies types bodies : List ℕ) (values : List Value) : Type 0 where
  pub serials : List ℕ
  pub others : List ℕ
  pub before : List ℕ
  pub all_are : AreSerials (serials ++ others) all_types
  pub left_are : AreSerials others types
  pub whole : all_bodies ≡ before ++ bodies
  pub so_far : AreBodies serials values before

-- at first all is left
pub all_left : (types bodies : List ℕ) → ((serials : List ℕ) × AreSerials serials types) → IsLeft types bodies types bodies []
all_left types bodies are =
    record { serials = []; others = are.0; before = []; all_are = are.1; left_are = are.1; whole = refl; so_far = refl }

-- one more is read
pub left_push : (all_types all_bodies types bodies first behind body rest : List ℕ) (values : List Value) (serial : ℕ) (value : Value)
    → IsLeft all_types all_bodies types bodies values → types ≡ first ++ behind → IsVarint first serial → bodies ≡ body ++ rest → IsBody serial value body
    → IsLeft all_types all_bodies behind rest (values ++ value ∷ [])
left_push all_types all_bodies types bodies first behind body rest values serial value l split is cut meant =
    let next = next_serial l.others types first behind serial l.left_are split is in
    let all : l.serials ++ l.others ≡ (l.serials ++ serial ∷ []) ++ next.0 =
    ap (λ x. l.serials ++ x) next.1 ∙ sym (append_assoc l.serials (serial ∷ []) next.0) in
    record {
      serials = l.serials ++ serial ∷ [];
      others = next.0;
      before = l.before ++ body;
      all_are = subst (λ x. AreSerials x all_types) all l.all_are;
      left_are = next.2;
      whole = l.whole ∙ ap (λ x. l.before ++ x) cut ∙ sym (append_assoc l.before body rest);
      so_far = bodies_push l.serials values serial value l.before body l.so_far meant;
    }

-- where no serial type is left, those that are read are all
all_read : (all_types all_bodies types bodies : List ℕ) (values : List Value) (l : IsLeft all_types all_bodies types bodies values) → BeginsNoSerial types
    → AreSerials l.serials all_types
all_read all_types all_bodies types bodies values l none =
    subst (λ x. AreSerials x all_types) (ap (λ x. l.serials ++ x) (no_more_serials l.others types l.left_are none) ∙ append-nil l.serials) l.all_are

-- what is left of the bodies ends the bytes
pub place_of : (bytes all_types all_bodies types bodies : List ℕ) (values : List Value) → HasHeader bytes all_types all_bodies
    → IsLeft all_types all_bodies types bodies values → (length bytes - length bodies) + length bodies ≡ length bytes
place_of bytes all_types all_bodies types bodies values h l =
    omega (arith, header_length bytes all_types all_bodies h, ap length l.whole, length-append l.before bodies)

-- nothing is left
pub left_values : (all_types all_bodies types bodies : List ℕ) (values : List Value) → IsLeft all_types all_bodies types bodies values → BeginsNoSerial types
    → bodies ≡ [] → HaveValues all_types all_bodies
left_values all_types all_bodies types bodies values l none empty =
    let all : l.before ≡ all_bodies = sym (l.whole ∙ ap (λ x. l.before ++ x) empty ∙ append-nil l.before) in
    (values, (l.serials, all_read all_types all_bodies types bodies values l none, subst (λ x. AreBodies l.serials values x) all l.so_far))

-- bytes are left behind the last body
pub left_surplus : (bytes all_types all_bodies types bodies : List ℕ) (values : List Value) → HasHeader bytes all_types all_bodies
    → IsLeft all_types all_bodies types bodies values → BeginsNoSerial types → 1 ≤ length bodies → IsBodyFault bytes (length bytes - length bodies)
left_surplus bytes all_types all_bodies types bodies values h l none more =
    let rest : IsSurplus all_types all_bodies bodies = record {
      before = l.before;
      serials = l.serials;
      values = values;
      types_are = all_read all_types all_bodies types bodies values l none;
      whole = l.whole;
      so_far = l.so_far;
      more = more;
    } in
    (all_types, all_bodies, bodies, h, inr rest, place_of bytes all_types all_bodies types bodies values h l)

-- a body is cut off
pub left_short : (bytes all_types all_bodies types bodies first behind : List ℕ) (values : List Value) (serial : ℕ) → HasHeader bytes all_types all_bodies
    → IsLeft all_types all_bodies types bodies values → types ≡ first ++ behind → IsVarint first serial → length bodies < body_size serial
    → IsBodyFault bytes (length bytes - length bodies)
left_short bytes all_types all_bodies types bodies first behind values serial h l split is short =
    let next = next_serial l.others types first behind serial l.left_are split is in
    let rest : IsShortBody all_types all_bodies bodies = record {
      before = l.before;
      serials = l.serials;
      serial = serial;
      others = next.0;
      values = values;
      types_are = subst (λ x. AreSerials (l.serials ++ x) all_types) next.1 l.all_are;
      whole = l.whole;
      so_far = l.so_far;
      short = short;
    } in
    (all_types, all_bodies, bodies, h, inl rest, place_of bytes all_types all_bodies types bodies values h l)
