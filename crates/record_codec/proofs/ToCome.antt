-- The reading of a record's values: which are read, and which are still to come.
use Rattle.std.proofs.Common.{◌≡◌, ℕ, ◌≤◌, List, [], ◌∷◌, ◌++◌, length, sym, ap, subst, ◌∙◌, arith, append-nil, length-append, append_assoc}
use Rattle.common_laws.proofs.Lists.{same_front}
use Rattle.alter_bytes.specs.Varint.{IsVarint}
use Rattle.record_codec.specs.declared.value.Value.{Value}
use Rattle.record_codec.specs.Serial.{body_size, value_of}
use Rattle.record_codec.specs.Record.{AreBodies, AreSerials, AreValues, HaveValues}
use Rattle.record_codec.specs.Faults.{BeginsNoSerial}
use Rattle.record_codec.proofs.Fronts.{next_serial, no_more_serials, same_back}

-- of the values of these bodies some are read, and these bytes of the serial types and of the bodies hold the others
pub record IsToCome (all_types all_bodies types bodies : List ℕ) (read : List Value) : Type 0 where
  pub serials : List ℕ
  pub others : List ℕ
  pub more : List Value
  pub types_are : AreSerials serials all_types
  pub bodies_are : AreBodies serials (read ++ more) all_bodies
  pub types_left : AreSerials others types
  pub bodies_left : AreBodies others more bodies

-- at first all are
pub all_come : (types bodies : List ℕ) → HaveValues types bodies → IsToCome types bodies types bodies []
all_come types bodies have = record {
  serials = have.1.0;
  others = have.1.0;
  more = have.0;
  types_are = have.1.1;
  bodies_are = have.1.2;
  types_left = have.1.1;
  bodies_left = have.1.2;
}

-- the body in front is there
pub body_there : (serial : ℕ) (others : List ℕ) (values : List Value) (bodies : List ℕ) → AreBodies (serial ∷ others) values bodies
    → body_size serial ≤ length bodies
body_there serial others [] bodies are = absurd are
body_there serial others (v ∷ vs) bodies are = omega (arith, are.3.size, ap length are.2, length-append are.0 are.1)

pub next_there : (all_types all_bodies types bodies first behind : List ℕ) (read : List Value) (serial : ℕ)
    → IsToCome all_types all_bodies types bodies read → types ≡ first ++ behind → IsVarint first serial → body_size serial ≤ length bodies
next_there all_types all_bodies types bodies first behind read serial t split is =
    let next = next_serial t.others types first behind serial t.types_left split is in
    body_there serial next.0 t.more bodies (subst (λ x. AreBodies x t.more bodies) next.1 t.bodies_left)

-- its value is the next one
pub body_taken : (serial : ℕ) (others : List ℕ) (values : List Value) (bodies body rest : List ℕ) → AreBodies (serial ∷ others) values bodies
    → bodies ≡ body ++ rest → length body ≡ body_size serial → (more : List Value) × (values ≡ value_of serial body ∷ more) × AreBodies others more rest
body_taken serial others [] bodies body rest are cut size = absurd are
body_taken serial others (v ∷ vs) bodies body rest are cut size =
    let joined : are.0 ++ are.1 ≡ body ++ rest = sym are.2 ∙ cut in
    let len : length are.0 ≡ length body = are.3.size ∙ sym size in
    let same : are.0 ≡ body = same_front are.0 body are.1 rest joined len in
    let back : are.1 ≡ rest = same_back are.0 body are.1 rest joined len in
    (vs, ap (λ x. x ∷ vs) (are.3.meaning ∙ ap (value_of serial) same), subst (λ l. AreBodies others vs l) back are.4)

pub one_read : (all_types all_bodies types bodies first behind body rest : List ℕ) (read : List Value) (serial : ℕ) (value : Value)
    → IsToCome all_types all_bodies types bodies read → types ≡ first ++ behind → IsVarint first serial → bodies ≡ body ++ rest
    → length body ≡ body_size serial → value ≡ value_of serial body → IsToCome all_types all_bodies behind rest (read ++ value ∷ [])
one_read all_types all_bodies types bodies first behind body rest read serial value t split is cut size meaning =
    let next = next_serial t.others types first behind serial t.types_left split is in
    let taken = body_taken serial next.0 t.more bodies body rest (subst (λ x. AreBodies x t.more bodies) next.1 t.bodies_left) cut size in
    let values : read ++ t.more ≡ (read ++ value ∷ []) ++ taken.0 =
    ap (λ x. read ++ x) (taken.1 ∙ ap (λ v. v ∷ taken.0) (sym meaning)) ∙ sym (append_assoc read (value ∷ []) taken.0) in
    record {
      serials = t.serials;
      others = next.0;
      more = taken.0;
      types_are = t.types_are;
      bodies_are = subst (λ x. AreBodies t.serials x all_bodies) values t.bodies_are;
      types_left = next.2;
      bodies_left = taken.2;
    }

-- under no serial types there are no values
no_values : (serials : List ℕ) (values : List Value) (bodies : List ℕ) → AreBodies serials values bodies → serials ≡ [] → values ≡ []
no_values [] [] bodies are none = cc
no_values [] (v ∷ vs) bodies are none = absurd are
no_values (s ∷ ss) values bodies are none = absurd (omega (arith, ap length none))

-- where no serial type is left, all are read
pub all_are_read : (all_types all_bodies types bodies : List ℕ) (read : List Value) → IsToCome all_types all_bodies types bodies read → BeginsNoSerial types
    → AreValues all_types all_bodies read
all_are_read all_types all_bodies types bodies read t none =
    let end : t.more ≡ [] = no_values t.others t.more bodies t.bodies_left (no_more_serials t.others types t.types_left none) in
    (t.serials, t.types_are, subst (λ x. AreBodies t.serials x all_bodies) (ap (λ x. read ++ x) end ∙ append-nil read) t.bodies_are)
