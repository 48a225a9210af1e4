-- The first value of serial types and bodies, and what is behind it.
use Rattle.std.proofs.Common.{◌≡◌, ℕ, ◌≤◌, List, [], ◌∷◌, ◌++◌, length, refl, sym, subst}
use Rattle.alter_bytes.specs.Varint.{IsVarint}
use Rattle.record_codec.specs.declared.value.Value.{Value}
use Rattle.record_codec.specs.Serial.{IsSerial, body_size, value_of}
use Rattle.record_codec.specs.Record.{AreBodies, AreSerials, AreValues, HaveValues, IsFront}
use Rattle.record_codec.specs.Faults.{BeginsNoSerial}
use Rattle.record_codec.proofs.Fronts.{next_serial, no_more_serials, nothing_begins}
use Rattle.record_codec.proofs.ToCome.{body_taken, body_there}

-- where no serial type stands in front there is no value
pub no_front : (types bodies : List ℕ) → BeginsNoSerial types → (first : Value) (others : List Value) → AreValues types bodies (first ∷ others) → ⊥
no_front types bodies none first others are = subst (λ x. AreBodies x (first ∷ others) bodies) (no_more_serials are.0 types are.1 none) are.2

-- where one does, its body is there
pub front_there : (types bodies first others : List ℕ) (serial : ℕ) → HaveValues types bodies → types ≡ first ++ others → IsVarint first serial
    → body_size serial ≤ length bodies
front_there types bodies first others serial have split is =
    let next = next_serial have.1.0 types first others serial have.1.1 split is in
    body_there serial next.0 have.0 bodies (subst (λ x. AreBodies x have.0 bodies) next.1 have.1.2)

-- the values, without the first one
front_taken : (types bodies first others body behind : List ℕ) (serial : ℕ) (values : List Value) → AreValues types bodies values → types ≡ first ++ others
    → IsVarint first serial → bodies ≡ body ++ behind → length body ≡ body_size serial
    → (more : List Value) × (values ≡ value_of serial body ∷ more) × AreValues others behind more
front_taken types bodies first others body behind serial values are split is cut size =
    let next = next_serial are.0 types first others serial are.1 split is in
    let taken = body_taken serial next.0 values bodies body behind (subst (λ x. AreBodies x values bodies) next.1 are.2) cut size in
    (taken.0, taken.1, (next.0, next.2, taken.2))

same_first : (v w : Value) (vs ws : List Value) → v ∷ vs ≡ w ∷ ws → v ≡ w
same_first v w vs ws same = cc

same_others : (v w : Value) (vs ws : List Value) → v ∷ vs ≡ w ∷ ws → vs ≡ ws
same_others v w vs ws same = cc

pub front_is : (types bodies first others body behind : List ℕ) (serial : ℕ) → HaveValues types bodies → types ≡ first ++ others
    → IsVarint first serial → IsSerial serial → bodies ≡ body ++ behind → length body ≡ body_size serial
    → IsFront types bodies (value_of serial body) others behind
front_is types bodies first others body behind serial have split is known cut size =
    let value = value_of serial body in
    let taken = front_taken types bodies first others body behind serial have.0 have.1 split is cut size in
    record {
      more = (taken.0, taken.2);
      there = λ values are. (serial ∷ are.0, (first, others, split, is, known, are.1), (body, behind, cut, record { known = known; size = size; meaning = refl }, are.2));
      only = λ v values are.
          let back = front_taken types bodies first others body behind serial (v ∷ values) are split is cut size in
          (same_first v value values back.0 back.1, subst (λ x. AreValues others behind x) (sym (same_others v value values back.0 back.1)) back.2);
    }

-- no value is left where no byte of the serial types is, and so the other way round
no_bytes : (serials types bodies : List ℕ) → AreSerials serials types → AreBodies serials [] bodies → types ≡ []
no_bytes [] types bodies are none = are
no_bytes (serial ∷ serials) types bodies are none = absurd none

pub none_left : (types bodies : List ℕ) → AreValues types bodies [] → types ≡ []
none_left types bodies are = no_bytes are.0 types bodies are.1 are.2

no_more : (types bodies : List ℕ) (values : List Value) → AreValues types bodies values → types ≡ [] → AreValues types bodies []
no_more types bodies [] are none = are
no_more types bodies (v ∷ vs) are none = absurd (no_front types bodies (nothing_begins types none) v vs are)

pub left_none : (types bodies : List ℕ) → HaveValues types bodies → types ≡ [] → AreValues types bodies []
left_none types bodies have none = no_more types bodies have.0 have.1 none
