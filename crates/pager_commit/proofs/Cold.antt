-- Journals that are cold: short ones, the fronts of a cold one, and what a torn start leaves.
use Rattle.std.proofs.Common.{◌≡◌, ◌⊎◌, inl, inr, ⊎_elim, ℕ, ◌+◌, ◌-◌, ◌<◌, ◌≤◌, Bool, true, false, not, List, [], ◌++◌, length, take, drop, nat_lt, nat_le, ◌==◌, ◌&&◌, Option, Some, None, refl, sym, ap, ap₂, ◌∙◌, arith, length-take}
use Rattle.std.proofs.lemmas.Bool.{cases_Bool, cases_lt, lt-ltb, ltb-true, ltb-false, le-leb, leb-true, and_parts}
use Rattle.std.proofs.lemmas.List.{take-take, take-append-drop}
use Rattle.std.specs.Cmp.Lexicographic.{bytes_decides}
use Rattle.alter_disk.specs.Changes.{Torn, CutShort}
use Rattle.rollback_journal.specs.declared.header.Header.{Header}
use Rattle.rollback_journal.specs.declared.heat.Heat.TheVariants.{Cold}
use Rattle.rollback_journal.specs.Header.{has_magic, header_of, magic, no_magic}
use Rattle.rollback_journal.specs.Heat.{has_records, heat_of, heat_with, live_header, names_super}
use Rattle.rollback_journal.proofs.Shut.{cold_without_magic}

-- a journal without a header is cold
cold_by_header : (journal : List ℕ) → live_header (length journal) (take 28 journal) ≡ None → heat_of journal ≡ Cold
cold_by_header journal none = ap (λ o. heat_with o (names_super (length journal) (drop (length journal - 8) journal))) none

header_of_cold : (o : Option Header) (named : Bool) → heat_with o named ≡ Cold → o ≡ None
header_of_cold None named cold = refl
header_of_cold (Some h) true cold = absurd (cc)
header_of_cold (Some h) false cold = absurd (cc)

pub cold_short : (journal : List ℕ) → length journal < 28 → heat_of journal ≡ Cold
cold_short journal short = cold_by_header journal (let is : nat_lt (length journal) 28 ≡ true = lt-ltb (length journal) 28 short in rw is refl)

-- a shorter journal of the same front has a record only where the longer has
fewer_records : (few many : ℕ) (h : Header) → few ≤ many → has_records few h ≡ true → has_records many h ≡ true
fewer_records few many h less some =
    let (counted, room) = and_parts (not (h.count == 0)) (nat_le (h.sector + h.page + 8) few) some in
    let more : nat_le (h.sector + h.page + 8) many ≡ true = le-leb (h.sector + h.page + 8) many (omega (arith, leb-true (h.sector + h.page + 8) few room)) in
    ap₂ (λ (a b : Bool). a && b) counted more

shorter_live : (few many : ℕ) (front : List ℕ) → few ≤ many → live_header many front ≡ None → live_header few front ≡ None
shorter_live few many front less none = by (nat_lt few 28) refl (nat_lt many 28) refl (header_of front) refl
  where
    by : (a : Bool) → nat_lt few 28 ≡ a → (b : Bool) → nat_lt many 28 ≡ b → (o : Option Header) → header_of front ≡ o → live_header few front ≡ None
    by true is b is_b o is_o = rw is refl
    by false is true is_b o is_o = let enough = ltb-false few 28 is in let not_enough = ltb-true many 28 is_b in absurd (omega arith)
    by false is false is_b None is_o = rw (is, is_o) refl
    by false is false is_b (Some h) is_o = records (has_records few h) refl
      where
        records : (r : Bool) → has_records few h ≡ r → live_header few front ≡ None
        records false none_there = rw (is, is_o, none_there) refl
        records true some_there =
            let all : has_records many h ≡ true = fewer_records few many h less some_there in
            let some : live_header many front ≡ Some h = rw (is_b, is_o, all) refl in
            absurd (cc)

-- what a cut of a cold journal leaves is cold, also where it was cut short
pub cold_cut : (n : ℕ) (old new : List ℕ) → heat_of old ≡ Cold → CutShort n old new → heat_of new ≡ Cold
cold_cut n old new cold cut = elim (cases_lt (length new) 28) [
  | inl short ↦ cold_short new short
  | inr long ↦
      let front : take 28 new ≡ take 28 old = ap (take 28) (sym cut.front) ∙ take-take 28 (length new) old long in
      let fewer : length new ≤ length old = omega (arith, ap length cut.front, length-take (length new) old) in
      let none = header_of_cold (live_header (length old) (take 28 old)) (names_super (length old) (drop (length old - 8) old)) cold in
      cold_by_header new (ap (live_header (length new)) front ∙ shorter_live (length new) (length old) (take 28 old) fewer none)
]

-- eight bytes written into an empty journal
pub cold_start : (new : List ℕ) → Torn 0 8 [] new → heat_of new ≡ Cold
cold_start new torn = cold_short new (omega (arith, torn.no_longer))

-- what is behind the eight zeros may be torn
pub cold_fill : (n : ℕ) (new : List ℕ) → Torn 8 n no_magic new → heat_of new ≡ Cold
cold_fill n new torn = cold_without_magic new (let front : take 8 new ≡ no_magic = torn.before in rw front refl)

-- a torn start leaves the journal with the magic, or a cold one
pub cold_or_open : (old new : List ℕ) → Torn 0 8 old new → (new ≡ magic ++ drop 8 old) ⊎ (heat_of new ≡ Cold)
cold_or_open old new torn = ⊎_elim
    (λ opened. inl (sym (take-append-drop 8 new) ∙ ap₂ (λ (a b : List ℕ). a ++ b) ((bytes_decides (take 8 new) magic).0 opened) torn.behind))
    (λ shut. inr (cold_without_magic new shut))
    (cases_Bool (has_magic new))
