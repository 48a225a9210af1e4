-- Laws on bytes that are filled up with zeros and then written over.
use Rattle.std.proofs.Common.{◌≡◌, ℕ, ◌+◌, ◌-◌, ◌≤◌, List, ◌++◌, length, take, drop, replicate, inl, inr, sym, ap, ap₂, ◌∙◌, append-nil, arith}
use Rattle.std.proofs.lemmas.Bool.{cases_lt}
use Rattle.std.proofs.lemmas.Grind.{common_steps}
use Rattle.std.proofs.lemmas.List.{take-append-le, take-replicate, drop_all}
use Rattle.std.proofs.Math.Seq.{take-append-add}
use Rattle.alter_disk.specs.Changes.{overwritten}

-- the front of what is followed by zeros, up to one of them
take-past : (old : List ℕ) (k m : ℕ) → k ≤ m → take (length old + k) (old ++ replicate m 0) ≡ old ++ replicate k 0
take-past old k m h = take-append-add old (replicate m 0) k ∙ ap (λ zeros. old ++ zeros) (take-replicate k m 0 h)

-- zeros behind a place change nothing before it
take-filled : (old : List ℕ) (at end : ℕ) → at ≤ end → take at (old ++ replicate (end - length old) 0) ≡ take at (old ++ replicate (at - length old) 0)
take-filled old at end h = elim (cases_lt (length old) at) [
  | inl past ↦
      let e : at ≡ length old + (at - length old) = omega arith in
      let front : (m : ℕ) → at - length old ≤ m → take at (old ++ replicate m 0) ≡ old ++ replicate (at - length old) 0 =
      λ m within. ap (λ n. take n (old ++ replicate m 0)) e ∙ take-past old (at - length old) m within in
      front (end - length old) (omega arith) ∙ sym (front (at - length old) (omega arith))
  | inr before ↦ take-append-le at old _ before ∙ sym (take-append-le at old _ before)
]

-- what is filled up to a place has nothing more behind it
drop-filled : (old : List ℕ) (end : ℕ) → drop end (old ++ replicate (end - length old) 0) ≡ drop end old
drop-filled old end = elim (cases_lt (length old) end) [
  | inl past ↦
      let within : length (old ++ replicate (end - length old) 0) ≤ end = grind (arith, common_steps) in
      drop_all end _ within ∙ sym (drop_all end old (omega arith))
  | inr before ↦
      let none : end - length old ≡ 0 = omega arith in
      rw none (ap (drop end) (append-nil old))
]

-- a piece written into bytes that reach to its end
pub written_filled : (old piece : List ℕ) (at : ℕ) →
    take at (old ++ replicate (at + length piece - length old) 0) ++ piece ++ drop (at + length piece) (old ++ replicate (at + length piece - length old) 0) ≡ overwritten old at piece
written_filled old piece at = ap₂ (λ front behind. front ++ piece ++ behind) (take-filled old at (at + length piece) (omega arith)) (drop-filled old (at + length piece))
