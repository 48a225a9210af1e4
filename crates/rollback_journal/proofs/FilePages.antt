-- Pages of a file whose other bytes change: written, cut, or cut short in that.
use Rattle.std.proofs.Common.{◌≡◌, ℕ, suc, ◌+◌, ◌-◌, ◌*◌, ◌<◌, ◌≤◌, min, List, ◌++◌, length, take, drop, replicate, sym, ap, ◌∙◌, inl, inr, arith, append_assoc, length-append, length-drop}
use Rattle.std.proofs.lemmas.Bool.{cases_lt}
use Rattle.std.proofs.lemmas.List.{take-take, drop-take, drop-drop, length-take-le, length-replicate}
use Rattle.std.proofs.Math.Nat.{mul-le-mul_right}
use Rattle.common_laws.proofs.Lists.{take_mid}
use Rattle.alter_disk.specs.Changes.{Torn, CutShort, overwritten}
use Rattle.rollback_journal.specs.Playback.{file_page}

-- where page n ends
pub page_end : (n page : ℕ) → 1 ≤ n → (n - 1) * page + page ≡ n * page
page_end n page from_one =
    let e : n ≡ suc (n - 1) = omega arith in
    let sum : (n - 1) * page + page ≡ suc (n - 1) * page = omega arith in
    sum ∙ ap (λ k. k * page) (sym e)

-- two pages are apart
pub pages_apart : (m n page : ℕ) → 1 ≤ n → n < m → n * page ≤ (m - 1) * page
pages_apart m n page from_one less = mul-le-mul_right page (omega arith)

-- bytes before a place are those of a front that reaches to it
pub part_of_front : {X : Type 0} (xs : List X) (s k m : ℕ) → s + k ≤ m → take k (drop s (take m xs)) ≡ take k (drop s xs)
part_of_front xs s k m within =
    let rest = m - s in
    let e : m ≡ s + rest = omega arith in
    ap (λ n. take k (drop s (take n xs))) e ∙ ap (take k) (drop-take s rest xs) ∙ take-take k rest (drop s xs) (omega arith)

-- bytes that a torn write leaves: before its place, and behind its end
pub before_torn : (s k at n : ℕ) (old new : List ℕ) → Torn at n old new → s + k ≤ at → s + k ≤ length old → take k (drop s new) ≡ take k (drop s old)
before_torn s k at n old new torn before within =
    sym (part_of_front new s k (min at (length old)) (omega arith)) ∙ ap (λ l. take k (drop s l)) torn.before ∙ part_of_front old s k at before

pub behind_torn : (s at n : ℕ) (old new : List ℕ) → Torn at n old new → at + n ≤ s → drop s new ≡ drop s old
behind_torn s at n old new torn behind =
    let rest = s - (at + n) in
    let e : s ≡ at + n + rest = omega arith in
    ap (λ k. drop k new) e ∙ sym (drop-drop rest (at + n) new) ∙ ap (drop rest) torn.behind ∙ drop-drop rest (at + n) old ∙ ap (λ k. drop k old) (sym e)

-- a page that stands in the file stays while another one is written
pub page_beside : (page m n : ℕ) (old new : List ℕ) → 1 ≤ m → 1 ≤ n → (n ≡ m → ⊥) → n * page ≤ length old → Torn ((m - 1) * page) page old new
    → file_page page new n ≡ file_page page old n
page_beside page m n old new m_from n_from other within torn = elim (cases_lt n m) [
  | inl less ↦
      let end = page_end n page n_from in
      let apart = pages_apart m n page n_from less in
      before_torn ((n - 1) * page) page ((m - 1) * page) page old new torn (omega arith) (omega arith)
  | inr more ↦
      let end = page_end m page m_from in
      let apart = pages_apart n m page m_from (omega arith) in
      ap (take page) (behind_torn ((n - 1) * page) ((m - 1) * page) page old new torn (omega arith))
]

-- a page that stands in the file stays while it is cut behind the page
pub page_before_cut : (page size n : ℕ) (old new : List ℕ) → 1 ≤ n → n ≤ size → n * page ≤ length old → CutShort (size * page) old new
    → (n * page ≤ length new) × (file_page page new n ≡ file_page page old n)
page_before_cut page size n old new n_from n_to within cut =
    let end = page_end n page n_from in
    let below : n * page ≤ size * page = mul-le-mul_right page n_to in
    let kept : n * page ≤ length new = omega (arith, cut.no_shorter) in
    (kept, ap (λ l. take page (drop ((n - 1) * page) l)) (sym cut.front) ∙ part_of_front old ((n - 1) * page) page (length new) (omega arith))

-- how long a file is after a write
pub length_written : (old piece : List ℕ) (at : ℕ) → length (overwritten old at piece) ≡ at + (length piece + (length old - (at + length piece)))
length_written old piece at =
    let zeros : List ℕ = replicate (at - length old) 0 in
    let filled : length (old ++ zeros) ≡ length old + (at - length old) = length-append old zeros ∙ ap (λ k. length old + k) (length-replicate (at - length old) 0) in
    let front : List ℕ = take at (old ++ zeros) in
    let len : length front ≡ at = length-take-le at (old ++ zeros) (omega (arith, filled)) in
    ap length (append_assoc front piece (drop (at + length piece) old)) ∙ length-append front (piece ++ drop (at + length piece) old)
    ∙ omega (arith, len, length-append piece (drop (at + length piece) old), length-drop (at + length piece) old)

-- a page that was written is there
pub page_written : (page n : ℕ) (old piece : List ℕ) → 1 ≤ n → length piece ≡ page
    → (n * page ≤ length (overwritten old ((n - 1) * page) piece)) × (file_page page (overwritten old ((n - 1) * page) piece) n ≡ piece)
page_written page n old piece n_from len =
    let at = (n - 1) * page in
    let end = page_end n page n_from in
    let zeros : List ℕ = replicate (at - length old) 0 in
    let filled : length (old ++ zeros) ≡ length old + (at - length old) = length-append old zeros ∙ ap (λ k. length old + k) (length-replicate (at - length old) 0) in
    let front : length (take at (old ++ zeros)) ≡ at = length-take-le at (old ++ zeros) (omega (arith, filled)) in
    (omega (arith, length_written old piece at), take_mid (take at (old ++ zeros)) piece (drop (at + length piece) old) at page front len)
