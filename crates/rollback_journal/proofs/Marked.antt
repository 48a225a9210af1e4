-- The first page that playback lacks, by marks of the pages that have an entry.
use Rattle.std.proofs.Common.{◌≡◌, ◌⊎◌, inl, inr, ⊎_elim, ℕ, zero, suc, ◌+◌, ◌*◌, ◌<◌, ◌≤◌, Bool, true, false, List, length, get_or, Some, None, is_some, nat_le, refl, sym, ap, ◌∙◌, arith}
use Rattle.std.proofs.lemmas.Bool.{cases_eq, or_from, or_left, or_right, le-leb, lt-leb}
use Rattle.rollback_journal.specs.Records.{Entry}
use Rattle.rollback_journal.specs.Playback.{last_entry, is_known, first_missing}
use Rattle.rollback_journal.specs.Recovery.{IsMarked}
use Rattle.rollback_journal.proofs.Unjournaled.{none_missing}

-- the first page that is not known
missing_here : (page k : ℕ) (entries : List Entry) (db : List ℕ) → first_missing page k entries db ≡ None → is_known page entries db (suc k) ≡ false
    → first_missing page (suc k) entries db ≡ Some (suc k)
unfolding first_missing
missing_here page k entries db none unknown = rw (none, unknown) refl

missing_more : (page k m : ℕ) (entries : List Entry) (db : List ℕ) → first_missing page k entries db ≡ Some m → first_missing page (suc k) entries db ≡ Some m
unfolding first_missing
missing_more page k m entries db some = rw some refl

missing_stays : (page k size m : ℕ) (entries : List Entry) (db : List ℕ) → first_missing page k entries db ≡ Some m → k ≤ size → first_missing page size entries db ≡ Some m
missing_stays page k zero m entries db some within = let e : k ≡ 0 = omega arith in ap (λ n. first_missing page n entries db) (sym e) ∙ some
missing_stays page k (suc size) m entries db some within = elim (cases_eq k (suc size)) [
  | inl same ↦ ap (λ n. first_missing page n entries db) (sym same) ∙ some
  | inr less ↦ missing_more page size m entries db (missing_stays page k size m entries db some (omega (arith, less)))
]

module _ (page len i : ℕ) (marks : List Bool) (entries : List Entry) (db : List ℕ) (marked : IsMarked entries marks) (within : i < length marks) (long : len ≡ length db)
    (before : first_missing page i entries db ≡ None) where
  abbrev has : Bool
  has = is_some (last_entry entries (i + 1))

  -- a page that has a mark or stands in the file is not missing
  pub not_missing : (get_or marks i false ≡ true) ⊎ ((i + 1) * page ≤ len) → first_missing page (i + 1) entries db ≡ None
  not_missing there =
      let known : is_known page entries db (i + 1) ≡ true = ⊎_elim
      (λ mark. or_left has (nat_le ((i + 1) * page) (length db)) (sym (marked i within) ∙ mark))
      (λ stands. or_right has (nat_le ((i + 1) * page) (length db)) (le-leb ((i + 1) * page) (length db) (omega (arith, stands)))) there in
      let one : suc i ≡ i + 1 = omega arith in
      ap (λ n. first_missing page n entries db) (sym one) ∙ none_missing page i entries db before (ap (is_known page entries db) one ∙ known)

  -- one that has neither is the first
  pub is_missing : get_or marks i false ≡ false → len < (i + 1) * page → first_missing page (length marks) entries db ≡ Some (i + 1)
  is_missing mark short =
      let unknown : is_known page entries db (i + 1) ≡ false = or_from has (nat_le ((i + 1) * page) (length db)) (sym (marked i within) ∙ mark)
      (lt-leb ((i + 1) * page) (length db) (omega (arith, short))) in
      let one : suc i ≡ i + 1 = omega arith in
      missing_stays page (suc i) (length marks) (i + 1) entries db (missing_here page i entries db before (ap (is_known page entries db) one ∙ unknown) ∙ ap Some one) (omega arith)
