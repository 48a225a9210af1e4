-- A file that is as it was wherever the entries of a journal do not make up for it: playback then leaves the same.
use Rattle.std.proofs.Common.{◌≡◌, inl, inr, ⊎_elim, ℕ, zero, suc, ◌+◌, ◌-◌, ◌*◌, ◌≤◌, Bool, true, false, List, [], ◌∷◌, ◌++◌, length, take, drop, Option, Some, None, is_some, unwrap_or, if◌then◌else◌, refl, sym, ap, ap₂, ◌∙◌, subst, arith, leb}
use Rattle.std.proofs.lemmas.Bool.{cases_eq, or_cases, or_left, or_right, leb-true, le-leb, ne_eqb, eq-eqb, false≢true}
use Rattle.std.proofs.Math.Seq.{take-add}
use Rattle.alter_disk.specs.Changes.{Torn, CutShort, overwritten}
use Rattle.alter_disk.proofs.Pending.{torn_whole}
use Rattle.rollback_journal.specs.Records.{Entry}
use Rattle.rollback_journal.specs.Playback.{file_page, last_entry, page_after, played, is_known, first_missing, KeepsUnjournaled}
use Rattle.rollback_journal.proofs.FilePages.{page_end, page_beside, page_before_cut, page_written}

module _ (page size : ℕ) (entries : List Entry) where
  -- a file that is the same
  pub keeps_all : (old : List ℕ) → KeepsUnjournaled page size entries old old
  keeps_all old = record { each = λ n from to none within. (within, refl) }

  -- one change and then another
  pub keeps_on : (old mid new : List ℕ) → KeepsUnjournaled page size entries old mid → KeepsUnjournaled page size entries mid new → KeepsUnjournaled page size entries old new
  keeps_on old mid new first then_ = record {
    each = λ n from to none within.
        let (stood, same) = first.each n from to none within in
        let (stands, again) = then_.each n from to none stood in
        (stands, again ∙ same);
  }

  -- a write, cut short or not, of a page that has an entry or is past the size
  pub keeps_torn : (m : ℕ) (old new : List ℕ) → 1 ≤ m → (m ≤ size → last_entry entries m ≡ None → ⊥) → Torn ((m - 1) * page) page old new → KeepsUnjournaled page size entries old new
  keeps_torn m old new m_from journaled torn = record {
    each = λ n from to none within.
        let end = page_end n page from in
        let other : n ≡ m → ⊥ = λ same. journaled (subst (λ k. k ≤ size) same to) (subst (λ k. last_entry entries k ≡ None) same none) in
        let kept : n * page ≤ length new = omega (arith, torn.no_shorter) in
        (kept, page_beside page m n old new m_from from other within torn);
  }

  -- a cut to the size, cut short or not
  pub keeps_cut : (old new : List ℕ) → CutShort (size * page) old new → KeepsUnjournaled page size entries old new
  keeps_cut old new cut = record { each = λ n from to none within. page_before_cut page size n old new from to within cut }

-- a page that is known and has no entry stands in the file
pub stands_in_file : (page : ℕ) (entries : List Entry) (db : List ℕ) (n : ℕ) → is_known page entries db n ≡ true → last_entry entries n ≡ None → n * page ≤ length db
stands_in_file page entries db n known none =
    ⊎_elim (λ some. absurd (false≢true (ap is_some (sym none) ∙ some))) (leb-true (n * page) (length db)) (or_cases (is_some (last_entry entries n)) (leb (n * page) (length db)) known)

-- of no missing page, the first ones and the last are known
pub known_last : (page size : ℕ) (entries : List Entry) (db : List ℕ) → first_missing page (suc size) entries db ≡ None
    → (first_missing page size entries db ≡ None) × (is_known page entries db (suc size) ≡ true)
unfolding first_missing
known_last page size entries db none = by (first_missing page size entries db) (is_known page entries db (suc size)) none
  where
    by : (before : Option ℕ) (known : Bool) → ◌≡◌ {A = Option ℕ} (elim before [ Some missing ↦ Some missing | None ↦ if known then None else Some (suc size) ]) None → (before ≡ None) × (known ≡ true)
    by (Some missing) known e = absurd (cc)
    by None true e = (refl, refl)
    by None false e = absurd (cc)

pub none_missing : (page size : ℕ) (entries : List Entry) (db : List ℕ) → first_missing page size entries db ≡ None → is_known page entries db (suc size) ≡ true
    → first_missing page (suc size) entries db ≡ None
unfolding first_missing
none_missing page size entries db none known = rw (none, known) refl

-- Two files with their entries that know the same pages, and have them alike after playback: playback leaves the same.
pub same_pages : (page size : ℕ) (before after : List Entry) (old new : List ℕ)
    → ((n : ℕ) → 1 ≤ n → n ≤ size → is_known page before old n ≡ true → (is_known page after new n ≡ true) × (page_after page after new n ≡ page_after page before old n))
    → first_missing page size before old ≡ None → (first_missing page size after new ≡ None) × (played page size after new ≡ played page size before old)
unfolding played first_missing
same_pages page zero before after old new each none = (refl, refl)
same_pages page (suc size) before after old new each none =
    let (first, last) = known_last page size before old none in
    let (known, same) = each (suc size) (omega arith) (omega arith) last in
    let (rest, front) = same_pages page size before after old new (λ n from to. each n from (omega (arith, to))) first in
    (none_missing page size after new rest known, ap₂ (λ a b. a ++ b) front same)

-- what playback leaves is the same where only what has an entry was changed
pub played_kept : (page size : ℕ) (entries : List Entry) (old new : List ℕ) → KeepsUnjournaled page size entries old new → first_missing page size entries old ≡ None
    → (first_missing page size entries new ≡ None) × (played page size entries new ≡ played page size entries old)
played_kept page size entries old new keeps none = same_pages page size entries entries old new each none
  where
    by : (n : ℕ) (last : Option (List ℕ)) → last_entry entries n ≡ last → 1 ≤ n → n ≤ size → is_known page entries old n ≡ true
        → (is_known page entries new n ≡ true) × (page_after page entries new n ≡ page_after page entries old n)
    by n (Some bytes) is from to known =
        (or_left (is_some (last_entry entries n)) (leb (n * page) (length new)) (ap is_some is), ap (λ o. unwrap_or o (file_page page new n)) is ∙ sym (ap (λ o. unwrap_or o (file_page page old n)) is))
    by n None is from to known =
        let (stands, same) = keeps.each n from to is (stands_in_file page entries old n known is) in (
          or_right (is_some (last_entry entries n)) (leb (n * page) (length new)) (le-leb (n * page) (length new) stands),
          ap (λ o. unwrap_or o (file_page page new n)) is ∙ same ∙ sym (ap (λ o. unwrap_or o (file_page page old n)) is),
        )

    each : (n : ℕ) → 1 ≤ n → n ≤ size → is_known page entries old n ≡ true → (is_known page entries new n ≡ true) × (page_after page entries new n ≡ page_after page entries old n)
    each n from to known = by n (last_entry entries n) refl from to known

-- the last entry of a page, by the first entry and the later ones
pub last_later : (entry : Entry) (later : List Entry) (n : ℕ) (bytes : List ℕ) → last_entry later n ≡ Some bytes → last_entry (entry ∷ later) n ≡ Some bytes
last_later entry later n bytes is = rw is refl

pub last_first : (entry : Entry) (later : List Entry) (n : ℕ) → last_entry later n ≡ None → entry.page ≡ n → last_entry (entry ∷ later) n ≡ Some entry.bytes
last_first entry later n none here = rw (none, eq-eqb entry.page n here) refl

pub last_other : (entry : Entry) (later : List Entry) (n : ℕ) → last_entry later n ≡ None → (entry.page ≡ n → ⊥) → last_entry (entry ∷ later) n ≡ None
last_other entry later n none other = rw (none, ne_eqb entry.page n other) refl

-- the entry that comes first is played, and the later ones are then played over it
pub played_one : (page size : ℕ) (entry : Entry) (later : List Entry) (db : List ℕ) → 1 ≤ entry.page → length entry.bytes ≡ page
    → first_missing page size (entry ∷ later) db ≡ None
    → (first_missing page size later (overwritten db ((entry.page - 1) * page) entry.bytes) ≡ None)
    × (played page size later (overwritten db ((entry.page - 1) * page) entry.bytes) ≡ played page size (entry ∷ later) db)
played_one page size entry later db m_from len none = same_pages page size (entry ∷ later) later db new each none
  where
    new : List ℕ
    new = overwritten db ((entry.page - 1) * page) entry.bytes

    Same : ℕ → Type 0
    Same n = (is_known page later new n ≡ true) × (page_after page later new n ≡ page_after page (entry ∷ later) db n)

    in_file : (n : ℕ) (bytes : List ℕ) → last_entry later n ≡ None → n * page ≤ length new → file_page page new n ≡ bytes → page_after page (entry ∷ later) db n ≡ bytes → Same n
    in_file n bytes is stands same wanted = (
      or_right (is_some (last_entry later n)) (leb (n * page) (length new)) (le-leb (n * page) (length new) stands),
      ap (λ o. unwrap_or o (file_page page new n)) is ∙ same ∙ sym wanted,
    )

    by : (n : ℕ) (last : Option (List ℕ)) → last_entry later n ≡ last → 1 ≤ n → n ≤ size → is_known page (entry ∷ later) db n ≡ true → Same n
    by n (Some bytes) is from to known = (
      or_left (is_some (last_entry later n)) (leb (n * page) (length new)) (ap is_some is),
      ap (λ o. unwrap_or o (file_page page new n)) is ∙ sym (ap (λ o. unwrap_or o (file_page page db n)) (last_later entry later n bytes is)),
    )
    by n None is from to known = elim (cases_eq entry.page n) [
      | inl here ↦
          let (stands, same) = page_written page entry.page db entry.bytes m_from len in
          in_file n entry.bytes is (subst (λ k. k * page ≤ length new) here stands) (subst (λ k. file_page page new k ≡ entry.bytes) here same)
          (ap (λ o. unwrap_or o (file_page page db n)) (last_first entry later n is here))
      | inr other ↦
          let gone = last_other entry later n is other in
          let stood = stands_in_file page (entry ∷ later) db n known gone in
          let torn : Torn ((entry.page - 1) * page) page db new = subst (λ k. Torn ((entry.page - 1) * page) k db new) len (torn_whole ((entry.page - 1) * page) entry.bytes db) in
          let same = page_beside page entry.page n db new m_from from (λ e. other (sym e)) stood torn in
          in_file n (file_page page db n) is (omega (arith, torn.no_shorter)) same (ap (λ o. unwrap_or o (file_page page db n)) gone)
    ]

    each : (n : ℕ) → 1 ≤ n → n ≤ size → is_known page (entry ∷ later) db n ≡ true → Same n
    each n from to known = by n (last_entry later n) refl from to known

-- where all entries are played, the rest is a cut
pub played_all : (page size : ℕ) (db : List ℕ) → first_missing page size [] db ≡ None → played page size [] db ≡ take (size * page) db
unfolding played first_missing
played_all page zero db none = let e : 0 ≡ 0 * page = omega arith in ap (λ k. take k db) e
played_all page (suc size) db none =
    let (first, known) = known_last page size [] db none in
    let stands = stands_in_file page [] db (suc size) known refl in
    let split : suc size * page ≡ size * page + page = omega arith in
    let before : suc size - 1 ≡ size = omega arith in
    ap (λ k. played page size [] db ++ take page (drop (k * page) db)) before ∙ ap (λ front. front ++ take page (drop (size * page) db)) (played_all page size db first) ∙ sym (take-add (size * page) page db) ∙ ap (λ k. take k db) (sym split)
