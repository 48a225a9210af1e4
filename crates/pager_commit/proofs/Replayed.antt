-- What playback of a journal's records leaves: each page as the database had it.
use Rattle.std.proofs.Common.{◌≡◌, inl, inr, ℕ, zero, suc, ◌+◌, ◌-◌, ◌*◌, ◌≤◌, ◌==◌, Bool, true, false, if◌then◌else◌, List, [], ◌∷◌, ◌++◌, length, length-drop, take, drop, map, replicate, Option, Some, None, is_some, unwrap_or, refl, sym, ap, ap₂, ◌∙◌, append-nil, arith}
use Rattle.std.proofs.lemmas.Bool.{cases_eq, eqb-true, eq-eqb, ne_eqb, le-leb, or_right, true≢false}
use Rattle.std.proofs.lemmas.List.{length-take-le, map-append}
use Rattle.std.proofs.lemmas.Option.{same_Some}
use Rattle.std.proofs.Math.Seq.{take-add}
use Rattle.rollback_journal.specs.Playback.{file_page, first_missing, is_known, last_entry, page_after, played}
use Rattle.rollback_journal.specs.Records.{Entry}
use Rattle.rollback_journal.proofs.FilePages.{page_end}
use Rattle.rollback_journal.specs.Playback.{KeepsUnjournaled}
use Rattle.rollback_journal.proofs.Unjournaled.{none_missing}
use Rattle.pager_core.specs.Pages.{page_bytes}
use Rattle.pager_commit.specs.Plan.{entry_at, numbers_upto}
use Rattle.pager_commit.specs.Stages.{KeepsUnchanged}

-- a page that stands wholly in a file has its size, and is not filled up
pub whole_file_page : (page n : ℕ) (db : List ℕ) → 1 ≤ n → n * page ≤ length db → length (file_page page db n) ≡ page
whole_file_page page n db from within =
    let end = page_end n page from in
    length-take-le page (drop ((n - 1) * page) db) (omega (arith, length-drop ((n - 1) * page) db))

pub whole_page_bytes : (page n : ℕ) (db : List ℕ) → 1 ≤ n → n * page ≤ length db → page_bytes page n db ≡ file_page page db n
whole_page_bytes page n db from within =
    let len = whole_file_page page n db from within in
    let none : page - length (file_page page db n) ≡ 0 = omega (arith, len) in
    ap (λ (k : ℕ). file_page page db n ++ replicate k 0) none ∙ append-nil (file_page page db n)

-- the last entry of a page, where one more follows
last_of_more : (entries : List Entry) (last : Entry) (n : ℕ) → last_entry (entries ++ last ∷ []) n ≡ (if last.page == n then Some last.bytes else last_entry entries n)
last_of_more [] last n = refl
last_of_more (entry ∷ entries) last n = by (last_of_more entries last n) (last.page == n) refl
  where
    by : last_entry (entries ++ last ∷ []) n ≡ (if last.page == n then Some last.bytes else last_entry entries n) → (b : Bool) → (last.page == n) ≡ b → last_entry ((entry ∷ entries) ++ last ∷ []) n ≡ (if last.page == n then Some last.bytes else last_entry (entry ∷ entries) n)
    by shorter true is = let rest : last_entry (entries ++ last ∷ []) n ≡ Some last.bytes = shorter ∙ ap (λ (b : Bool). if b then Some last.bytes else last_entry entries n) is in rw (rest, is) refl
    by shorter false is = let rest : last_entry (entries ++ last ∷ []) n ≡ last_entry entries n = shorter ∙ ap (λ (b : Bool). if b then Some last.bytes else last_entry entries n) is in rw (rest, is) refl

module _ (page : ℕ) (db : List ℕ) where
  -- an entry of a page has its bytes
  pub last_is : (numbers : List ℕ) (n : ℕ) (bytes : List ℕ) → last_entry (map (entry_at page db) numbers) n ≡ Some bytes → bytes ≡ page_bytes page n db
  last_is [] n bytes is = absurd (cc)
  last_is (k ∷ numbers) n bytes is = by (last_is numbers n bytes) (last_entry (map (entry_at page db) numbers) n) refl (k == n) refl is
    where
      by : (last_entry (map (entry_at page db) numbers) n ≡ Some bytes → bytes ≡ page_bytes page n db) → (rest : Option (List ℕ)) → last_entry (map (entry_at page db) numbers) n ≡ rest → (b : Bool) → (k == n) ≡ b
          → ◌≡◌ {A = Option (List ℕ)} (elim rest [ Some later ↦ Some later | None ↦ if b then Some (page_bytes page k db) else None ]) (Some bytes) → bytes ≡ page_bytes page n db
      by later_is (Some later) is_rest b is_b e = later_is (is_rest ∙ e)
      by later_is None is_rest true is_b e = sym (same_Some (page_bytes page k db) bytes e) ∙ ap (λ j. page_bytes page j db) (eqb-true k n is_b)
      by later_is None is_rest false is_b e = absurd (cc)

  -- a page that is changed has an entry
  pub has_entry : (changed : ℕ → Bool) (size n : ℕ) → 1 ≤ n → n ≤ size → changed n ≡ true → last_entry (map (entry_at page db) (numbers_upto changed size)) n ≡ None → ⊥
  has_entry changed zero n from to is none = absurd (omega (arith, from, to))
  has_entry changed (suc size) n from to is none = by (λ within. has_entry changed size n from within is) (changed (suc size)) refl none
    where
      more : last_entry (map (entry_at page db) (numbers_upto changed size ++ suc size ∷ [])) n ≡ (if suc size == n then Some (page_bytes page (suc size) db) else last_entry (map (entry_at page db) (numbers_upto changed size)) n)
      more = ap (λ entries. last_entry entries n) (map-append (entry_at page db) (numbers_upto changed size) (suc size ∷ [])) ∙ last_of_more (map (entry_at page db) (numbers_upto changed size)) (entry_at page db (suc size)) n

      within : (n ≡ suc size → ⊥) → n ≤ size
      within other = omega (arith, to, other)

      here_not_none : (b : Bool) → b ≡ true → ◌≡◌ {A = Option (List ℕ)} (if b then Some (page_bytes page (suc size) db) else last_entry (map (entry_at page db) (numbers_upto changed size)) n) None → ⊥
      here_not_none true is_b e = cc
      here_not_none false is_b e = true≢false (sym is_b)

      by : (n ≤ size → last_entry (map (entry_at page db) (numbers_upto changed size)) n ≡ None → ⊥) → (b : Bool) → changed (suc size) ≡ b → last_entry (map (entry_at page db) (if b then numbers_upto changed size ++ suc size ∷ [] else numbers_upto changed size)) n ≡ None → ⊥
      by below true same e = elim (cases_eq n (suc size)) [
        | inl here ↦ here_not_none (suc size == n) (eq-eqb (suc size) n (sym here)) (sym more ∙ e)
        | inr other ↦ below (within other) (ap (λ (b : Bool). if b then Some (page_bytes page (suc size) db) else last_entry (map (entry_at page db) (numbers_upto changed size)) n) (sym (ne_eqb (suc size) n (λ e. other (sym e)))) ∙ sym more ∙ e)
      ]
      by below false same e = elim (cases_eq n (suc size)) [
        | inl here ↦ true≢false (sym is ∙ ap changed here ∙ same)
        | inr other ↦ below (within other) e
      ]

  -- where only changed pages were written, all is kept that has no entry
  pub keeps_unjournaled : (changed : ℕ → Bool) (size : ℕ) (new : List ℕ) → KeepsUnchanged changed page db new
      → KeepsUnjournaled page size (map (entry_at page db) (numbers_upto changed size)) db new
  keeps_unjournaled changed size new keeps = record {
    each = λ n from to none within. by n (changed n) refl from to none within;
  }
    where
      by : (n : ℕ) (b : Bool) → changed n ≡ b → 1 ≤ n → n ≤ size → last_entry (map (entry_at page db) (numbers_upto changed size)) n ≡ None → n * page ≤ length db
          → (n * page ≤ length new) × (file_page page new n ≡ file_page page db n)
      by n true is from to none within = absurd (has_entry changed size n from to is none)
      by n false is from to none within = keeps.each n from is within

  -- each page after playback is the database's
  pub page_restored : (numbers : List ℕ) (n : ℕ) → 1 ≤ n → n * page ≤ length db → page_after page (map (entry_at page db) numbers) db n ≡ file_page page db n
  page_restored numbers n from within = by (last_entry (map (entry_at page db) numbers) n) refl
    where
      by : (last : Option (List ℕ)) → last_entry (map (entry_at page db) numbers) n ≡ last → page_after page (map (entry_at page db) numbers) db n ≡ file_page page db n
      by (Some bytes) is = ap (λ (o : Option (List ℕ)). unwrap_or o (file_page page db n)) is ∙ last_is numbers n bytes is ∙ whole_page_bytes page n db from within
      by None is = ap (λ (o : Option (List ℕ)). unwrap_or o (file_page page db n)) is

  -- no page is missing, and all of them are the front of the database
  pub all_restored : (numbers : List ℕ) (size : ℕ) → size * page ≤ length db
      → (first_missing page size (map (entry_at page db) numbers) db ≡ None) × (played page size (map (entry_at page db) numbers) db ≡ take (size * page) db)
  unfolding first_missing played
  all_restored numbers zero within = (refl, let e : 0 ≡ 0 * page = omega arith in ap (λ k. take k db) e)
  all_restored numbers (suc size) within =
      let split : suc size * page ≡ size * page + page = omega arith in
      let (none, front) = all_restored numbers size (omega (arith, within, split)) in
      let entries = map (entry_at page db) numbers in
      let known : is_known page entries db (suc size) ≡ true = or_right (is_some (last_entry entries (suc size))) _ (le-leb (suc size * page) (length db) within) in
      let before : suc size - 1 ≡ size = omega arith in
      let last : page_after page entries db (suc size) ≡ take page (drop (size * page) db) = page_restored numbers (suc size) (omega arith) within ∙ ap (λ k. take page (drop (k * page) db)) before in
      (none_missing page size entries db none known, ap₂ (λ (a b : List ℕ). a ++ b) front last ∙ sym (take-add (size * page) page db) ∙ ap (λ k. take k db) (sym split))
