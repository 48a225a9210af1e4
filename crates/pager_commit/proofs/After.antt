-- The image of a database in which the changed pages were written.
use Rattle.std.proofs.Common.{◌≡◌, inl, inr, ℕ, zero, suc, ◌-◌, ◌*◌, ◌/◌, ◌≤◌, ◌==◌, Bool, true, false, not, if◌then◌else◌, List, length, take, drop, Some, refl, sym, ap, ◌∙◌, subst, arith}
use Rattle.std.proofs.lemmas.Bool.{and_from, cases_Bool, cases_eq, eq-eqb, ne_eqb}
use Rattle.std.proofs.lemmas.List.{take-take}
use Rattle.alter_disk.specs.declared.disk.Disk.{Ghosts}
use Rattle.alter_disk.specs.Changes.{Torn, overwritten}
use Rattle.alter_disk.proofs.Pending.{torn_whole}
use Rattle.rollback_journal.specs.Playback.{file_page}
use Rattle.rollback_journal.proofs.FilePages.{page_beside, page_written}
use Rattle.pager_core.specs.declared.pages.Pages.{Pages}
use Rattle.pager_core.specs.Header.{has_page_count, number_at, page_count, page_size}
use Rattle.pager_core.specs.Image.{image_of, known_image, whole_page}
use Rattle.pager_core.specs.Pages.{bytes_of, is_changed, known, shape_of}
use Rattle.pager_core.specs.Shape.{IsShape}
use Rattle.pager_commit.specs.Ready.{EachStands, HasFirstPage}
use Rattle.pager_core.proofs.Fits.{changed_known}
use Rattle.pager_core.proofs.Sound.{page_large}
use Rattle.pager_commit.specs.Stages.{HasExtents, KeepsUnchanged, written_upto, written_whole}
use Rattle.pager_commit.proofs.Images.{image_is, numbers_alike, size_alike, whole_is}
use Rattle.pager_commit.proofs.Replayed.{whole_page_bytes}
use Rattle.pager_commit.proofs.WriteLemmas.{keeps_all, keeps_on, keeps_torn}

not_both : (b : Bool) → b ≡ true → b ≡ false → ⊥
not_both true p q = cc
not_both false p q = cc

module _ (changed : ℕ → Bool) (bytes : ℕ → List ℕ) (page : ℕ) (base : List ℕ) where
  -- no other page is lost
  pub written_keeps : (k : ℕ) → ((m : ℕ) → 1 ≤ m → m ≤ k → changed m ≡ true → length (bytes m) ≡ page) → KeepsUnchanged changed page base (written_upto changed bytes page k base)
  unfolding written_upto
  written_keeps zero extents = keeps_all changed page base
  written_keeps (suc k) extents = by (changed (suc k)) refl (written_keeps k (λ m from to. extents m from (omega (arith, to)))) (extents (suc k) (omega arith) (omega arith))
    where
      by : (b : Bool) → changed (suc k) ≡ b → KeepsUnchanged changed page base (written_upto changed bytes page k base) → (changed (suc k) ≡ true → length (bytes (suc k)) ≡ page)
          → KeepsUnchanged changed page base (if b then overwritten (written_upto changed bytes page k base) ((suc k - 1) * page) (bytes (suc k)) else written_upto changed bytes page k base)
      by true is keeps extent =
          let old = written_upto changed bytes page k base in
          let torn : Torn ((suc k - 1) * page) page old (overwritten old ((suc k - 1) * page) (bytes (suc k))) =
          subst (λ n. Torn ((suc k - 1) * page) n old (overwritten old ((suc k - 1) * page) (bytes (suc k)))) (extent is) (torn_whole ((suc k - 1) * page) (bytes (suc k)) old) in
          keeps_on changed page base old _ keeps (keeps_torn changed page (suc k) old _ (omega arith) is torn)
      by false is keeps extent = keeps

  -- a changed page is written
  pub written_there : (k n : ℕ) → ((m : ℕ) → 1 ≤ m → m ≤ k → changed m ≡ true → length (bytes m) ≡ page) → 1 ≤ n → n ≤ k → changed n ≡ true
      → (n * page ≤ length (written_upto changed bytes page k base)) × (file_page page (written_upto changed bytes page k base) n ≡ bytes n)
  unfolding written_upto
  written_there zero n extents from to is = absurd (omega (arith, from, to))
  written_there (suc k) n extents from to is = by (changed (suc k)) refl (λ within. written_there k n (λ m some few. extents m some (omega (arith, few))) from within is) (extents (suc k) (omega arith) (omega arith))
    where
      by : (b : Bool) → changed (suc k) ≡ b → (n ≤ k → (n * page ≤ length (written_upto changed bytes page k base)) × (file_page page (written_upto changed bytes page k base) n ≡ bytes n))
          → (changed (suc k) ≡ true → length (bytes (suc k)) ≡ page)
          → (n * page ≤ length (if b then overwritten (written_upto changed bytes page k base) ((suc k - 1) * page) (bytes (suc k)) else written_upto changed bytes page k base))
          × (file_page page (if b then overwritten (written_upto changed bytes page k base) ((suc k - 1) * page) (bytes (suc k)) else written_upto changed bytes page k base) n ≡ bytes n)
      by true same earlier extent =
          let old = written_upto changed bytes page k base in
          let new = overwritten old ((suc k - 1) * page) (bytes (suc k)) in
          let torn : Torn ((suc k - 1) * page) page old new = subst (λ m. Torn ((suc k - 1) * page) m old new) (extent same) (torn_whole ((suc k - 1) * page) (bytes (suc k)) old) in
          elim (cases_eq n (suc k)) [
            | inl here ↦ let P : ℕ → Type 0 = λ m. (m * page ≤ length new) × (file_page page new m ≡ bytes m) in subst P (sym here) (page_written page (suc k) old (bytes (suc k)) (omega arith) (extent same))
            | inr other ↦
                let (stood, as_before) = earlier (omega (arith, to, other)) in
                (omega (arith, stood, torn.no_shorter), page_beside page (suc k) n old new (omega arith) from other stood torn ∙ as_before)
          ]
      by false same earlier extent = elim (cases_eq n (suc k)) [
        | inl here ↦ absurd (not_both (changed n) is (ap changed here ∙ same))
        | inr other ↦ earlier (omega (arith, to, other))
      ]

-- what the commit asks of the pages for their image: page 1 gives their size and their number, and each page is changed, or stands in the database as it is known
module _ {D : Type 0} (disk : Ghosts D) (pages : Pages D) (base : List ℕ) (sound : IsShape (shape_of pages)) (extents : HasExtents (shape_of pages).count pages)
    (first : HasFirstPage pages) (stands : EachStands disk pages base) where
  changed_page : (n : ℕ) → 1 ≤ n → n ≤ (shape_of pages).count → is_changed pages n ≡ true → whole_page (shape_of pages).page (written_whole pages base) n ≡ known disk pages n
  changed_page n from to is =
      let there = written_there (is_changed pages) (bytes_of pages) (shape_of pages).page base (shape_of pages).count n extents from to is in
      whole_is (shape_of pages).page n (written_whole pages base) from there.0 ∙ ap Some there.1 ∙ sym (changed_known disk pages n is)

  each_page : (n : ℕ) → 1 ≤ n → n ≤ (shape_of pages).count → whole_page (shape_of pages).page (written_whole pages base) n ≡ known disk pages n
  each_page n from to = elim (stands.each n from to) [
    | inl is ↦ changed_page n from to is
    | inr stood ↦ elim (cases_Bool (is_changed pages n)) [
      | inl is ↦ changed_page n from to is
      | inr same ↦
          let kept = (written_keeps (is_changed pages) (bytes_of pages) (shape_of pages).page base (shape_of pages).count extents).each n from same stood.whole in
          whole_is (shape_of pages).page n (written_whole pages base) from kept.0 ∙ ap Some kept.1 ∙ sym (ap Some (whole_page_bytes (shape_of pages).page n base from stood.whole)) ∙ sym stood.known
    ]
  ]

  pub after_image : image_of (written_whole pages base) ≡ known_image disk pages
  unfolding known_image
  after_image =
      let page = (shape_of pages).page in
      let count = (shape_of pages).count in
      let after = written_whole pages base in
      let one = written_there (is_changed pages) (bytes_of pages) page base count 1 extents (omega arith) sound.some first.changed in
      let large = page_large page sound.size in
      let start : (1 - 1) * page ≡ 0 = omega arith in
      let opens : take page after ≡ bytes_of pages 1 = sym (ap (λ k. take page (drop k after)) start) ∙ one.1 in
      let front : take 512 after ≡ take 512 (bytes_of pages 1) = sym (take-take 512 page after large) ∙ ap (take 512) opens in
      let size : page_size after ≡ page = size_alike after (bytes_of pages 1) front ∙ first.size in
      let field : number_at 4 28 after ≡ count = numbers_alike 4 28 after (bytes_of pages 1) (omega arith) front ∙ first.count in
      let none : number_at 4 28 after ≡ 0 → ⊥ = λ e. omega (arith, e, field, sound.some) in
      let current : number_at 4 24 after ≡ number_at 4 92 after =
      numbers_alike 4 24 after (bytes_of pages 1) (omega arith) front ∙ first.current ∙ sym (numbers_alike 4 92 after (bytes_of pages 1) (omega arith) front) in
      let counted : has_page_count after ≡ true =
      and_from (not (number_at 4 28 after == 0)) (number_at 4 24 after == number_at 4 92 after) (ap not (ne_eqb (number_at 4 28 after) 0 none)) (eq-eqb (number_at 4 24 after) (number_at 4 92 after) current) in
      let number : page_count after (length after) ≡ count = ap (λ (b : Bool). if b then number_at 4 28 after else length after / page_size after) counted ∙ field in
      image_is after page count (known disk pages) sound.size size number each_page
