-- What was prepared is the plan of the pages.
use Rattle.std.proofs.Common.{◌≡◌, ℕ, ◌+◌, ◌*◌, ◌≤◌, List, ◌++◌, length, length-append, take, map, replicate, Option, Some, true, ap, ap₂, ◌∙◌, subst, sym, arith}
use Rattle.std.proofs.lemmas.List.{length-map, length-replicate}
use Rattle.std.specs.List.{flat_map}
use Rattle.common_laws.proofs.Options.{if_some}
use Rattle.alter_disk.specs.Files.{Files}
use Rattle.rollback_journal.specs.Header.{bytes_of, magic}
use Rattle.rollback_journal.specs.Records.{Entry}
use Rattle.pager_core.specs.declared.pages.Pages.{Pages}
use Rattle.pager_core.specs.Pages.{CountsAdded, before_of, is_changed, shape_of}
use Rattle.pager_core.specs.Shape.{IsShape}
use Rattle.pager_commit.specs.Plan.{IsPlanOf, entry_at, header_for, numbers_upto, originals, record_of}
use Rattle.pager_commit.specs.Records.{HasRecords}
use Rattle.pager_commit.proofs.Own.{EndsSmall, few_numbers, front_ends, journal_ends, journal_small, length-bytes_of, length-records, own}

module _ {D : Type 0} (pages : Pages D) (files : Option Files) (front journal : List ℕ) where
  pub made_size : front ≡ bytes_of (header_for pages) true ++ replicate 484 0 → HasRecords (is_changed pages) (shape_of pages).page (before_of pages) files front journal
      → IsShape (shape_of pages) → before_of pages ≤ (shape_of pages).count → (take 8 journal ≡ magic) × (8 ≤ length journal) × (length journal ≤ 1073741824)
  made_size begins has sound within =
      let front_len : length front ≡ 512 = ap length begins ∙ length-append (bytes_of (header_for pages) true) (replicate 484 0) ∙ omega (arith, length-bytes_of (header_for pages), length-replicate {A = ℕ} 484 0) in
      let count : length has.entries ≡ length (numbers_upto (is_changed pages) (before_of pages)) = sym (length-map has.entries (λ (e : Entry). e.page)) ∙ ap length has.numbers in
      let few = few_numbers (is_changed pages) (before_of pages) in
      let len : length journal ≡ 512 + length has.entries * ((shape_of pages).page + 8) =
      ap length has.journal ∙ length-append front (flat_map record_of has.entries) ∙ ap₂ (λ (a b : ℕ). a + b) front_len (length-records (shape_of pages).page has.entries has.small) in
      let small = journal_small (length has.entries) (shape_of pages).count (shape_of pages).page (omega (arith, count, few, within)) sound.few sound.small in
      let opens : take 8 journal ≡ magic = ap (take 8) (has.journal ∙ ap (λ (l : List ℕ). l ++ flat_map record_of has.entries) begins) in
      (opens, omega (arith, len), omega (arith, len, small))

  pub made_plan : front ≡ bytes_of (header_for pages) true ++ replicate 484 0 → HasRecords (is_changed pages) (shape_of pages).page (before_of pages) files front journal
      → IsShape (shape_of pages) → (1 ≤ before_of pages) × (before_of pages ≤ (shape_of pages).count) → CountsAdded pages → (f : Files) → files ≡ Some f → IsPlanOf pages f.db journal
  made_plan begins has sound within added f is =
      let entries : has.entries ≡ originals pages f.db = if_some (λ (f : Files). has.entries ≡ map (entry_at (shape_of pages).page f.db) (numbers_upto (is_changed pages) (before_of pages))) files f is has.told in
      record {
        sound = sound;
        some = within.0;
        within = within.1;
        added = added;
        journal = has.journal ∙ ap₂ (λ (a : List ℕ) (es : List Entry). a ++ flat_map record_of es) begins entries;
        own = own journal (subst EndsSmall (sym has.journal) (journal_ends (shape_of pages).page front has.entries (subst EndsSmall (sym begins) (front_ends (header_for pages))) has.small));
      }
