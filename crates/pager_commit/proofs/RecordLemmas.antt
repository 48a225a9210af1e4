-- The records of the changed pages are added one by one.
use Rattle.std.proofs.Common.{◌≡◌, ℕ, suc, ◌+◌, Bool, true, false, List, [], ◌∷◌, ◌++◌, length, length-append, map, Option, Some, None, refl, sym, ap, ap₂, ◌∙◌, subst, add-one, append-nil, append_assoc}
use Rattle.std.proofs.lemmas.List.{map-append}
use Rattle.std.proofs.lemmas.List.Concat.{flat_map-append}
use Rattle.std.specs.List.{AllByRecursion, flat_map}
use Rattle.alter_disk.specs.declared.disk.Disk.{Ghosts}
use Rattle.alter_disk.specs.Changes.{IfTold}
use Rattle.alter_disk.specs.Files.{Files}
use Rattle.alter_disk.specs.Moments.{ReadsQuietly}
use Rattle.alter_disk.proofs.Moments.{reads_none, reads_on}
use Rattle.rollback_journal.specs.Records.{Entry}
use Rattle.pager_core.specs.declared.pages.Pages.{Pages}
use Rattle.pager_core.specs.Pages.{disk_of, is_changed, shape_of, with_disk}
use Rattle.pager_commit.specs.Plan.{AddsRecord, entry_at, numbers_upto, record_of}
use Rattle.pager_commit.specs.Records.{HasRecords, IsSmallEntry, MayAdd}

-- one number more, if the test holds of it
pub numbers_with : (test : ℕ → Bool) (n : ℕ) → test (n + 1) ≡ true → numbers_upto test (n + 1) ≡ numbers_upto test n ++ (n + 1) ∷ []
numbers_with test n is =
    let P : ℕ → Type 0 = λ k. test k ≡ true → numbers_upto test k ≡ numbers_upto test n ++ k ∷ [] in
    let here : P (suc n) = λ yes. rw yes refl in
    subst P (sym (add-one n)) here is

pub numbers_without : (test : ℕ → Bool) (n : ℕ) → test (n + 1) ≡ false → numbers_upto test (n + 1) ≡ numbers_upto test n
numbers_without test n is =
    let P : ℕ → Type 0 = λ k. test k ≡ false → numbers_upto test k ≡ numbers_upto test n in
    let here : P (suc n) = λ not. rw not refl in
    subst P (sym (add-one n)) here is

pub one_more : (test : ℕ → Bool) (n : ℕ) → test (n + 1) ≡ true → length (numbers_upto test (n + 1)) ≡ length (numbers_upto test n) + 1
one_more test n is = ap length (numbers_with test n is) ∙ length-append (numbers_upto test n) ((n + 1) ∷ [])

-- entries of which something is said, and one more
all_with : (P : Entry → Type 0) (entries : List Entry) (last : Entry) → AllByRecursion P entries → P last → AllByRecursion P (entries ++ last ∷ [])
all_with P [] last all one = (one, tt)
all_with P (entry ∷ entries) last all one = (all.0, all_with P entries last all.1 one)

both_told : (files : Option Files) (P Q R : Files → Type 0) → ((f : Files) → P f → Q f → R f) → IfTold files P → IfTold files Q → IfTold files R
both_told None P Q R so p q = tt
both_told (Some f) P Q R so p q = so f p q

-- no record yet
pub no_records : (changed : ℕ → Bool) (page : ℕ) (files : Option Files) (front : List ℕ) → HasRecords changed page 0 files front front
no_records changed page files front = record {
  entries = [];
  numbers = refl;
  small = tt;
  told = none files;
  journal = sym (append-nil front);
}
  where
    none : (files : Option Files) → IfTold files (λ f. ◌≡◌ {A = List Entry} [] (map (entry_at page f.db) (numbers_upto changed 0)))
    none None = tt
    none (Some f) = refl

record_added : (changed : ℕ → Bool) (page n : ℕ) (files : Option Files) (front old new : List ℕ) → changed (n + 1) ≡ true → HasRecords changed page n files front old
    → AddsRecord page (n + 1) files old new → HasRecords changed page (n + 1) files front new
record_added changed page n files front old new is has adds =
    let numbers = numbers_with changed n is in
    record {
      entries = has.entries ++ adds.entry ∷ [];
      numbers = map-append (λ (e : Entry). e.page) has.entries (adds.entry ∷ []) ∙ ap₂ (λ (xs : List ℕ) (k : ℕ). xs ++ k ∷ []) has.numbers adds.number ∙ sym numbers;
      small = all_with (IsSmallEntry page) has.entries adds.entry has.small (record { extent = adds.extent; sum = adds.sum });
      told = both_told files _ _ _ (λ f before now.
          let entry : adds.entry ≡ entry_at page f.db (n + 1) = ap₂ (λ (k : ℕ) (b : List ℕ). let e : Entry = record { page = k; bytes = b } in e) adds.number now in
          ap₂ (λ (es : List Entry) (e : Entry). es ++ e ∷ []) before entry
          ∙ sym (map-append (entry_at page f.db) (numbers_upto changed n) ((n + 1) ∷ []))
          ∙ ap (map (entry_at page f.db)) (sym numbers)) has.told adds.told;
      journal = adds.added ∙ ap (λ l. l ++ record_of adds.entry) has.journal ∙ append_assoc front (flat_map record_of has.entries) (record_of adds.entry)
          ∙ ap (λ l. front ++ l) (sym (flat_map-append record_of has.entries (adds.entry ∷ []) ∙ ap (λ l. flat_map record_of has.entries ++ l) (append-nil (record_of adds.entry))));
    }

none_added : (changed : ℕ → Bool) (page n : ℕ) (files : Option Files) (front old new : List ℕ) → changed (n + 1) ≡ false → HasRecords changed page n files front old
    → new ≡ old → HasRecords changed page (n + 1) files front new
none_added changed page n files front old new is has same =
    let numbers = numbers_without changed n is in
    record {
      entries = has.entries;
      numbers = has.numbers ∙ sym numbers;
      small = has.small;
      told = both_told files _ _ _ (λ f before now. before ∙ ap (map (entry_at page f.db)) (sym numbers)) has.told has.told;
      journal = same ∙ has.journal;
    }

pub may_added : (changed : ℕ → Bool) (page n : ℕ) (files : Option Files) (front old new : List ℕ) → HasRecords changed page n files front old
    → MayAdd (changed (n + 1)) page (n + 1) files old new → HasRecords changed page (n + 1) files front new
may_added changed page n files front old new has may = by (changed (n + 1)) refl may
  where
    by : (b : Bool) → changed (n + 1) ≡ b → MayAdd b page (n + 1) files old new → HasRecords changed page (n + 1) files front new
    by true is adds = record_added changed page n files front old new is has adds
    by false is same = none_added changed page n files front old new is has same

module _ {D : Type 0} (disk : Ghosts D) where
  -- what was read and added so far
  pub record Added (n : ℕ) (old now : Pages D) (front log : List ℕ) : Type 0 where
    pub pages : now ≡ with_disk old (disk_of now)
    pub reads : ReadsQuietly disk (disk_of old) (disk_of now)
    pub records : HasRecords (is_changed old) (shape_of old).page n (disk.files (disk_of old)) front log

  pub nothing_added : (old : Pages D) (front : List ℕ) → Added 0 old old front front
  nothing_added old front = record { pages = refl; reads = reads_none disk (disk_of old); records = no_records (is_changed old) (shape_of old).page (disk.files (disk_of old)) front }

  pub page_added : (n : ℕ) (old mid new : Pages D) (front before after : List ℕ) → Added n old mid front before
      → MayAdd (is_changed mid (n + 1)) (shape_of mid).page (n + 1) (disk.files (disk_of mid)) before after
      → new ≡ with_disk mid (disk_of new) → ReadsQuietly disk (disk_of mid) (disk_of new) → Added (n + 1) old new front after
  page_added n old mid new front before after so may kept reads =
      let Adds : Pages D → Option Files → Type 0 = λ p files. MayAdd (is_changed p (n + 1)) (shape_of p).page (n + 1) files before after in
      let moved : Adds (with_disk old (disk_of mid)) (disk.files (disk_of mid)) = subst (λ p. Adds p (disk.files (disk_of mid))) so.pages may in
      record {
        pages = kept ∙ ap (λ (p : Pages D). with_disk p (disk_of new)) so.pages;
        reads = reads_on disk (disk_of old) (disk_of mid) (disk_of new) so.reads reads;
        records = may_added (is_changed old) (shape_of old).page n (disk.files (disk_of old)) front before after so.records
            (subst (λ files. Adds (with_disk old (disk_of mid)) files) so.reads.only.files moved);
      }
