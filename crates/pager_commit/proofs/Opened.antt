-- The pages of an opened database stay over it: while they are read and changed, and round a commit.
use Rattle.std.proofs.Common.{◌≡◌, inl, inr, ℕ, zero, suc, ◌+◌, ◌-◌, ◌*◌, ◌/◌, ◌≤◌, ◌<◌, ◌==◌, ◌%◌, Bool, true, false, not, ◌&&◌, if◌then◌else◌, List, [], ◌∷◌, ◌++◌, length, take, drop, nat_le, nat_lt, Option, Some, None, is_some, option_map, refl, sym, ap, ap₂, ◌∙◌, subst, arith}
use Rattle.std.proofs.lemmas.Bool.{cases_Bool, cases_eq, cases_lt, le-leb, leb-true, ltb-false, or_parts, true≢false}
use Rattle.std.proofs.lemmas.List.{length_push, same_from_push, take-take}
use Rattle.std.proofs.lemmas.Option.{same_Some}
use Rattle.std.specs.Option.{option_or}
use Rattle.std.proofs.Math.Nat.{mul-le-mul_right}
use Rattle.common_laws.proofs.Options.{chosen}
use Rattle.alter_bytes.proofs.Fields.{same_number}
use Rattle.alter_disk.specs.declared.disk.Disk.{Ghosts}
use Rattle.alter_disk.specs.declared.which.Which.TheVariants.{Db, Journal}
use Rattle.alter_disk.specs.Changes.{IfTold}
use Rattle.alter_disk.specs.Files.{Files, file}
use Rattle.alter_disk.specs.Moments.{ReadsQuietly}
use Rattle.rollback_journal.specs.declared.heat.Heat.TheVariants.{Cold}
use Rattle.rollback_journal.specs.Heat.{heat_of}
use Rattle.rollback_journal.proofs.FilePages.{part_of_front}
use Rattle.pager_core.specs.declared.file_shape.FileShape.{FileShape}
use Rattle.pager_core.specs.declared.pages.Pages.{Pages}
use Rattle.pager_core.specs.declared.refusal.FileRefusal.TheVariants.{Size}
use Rattle.pager_core.specs.Header.{has_page_count, is_page_size, number_at, page_count, page_size}
use Rattle.pager_core.specs.Image.{all_upto, image_of, known_image, whole_page, with_last}
use Rattle.pager_core.specs.Pages.{ChangesPage, ForgetsChanges, SettlesChanges, StayAll, before_of, bytes_of, disk_of, is_changed, kept_original, known, original, page_bytes, shape_of, shown, told, unread_pages, with_disk}
use Rattle.pager_core.specs.Refusals.{first_refusal, has_other_length, holds}
use Rattle.pager_core.specs.Shape.{HasShape, IsShape}
use Rattle.pager_core.proofs.Fits.{changed_known, fits_change, fits_stay, unchanged_known}
use Rattle.pager_core.proofs.Sound.{none_holds, page_large}
use Rattle.pager_commit.specs.Plan.{IsPlanOf}
use Rattle.pager_commit.specs.Ready.{HasFirstPage, IsCommitted, IsOpened, IsReady}
use Rattle.pager_commit.specs.Stages.{RestBoth}
use Rattle.pager_commit.proofs.Images.{all_alike, image_is, size_alike}
use Rattle.pager_commit.proofs.Replayed.{whole_page_bytes}

-- two lists of what numbers have are the same one
upto_parts : {X : Type 0} (has : ℕ → Option X) (n : ℕ) (xs : List X) → all_upto has (suc n) ≡ Some xs
    → (ys : List X) × (x : X) × (all_upto has n ≡ Some ys) × (has (suc n) ≡ Some x) × (xs ≡ ys ++ x ∷ [])
upto_parts {X} has n xs is = by (all_upto has n) (has (suc n)) is
  where
    by : (front : Option (List X)) (last : Option X) → with_last front last ≡ Some xs → (ys : List X) × (x : X) × (front ≡ Some ys) × (last ≡ Some x) × (xs ≡ ys ++ x ∷ [])
    by (Some ys) (Some x) e = (ys, x, refl, refl, sym (same_Some (ys ++ x ∷ []) xs e))
    by (Some ys) None e = absurd (cc)
    by None last e = absurd (cc)

not_empty : {X : Type 0} (ys : List X) (x : X) → ◌≡◌ {A = List X} [] (ys ++ x ∷ []) → ⊥
not_empty ys x e = omega (arith, ap length e, length_push ys x)

pub same_upto : {X : Type 0} (a b : ℕ → Option X) (n m : ℕ) (xs : List X) → all_upto a n ≡ Some xs → all_upto b m ≡ Some xs
    → (n ≡ m) × ((k : ℕ) → 1 ≤ k → k ≤ n → (x : X) × (a k ≡ Some x) × (b k ≡ Some x))
same_upto a b zero zero xs p q = (refl, λ k from to. absurd (omega (arith, from, to)))
same_upto {X} a b zero (suc m) xs p q = let parts = upto_parts b m xs q in absurd (not_empty parts.0 parts.1 (same_Some [] xs p ∙ parts.4))
same_upto {X} a b (suc n) zero xs p q = let parts = upto_parts a n xs p in absurd (not_empty parts.0 parts.1 (same_Some [] xs q ∙ parts.4))
same_upto {X} a b (suc n) (suc m) xs p q =
    let (ys, y, front, last, whole) = upto_parts a n xs p in
    let (zs, z, front_b, last_b, whole_b) = upto_parts b m xs q in
    let (same_front, same_last) = same_from_push ys zs y z (sym whole ∙ whole_b) in
    let (count, each) = same_upto a b n m ys front (front_b ∙ ap Some (sym same_front)) in (
      ap suc count,
      λ k from to. elim (cases_eq k (suc n)) [
        | inl here ↦
            let P : ℕ → Type 0 = λ j. (x : X) × (a j ≡ Some x) × (b j ≡ Some x) in
            let again : b (suc n) ≡ Some y = ap (λ j. b (suc j)) count ∙ last_b ∙ ap Some (sym same_last) in
            subst P (sym here) (y, last, again)
        | inr other ↦ each k from (omega (arith, to, other))
      ],
    )

-- the header's numbers stand in the first 100 bytes
header_number : (n at : ℕ) (db : List ℕ) → at + n ≤ 100 → number_at n at (take 100 db) ≡ number_at n at db
header_number n at db within = same_number n at (take 100 db) db (part_of_front db at n 100 within)

header_size : (db : List ℕ) → page_size (take 100 db) ≡ page_size db
header_size db = ap (λ (k : ℕ). if k == 1 then 65536 else k) (header_number 2 16 db (omega arith))

header_count : (db : List ℕ) (len : ℕ) → page_count (take 100 db) len ≡ page_count db len
header_count db len =
    let count = header_number 4 28 db (omega arith) in
    let changes = header_number 4 24 db (omega arith) in
    let valid = header_number 4 92 db (omega arith) in
    let counted : has_page_count (take 100 db) ≡ has_page_count db =
    ap₂ (λ (x y : Bool). not x && y) (ap (λ (k : ℕ). k == 0) count) (ap₂ (λ (x y : ℕ). x == y) changes valid) in
    ap (λ (b : Bool). if b then number_at 4 28 (take 100 db) else len / page_size (take 100 db)) counted
    ∙ ap₂ (λ (x y : ℕ). if has_page_count db then x else len / y) count (header_size db)

-- where something is told and both files rest, they are told
told_both : (o : Option Files) (base log : List ℕ) → is_some o ≡ true → IfTold o (λ f. file Db f ≡ base) → IfTold o (λ f. file Journal f ≡ log) → o ≡ Some (record { db = base; journal = log })
told_both None base log some db journal = absurd (cc)
told_both (Some f) base log some db journal = ap₂ (λ (b l : List ℕ). let g : Files = record { db = b; journal = l } in Some g) db journal

-- a page that is kept as it stands in the database, or is told as it stands there
known_on : (o t now : Option (List ℕ)) (page : List ℕ) → option_or o t ≡ Some page → now ≡ Some page → option_or o now ≡ Some page
known_on None t now page was is = is
known_on (Some bytes) t now page was is = was

whole_known : (page n : ℕ) (db bytes : List ℕ) → whole_page page db n ≡ Some bytes → (n * page ≤ length db) × (bytes ≡ page_bytes page n db)
whole_known page n db bytes is =
    let (test, same) = chosen (nat_le (n * page) (length db)) (Some (page_bytes page n db)) bytes is in
    (leb-true (n * page) (length db) test, sym (same_Some (page_bytes page n db) bytes same))

-- the page size in a whole page 1 is that of the database
first_size : (page : ℕ) (db : List ℕ) → 512 ≤ page → 1 * page ≤ length db → page_size (page_bytes page 1 db) ≡ page_size db
first_size page db large within =
    let start : (1 - 1) * page ≡ 0 = omega arith in
    let opens : page_bytes page 1 db ≡ take page db = whole_page_bytes page 1 db (omega arith) within ∙ ap (λ k. take page (drop k db)) start in
    size_alike (page_bytes page 1 db) db (ap (take 512) opens ∙ take-take 512 page db large)

-- an image has pages of an allowed size
image_parts : (db : List ℕ) (image : List (List ℕ)) → image_of db ≡ Some image
    → (is_page_size (page_size db) ≡ true) × (all_upto (whole_page (page_size db) db) (page_count db (length db)) ≡ Some image)
unfolding image_of
image_parts db image is = chosen (is_page_size (page_size db)) (all_upto (whole_page (page_size db) db) (page_count db (length db))) image is

-- a file that is not refused has its pages whole
accepted_room : (header : List ℕ) (len : ℕ) → first_refusal header len ≡ None → page_count header len * page_size header ≤ len
accepted_room header len accepted =
    let fine : holds header len Size ≡ false = (none_holds header len accepted).1.1.1.1.1.1.1.0 in
    let size : has_other_length header len ≡ false = (or_parts (page_count header len == 0) (has_other_length header len) fine).1 in
    let room = (or_parts (nat_lt len (page_count header len * page_size header)) (not (has_page_count header) && not (len % page_size header == 0)) size).0 in
    ltb-false len (page_count header len * page_size header) room

-- what each of the numbers has makes a list
all_there : {X : Type 0} (has : ℕ → Option X) (n : ℕ) → ((k : ℕ) → 1 ≤ k → k ≤ n → (x : X) × (has k ≡ Some x)) → (xs : List X) × (all_upto has n ≡ Some xs)
all_there has zero each = ([], refl)
all_there has (suc n) each =
    let (xs, front) = all_there has n (λ k from to. each k from (omega (arith, to))) in
    let (x, last) = each (suc n) (omega arith) (omega arith) in
    (xs ++ x ∷ [], ap₂ with_last front last)

module _ {D : Type 0} (disk : Ghosts D) where
  -- pages that were just made over the database of a disk
  pub opened_new : (d : D) (shape : FileShape) (base log : List ℕ) → disk.files d ≡ Some (record { db = base; journal = log }) → RestBoth disk base log d → heat_of log ≡ Cold
      → first_refusal (take 100 base) (length base) ≡ None → HasShape (take 100 base) (length base) shape → IsOpened disk (unread_pages d shape) base log
  opened_new d shape base log is rests cold accepted has =
      let count : page_count base (length base) ≡ shape.count = sym (has.count ∙ header_count base (length base)) in
      let size : page_size base ≡ shape.page = sym (has.page ∙ header_size base) in
      let room = accepted_room (take 100 base) (length base) accepted in
      let both : shape.count * shape.page ≡ page_count (take 100 base) (length base) * page_size (take 100 base) = ap₂ (λ (n m : ℕ). n * m) has.count has.page in
      record {
        told = is;
        rests = rests;
        cold = cold;
        over = record {
          fits = record {
            size = size;
            count = count;
            whole = omega (arith, both, room);
            originals = λ n from to. ap (λ (o : Option Files). option_map (λ (f : Files). page_bytes shape.page n f.db) o) is;
          };
          grown = λ n past to. absurd (omega (arith, past, to));
        };
      }

  -- two files that rest, after calls that only read
  rests_read : (old new : D) (base log : List ℕ) → ReadsQuietly disk old new → RestBoth disk base log old → RestBoth disk base log new
  rests_read old new base log reads rests = record {
    db = record {
      reads = let P : Option Files → Type 0 = λ o. IfTold o (λ f. file Db f ≡ base) in subst P (sym reads.only.files) rests.db.reads;
      crash = λ c left. rests.db.crash c (reads.crash c left);
    };
    journal = record {
      reads = let P : Option Files → Type 0 = λ o. IfTold o (λ f. file Journal f ≡ log) in subst P (sym reads.only.files) rests.journal.reads;
      crash = λ c left. rests.journal.crash c (reads.crash c left);
    };
  }

  -- pages of which one was read
  pub opened_stay : (old new : Pages D) (base log : List ℕ) → StayAll disk old new → IsOpened disk old base log → IsOpened disk new base log
  opened_stay old new base log stay is = record {
    told = stay.reads.only.files ∙ is.told;
    rests = rests_read (disk_of old) (disk_of new) base log stay.reads is.rests;
    cold = is.cold;
    over = record {
      fits = fits_stay disk old new base stay is.over.fits;
      grown = λ n past to. (stay.pages n).changed ∙ is.over.grown n (let P : ℕ → Type 0 = λ k. k < n in subst P stay.before past) (let P : FileShape → Type 0 = λ s. n ≤ s.count in subst P stay.shape to);
    };
  }

  -- pages of which one was changed
  pub opened_change : (old new : Pages D) (n at : ℕ) (piece base log : List ℕ) → ChangesPage disk n at piece old new → IsOpened disk old base log → IsOpened disk new base log
  opened_change old new n at piece base log change is = record {
    told = change.reads.only.files ∙ is.told;
    rests = rests_read (disk_of old) (disk_of new) base log change.reads is.rests;
    cold = is.cold;
    over = record {
      fits = fits_change disk old new n at piece base change is.over.fits;
      grown = λ m past to. elim (cases_eq m n) [
        | inl here ↦ ap (is_changed new) here ∙ change.changed
        | inr other ↦ (change.others m other).changed ∙ is.over.grown m (let P : ℕ → Type 0 = λ k. k < m in subst P change.before past) (let P : FileShape → Type 0 = λ s. m ≤ s.count in subst P change.shape to)
      ];
    };
  }

  -- the same pages over the disk, from which more was read
  pub opened_read : (old new : Pages D) (base log : List ℕ) → new ≡ with_disk old (disk_of new) → ReadsQuietly disk (disk_of old) (disk_of new) → IsOpened disk old base log → IsOpened disk new base log
  opened_read old new base log kept reads is = let P : Pages D → Type 0 = λ p. IsOpened disk p base log in subst P (sym kept) again
    where
      again : IsOpened disk (with_disk old (disk_of new)) base log
      again = record {
        told = reads.only.files ∙ is.told;
        rests = rests_read (disk_of old) (disk_of new) base log reads is.rests;
        cold = is.cold;
        over = record {
          fits = record {
            size = is.over.fits.size;
            count = is.over.fits.count;
            whole = is.over.fits.whole;
            originals = λ n from to. original_read n ∙ is.over.fits.originals n from to;
          };
          grown = is.over.grown;
        };
      }
        where
          original_read : (n : ℕ) → original disk (with_disk old (disk_of new)) n ≡ original disk old n
          original_read n = ap (λ (o : Option Files). option_or (kept_original old n) (option_map (λ (f : Files). page_bytes (shape_of old).page n f.db) o)) reads.only.files

  -- pages whose changes were dropped
  pub opened_forget : (old new : Pages D) (base log : List ℕ) → ForgetsChanges disk old new → IsOpened disk old base log → IsOpened disk new base log
  opened_forget old new base log forgets is =
      let page : (shape_of new).page ≡ (shape_of old).page = ap (λ (s : FileShape). s.page) forgets.shape in
      let count : (shape_of new).count ≡ before_of old = ap (λ (s : FileShape). s.count) forgets.shape in
      let clean : (n : ℕ) → original disk new n ≡ known disk new n = λ n. sym (unchanged_known disk new n (forgets.changed n)) in
      record {
        told = ap disk.files forgets.stays ∙ is.told;
        rests = subst (RestBoth disk base log) (sym forgets.stays) is.rests;
        cold = is.cold;
        over = record {
          fits = record {
            size = is.over.fits.size ∙ sym page;
            count = is.over.fits.count ∙ sym forgets.before;
            whole = let P : ℕ → Type 0 = λ k. k ≤ length base in subst P (sym (ap₂ (λ (n m : ℕ). n * m) forgets.before page)) is.over.fits.whole;
            originals = λ n from to.
                let within : n ≤ before_of old = omega (arith, to, forgets.before) in
                clean n ∙ forgets.pages n within ∙ is.over.fits.originals n from within ∙ ap (λ k. Some (page_bytes k n base)) (sym page);
          };
          grown = λ n past to. absurd (omega (arith, past, to, count, forgets.before));
        };
      }

  module _ (pages : Pages D) (base log : List ℕ) (is : IsOpened disk pages base log) where
    -- a page that is not changed is known as the database has it
    known_opened : (n : ℕ) → 1 ≤ n → n ≤ (shape_of pages).count → is_changed pages n ≡ false → (n ≤ before_of pages) × (known disk pages n ≡ Some (page_bytes (shape_of pages).page n base))
    known_opened n from to same = elim (cases_lt (before_of pages) n) [
      | inl past ↦ absurd (true≢false (sym (is.over.grown n past to) ∙ same))
      | inr within ↦ (within, unchanged_known disk pages n same ∙ is.over.fits.originals n from within)
    ]

    whole_opened : (n : ℕ) → 1 ≤ n → n ≤ before_of pages → whole_page (shape_of pages).page base n ≡ Some (page_bytes (shape_of pages).page n base)
    whole_opened n from to =
        let page = (shape_of pages).page in
        let below : n * page ≤ before_of pages * page = mul-le-mul_right page to in
        ap (λ (b : Bool). if b then Some (page_bytes page n base) else None) (le-leb (n * page) (length base) (omega (arith, below, is.over.fits.whole)))

    -- the database has an image, and so have the pages
    pub opened_before : IsShape (shape_of pages) → (before : List (List ℕ)) × (image_of base ≡ Some before)
    opened_before sound =
        let page = (shape_of pages).page in
        let (before, all) = all_there (whole_page page base) (before_of pages) (λ n from to. (page_bytes page n base, whole_opened n from to)) in
        (before, image_is base page (before_of pages) (whole_page page base) sound.size is.over.fits.size is.over.fits.count (λ n from to. refl) ∙ all)

    pub opened_after : (after : List (List ℕ)) × (known_image disk pages ≡ Some after)
    unfolding known_image
    opened_after = all_there (known disk pages) (shape_of pages).count (λ n from to. elim (cases_Bool (is_changed pages n)) [
      | inl changed ↦ (bytes_of pages n, changed_known disk pages n changed)
      | inr same ↦ (page_bytes (shape_of pages).page n base, (known_opened n from to same).1)
    ])

    -- where nothing is changed they are one
    pub opened_same : IsShape (shape_of pages) → before_of pages ≡ (shape_of pages).count → ((n : ℕ) → 1 ≤ n → n ≤ (shape_of pages).count → is_changed pages n ≡ false)
        → known_image disk pages ≡ image_of base
    unfolding known_image
    opened_same sound count same =
        let page = (shape_of pages).page in
        sym (image_is base page (shape_of pages).count (known disk pages) sound.size is.over.fits.size (is.over.fits.count ∙ count) (λ n from to.
        let known_so = known_opened n from to (same n from to) in whole_opened n from known_so.0 ∙ sym known_so.1))

  -- what a commit asks of them
  pub opened_ready : (pages : Pages D) (base log plan : List ℕ) → IsOpened disk pages base log → IsPlanOf pages base plan → HasFirstPage pages → IsReady disk pages base log plan
  opened_ready pages base log plan is planned first = record { rests = is.rests; cold = is.cold; planned = planned; first = first }

  -- what a commit leaves, that answered Ok and settled the changes
  pub record Commits (old new : Pages D) (after : List (List ℕ)) : Type 0 where
    pub sound : IsShape (shape_of old)
    pub first : HasFirstPage old
    pub known : known_image disk old ≡ Some after
    pub done : IsCommitted disk after (disk_of new)
    pub settled : SettlesChanges disk (with_disk old (disk_of new)) new
    pub told : is_some (disk.files (disk_of old)) ≡ true
    pub telling : is_some (disk.files (disk_of new)) ≡ is_some (disk.files (disk_of old))

  module _ (old new : Pages D) (after : List (List ℕ)) (commits : Commits old new after) where
    -- each page is known as the database has it
    pub all_committed : ((shape_of old).page ≡ page_size commits.done.base) × ((shape_of old).count ≡ page_count commits.done.base (length commits.done.base))
        × ((n : ℕ) → 1 ≤ n → n ≤ (shape_of old).count → (n * (shape_of old).page ≤ length commits.done.base) × (known disk old n ≡ Some (page_bytes (shape_of old).page n commits.done.base)))
    unfolding known_image
    all_committed =
        let base = commits.done.base in
        let page = page_size base in
        let image = image_parts base after commits.done.pages in
        let same = same_upto (known disk old) (whole_page page base) (shape_of old).count (page_count base (length base)) after commits.known image.1 in
        let each : (n : ℕ) → 1 ≤ n → n ≤ (shape_of old).count → (n * page ≤ length base) × (known disk old n ≡ Some (page_bytes page n base)) = λ n from to.
        let (bytes, is, whole) = same.1 n from to in
        let (within, bytes_are) = whole_known page n base bytes whole in
        (within, is ∙ ap Some bytes_are) in
        let one = each 1 (omega arith) commits.sound.some in
        let bytes : bytes_of old 1 ≡ page_bytes page 1 base = same_Some (bytes_of old 1) (page_bytes page 1 base) (sym (changed_known disk old 1 commits.first.changed) ∙ one.1) in
        let size : (shape_of old).page ≡ page = sym commits.first.size ∙ ap page_size bytes ∙ first_size page base (page_large page image.0) one.0 in
        let P : ℕ → Type 0 = λ k. (n : ℕ) → 1 ≤ n → n ≤ (shape_of old).count → (n * k ≤ length base) × (known disk old n ≡ Some (page_bytes k n base)) in
        (size, same.0, subst P (sym size) each)

    told_committed : disk.files (disk_of new) ≡ Some (record { db = commits.done.base; journal = commits.done.log })
    told_committed = told_both (disk.files (disk_of new)) commits.done.base commits.done.log (commits.telling ∙ commits.told) commits.done.rests.db.reads commits.done.rests.journal.reads

    -- also over the disk as it is then
    known_again : (n : ℕ) → 1 ≤ n → n ≤ (shape_of old).count → known disk (with_disk old (disk_of new)) n ≡ Some (page_bytes (shape_of old).page n commits.done.base)
    known_again n from to =
        let page = (shape_of old).page in
        known_on (shown old n) (told disk old n) (told disk (with_disk old (disk_of new)) n) (page_bytes page n commits.done.base) (all_committed.2 n from to).1
        (ap (λ (o : Option Files). option_map (λ (f : Files). page_bytes page n f.db) o) told_committed)

    -- the pages are over the database with the changes
    pub opened_again : IsOpened disk new commits.done.base commits.done.log
    opened_again =
        let base = commits.done.base in
        let shape : shape_of new ≡ shape_of old = commits.settled.shape in
        let page : (shape_of new).page ≡ (shape_of old).page = ap (λ (s : FileShape). s.page) shape in
        let count : (shape_of new).count ≡ (shape_of old).count = ap (λ (s : FileShape). s.count) shape in
        let before : before_of new ≡ (shape_of old).count = commits.settled.before in
        record {
          told = told_committed;
          rests = commits.done.rests;
          cold = commits.done.cold;
          over = record {
            fits = record {
              size = sym all_committed.0 ∙ sym page;
              count = sym all_committed.1 ∙ sym before;
              whole = let P : ℕ → Type 0 = λ k. k ≤ length base in
                  subst P (sym (ap₂ (λ (n m : ℕ). n * m) before page)) (all_committed.2 (shape_of old).count commits.sound.some (omega arith)).0;
              originals = λ n from to. commits.settled.original n ∙ known_again n from (omega (arith, to, before)) ∙ ap (λ k. Some (page_bytes k n base)) (sym page);
            };
            grown = λ n past to. absurd (omega (arith, past, to, before, count));
          };
        }

    -- and they are the pages with the changes
    pub known_committed : known_image disk new ≡ Some after
    unfolding known_image
    known_committed =
        let count : (shape_of new).count ≡ (shape_of old).count = ap (λ (s : FileShape). s.count) commits.settled.shape in
        ap (all_upto (known disk new)) count
        ∙ all_alike (known disk new) (known disk old) (shape_of old).count (λ n from to. commits.settled.pages n ∙ known_again n from to ∙ sym (all_committed.2 n from to).1)
        ∙ commits.known
