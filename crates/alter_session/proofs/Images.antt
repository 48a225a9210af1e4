-- The image of the pages of a database that was just opened, and its pages.
use Rattle.std.proofs.Common.{◌≡◌, inl, inr, ℕ, zero, suc, ◌+◌, ◌-◌, ◌*◌, ◌≤◌, ◌<◌, List, [], ◌∷◌, length, take, drop, Option, Some, None, refl, sym, ap, ap₂, ◌∙◌, subst, arith}
use Rattle.std.proofs.Math.Nat.{mul-le-mul_right}
use Rattle.std.proofs.lemmas.Bool.{cases_eq}
use Rattle.std.proofs.lemmas.List.{take-take}
use Rattle.std.proofs.lemmas.Option.{same_Some}
use Rattle.std.specs.List.{slice_get}
use Rattle.std.specs.Option.{option_or}
use Rattle.common_laws.proofs.Places.{slice_get-append_left, slice_get-push_last}
use Rattle.alter_disk.specs.declared.disk.Disk.{Ghosts}
use Rattle.alter_disk.specs.Files.{Files}
use Rattle.alter_disk.specs.Moments.{AtRest}
use Rattle.rollback_journal.specs.declared.heat.Heat.TheVariants.{Cold}
use Rattle.rollback_journal.specs.Heat.{heat_of}
use Rattle.pager_core.specs.declared.file_shape.FileShape.{FileShape}
use Rattle.pager_core.specs.declared.pages.Pages.{Pages}
use Rattle.pager_core.specs.Header.{page_count, page_size, usable_size}
use Rattle.pager_core.specs.Image.{all_upto, image_of, known_image}
use Rattle.pager_core.specs.Pages.{StayAll, known, page_bytes, shape_of, shown, told, unread_pages}
use Rattle.pager_core.specs.Refusals.{first_refusal}
use Rattle.pager_core.specs.Shape.{IsShape}
use Rattle.pager_core.proofs.Sound.{page_large}
use Rattle.pager_commit.specs.Ready.{IsOpened}
use Rattle.pager_commit.proofs.Images.{all_alike}
use Rattle.pager_commit.proofs.Opened.{opened_before, opened_new, opened_same, same_upto}
use Rattle.pager_commit.proofs.Replayed.{whole_page_bytes}
use Rattle.plain_schema.specs.FirstForm.{first_page, header_of}
use Rattle.plain_schema.specs.Image.{Image}
use Rattle.alter_session.specs.Committing.{IsClean}
use Rattle.alter_session.specs.Opening.{ShapesBytes}
use Rattle.alter_session.specs.Reading.{IsImageOf}
use Rattle.alter_session.proofs.Headers.{whole_accepted, whole_count}
use Rattle.alter_session.proofs.Staging.{length_upto, upto_parts}

-- each is in its place
pub upto_get : {X : Type 0} (has : ℕ → Option X) (n k : ℕ) (xs : List X) → all_upto has n ≡ Some xs → k < n → (x : X) × (has (k + 1) ≡ Some x) × (slice_get xs k ≡ Some x)
upto_get has zero k xs is within = absurd (omega (arith, within))
upto_get {X} has (suc n) k xs is within =
    let (ys, y, front, last, whole) = upto_parts has n xs is in
    let long = length_upto has n ys front in
    elim (cases_eq k n) [
      | inl here ↦
          let next : k + 1 ≡ suc n = omega (arith, here) in
          let place : slice_get xs k ≡ Some y = ap₂ (λ (l : List X) (i : ℕ). slice_get l i) whole (here ∙ sym long) ∙ slice_get-push_last ys y in
          (y, ap has next ∙ last, place)
      | inr other ↦
          let (x, there, at) = upto_get has n k ys front (omega (arith, within, other)) in
          (x, there, ap (λ (l : List X). slice_get l k) whole ∙ slice_get-append_left ys (y ∷ []) x k at)
    ]

-- page 1 of a list
first_got : (image : Image) (page : List ℕ) → slice_get image 0 ≡ Some page → first_page image ≡ page
first_got [] page is = absurd (cc)
first_got (first ∷ others) page is = same_Some first page is

module _ {D : Type 0} (disk : Ghosts D) where
  -- the image of the pages is the same after reads
  pub image_stays : (image : Image) (old new : Pages D) → StayAll disk old new → IsImageOf disk image old → IsImageOf disk image new
  unfolding known_image
  image_stays image old new stay is =
      let n = (shape_of old).count in
      let each = (same_upto (known disk old) (known disk old) n n image is.all is.all).1 in
      record {
        all = ap (λ (s : FileShape). all_upto (known disk new) s.count) stay.shape
            ∙ all_alike (known disk new) (known disk old) n (λ m from to. let (bytes, there, again) = each m from to in (stay.pages m).known bytes there ∙ sym there) ∙ is.all;
        page = ap (λ (s : FileShape). s.page) stay.shape ∙ is.page;
        usable = ap (λ (s : FileShape). s.usable) stay.shape ∙ is.usable;
        accepted = is.accepted;
        exact = is.exact;
      }

  pub image_count : (image : Image) (pages : Pages D) → IsImageOf disk image pages → length image ≡ (shape_of pages).count
  unfolding known_image
  image_count image pages is = length_upto (known disk pages) (shape_of pages).count image is.all

  -- a page that is shown is that of the image
  pub image_shown : (image : Image) (pages : Pages D) (n : ℕ) (bytes : List ℕ) → IsImageOf disk image pages → 1 ≤ n → n ≤ (shape_of pages).count → shown pages n ≡ Some bytes
      → slice_get image (n - 1) ≡ Some bytes
  unfolding known_image
  image_shown image pages n bytes is from to there =
      let (x, known_so, at) = upto_get (known disk pages) (shape_of pages).count (n - 1) image is.all (omega (arith, from, to)) in
      let next : n - 1 + 1 ≡ n = omega (arith, from) in
      let same : x ≡ bytes = same_Some x bytes (sym known_so ∙ ap (known disk pages) next ∙ ap (λ (o : Option (List ℕ)). option_or o (told disk pages n)) there) in
      at ∙ ap Some same

  pub image_first : (image : Image) (pages : Pages D) (bytes : List ℕ) → IsImageOf disk image pages → 1 ≤ (shape_of pages).count → shown pages 1 ≡ Some bytes → first_page image ≡ bytes
  image_first image pages bytes is some there = first_got image bytes (image_shown image pages 1 bytes is (omega arith) some there)

  -- pages that were just made over a database at rest
  pub record IsNew (f : Files) (d : D) (shape : FileShape) : Type 0 where
    pub image : Image
    pub clean : IsClean disk image (unread_pages d shape)
    pub known_so : IsImageOf disk image (unread_pages d shape)
    pub image_is : image_of f.db ≡ Some image

  pub new_pages : (f : Files) (d : D) (shape : FileShape) → disk.files d ≡ Some f → AtRest disk f d → heat_of f.journal ≡ Cold → IsShape shape → ShapesBytes f.db shape → IsNew f d shape
  unfolding known_image
  new_pages f d shape told rests cold sound shapes =
      let base = f.db in
      let head = take 100 base in
      let pages = unread_pages d shape in
      let opened : IsOpened disk pages base f.journal = opened_new disk d shape base f.journal told (record { db = rests.db; journal = rests.journal }) cold shapes.accepted shapes.sizes in
      let (image, is) = opened_before disk pages base f.journal opened sound in
      let all : all_upto (known disk pages) shape.count ≡ Some image = opened_same disk pages base f.journal opened sound refl (λ n from to. refl) ∙ is in
      let count : length image ≡ shape.count = length_upto (known disk pages) shape.count image all in
      let (x, known_so, at) = upto_get (known disk pages) shape.count 0 image all (omega (arith, sound.some)) in
      let bytes : x ≡ page_bytes shape.page 1 base = same_Some x (page_bytes shape.page 1 base) (sym known_so ∙ opened.over.fits.originals 1 (omega arith) sound.some) in
      let start : (1 - 1) * shape.page ≡ 0 = omega arith in
      let one : 1 * shape.page ≤ shape.count * shape.page = mul-le-mul_right shape.page sound.some in
      let first : first_page image ≡ take shape.page base =
      first_got image x at ∙ bytes ∙ whole_page_bytes shape.page 1 base (omega arith) (omega (arith, one, opened.over.fits.whole)) ∙ ap (λ (k : ℕ). take shape.page (drop k base)) start in
      let large = page_large shape.page sound.size in
      let header : header_of image ≡ head = ap (take 100) first ∙ take-take 100 shape.page base (omega (arith, large)) in
      let many : length image ≡ page_count head (length base) = count ∙ shapes.sizes.count in
      let whole : length image * page_size head ≡ page_count head (length base) * page_size head = ap (λ (n : ℕ). n * page_size head) many in
      record {
        image = image;
        clean = record { base = base; log = f.journal; opened = opened; image_is = is; count = refl; unchanged = λ n. refl };
        known_so = record {
          all = all;
          page = shapes.sizes.page ∙ ap page_size (sym header);
          usable = shapes.sizes.usable ∙ ap usable_size (sym header);
          accepted = subst (λ (h : List ℕ). first_refusal h (length image * page_size h) ≡ None) (sym header)
              (ap (first_refusal head) whole ∙ whole_accepted head (length base) shapes.accepted);
          exact = subst (λ (h : List ℕ). length image * page_size h ≡ page_count h (length image * page_size h) * page_size h) (sym header)
              (whole ∙ ap (λ (n : ℕ). n * page_size head) (sym (ap (page_count head) whole ∙ whole_count head (length base) shapes.accepted)));
        };
        image_is = is;
      }
