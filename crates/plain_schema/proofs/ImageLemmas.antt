-- Images with a header that is served.
use Rattle.std.proofs.Common.{◌≡◌, ◌<◌, ◌≤◌, ℕ, zero, suc, ◌*◌, [], ◌∷◌, length, drop, refl, arith}
use Rattle.pager_core.specs.Header.{page_size}
use Rattle.pager_core.proofs.Sound.{accepted_length}
use Rattle.plain_schema.specs.FirstForm.{header_of}
use Rattle.plain_schema.specs.Header.{IsHeader}
use Rattle.plain_schema.specs.Image.{Image, Page}

-- an image with a header that is allowed has a page
pub some_page : (image : Image) → IsHeader (header_of image) (length image * page_size (header_of image)) → 0 < length image
some_page image is = some (length image) (page_size (header_of image)) (accepted_length (header_of image) (length image * page_size (header_of image)) is.accepted)
  where
    some : (n size : ℕ) → 100 ≤ n * size → 0 < n
    some zero size h = absurd (omega arith)
    some (suc n) size h = omega arith

-- as many pages with another first one
pub length-first : (page : Page) (image : Image) → 0 < length image → length (page ∷ drop 1 image) ≡ length image
length-first page [] some = absurd (omega arith)
length-first page (first ∷ others) some = refl
