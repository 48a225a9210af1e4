-- The first bytes of a database.
use Rattle.std.proofs.Common.{◌≡◌, ◌≤◌, ℕ, min, List, length, take, Some, None, ap, ◌∙◌, subst, arith}
use Rattle.std.proofs.lemmas.List.{take_min}
use Rattle.pager_core.specs.declared.file_shape.FileShape.{FileShape}
use Rattle.pager_core.specs.declared.refusal.FileRefusal.{FileRefusal}
use Rattle.pager_core.specs.Refusals.{first_refusal}
use Rattle.pager_core.specs.Shape.{HasShape, IsShape}
use Rattle.pager_core.proofs.Sound.{accepted_count, page_large, page_small}
use Rattle.alter_session.specs.Opening.{IsOpenable, ShapesBytes}

-- the buffer has room for the first 100 bytes, or for all, and was filled
pub front_whole : (db buf now : List ℕ) (n : ℕ) → n ≡ length db → length buf ≡ min 100 n → (length buf ≤ length db → now ≡ take (length buf) db) → now ≡ take 100 db
front_whole db buf now n long room read =
    let same : length buf ≡ min 100 (length db) = omega (arith, long, room) in
    read (omega (arith, same)) ∙ ap (λ k. take k db) same ∙ take_min 100 db

-- what was found of them is so of the database
pub front_shape : (db now : List ℕ) (n : ℕ) (shape : FileShape) → n ≡ length db → now ≡ take 100 db → first_refusal now n ≡ None → HasShape now n shape → ShapesBytes db shape
front_shape db now n shape long read accepted sizes = record {
  accepted = subst (λ k. first_refusal (take 100 db) k ≡ None) long (subst (λ l. first_refusal l n ≡ None) read accepted);
  sizes = subst (λ k. HasShape (take 100 db) k shape) long (subst (λ l. HasShape l n shape) read sizes);
}

pub front_refused : (db now : List ℕ) (n : ℕ) (refusal : FileRefusal) → n ≡ length db → now ≡ take 100 db → first_refusal now n ≡ Some refusal → first_refusal (take 100 db) (length db) ≡ Some refusal
front_refused db now n refusal long read refused =
    subst (λ k. first_refusal (take 100 db) k ≡ Some refusal) long (subst (λ l. first_refusal l n ≡ Some refusal) read refused)

-- the sizes of a database that is not refused are those of one that is opened
pub openable : (header : List ℕ) (len : ℕ) (shape : FileShape) → first_refusal header len ≡ None → HasShape header len shape → IsShape shape → IsOpenable shape
openable header len shape accepted has sound =
    let count = accepted_count header len accepted in
    record {
      held = sound;
      served = record {
        least = sound.least;
        usable = sound.usable;
        header = page_large shape.page sound.size;
        page = page_small shape.page sound.size;
        some = omega (arith, sound.some);
        few = omega (arith, has.count, count.1);
      };
    }
