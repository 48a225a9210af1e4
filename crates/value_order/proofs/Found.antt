-- Words in a text.
use Rattle.std.proofs.Common.{◌≡◌, ◌↔◌, ℕ, ◌+◌, ◌-◌, ◌≤◌, ⊎_elim, Bool, false, IsTrue, cond, eqb, subst, List, [], ◌∷◌, ◌++◌, length, take, drop, refl, sym, ap, ◌∙◌, arith, length-append}
use Rattle.std.proofs.lemmas.List.{take_all, take_at, take-append-drop, take-map, map-append, length-map}
use Rattle.sql_token.specs.Names.{fold, folded}
use Rattle.std.proofs.lemmas.Bool.{cases_lt, true≢false}
use Rattle.value_order.specs.declared.affinity.Affinity.{Affinity}
use Rattle.value_order.specs.declared.affinity.Affinity.TheVariants.{Blob, Text, Numeric, Integer, Real}
use Rattle.value_order.specs.Affinity.{BeginsWith, Contains, HasAffinity, rank}

-- a word that stands in front stands in the text
pub in_front : (word text : List ℕ) → BeginsWith word text → Contains word text
in_front word text begins = ([], begins.0, begins.1)

-- a word that stands behind the first byte stands in the text
pub behind : (word text : List ℕ) (b : ℕ) → Contains word text → Contains word (b ∷ text)
behind word text b found = (fold b ∷ found.0, found.1, ap (λ l. fold b ∷ l) found.2)

-- a word that stands in the text, and not in front, stands behind the first byte
pub not_in_front : (word text : List ℕ) (b : ℕ) → Contains word (b ∷ text) → (BeginsWith word (b ∷ text) → ⊥) → Contains word text
not_in_front word text b ([], back, whole) not = absurd (not (back, whole))
not_in_front word text b (x ∷ front, back, whole) not =
    let tails : folded text ≡ front ++ word ++ back = cc in
    (front, back, tails)

-- a word that is not in front of no bytes stands nowhere in them
pub nowhere : (word : List ℕ) → Contains word [] → (BeginsWith word [] → ⊥) → ⊥
nowhere word ([], back, whole) not = not (back, whole)
nowhere word (x ∷ front, back, whole) not = absurd cc

-- the word stands in front exactly where the text's front is equal to it, letters of either case
pub begins_from : (word text : List ℕ) → folded word ≡ word → folded (take (length word) text) ≡ folded word → BeginsWith word text
begins_from word text lower same = (
  folded (drop (length word) text),
  ap folded (sym (take-append-drop (length word) text))
      ∙ map-append fold (take (length word) text) (drop (length word) text)
      ∙ ap (λ l. l ++ folded (drop (length word) text)) (same ∙ lower),
)

pub begins_to : (word text : List ℕ) → folded word ≡ word → BeginsWith word text → folded (take (length word) text) ≡ folded word
begins_to word text lower begins =
    sym (take-map fold (length word) text) ∙ ap (take (length word)) begins.1 ∙ take_at word begins.0 (length word) refl ∙ sym lower

pub begins_fits : (word text : List ℕ) → BeginsWith word text → length word ≤ length text
begins_fits word text begins =
    let n : length text ≡ length word + length begins.0 = sym (length-map text fold) ∙ ap length begins.1 ∙ length-append word begins.0 in
    omega arith

-- the affinity with a place
abbrev at_rank : ℕ → Affinity
at_rank n = cond (eqb n 1) Integer (cond (eqb n 2) Text (cond (eqb n 3) Blob (cond (eqb n 4) Real Numeric)))

its_rank : (a : Affinity) → at_rank (rank a) ≡ a
its_rank Integer = refl
its_rank Text = refl
its_rank Blob = refl
its_rank Real = refl
its_rank Numeric = refl

-- a type text has one affinity
pub one_affinity : (text : List ℕ) (a b : Affinity) → HasAffinity a text → HasAffinity b text → a ≡ b
one_affinity text a b x y =
    ⊎_elim
    (λ less. absurd (y.first a less x.holds))
    (λ more. ⊎_elim
    (λ less. absurd (x.first b less y.holds))
    (λ same. let e : rank a ≡ rank b = omega arith in sym (its_rank a) ∙ ap at_rank e ∙ its_rank b)
    (cases_lt (rank b) (rank a)))
    (cases_lt (rank a) (rank b))

-- one step of the search for a word: behind the first byte, where the word is not in front
pub step : (word text rest : List ℕ) (r : Bool) → 1 ≤ length rest → (BeginsWith word rest → IsTrue r) → r ≡ false
    → Contains word text ↔ Contains word rest → Contains word text ↔ Contains word (take (length rest - 1) (drop 1 rest))
step word text [] r some is not so = absurd (omega arith)
step word text (b ∷ rest) r some is not so =
    let whole : take (length (b ∷ rest) - 1) rest ≡ rest = take_all (length (b ∷ rest) - 1) rest (omega arith) in (
      λ found. subst (λ l. Contains word l) (sym whole) (not_in_front word rest b (so.0 found) (λ begins. true≢false (sym (is begins) ∙ not))),
      λ found. so.1 (behind word rest b (subst (λ l. Contains word l) whole found)),
    )
