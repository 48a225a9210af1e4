-- What tokens look like in two ways that are apart, one within the other, or joined.
use Rattle.std.proofs.Common.{◌≡◌, ◌⊎◌, ⊎_elim, inl, inr, Bool, true, false, ◌&&◌, List, [], ◌∷◌, ◌++◌, refl}
use Rattle.std.proofs.lemmas.Bool.{and_parts, and_from, or_cases, or_left, or_right, both_ways, false_from_ne_true}
use Rattle.std.specs.List.{list_all, list_any}
use Rattle.sql_token.specs.declared.token.Token.{Token}
use Rattle.sql_reader.specs.declared.sort.Sort.{Sort}
use Rattle.sql_reader.specs.Looks.{Set, Look, fits, looks, next_sort, behind_next, ways_apart, apart, way_within, within, disjoint, subset}
use Rattle.sql_reader.specs.Reading.{only_if, led_by}
use Rattle.sql_reader.proofs.Sorts.{disjoint-so, subset-so}

-- tokens look so in one of two lists of ways
pub looks-append : (sort : Token → Sort) (a b : Look) (ts : List Token) → looks sort (a ++ b) ts ≡ true → (looks sort a ts ≡ true) ⊎ (looks sort b ts ≡ true)
looks-append sort [] b ts so = inr so
looks-append sort (way ∷ a) b ts so =
    ⊎_elim (λ here. inl (or_left (fits sort way ts) (looks sort a ts) here))
    (λ further. ⊎_elim (λ in_a. inl (or_right (fits sort way ts) (looks sort a ts) in_a)) (λ in_b. inr in_b) (looks-append sort a b ts further))
    (or_cases (fits sort way ts) (looks sort (a ++ b) ts) so)

pub looks-left : (sort : Token → Sort) (a b : Look) (ts : List Token) → looks sort a ts ≡ true → looks sort (a ++ b) ts ≡ true
looks-left sort [] b ts so = absurd (cc)
looks-left sort (way ∷ a) b ts so =
    ⊎_elim (λ here. or_left (fits sort way ts) (looks sort (a ++ b) ts) here)
    (λ further. or_right (fits sort way ts) (looks sort (a ++ b) ts) (looks-left sort a b ts further))
    (or_cases (fits sort way ts) (looks sort a ts) so)

pub looks-right : (sort : Token → Sort) (a b : Look) (ts : List Token) → looks sort b ts ≡ true → looks sort (a ++ b) ts ≡ true
looks-right sort [] b ts so = so
looks-right sort (way ∷ a) b ts so = or_right (fits sort way ts) (looks sort (a ++ b) ts) (looks-right sort a b ts so)

-- tokens that look in none of joined ways look in none of each
pub clear-left : (sort : Token → Sort) (a b : Look) (ts : List Token) → looks sort (a ++ b) ts ≡ false → looks sort a ts ≡ false
clear-left sort a b ts so = false_from_ne_true (looks sort a ts) (λ e. both_ways (looks sort (a ++ b) ts) so (looks-left sort a b ts e))

pub clear-right : (sort : Token → Sort) (a b : Look) (ts : List Token) → looks sort (a ++ b) ts ≡ false → looks sort b ts ≡ false
clear-right sort a b ts so = false_from_ne_true (looks sort b ts) (λ e. both_ways (looks sort (a ++ b) ts) so (looks-right sort a b ts e))

-- a look under a test that holds
pub only_if-true : (sort : Token → Sort) (test : Bool) (a : Look) (ts : List Token) → test ≡ true → looks sort (only_if test a) ts ≡ looks sort a ts
only_if-true sort true a ts holds = refl
only_if-true sort false a ts holds = absurd (cc)

-- no tokens fit two ways that are apart
fits-apart : (sort : Token → Sort) (a b : List Set) (ts : List Token) → ways_apart a b ≡ true → fits sort a ts ≡ true → fits sort b ts ≡ true → ⊥
fits-apart sort [] b ts apart here there = absurd (cc)
fits-apart sort (s ∷ a) [] ts apart here there = absurd (cc)
fits-apart sort (s ∷ a) (t ∷ b) ts apart here there =
    let left = and_parts (s (next_sort sort ts)) (fits sort a (behind_next ts)) here in
    let right = and_parts (t (next_sort sort ts)) (fits sort b (behind_next ts)) there in
    ⊎_elim (λ now. disjoint-so s t (next_sort sort ts) now left.0 right.0)
    (λ later. fits-apart sort a b (behind_next ts) later left.1 right.1)
    (or_cases (disjoint s t) (ways_apart a b) apart)

way-apart : (sort : Token → Sort) (way : List Set) (b : Look) (ts : List Token) → list_all (ways_apart way) b ≡ true → fits sort way ts ≡ true → looks sort b ts ≡ true → ⊥
way-apart sort way [] ts apart here there = absurd (cc)
way-apart sort way (other ∷ b) ts apart here there =
    let parts = and_parts (ways_apart way other) (list_all (ways_apart way) b) apart in
    ⊎_elim (λ now. fits-apart sort way other ts parts.0 here now) (λ later. way-apart sort way b ts parts.1 here later)
    (or_cases (fits sort other ts) (looks sort b ts) there)

-- no tokens look in two ways that are apart
pub looks-apart : (sort : Token → Sort) (a b : Look) (ts : List Token) → apart a b ≡ true → looks sort a ts ≡ true → looks sort b ts ≡ true → ⊥
looks-apart sort [] b ts apart here there = absurd (cc)
looks-apart sort (way ∷ a) b ts apart here there =
    let parts = and_parts (list_all (ways_apart way) b) (list_all (λ v. list_all (ways_apart v) b) a) apart in
    ⊎_elim (λ now. way-apart sort way b ts parts.0 now there) (λ later. looks-apart sort a b ts parts.1 later there)
    (or_cases (fits sort way ts) (looks sort a ts) here)

-- tokens that look in one way do not look in one that is apart
pub clear-apart : (sort : Token → Sort) (a b : Look) (ts : List Token) → apart a b ≡ true → looks sort b ts ≡ true → looks sort a ts ≡ false
clear-apart sort a b ts apart there = false_from_ne_true (looks sort a ts) (λ here. looks-apart sort a b ts apart here there)

fits-within : (sort : Token → Sort) (a b : List Set) (ts : List Token) → way_within a b ≡ true → fits sort a ts ≡ true → fits sort b ts ≡ true
fits-within sort a [] ts inside here = refl
fits-within sort [] (t ∷ b) ts inside here = absurd (cc)
fits-within sort (s ∷ a) (t ∷ b) ts inside here =
    let parts = and_parts (subset s t) (way_within a b) inside in
    let left = and_parts (s (next_sort sort ts)) (fits sort a (behind_next ts)) here in
    and_from (t (next_sort sort ts)) (fits sort b (behind_next ts)) (subset-so s t (next_sort sort ts) parts.0 left.0)
    (fits-within sort a b (behind_next ts) parts.1 left.1)

way-within : (sort : Token → Sort) (way : List Set) (b : Look) (ts : List Token) → list_any (way_within way) b ≡ true → fits sort way ts ≡ true → looks sort b ts ≡ true
way-within sort way [] ts inside here = absurd (cc)
way-within sort way (other ∷ b) ts inside here =
    ⊎_elim (λ now. or_left (fits sort other ts) (looks sort b ts) (fits-within sort way other ts now here))
    (λ later. or_right (fits sort other ts) (looks sort b ts) (way-within sort way b ts later here))
    (or_cases (way_within way other) (list_any (way_within way) b) inside)

-- tokens that look in one way look in a wider one
pub looks-within : (sort : Token → Sort) (a b : Look) (ts : List Token) → within a b ≡ true → looks sort a ts ≡ true → looks sort b ts ≡ true
looks-within sort [] b ts inside here = absurd (cc)
looks-within sort (way ∷ a) b ts inside here =
    let parts = and_parts (list_any (way_within way) b) (list_all (λ v. list_any (way_within v) b) a) inside in
    ⊎_elim (λ now. way-within sort way b ts parts.0 now) (λ later. looks-within sort a b ts parts.1 later)
    (or_cases (fits sort way ts) (looks sort a ts) here)

pub clear-within : (sort : Token → Sort) (a b : Look) (ts : List Token) → within a b ≡ true → looks sort b ts ≡ false → looks sort a ts ≡ false
clear-within sort a b ts inside clear = false_from_ne_true (looks sort a ts) (λ here. both_ways (looks sort b ts) clear (looks-within sort a b ts inside here))

-- a token of the set, and tokens behind it that look so
pub looks-led : (sort : Token → Sort) (set : Set) (a : Look) (t : Token) (ts : List Token) → set (sort t) ≡ true → looks sort a ts ≡ true → looks sort (led_by set a) (t ∷ ts) ≡ true
looks-led sort set [] t ts here there = absurd (cc)
looks-led sort set (way ∷ a) t ts here there =
    ⊎_elim (λ now. or_left (set (sort t) && fits sort way ts) (looks sort (led_by set a) (t ∷ ts)) (and_from (set (sort t)) (fits sort way ts) here now))
    (λ later. or_right (set (sort t) && fits sort way ts) (looks sort (led_by set a) (t ∷ ts)) (looks-led sort set a t ts here later))
    (or_cases (fits sort way ts) (looks sort a ts) there)
