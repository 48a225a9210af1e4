-- What is seen in lists of binders and levels.
use Rattle.std.proofs.Common.{◌≡◌, ◌+◌, ℕ, suc, Bool, true, false, cond, List, [], ◌∷◌, ◌++◌, length, map, slice_get, Option, Some, None, codes, if◌then◌else◌, option_and_then, refl, sym, ap, ◌∙◌, arith}
use Rattle.std.proofs.lemmas.List.{append_assoc}
use Rattle.std.specs.Option.{option_map_or}
use Rattle.name_scope.specs.declared.level.Level.{Level}
use Rattle.name_scope.specs.declared.level.Sight.{Sight}
use Rattle.name_scope.specs.Rank.{Seen}
use Rattle.name_scope.specs.declared.identity.Identity.TheVariants.{Fixed}
use Rattle.name_scope.specs.declared.row.RowKind.{RowKind}
use Rattle.name_scope.specs.declared.usage.UseKind.{UseKind}
use Rattle.name_scope.specs.declared.usage.UseKind.TheVariants.{Source, Function}
use Rattle.name_scope.specs.Sees.{fixed_sights, has_sources, is_seen, object_sight, outward, seen_at, seen_in}

-- of two binders, what is seen of the first, and then of the second
pub two_seen : (spelling : List (List ℕ)) (depth : ℕ) (s t : Sight) → seen_at spelling depth (s ∷ t ∷ []) ≡ seen_at spelling depth (s ∷ []) ++ seen_at spelling depth (t ∷ [])
two_seen spelling depth s t = by (is_seen spelling s) (is_seen spelling t)
  where
    by : (b c : Bool)
        → map {B = Seen} (λ x. (depth, x)) (cond b (s ∷ cond c (t ∷ []) []) (cond c (t ∷ []) []))
        ≡ map {B = Seen} (λ x. (depth, x)) (cond b (s ∷ []) []) ++ map {B = Seen} (λ x. (depth, x)) (cond c (t ∷ []) [])
    by true true = refl
    by true false = refl
    by false true = refl
    by false false = refl

-- the first of the levels outward is the level of the number, the others are those outward from its outer one
pub outward_step : (n fewer : ℕ) (levels : List Level) (number : Option ℕ) (level : Level) → n ≡ suc fewer → option_and_then (slice_get levels) number ≡ Some level
    → outward n levels number ≡ level ∷ outward fewer levels level.outer
outward_step n fewer levels number level one_more at =
    ap (λ m. outward m levels number) one_more ∙ ap (λ o. option_map_or (λ l. l ∷ outward fewer levels l.outer) o []) at

-- a level's binders are added, and then those of the levels around it
pub level_step : (spelling : List (List ℕ)) (before after : List Seen) (depth deeper : ℕ) (level : Level) (rest whole : List Level)
    → after ≡ before ++ seen_at spelling depth level.sights → deeper ≡ depth + 1 → whole ≡ level ∷ rest
    → (after ++ seen_in spelling deeper rest ≡ before ++ seen_in spelling depth whole) × (deeper + length rest ≡ depth + length whole)
level_step spelling before after depth deeper level rest whole added down split = (
  ap (λ l. l ++ seen_in spelling deeper rest) added
      ∙ append_assoc before (seen_at spelling depth level.sights) (seen_in spelling deeper rest)
      ∙ ap (λ d. before ++ (seen_at spelling depth level.sights ++ seen_in spelling d rest)) down
      ∙ ap (λ w. before ++ seen_in spelling depth w) (sym split),
  omega (arith, down, ap length split),
)

-- the schema table's two names are what a source sees of objects without a row
pub source_sights : (own : RowKind) (kind : UseKind) → kind ≡ Source → has_sources own ≡ true
    → object_sight 0 (codes "sqlite_schema") (Fixed 0 None) ∷ object_sight 0 (codes "sqlite_master") (Fixed 0 None) ∷ [] ≡ fixed_sights own kind
source_sights own kind is has =
    let by_test = ap (λ b. if b then object_sight 0 (codes "sqlite_schema") (Fixed 0 None) ∷ object_sight 0 (codes "sqlite_master") (Fixed 0 None) ∷ [] else []) has in
    sym (ap (fixed_sights own) is ∙ by_test)

-- the two table functions are what a function sees
pub function_sights : (own : RowKind) (kind : UseKind) → kind ≡ Function → has_sources own ≡ true
    → object_sight 0 (codes "json_each") (Fixed 1 None) ∷ object_sight 0 (codes "json_tree") (Fixed 2 None) ∷ [] ≡ fixed_sights own kind
function_sights own kind is has =
    let by_test = ap (λ b. if b then object_sight 0 (codes "json_each") (Fixed 1 None) ∷ object_sight 0 (codes "json_tree") (Fixed 2 None) ∷ [] else []) has in
    sym (ap (fixed_sights own) is ∙ by_test)

-- a first binder is added, and then a second
pub both_added : (spelling : List (List ℕ)) (depth : ℕ) (s t : Sight) (old mid new : List Seen)
    → mid ≡ old ++ seen_at spelling depth (s ∷ []) → new ≡ mid ++ seen_at spelling depth (t ∷ []) → new ≡ old ++ seen_at spelling depth (s ∷ t ∷ [])
both_added spelling depth s t old mid new first second =
    second
    ∙ ap (λ l. l ++ seen_at spelling depth (t ∷ [])) first
    ∙ append_assoc old (seen_at spelling depth (s ∷ [])) (seen_at spelling depth (t ∷ []))
    ∙ ap (λ l. old ++ l) (sym (two_seen spelling depth s t))
