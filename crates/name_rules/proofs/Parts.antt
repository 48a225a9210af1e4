-- A use sees a binder where the part fits and the rest does.
use Rattle.std.proofs.Common.{◌≡◌, ℕ, Bool, true, false, ◌&&◌, not, List, [], ◌∷◌, Option, Some, None, option_map, codes, refl, sym, ◌∙◌}
use Rattle.std.proofs.lemmas.Bool.{and_from, and_parts}
use Rattle.std.proofs.lemmas.Cmp.{nat_list_eq_equiv}
use Rattle.std.specs.Option.{option_map_or}
use Rattle.sql_token.specs.Names.{folded}
use Rattle.name_scope.specs.declared.level.Sight.{Sight}
use Rattle.name_scope.specs.Sees.{is_named, is_seen, same_names}
use Rattle.name_rules.specs.Part.{Part, part_in, part_of, with_name, with_part}
use Rattle.name_rules.specs.Part.Part.{Name, Qualifier}

-- what a spelling asks of a binder beside the part
abbrev pub rest_fits : Part → List (List ℕ) → Sight → Bool
rest_fits Name (name ∷ []) s = not s.qualified_only
rest_fits Name (source ∷ name ∷ []) s = is_named source s.qualifier
rest_fits Name (database ∷ source ∷ name ∷ []) s = same_names database (codes "main") && is_named source s.qualifier
rest_fits Qualifier (name ∷ []) s = not s.qualified_only && is_named name s.binder.name
rest_fits Qualifier (source ∷ name ∷ []) s = is_named name s.binder.name
rest_fits Qualifier (database ∷ source ∷ name ∷ []) s = same_names database (codes "main") && is_named name s.binder.name
rest_fits _ _ s = false

-- the part, where the spelling has it, is this name
abbrev pub part_fits : Option (List ℕ) → Option (List ℕ) → Bool
part_fits part own = option_map_or (λ p. is_named p own) part true

-- a use that sees the binder: its part fits, and so does the rest
pub seen_parts : (part : Part) (spelling : List (List ℕ)) (s : Sight) → is_seen spelling s ≡ true
    → (rest_fits part spelling s ≡ true) × (part_fits (part_in part spelling) (part_of part s) ≡ true)
seen_parts Name [] s seen = absurd cc
seen_parts Name (n ∷ []) s seen = and_parts (not s.qualified_only) (is_named n s.binder.name) seen
seen_parts Name (q ∷ n ∷ []) s seen = and_parts (is_named q s.qualifier) (is_named n s.binder.name) seen
seen_parts Name (d ∷ q ∷ n ∷ []) s seen =
    let outer = and_parts (same_names d (codes "main")) (is_named q s.qualifier && is_named n s.binder.name) seen in
    let inner = and_parts (is_named q s.qualifier) (is_named n s.binder.name) outer.1 in
    (and_from (same_names d (codes "main")) (is_named q s.qualifier) outer.0 inner.0, inner.1)
seen_parts Name (a ∷ b ∷ c ∷ d ∷ e) s seen = absurd cc
seen_parts Qualifier [] s seen = absurd cc
seen_parts Qualifier (n ∷ []) s seen = (seen, refl)
seen_parts Qualifier (q ∷ n ∷ []) s seen =
    let both = and_parts (is_named q s.qualifier) (is_named n s.binder.name) seen in
    (both.1, both.0)
seen_parts Qualifier (d ∷ q ∷ n ∷ []) s seen =
    let outer = and_parts (same_names d (codes "main")) (is_named q s.qualifier && is_named n s.binder.name) seen in
    let inner = and_parts (is_named q s.qualifier) (is_named n s.binder.name) outer.1 in
    (and_from (same_names d (codes "main")) (is_named n s.binder.name) outer.0 inner.1, inner.0)
seen_parts Qualifier (a ∷ b ∷ c ∷ d ∷ e) s seen = absurd cc

-- where its part fits and the rest does, the use sees the binder
pub parts_seen : (part : Part) (spelling : List (List ℕ)) (s : Sight) → rest_fits part spelling s ≡ true
    → part_fits (part_in part spelling) (part_of part s) ≡ true → is_seen spelling s ≡ true
parts_seen Name [] s rest fits = absurd cc
parts_seen Name (n ∷ []) s rest fits = and_from (not s.qualified_only) (is_named n s.binder.name) rest fits
parts_seen Name (q ∷ n ∷ []) s rest fits = and_from (is_named q s.qualifier) (is_named n s.binder.name) rest fits
parts_seen Name (d ∷ q ∷ n ∷ []) s rest fits =
    let both = and_parts (same_names d (codes "main")) (is_named q s.qualifier) rest in
    and_from (same_names d (codes "main")) (is_named q s.qualifier && is_named n s.binder.name) both.0 (and_from (is_named q s.qualifier) (is_named n s.binder.name) both.1 fits)
parts_seen Name (a ∷ b ∷ c ∷ d ∷ e) s rest fits = absurd cc
parts_seen Qualifier [] s rest fits = absurd cc
parts_seen Qualifier (n ∷ []) s rest fits = rest
parts_seen Qualifier (q ∷ n ∷ []) s rest fits = and_from (is_named q s.qualifier) (is_named n s.binder.name) fits rest
parts_seen Qualifier (d ∷ q ∷ n ∷ []) s rest fits =
    let both = and_parts (same_names d (codes "main")) (is_named n s.binder.name) rest in
    and_from (same_names d (codes "main")) (is_named q s.qualifier && is_named n s.binder.name) both.0 (and_from (is_named q s.qualifier) (is_named n s.binder.name) fits both.1)
parts_seen Qualifier (a ∷ b ∷ c ∷ d ∷ e) s rest fits = absurd cc

-- another name in the part leaves the rest
pub rest-with_part : (part : Part) (new : List ℕ) (spelling : List (List ℕ)) (s : Sight) → rest_fits part (with_part part new spelling) s ≡ rest_fits part spelling s
rest-with_part Name new [] s = refl
rest-with_part Name new (n ∷ []) s = refl
rest-with_part Name new (q ∷ n ∷ []) s = refl
rest-with_part Name new (d ∷ q ∷ n ∷ []) s = refl
rest-with_part Name new (a ∷ b ∷ c ∷ d ∷ e) s = refl
rest-with_part Qualifier new [] s = refl
rest-with_part Qualifier new (n ∷ []) s = refl
rest-with_part Qualifier new (q ∷ n ∷ []) s = refl
rest-with_part Qualifier new (d ∷ q ∷ n ∷ []) s = refl
rest-with_part Qualifier new (a ∷ b ∷ c ∷ d ∷ e) s = refl

-- so does another name of the binder
pub rest-with_name : (part : Part) (new : List ℕ) (spelling : List (List ℕ)) (s : Sight) → rest_fits part spelling (with_name part new s) ≡ rest_fits part spelling s
rest-with_name Name new [] s = refl
rest-with_name Name new (n ∷ []) s = refl
rest-with_name Name new (q ∷ n ∷ []) s = refl
rest-with_name Name new (d ∷ q ∷ n ∷ []) s = refl
rest-with_name Name new (a ∷ b ∷ c ∷ d ∷ e) s = refl
rest-with_name Qualifier new [] s = refl
rest-with_name Qualifier new (n ∷ []) s = refl
rest-with_name Qualifier new (q ∷ n ∷ []) s = refl
rest-with_name Qualifier new (d ∷ q ∷ n ∷ []) s = refl
rest-with_name Qualifier new (a ∷ b ∷ c ∷ d ∷ e) s = refl

-- the part of such a spelling is that name
pub part_in-with_part : (part : Part) (new : List ℕ) (spelling : List (List ℕ)) → part_in part (with_part part new spelling) ≡ option_map (λ _. new) (part_in part spelling)
part_in-with_part Name new [] = refl
part_in-with_part Name new (n ∷ []) = refl
part_in-with_part Name new (q ∷ n ∷ []) = refl
part_in-with_part Name new (d ∷ q ∷ n ∷ []) = refl
part_in-with_part Name new (a ∷ b ∷ c ∷ d ∷ e) = refl
part_in-with_part Qualifier new [] = refl
part_in-with_part Qualifier new (n ∷ []) = refl
part_in-with_part Qualifier new (q ∷ n ∷ []) = refl
part_in-with_part Qualifier new (d ∷ q ∷ n ∷ []) = refl
part_in-with_part Qualifier new (a ∷ b ∷ c ∷ d ∷ e) = refl

-- and that of such a binder is its name
pub part_of-with_name : (part : Part) (new : List ℕ) (s : Sight) → part_of part (with_name part new s) ≡ Some new
part_of-with_name Name new s = refl
part_of-with_name Qualifier new s = refl

-- names are equal to themselves
pub same_name : (a : List ℕ) → same_names a a ≡ true
same_name a = nat_list_eq_equiv.refl (folded a)

-- and in either order
pub same_either : (a b : List ℕ) → same_names a b ≡ same_names b a
same_either a b = nat_list_eq_equiv.symm (folded a) (folded b)

-- of two equal names both are the binder's, or neither is
pub named_alike : (a b : List ℕ) (own : Option (List ℕ)) → same_names a b ≡ true → is_named a own ≡ is_named b own
named_alike a b None same = refl
named_alike a b (Some own) same =
    same_either own a ∙ nat_list_eq_equiv.congr (folded a) (folded b) (folded own) same ∙ same_either b own

-- two names that are the binder's are equal
pub both_named : (a b : List ℕ) (own : Option (List ℕ)) → is_named a own ≡ true → is_named b own ≡ true → same_names a b ≡ true
both_named a b None one other = absurd cc
both_named a b (Some own) one other = sym (nat_list_eq_equiv.congr (folded own) (folded a) (folded b) one) ∙ other
