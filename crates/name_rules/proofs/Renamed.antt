-- What stands, and is seen, behind a renaming.
use Rattle.std.proofs.Common.{◌≡◌, ℕ, inl, inr, ⊎_elim, true, false, cond, List, [], ◌∷◌, map, Option, Some, None, option_map, refl, sym, ap, subst, ◌∙◌}
use Rattle.std.proofs.lemmas.Bool.{cases_Bool}
use Rattle.name_scope.specs.declared.level.Sight.{Sight}
use Rattle.name_scope.specs.Rank.{IsNearer, Seen}
use Rattle.name_scope.specs.Sees.{is_named, is_seen, same_names}
use Rattle.name_rules.specs.Meaning.{IsAmong}
use Rattle.name_rules.specs.Part.{Part, part_in, part_of, with_name, with_part}
use Rattle.name_rules.specs.Part.Part.{Name, Qualifier}
use Rattle.name_rules.specs.Renaming.{Renaming, is_moved, renamed}
use Rattle.name_rules.proofs.Parts.{named_alike, part_fits, part_in-with_part, part_of-with_name, parts_seen, rest-with_name, rest-with_part, same_either, same_name, seen_parts}

-- what stands there has its counterpart there
pub among_renamed : (f : Seen → Seen) (binders : List Seen) (s : Seen) → IsAmong binders s → IsAmong (map f binders) (f s)
among_renamed f [] s there = there
among_renamed f (x ∷ xs) s (inl here) = inl (ap f here)
among_renamed f (x ∷ xs) s (inr more) = inr (among_renamed f xs s more)

-- and what stands behind it is a counterpart
pub among_before : (f : Seen → Seen) (binders : List Seen) (s : Seen) → IsAmong (map f binders) s → (t : Seen) × IsAmong binders t × (s ≡ f t)
among_before f [] s there = absurd there
among_before f (x ∷ xs) s (inl here) = (x, inl refl, here)
among_before f (x ∷ xs) s (inr more) = let (t, there, same) = among_before f xs s more in (t, inr there, same)

-- a binder that does not move stays as it is
pub unmoved : (r : Renaming) (s : Seen) → is_moved r s ≡ false → renamed r s ≡ s
unmoved r s stays = ap (λ b. (s.0, cond b (with_name r.part r.new s.1) s.1)) stays

-- one that moves has the new name
pub moved : (r : Renaming) (s : Seen) → is_moved r s ≡ true → renamed r s ≡ (s.0, with_name r.part r.new s.1)
moved r s moves = ap (λ b. (s.0, cond b (with_name r.part r.new s.1) s.1)) moves

-- a new name leaves whether a binder moves
same_move : (part : Part) (new : List ℕ) (r : Renaming) (s : Seen) → is_moved r (s.0, with_name part new s.1) ≡ is_moved r s
same_move Name new r s = refl
same_move Qualifier new r s = refl

pub moved_alike : (r : Renaming) (s : Seen) → is_moved r (renamed r s) ≡ is_moved r s
moved_alike r s =
    ⊎_elim
    (λ moves. ap (is_moved r) (moved r s moves) ∙ same_move r.part r.new r s)
    (λ stays. ap (is_moved r) (unmoved r s stays))
    (cases_Bool (is_moved r s))

-- a new name leaves what is nearer
nearer_left : (part : Part) (new : List ℕ) (s : Seen) (t : Seen) → IsNearer s t → IsNearer (s.0, with_name part new s.1) t
nearer_left Name new s t near = near
nearer_left Qualifier new s t near = near

nearer_right : (part : Part) (new : List ℕ) (s : Seen) (t : Seen) → IsNearer s t → IsNearer s (t.0, with_name part new t.1)
nearer_right Name new s t near = near
nearer_right Qualifier new s t near = near

left_nearer : (part : Part) (new : List ℕ) (s : Seen) (t : Seen) → IsNearer (s.0, with_name part new s.1) t → IsNearer s t
left_nearer Name new s t near = near
left_nearer Qualifier new s t near = near

right_nearer : (part : Part) (new : List ℕ) (s : Seen) (t : Seen) → IsNearer s (t.0, with_name part new t.1) → IsNearer s t
right_nearer Name new s t near = near
right_nearer Qualifier new s t near = near

-- what is nearer is so behind the renaming
pub nearer_renamed : (r : Renaming) (s t : Seen) → IsNearer s t → IsNearer (renamed r s) (renamed r t)
nearer_renamed r s t near =
    let left : IsNearer (renamed r s) t =
    ⊎_elim
    (λ moves. subst (λ x. IsNearer x t) (sym (moved r s moves)) (nearer_left r.part r.new s t near))
    (λ stays. subst (λ x. IsNearer x t) (sym (unmoved r s stays)) near)
    (cases_Bool (is_moved r s)) in
    ⊎_elim
    (λ moves. subst (λ x. IsNearer (renamed r s) x) (sym (moved r t moves)) (nearer_right r.part r.new (renamed r s) t left))
    (λ stays. subst (λ x. IsNearer (renamed r s) x) (sym (unmoved r t stays)) left)
    (cases_Bool (is_moved r t))

-- and what is nearer behind it was so
pub nearer_before : (r : Renaming) (s t : Seen) → IsNearer (renamed r s) (renamed r t) → IsNearer s t
nearer_before r s t near =
    let right : IsNearer (renamed r s) t =
    ⊎_elim
    (λ moves. right_nearer r.part r.new (renamed r s) t (subst (λ x. IsNearer (renamed r s) x) (moved r t moves) near))
    (λ stays. subst (λ x. IsNearer (renamed r s) x) (unmoved r t stays) near)
    (cases_Bool (is_moved r t)) in
    ⊎_elim
    (λ moves. left_nearer r.part r.new s t (subst (λ x. IsNearer x t) (moved r s moves) right))
    (λ stays. subst (λ x. IsNearer x t) (unmoved r s stays) right)
    (cases_Bool (is_moved r s))

module _ (part : Part) (old new : List ℕ) (spelling : List (List ℕ)) (s : Sight) where
  -- a use without the part sees a binder of another name as it saw it
  pub seen_without_part : part_in part spelling ≡ None → is_seen spelling (with_name part new s) ≡ true → is_seen spelling s ≡ true
  seen_without_part none seen =
      let parts = seen_parts part spelling (with_name part new s) seen in
      parts_seen part spelling s (sym (rest-with_name part new spelling s) ∙ parts.0) (ap (λ p. part_fits p (part_of part s)) none)

  -- a use with the part that sees a binder of the new name has that name, and under the old one it saw it
  pub seen_with_part : (name : List ℕ) → part_in part spelling ≡ Some name → is_named old (part_of part s) ≡ true
      → is_seen spelling (with_name part new s) ≡ true → (same_names name new ≡ true) × (is_seen (with_part part old spelling) s ≡ true)
  seen_with_part name has was seen =
      let parts = seen_parts part spelling (with_name part new s) seen in
      let fits : is_named name (Some new) ≡ true =
      ap (λ own. is_named name own) (sym (part_of-with_name part new s)) ∙ ap (λ p. part_fits p (part_of part (with_name part new s))) (sym has) ∙ parts.1 in (
        same_either name new ∙ fits,
        parts_seen part (with_part part old spelling) s
            (rest-with_part part old spelling s ∙ sym (rest-with_name part new spelling s) ∙ parts.0)
            (ap (λ p. part_fits p (part_of part s)) (part_in-with_part part old spelling ∙ ap (option_map (λ _. old)) has) ∙ was),
      )

  -- what a use of the new name would see under the old one it sees, once that one has the new name
  pub sees_renamed : (name : List ℕ) → part_in part spelling ≡ Some name → same_names name new ≡ true
      → is_seen (with_part part old spelling) s ≡ true → is_seen spelling (with_name part new s) ≡ true
  sees_renamed name has same seen =
      let parts = seen_parts part (with_part part old spelling) s seen in
      parts_seen part spelling (with_name part new s)
      (rest-with_name part new spelling s ∙ sym (rest-with_part part old spelling s) ∙ parts.0)
      (ap (λ p. part_fits p (part_of part (with_name part new s))) has ∙ ap (λ own. is_named name own) (part_of-with_name part new s) ∙ same_either new name ∙ same)

  -- a use that sees a binder sees it with both renamed
  pub both_renamed : is_seen spelling s ≡ true → is_seen (with_part part new spelling) (with_name part new s) ≡ true
  both_renamed seen =
      let parts = seen_parts part spelling s seen in
      parts_seen part (with_part part new spelling) (with_name part new s)
      (rest-with_part part new spelling (with_name part new s) ∙ rest-with_name part new spelling s ∙ parts.0)
      (ap (λ p. part_fits p (part_of part (with_name part new s))) (part_in-with_part part new spelling) ∙ ap (λ own. part_fits (option_map (λ _. new) (part_in part spelling)) own) (part_of-with_name part new s) ∙ fit (part_in part spelling))
    where
      fit : (o : Option (List ℕ)) → part_fits (option_map (λ _. new) o) (Some new) ≡ true
      fit None = refl
      fit (Some name) = same_name new

  -- and what it sees so it saw, where it had the old name
  pub both_before : is_named old (part_of part s) ≡ true → part_fits (part_in part spelling) (Some old) ≡ true
      → is_seen (with_part part new spelling) (with_name part new s) ≡ true → is_seen spelling s ≡ true
  both_before was has_old seen =
      let parts = seen_parts part (with_part part new spelling) (with_name part new s) seen in
      parts_seen part spelling s
      (sym (rest-with_part part new spelling (with_name part new s) ∙ rest-with_name part new spelling s) ∙ parts.0)
      (fit (part_in part spelling) has_old)
    where
      fit : (o : Option (List ℕ)) → part_fits o (Some old) ≡ true → part_fits o (part_of part s) ≡ true
      fit None h = refl
      fit (Some name) h = named_alike name old (part_of part s) (same_either name old ∙ h) ∙ was
