-- A use that does not clash means behind the renaming the counterpart of what it meant, and one that clashes does not.
use Rattle.std.proofs.Common.{◌≡◌, ℕ, ◌⊎◌, inl, inr, ⊎_elim, true, false, cond, List, [], ◌∷◌, map, Option, Some, None, IsSome, option_map, refl, sym, ap, subst, ◌∙◌}
use Rattle.std.proofs.lemmas.Bool.{cases_Bool}
use Rattle.name_scope.specs.Rank.{IsInReach, IsNearer, Seen}
use Rattle.name_scope.specs.Sees.{is_named, is_seen}
use Rattle.name_rules.specs.Clash.{Clashes, MovedIsCaptured, StayingIsCaptured, Stays}
use Rattle.name_rules.specs.Laws.{ClashesTell, UsesStay}
use Rattle.name_rules.specs.Meaning.{IsAmong, IsAnswer, Means, Sees}
use Rattle.name_rules.specs.Part.{Part, part_in, part_of, with_name, with_part}
use Rattle.name_rules.specs.Part.Part.{Name, Qualifier}
use Rattle.name_rules.specs.Renaming.{HasOldNames, Renaming, is_moved, renamed, respelled}
use Rattle.name_rules.proofs.Parts.{both_named, part_fits, seen_parts}
use Rattle.name_rules.proofs.Ranks.{nearer_or_not}
use Rattle.name_rules.proofs.Renamed.{among_before, among_renamed, both_before, both_renamed, moved, moved_alike, nearer_before, nearer_renamed, seen_with_part, seen_without_part, sees_renamed, unmoved}

-- a spelling without the part stays
without_part : (part : Part) (new : List ℕ) (spelling : List (List ℕ)) → part_in part spelling ≡ None → with_part part new spelling ≡ spelling
without_part Name new [] none = refl
without_part Name new (n ∷ []) none = absurd cc
without_part Name new (q ∷ n ∷ []) none = absurd cc
without_part Name new (d ∷ q ∷ n ∷ []) none = absurd cc
without_part Name new (a ∷ b ∷ c ∷ d ∷ e) none = refl
without_part Qualifier new [] none = refl
without_part Qualifier new (n ∷ []) none = refl
without_part Qualifier new (q ∷ n ∷ []) none = absurd cc
without_part Qualifier new (d ∷ q ∷ n ∷ []) none = absurd cc
without_part Qualifier new (a ∷ b ∷ c ∷ d ∷ e) none = refl

-- what is no answer's in reach is farther
farther : (t s : Seen) → (IsInReach (Some t) s → ⊥) → IsNearer t s
farther t s out = ⊎_elim (λ near. near) (λ no. absurd (out no)) (nearer_or_not t s)

-- the part of a spelling that sees a binder of the old name is the old name
part_is_old : (part : Part) (old : List ℕ) (spelling : List (List ℕ)) (t : Seen) → is_named old (part_of part t.1) ≡ true → Sees spelling t
    → part_fits (part_in part spelling) (Some old) ≡ true
part_is_old part old spelling t was seen = by (part_in part spelling) (seen_parts part spelling t.1 seen).1
  where
    by : (o : Option (List ℕ)) → part_fits o (part_of part t.1) ≡ true → part_fits o (Some old) ≡ true
    by None fits = refl
    by (Some name) fits = both_named old name (part_of part t.1) was fits

module _ (r : Renaming) (binders : List Seen) (spelling : List (List ℕ)) (named : HasOldNames r binders) where
  -- what a use that stays sees behind the renaming it saw, or it is not in reach
  staying_sees : (answer : Option Seen) → Stays r answer → (StayingIsCaptured r binders spelling answer → ⊥)
      → (s : Seen) → IsAmong binders s → Sees spelling (renamed r s) → Sees spelling s ⊎ (IsInReach answer s → ⊥)
  staying_sees answer stays free s there seen =
      ⊎_elim
      (λ moves. by moves (part_in r.part spelling) refl (subst (Sees spelling) (moved r s moves) seen))
      (λ still. inl (subst (Sees spelling) (unmoved r s still) seen))
      (cases_Bool (is_moved r s))
    where
      by : is_moved r s ≡ true → (o : Option (List ℕ)) → part_in r.part spelling ≡ o → is_seen spelling (with_name r.part r.new s.1) ≡ true
          → Sees spelling s ⊎ (IsInReach answer s → ⊥)
      by moves None none sees = inl (seen_without_part r.part r.old r.new spelling s.1 none sees)
      by moves (Some name) has sees =
          let both = seen_with_part r.part r.old r.new spelling s.1 name has (named s there moves) sees in
          inr (λ reach. free (record {
            stays = stays;
            name = name;
            part = has;
            has_new_name = both.0;
            other = s;
            stands = there;
            moves = moves;
            seen = both.1;
            in_reach = reach;
          }))

  -- what a use that moves sees behind the renaming it saw, or it is not in reach
  moving_sees : (t : Seen) → Means binders spelling t → is_moved r t ≡ true → (MovedIsCaptured r binders spelling t → ⊥)
      → (s : Seen) → IsAmong binders s → Sees (with_part r.part r.new spelling) (renamed r s) → Sees spelling s ⊎ (IsInReach (Some t) s → ⊥)
  moving_sees t means moves free s there seen =
      ⊎_elim
      (λ too. inl (both_before r.part r.old r.new spelling s.1 (named s there too) old_part (subst (Sees (with_part r.part r.new spelling)) (moved r s too) seen)))
      (λ still. by still (part_in r.part spelling) refl (subst (Sees (with_part r.part r.new spelling)) (unmoved r s still) seen))
      (cases_Bool (is_moved r s))
    where
      old_part : part_fits (part_in r.part spelling) (Some r.old) ≡ true
      old_part = part_is_old r.part r.old spelling t (named t means.stands moves) means.seen

      by : is_moved r s ≡ false → (o : Option (List ℕ)) → part_in r.part spelling ≡ o → Sees (with_part r.part r.new spelling) s
          → Sees spelling s ⊎ (IsInReach (Some t) s → ⊥)
      by still None none sees = inl (subst (λ x. Sees x s) (without_part r.part r.new spelling none) sees)
      by still (Some name) has sees =
          inr (λ reach. free (record {
            moves = moves;
            has_part = subst IsSome (sym has) refl;
            other = s;
            stands = there;
            stays = still;
            seen = sees;
            in_reach = reach;
          }))

  -- where what is seen behind the renaming was seen or is not in reach, the counterpart is meant
  still_means : (t : Seen) (after : List (List ℕ)) → Means binders spelling t → Sees after (renamed r t)
      → ((s : Seen) → IsAmong binders s → Sees after (renamed r s) → Sees spelling s ⊎ (IsInReach (Some t) s → ⊥))
      → Means (map (renamed r) binders) after (renamed r t)
  still_means t after means seen sees = record {
    stands = among_renamed (renamed r) binders t means.stands;
    seen = seen;
    nearest = λ s there now.
        let (before, was_there, same) = among_before (renamed r) binders s there in
        let now_seen : Sees after (renamed r before) = subst (Sees after) same now in
        let behind : (renamed r before ≡ renamed r t) ⊎ IsNearer (renamed r t) (renamed r before) =
        ⊎_elim
        (λ was_seen.
        ⊎_elim (λ one. inl (ap (renamed r) one)) (λ near. inr (nearer_renamed r t before near)) (means.nearest before was_there was_seen))
        (λ out. inr (nearer_renamed r t before (farther t before out)))
        (sees before was_there now_seen) in
        subst (λ x. (x ≡ renamed r t) ⊎ IsNearer (renamed r t) x) (sym same) behind;
  }

  -- the answer of a use that does not clash
  answer_stays : (answer : Option Seen) → IsAnswer binders spelling answer → (Clashes r binders spelling answer → ⊥)
      → IsAnswer (map (renamed r) binders) (respelled r spelling answer) (option_map (renamed r) answer)
  answer_stays None nothing free = λ s there seen.
      let (before, was_there, same) = among_before (renamed r) binders s there in
      ⊎_elim (nothing before was_there) (λ out. out tt) (staying_sees None tt free before was_there (subst (Sees spelling) same seen))
  answer_stays (Some t) means free =
      ⊎_elim
      (λ moves.
      let after = with_part r.part r.new spelling in
      subst (λ b. Means (map (renamed r) binders) (cond b after spelling) (renamed r t)) (sym moves)
      (still_means t after means
      (subst (Sees after) (sym (moved r t moves)) (both_renamed r.part r.old r.new spelling t.1 means.seen))
      (moving_sees t means moves (λ captured. free (inl captured)))))
      (λ stays.
      subst (λ b. Means (map (renamed r) binders) (cond b (with_part r.part r.new spelling) spelling) (renamed r t)) (sym stays)
      (still_means t spelling means
      (subst (Sees spelling) (sym (unmoved r t stays)) means.seen)
      (staying_sees (Some t) stays (λ captured. free (inr captured)))))
      (cases_Bool (is_moved r t))

  -- what is in reach, moves otherwise and is seen behind the renaming, leaves no meaning
  no_meaning : (t other : Seen) (after : List (List ℕ)) → IsAmong binders other → (is_moved r other ≡ is_moved r t → ⊥) → IsInReach (Some t) other
      → Sees after (renamed r other) → Means (map (renamed r) binders) after (renamed r t) → ⊥
  no_meaning t other after there apart reach seen means =
      ⊎_elim
      (λ one. apart (sym (moved_alike r other) ∙ ap (is_moved r) one ∙ moved_alike r t))
      (λ near. reach (nearer_before r t other near))
      (means.nearest (renamed r other) (among_renamed (renamed r) binders other there) seen)

  -- the answer of a use that clashes
  clash_changes : (answer : Option Seen) → IsAnswer binders spelling answer → Clashes r binders spelling answer
      → IsAnswer (map (renamed r) binders) (respelled r spelling answer) (option_map (renamed r) answer) → ⊥
  clash_changes None nothing k still =
      still (renamed r k.other) (among_renamed (renamed r) binders k.other k.stands)
      (subst (Sees spelling) (sym (moved r k.other k.moves)) (sees_renamed r.part r.old r.new spelling k.other.1 k.name k.part k.has_new_name k.seen))
  clash_changes (Some t) means (inl k) still =
      let after = with_part r.part r.new spelling in
      no_meaning t k.other after k.stands (λ alike. let no : true ≡ false = sym k.moves ∙ sym alike ∙ k.stays in absurd cc) k.in_reach
      (subst (Sees after) (sym (unmoved r k.other k.stays)) k.seen)
      (subst (λ b. Means (map (renamed r) binders) (cond b after spelling) (renamed r t)) k.moves still)
  clash_changes (Some t) means (inr k) still =
      no_meaning t k.other spelling k.stands (λ alike. let no : true ≡ false = sym k.moves ∙ alike ∙ k.stays in absurd cc) k.in_reach
      (subst (Sees spelling) (sym (moved r k.other k.moves)) (sees_renamed r.part r.old r.new spelling k.other.1 k.name k.part k.has_new_name k.seen))
      (subst (λ b. Means (map (renamed r) binders) (cond b (with_part r.part r.new spelling) spelling) (renamed r t)) k.stays still)

pub uses_stay : UsesStay
uses_stay r binders spelling answer named is free = answer_stays r binders spelling named answer is free

pub clashes_tell : ClashesTell
clashes_tell r binders spelling answer named is clash still = clash_changes r binders spelling named answer is clash still
