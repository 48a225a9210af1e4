-- Laws on what a crash may leave of a disk in memory.
use Rattle.std.proofs.Common.{◌≡◌, ◌⊎◌, inl, inr, ℕ, suc, Bool, true, false, ◌+◌, ◌-◌, ◌<◌, ◌≤◌, min, List, [], ◌∷◌, ◌++◌, length, take, drop, map, reverse, replicate, if◌then◌else◌, refl, subst, sym, ap, ◌∙◌, arith, append_assoc, length-append, length-drop}
use Rattle.std.proofs.lemmas.Bool.{cases_lt}
use Rattle.std.proofs.lemmas.List.{take_min, take_at, take-append-le, take_all, length-take-le, length-replicate, map-append, reverse-append}
use Rattle.common_laws.proofs.Lists.{drop_mid}
use Rattle.alter_disk.specs.declared.which.Which.{Which}
use Rattle.alter_disk.specs.declared.which.Which.TheVariants.{Db, Journal}
use Rattle.alter_disk.specs.declared.call.Call as calls
use Rattle.alter_disk.specs.Files.{Files, file, with_file}
use Rattle.alter_disk.specs.Changes.{Torn, CutShort, ChangesOne, overwritten}
use Rattle.alter_disk.specs.Crash.{After, NoMore, Elapses}
use Rattle.alter_disk.specs.Memory.{Memory, HoldsCalls, after_write, after_cut, after_sync}
use Rattle.alter_disk.specs.Pending.{Call, Wrote, Cut, Synced, LeftOf, MayLeave, LeftSince, call_of, newest_first}

-- a call that changed nothing is one that was cut short at once
pub torn_same : (at n : ℕ) (b : List ℕ) → Torn at n b b
torn_same at n b = record { before = take_min at b; behind = refl; no_shorter = omega arith; no_longer = omega arith }

pub cut_same : (n : ℕ) (b : List ℕ) → CutShort n b b
cut_same n b = record { no_shorter = omega arith; front = take_all (length b) b (omega arith) }

pub cut_whole : (n : ℕ) (b : List ℕ) → CutShort n b (take n b)
cut_whole n b = elim (cases_lt n (length b)) [
  | inl shorter ↦
      let len : length (take n b) ≡ n = length-take-le n b (omega arith) in
      record { no_shorter = omega (arith, len); front = ap (λ k. take k b) len }
  | inr longer ↦
      let whole : take n b ≡ b = take_all n b (omega arith) in
      subst (CutShort n b) (sym whole) (cut_same n b)
]

-- a write that was made is one that was not cut short
pub torn_whole : (at : ℕ) (piece b : List ℕ) → Torn at (length piece) b (overwritten b at piece)
torn_whole at piece b =
    let n = length piece in
    let zeros : List ℕ = replicate (at - length b) 0 in
    let front : List ℕ = take at (b ++ zeros) in
    let filled : length (b ++ zeros) ≡ length b + (at - length b) = length-append b zeros ∙ ap (λ k. length b + k) (length-replicate (at - length b) 0) in
    let len : length front ≡ at = length-take-le at (b ++ zeros) (omega (arith, filled)) in
    let behind : drop (at + n) (overwritten b at piece) ≡ drop (at + n) b = drop_mid front piece (drop (at + n) b) (at + n) (ap (λ k. k + n) len) in
    let rest : List ℕ = piece ++ drop (at + n) b in
    let split : overwritten b at piece ≡ front ++ rest = append_assoc front piece (drop (at + n) b) in
    let size : length (overwritten b at piece) ≡ at + (n + (length b - (at + n))) =
    ap length split ∙ length-append front rest ∙ omega (arith, len, length-append piece (drop (at + n) b), length-drop (at + n) b) in
    let before : take (min at (length b)) (front ++ rest) ≡ take at b =
    elim (cases_lt (length b) at) [
      | inl past ↦
          let all : front ≡ b ++ zeros = take_all at (b ++ zeros) (omega (arith, filled)) in
          let least : length b ≡ min at (length b) = omega arith in
          ap (λ (l : List ℕ). take (min at (length b)) (l ++ rest)) all ∙ ap (take (min at (length b))) (append_assoc b zeros rest)
          ∙ take_at b (zeros ++ rest) (min at (length b)) least ∙ sym (take_all at b (omega arith))
      | inr within ↦
          let least : length front ≡ min at (length b) = omega (arith, len) in
          take_at front rest (min at (length b)) least ∙ take-append-le at b zeros within
    ] in
    record {
      before = ap (take (min at (length b))) split ∙ before;
      behind = behind;
      no_shorter = omega (arith, size);
      no_longer = omega (arith, size);
    }

-- time, over a call that is not kept and over one that is
pub stands : (first : Files) (calls : List Call) → Elapses (length calls) (length calls) (LeftSince first calls) (LeftSince first calls) (MayLeave first calls)
stands first calls = record { later = omega arith; nothing_else = λ t c le left. inl left; keeps = λ t c le left. left }

pub goes_on : (first : Files) (call : Call) (calls : List Call)
    → Elapses (length calls) (length (call ∷ calls)) (LeftSince first calls) (LeftSince first (call ∷ calls)) (MayLeave first (call ∷ calls))
goes_on first call calls = record { later = omega arith; nothing_else = nothing_else; keeps = λ t c le left. inr left }
  where
    nothing_else : (t : ℕ) (c : Files) → t ≤ length calls → LeftSince first (call ∷ calls) t c → LeftSince first calls t c ⊎ MayLeave first (call ∷ calls) c
    nothing_else t c le (inl now) = inr now.1
    nothing_else t c le (inr before) = inl before

-- a write of n bytes is one from a place to the place and n
torn_as : (at n : ℕ) (old new : List ℕ) → Torn at (at + n - at) old new → Torn at n old new
torn_as at n old new torn = let e : at + n - at ≡ n = omega arith in subst (λ k. Torn at k old new) e torn

torn_to : (at n : ℕ) (old new : List ℕ) → Torn at n old new → Torn at (at + n - at) old new
torn_to at n old new torn = let e : n ≡ at + n - at = omega arith in subst (λ k. Torn at k old new) e torn

-- what a write or a cut that is kept may leave
wrote_left : (which : Which) (at n : ℕ) (first : Files) (calls : List Call) (c : Files)
    → MayLeave first (record { which = which; change = Wrote at (at + n) } ∷ calls) c → After (ChangesOne which (Torn at n)) (MayLeave first calls) c
wrote_left Db at n first calls c left = (record c { db = left.0.0 }, (left.0.1, left.1), record { one = torn_as at n _ c.db left.0.2; other = refl })
wrote_left Journal at n first calls c left = (record c { journal = left.1.0 }, (left.0, left.1.1), record { one = torn_as at n _ c.journal left.1.2; other = refl })

cut_left : (which : Which) (len : ℕ) (first : Files) (calls : List Call) (c : Files)
    → MayLeave first (record { which = which; change = Cut len } ∷ calls) c → After (ChangesOne which (CutShort len)) (MayLeave first calls) c
cut_left Db len first calls c left = (record c { db = left.0.0 }, (left.0.1, left.1), record { one = left.0.2; other = refl })
cut_left Journal len first calls c left = (record c { journal = left.1.0 }, (left.0, left.1.1), record { one = left.1.2; other = refl })

-- of two cases, what holds of both holds
either : (P : Memory → Type 0) (b : Bool) (x y : Memory) → P x → P y → P (if b then x else y)
either P true x y px py = px
either P false x y px py = py

-- a crash after a call that kept nothing leaves what a step that did nothing leaves
pub stays_crash : (Step : List ℕ → List ℕ → Type 0) → ((b : List ℕ) → Step b b) → (which : Which) (first : Files) (calls : List Call) (first-now : Files) (calls-now : List Call)
    → first-now ≡ first → calls-now ≡ calls → (c : Files) → MayLeave first-now calls-now c → After (ChangesOne which Step) (MayLeave first calls) c
stays_crash Step same which first calls first-now calls-now first-is calls-is c left =
    (c, subst (λ f. MayLeave f calls c) first-is (subst (λ made. MayLeave first-now made c) calls-is left), record { one = same (file which c); other = refl })

module _ (old new : Memory) where
  pub write_crash : (failed : Bool) (which : Which) (at : ℕ) (piece : List ℕ) → new ≡ after_write failed which at piece old
      → (c : Files) → MayLeave new.first new.steps c → After (ChangesOne which (Torn at (length piece))) (MayLeave old.first old.steps) c
  write_crash failed which at piece is =
      let P : Memory → Type 0 = λ m. (c : Files) → MayLeave m.first m.steps c → After (ChangesOne which (Torn at (length piece))) (MayLeave old.first old.steps) c in
      subst P (sym is)
      (either P failed _ _ (λ c left. (c, left, record { one = torn_same at (length piece) (file which c); other = refl }))
      (wrote_left which at (length piece) old.first old.steps))

  pub cut_crash : (failed : Bool) (which : Which) (len : ℕ) → new ≡ after_cut failed which len old
      → (c : Files) → MayLeave new.first new.steps c → After (ChangesOne which (CutShort len)) (MayLeave old.first old.steps) c
  cut_crash failed which len is =
      let P : Memory → Type 0 = λ m. (c : Files) → MayLeave m.first m.steps c → After (ChangesOne which (CutShort len)) (MayLeave old.first old.steps) c in
      subst P (sym is)
      (either P failed _ _ (λ c left. (c, left, record { one = cut_same len (file which c); other = refl })) (cut_left which len old.first old.steps))

  abbrev GoesOn : Memory → Type 0
  GoesOn m = Elapses (length old.steps) (length m.steps) (LeftSince old.first old.steps) (LeftSince m.first m.steps) (MayLeave m.first m.steps)

  pub write_time : (failed : Bool) (which : Which) (at : ℕ) (piece : List ℕ) → new ≡ after_write failed which at piece old → GoesOn new
  write_time failed which at piece is =
      subst GoesOn (sym is) (either GoesOn failed _ _ (stands old.first old.steps) (goes_on old.first _ old.steps))

  pub cut_time : (failed : Bool) (which : Which) (len : ℕ) → new ≡ after_cut failed which len old → GoesOn new
  cut_time failed which len is = subst GoesOn (sym is) (either GoesOn failed _ _ (stands old.first old.steps) (goes_on old.first _ old.steps))

  pub sync_time : (failed : Bool) (which : Which) → new ≡ after_sync failed which old → GoesOn new
  sync_time failed which is = subst GoesOn (sym is) (either GoesOn failed _ _ (stands old.first old.steps) (goes_on old.first _ old.steps))

-- what a read gives may be left after a call, as it might have been before
pub left_wrote : (which : Which) (at : ℕ) (piece : List ℕ) (first : Files) (calls : List Call) (f : Files) → MayLeave first calls f
    → MayLeave first (record { which = which; change = Wrote at (at + length piece) } ∷ calls) (with_file which (overwritten (file which f) at piece) f)
left_wrote Db at piece first calls f left = ((f.db, left.0, torn_to at (length piece) f.db _ (torn_whole at piece f.db)), left.1)
left_wrote Journal at piece first calls f left = (left.0, (f.journal, left.1, torn_to at (length piece) f.journal _ (torn_whole at piece f.journal)))

pub left_cut : (which : Which) (len : ℕ) (first : Files) (calls : List Call) (f : Files) → MayLeave first calls f
    → MayLeave first (record { which = which; change = Cut len } ∷ calls) (with_file which (take len (file which f)) f)
left_cut Db len first calls f left = ((f.db, left.0, cut_whole len f.db), left.1)
left_cut Journal len first calls f left = (left.0, (f.journal, left.1, cut_whole len f.journal))

pub left_synced : (which : Which) (first : Files) (calls : List Call) (f : Files) → MayLeave first calls f
    → MayLeave first (record { which = which; change = Synced (file which f) } ∷ calls) f
left_synced Db first calls f left = (refl, left.1)
left_synced Journal first calls f left = (left.0, refl)

-- a sync leaves no more than before
pub no_more_synced : (which : Which) (first : Files) (calls : List Call) (f : Files) → MayLeave first calls f
    → NoMore (MayLeave first calls) (MayLeave first (record { which = which; change = Synced (file which f) } ∷ calls))
no_more_synced Db first calls f left c now = (subst (LeftOf Db first.db calls) (sym now.0) left.0, now.1)
no_more_synced Journal first calls f left c now = (now.0, subst (LeftOf Journal first.journal calls) (sym now.1) left.1)

-- one call more in the code's record is the newest
pub one_newer : (made : List calls.Call) (call : calls.Call) → newest_first (made ++ call ∷ []) ≡ call_of call ∷ newest_first made
one_newer made call = ap reverse (map-append call_of made (call ∷ [])) ∙ reverse-append (map call_of made) (call_of call ∷ [])

-- a record of calls with one more
pub holds_more : (grows : Bool) (calls made : ℕ) (steps newer : List Call) (call : Call) (size spare capacity more spare_left room : ℕ)
    → HoldsCalls grows calls made steps size spare capacity
    → (grows ≡ false → length steps < made) → newer ≡ call ∷ steps → more ≡ size + 1 → (grows ≡ false → spare ≤ spare_left + 1) → capacity ≤ room
    → HoldsCalls grows calls made newer more spare_left room
holds_more grows calls made steps newer call size spare capacity more spare_left room holds few newest one less wide =
    let long : length newer ≡ suc (length steps) = ap length newest in
    record {
      same = omega (arith, long, holds.same);
      behind = λ fixed. omega (arith, long, few fixed);
      spare_left = λ fixed. omega (arith, long, holds.spare_left fixed, less fixed);
      reserved = λ fixed. omega (arith, holds.reserved fixed);
    }
