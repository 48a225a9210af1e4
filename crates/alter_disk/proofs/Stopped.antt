-- What `stopped` gives may be left.
use Rattle.std.proofs.Common.{◌≡◌, ℕ, Bool, true, false, ◌+◌, ◌-◌, ◌==◌, min, List, [], ◌∷◌, ◌++◌, length, take, drop, replicate, Vec, Result, Ok, Err, IfOk, Option, Some, None, if◌then◌else◌, refl, sym, subst, ap, ◌∙◌, arith, append_assoc, length-append, length-drop}
use Rattle.std.proofs.lemmas.List.{take_at, length-take, length-replicate}
use Rattle.common_laws.proofs.Lists.{drop_mid}
use Rattle.std.specs.declared.alloc.Global.{Global}
use Rattle.std.specs.declared.alloc.AllocError.{AllocError}
use Rattle.alter_disk.specs.declared.which.Which.{Which}
use Rattle.alter_disk.specs.declared.which.Which.TheVariants.{Db, Journal}
use Rattle.alter_disk.specs.Files.{Files, file}
use Rattle.alter_disk.specs.Changes.{Torn}
use Rattle.alter_disk.specs.Memory.{Memory, stopped_file}
use Rattle.alter_disk.specs.Pending.{Change, Call, Wrote, Cut, Synced, LeftAfter, LeftOf, MayLeave, change_in, synced_after, synced_file, smeared, filled_after, filled_file}
use Rattle.alter_disk.proofs.Pending.{torn_same, cut_same}

-- what may be left of both files may be left of each
pub by_file : (which : Which) (first : Files) (calls : List Call) (f : Files) → MayLeave first calls f → LeftOf which (file which first) calls (file which f)
by_file Db first calls f left = left.0
by_file Journal first calls f left = left.1

-- one kind of byte over a place is a write that was cut short
torn_smeared : (byte at n : ℕ) (b : List ℕ) → Torn at n b (smeared byte at n b)
torn_smeared byte at n b =
    let front : List ℕ = take at b in
    let mid : List ℕ = replicate (at + n - min at (length b)) byte in
    let back : List ℕ = drop (at + n) b in
    let front_len : length front ≡ min at (length b) = length-take at b in
    let mid_len : length mid ≡ at + n - min at (length b) = length-replicate (at + n - min at (length b)) byte in
    let split : smeared byte at n b ≡ front ++ (mid ++ back) = append_assoc front mid back in
    let size : length (smeared byte at n b) ≡ at + n + (length b - (at + n)) =
    ap length split ∙ length-append front (mid ++ back) ∙ omega (arith, front_len, mid_len, length-append mid back, length-drop (at + n) b) in
    record {
      before = ap (take (min at (length b))) split ∙ take_at front (mid ++ back) (min at (length b)) front_len;
      behind = drop_mid front mid back (at + n) (omega (arith, front_len, mid_len));
      no_shorter = omega (arith, size);
      no_longer = omega (arith, size);
    }

synced_step : (change : Option Change) (Before : List ℕ → Type 0) (s : List ℕ) → Before s → LeftAfter change Before (synced_after change s)
synced_step None Before s left = left
synced_step (Some (Wrote at end)) Before s left = (s, left, torn_same at (end - at) s)
synced_step (Some (Cut len)) Before s left = (s, left, cut_same len s)
synced_step (Some (Synced synced)) Before s left = refl

synced_left : (which : Which) (first : List ℕ) (calls : List Call) → LeftOf which first calls (synced_file which first calls)
synced_left which first [] = refl
synced_left which first (call ∷ earlier) = synced_step (change_in which call) (LeftOf which first earlier) (synced_file which first earlier) (synced_left which first earlier)

filled_step : (byte : ℕ) (change : Option Change) (Before : List ℕ → Type 0) (f : List ℕ) → Before f → LeftAfter change Before (filled_after byte change f)
filled_step byte None Before f left = left
filled_step byte (Some (Wrote at end)) Before f left = (f, left, torn_smeared byte at (end - at) f)
filled_step byte (Some (Cut len)) Before f left = (f, left, cut_same len f)
filled_step byte (Some (Synced synced)) Before f left = refl

filled_left : (byte : ℕ) (which : Which) (first : List ℕ) (calls : List Call) → LeftOf which first calls (filled_file byte which first calls)
filled_left byte which first [] = refl
filled_left byte which first (call ∷ earlier) =
    filled_step byte (change_in which call) (LeftOf which first earlier) (filled_file byte which first earlier) (filled_left byte which first earlier)

-- each choice gives what may be left
chosen : (P : List ℕ → Type 0) (first second : Bool) (x y z : List ℕ) → P x → P y → P z → P (if first then x else if second then y else z)
chosen P true second x y z px py pz = px
chosen P false true x y z px py pz = py
chosen P false false x y z px py pz = pz

pub stopped_left : (choice : ℕ) (which : Which) (m : Memory) → LeftOf which (file which m.first) m.steps (file which m.files)
    → LeftOf which (file which m.first) m.steps (stopped_file choice which m)
stopped_left choice which m now =
    let byte : ℕ = if choice == 2 then 0 else 0xd9 in
    chosen (LeftOf which (file which m.first) m.steps) (choice == 0) (choice == 1) _ _ _ (synced_left which (file which m.first) m.steps) now
    (filled_left byte which (file which m.first) m.steps)

-- what is one of these bytes may be left
pub left_by : (P : List ℕ → Type 0) (bytes : List ℕ) (result : Result (Vec ℕ Global) AllocError) → IfOk result (λ v. v.items ≡ bytes) → P bytes → IfOk result (λ v. P v.items)
left_by P bytes (Ok v) is so = subst P (sym is) so
left_by P bytes (Err e) is so = tt
