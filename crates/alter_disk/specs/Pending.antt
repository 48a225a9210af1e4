-- What a crash may leave of a `MemoryDisk`: what its files were at first, and each call since that changed this.
use Rattle.std.specs.Prelude.{◌≡◌, ◌⊎◌, ◌≤◌, ℕ, suc, ◌+◌, ◌-◌, min, List, [], ◌∷◌, ◌++◌, length, take, drop, map, reverse, replicate, Option, Some, None}
use Rattle.std.proofs.Common.{inl, inr}
use Rattle.std.proofs.Math.Nat.{le_trans, le-suc, not-suc-le_self}
use Rattle.alter_disk.specs.declared.which.Which.{Which}
use Rattle.alter_disk.specs.declared.which.Which.TheVariants.{Db, Journal}
use Rattle.alter_disk.specs.declared.call.Change as declared
use Rattle.alter_disk.specs.declared.call.Change.TheVariants as kept
use Rattle.alter_disk.specs.declared.call.Call as calls
use Rattle.alter_disk.specs.Files.{Files}
use Rattle.alter_disk.specs.Changes.{Torn, CutShort}

-- what a call did to a file: it wrote from a place to an end, cut it to a length, or made these bytes durable
pub data Change : Type 0 where
  Wrote : ℕ → ℕ → Change
  Cut : ℕ → Change
  Synced : List ℕ → Change

pub record Call : Type 0 where
  pub which : Which
  pub change : Change

-- what a call did to this file, if it was this one
abbrev pub change_in : Which → Call → Option Change
change_in Db call = elim call.which [ Db ↦ Some call.change | Journal ↦ None ]
change_in Journal call = elim call.which [ Db ↦ None | Journal ↦ Some call.change ]

-- a file's bytes after a crash, given those after a crash before the call: a write or cut that is pending may be cut short
abbrev pub LeftAfter : Option Change → (List ℕ → Type 0) → List ℕ → Type 0
LeftAfter None Before bytes = Before bytes
LeftAfter (Some (Wrote at end)) Before bytes = (old : List ℕ) × Before old × Torn at (end - at) old bytes
LeftAfter (Some (Cut len)) Before bytes = (old : List ℕ) × Before old × CutShort len old bytes
LeftAfter (Some (Synced synced)) Before bytes = bytes ≡ synced

-- the bytes that a crash may leave of one file, which had these at first; the newest call comes first
abbrev pub LeftOf : Which → List ℕ → List Call → List ℕ → Type 0
LeftOf which first [] bytes = bytes ≡ first
LeftOf which first (call ∷ earlier) bytes = LeftAfter (change_in which call) (LeftOf which first earlier) bytes

-- a crash may leave these two files
abbrev pub MayLeave : Files → List Call → Files → Type 0
MayLeave first calls c = LeftOf Db first.db calls c.db × LeftOf Journal first.journal calls c.journal

-- a crash at some moment since t calls were made may have left these files: now, or before the newest call
abbrev pub LeftSince : Files → List Call → ℕ → Files → Type 0
LeftSince first [] t c = (t ≤ 0) × MayLeave first [] c
LeftSince first (call ∷ earlier) t c = ((t ≤ suc (length earlier)) × MayLeave first (call ∷ earlier) c) ⊎ LeftSince first earlier t c

-- this moment counts
pub now_counts : (first : Files) (calls : List Call) (t : ℕ) (c : Files) → t ≤ length calls → MayLeave first calls c → LeftSince first calls t c
now_counts first [] t c le now = (le, now)
now_counts first (call ∷ earlier) t c le now = inl (le, now)

-- no such moment is later than the calls
none_later : (first : Files) (calls : List Call) (t : ℕ) (c : Files) → LeftSince first calls t c → t ≤ length calls
none_later first [] t c left = left.0
none_later first (call ∷ earlier) t c (inl now) = now.0
none_later first (call ∷ earlier) t c (inr before) = le_trans (none_later first earlier t c before) (le-suc (length earlier))

-- since this moment there is no other
pub only_now : (first : Files) (calls : List Call) (c : Files) → LeftSince first calls (length calls) c → MayLeave first calls c
only_now first [] c left = left.1
only_now first (call ∷ earlier) c (inl now) = now.1
only_now first (call ∷ earlier) c (inr before) = absurd (not-suc-le_self (length earlier) (none_later first earlier (suc (length earlier)) c before))

-- one file as its last sync left it, or as it was at first
abbrev pub synced_after : Option Change → List ℕ → List ℕ
synced_after (Some (Synced synced)) before = synced
synced_after other before = before

abbrev pub synced_file : Which → List ℕ → List Call → List ℕ
synced_file which first [] = first
synced_file which first (call ∷ earlier) = synced_after (change_in which call) (synced_file which first earlier)

-- the bytes with n of one kind at a place, and between the old end and a place past it
abbrev pub smeared : ℕ → ℕ → ℕ → List ℕ → List ℕ
smeared byte at n bytes = take at bytes ++ replicate (at + n - min at (length bytes)) byte ++ drop (at + n) bytes

-- one file at its greatest length since its last sync, with this byte in all that is pending
abbrev pub filled_after : ℕ → Option Change → List ℕ → List ℕ
filled_after byte None before = before
filled_after byte (Some (Wrote at end)) before = smeared byte at (end - at) before
filled_after byte (Some (Cut len)) before = before
filled_after byte (Some (Synced synced)) before = synced

abbrev pub filled_file : ℕ → Which → List ℕ → List Call → List ℕ
filled_file byte which first [] = first
filled_file byte which first (call ∷ earlier) = filled_after byte (change_in which call) (filled_file byte which first earlier)

-- what a call of the code's record did
abbrev pub change_of : declared.Change → Change
change_of (kept.Wrote at end) = Wrote at end
change_of (kept.Cut len) = Cut len
change_of (kept.Synced bytes) = Synced bytes.items

abbrev pub call_of : calls.Call → Call
call_of call = record { which = call.which; change = change_of call.change }

-- the calls of the code's record, the newest first
abbrev pub newest_first : List calls.Call → List Call
newest_first made = reverse (map call_of made)
