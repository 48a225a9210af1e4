-- Journals that are played by hand.
use Rattle.std.proofs.Common.{◌≡◌, List, [], ◌∷◌, ◌++◌, replicate, take, refl}
use Rattle.rollback_journal.specs.declared.header.Header.{Header}
use Rattle.rollback_journal.specs.Header.{bytes_of, magic}
use Rattle.rollback_journal.specs.Records.{entries_from, entries_of, verdict_of}
use Rattle.rollback_journal.specs.Playback.{played, first_missing}
use Rattle.rollback_journal.specs.Standing.{Stands, IsShort, IsSuper, standing}
use Rattle.std.specs.Prelude.{ℕ, true}
use lib.Count.{ones}

-- a header of two records for a database of this size, with the sectors and pages of 512 bytes
abbrev two_records : ℕ → Header
two_records size = record { count = 2; nonce = 0; size = size; sector = 512; page = 512 }

-- a page with two bytes that are summed, 7 and 9
abbrev nines : List ℕ
nines = replicate 112 0 ++ 9 ∷ replicate 199 0 ++ 7 ∷ replicate 199 0

-- a record of page 2 that is right, and one of page 1 whose checksum is wrong
abbrev half_right : List ℕ
half_right = bytes_of (two_records 2) true ++ replicate 484 0 ++ (0 ∷ 0 ∷ 0 ∷ 2 ∷ []) ++ nines ++ (0 ∷ 0 ∷ 0 ∷ 0x10 ∷ []) ++ (0 ∷ 0 ∷ 0 ∷ 1 ∷ []) ++ replicate 512 0 ++ (0 ∷ 0 ∷ 0 ∷ 1 ∷ [])

-- the record that is right is played, and playback ends before the other
half : entries_of half_right (two_records 2) ≡ record { page = 2; bytes = nines } ∷ []
unfolding entries_from verdict_of
half = refl

-- three pages, of which the second is damaged
abbrev damaged : List ℕ
damaged = replicate 512 1 ++ replicate 512 2 ++ replicate 512 3

-- page 1 stays, page 2 is restored, and the third page goes
restored : standing (record { db = damaged; journal = half_right }) ≡ Stands (replicate 512 1 ++ nines)
unfolding entries_from verdict_of played first_missing ones
restored = refl

-- a journal without a record is cold, and the database is taken as it is
no_record : standing (record { db = damaged; journal = take 512 half_right }) ≡ Stands damaged
unfolding ones
no_record = refl

-- the one record is of page 1, the database had three pages, and the file has two
abbrev one_of_three : List ℕ
one_of_three = bytes_of (two_records 3) true ++ replicate 484 0 ++ (0 ∷ 0 ∷ 0 ∷ 1 ∷ []) ++ nines ++ (0 ∷ 0 ∷ 0 ∷ 0x10 ∷ [])

third : standing (record { db = take 1024 damaged; journal = one_of_three }) ≡ IsShort 3
unfolding entries_from verdict_of played first_missing ones
third = refl

-- the same ending in the magic names a super-journal
named : standing (record { db = damaged; journal = half_right ++ magic }) ≡ IsSuper
unfolding ones
named = refl
