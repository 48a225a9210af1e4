-- Whether a journal has to be played (fileformat2.html, "The Rollback Journal"; atomiccommit.html, "Hot Rollback Journals").
use Rattle.std.specs.Prelude.{◌≡◌, ℕ, ◌+◌, ◌-◌, ◌^◌, ◌==◌, nat_lt, nat_le, Bool, true, not, ◌&&◌, if◌then◌else◌, List, length, take, drop, Option, Some, None}
use Rattle.rollback_journal.specs.declared.header.Header.{Header}
use Rattle.rollback_journal.specs.declared.heat.Heat.{Heat}
use Rattle.rollback_journal.specs.declared.heat.Heat.TheVariants.{Cold, Hot, Super}
use Rattle.rollback_journal.specs.Header.{header_of, has_magic, is_allowed}

-- whether a journal of this length has records, by its header: they are counted, and the first is wholly there
abbrev pub has_records : ℕ → Header → Bool
has_records len h = not (h.count == 0) && nat_le (h.sector + h.page + 8) len

-- the header of a journal that is not cold, by the journal's length and its first 28 bytes
abbrev pub live_header : ℕ → List ℕ → Option Header
live_header len front =
    if nat_lt len 28 then None else elim (header_of front) [
      | None ↦ None
      | Some h ↦ if has_records len h then Some h else None
    ]

-- whether a journal names a super-journal, by its length and its last eight bytes
abbrev pub names_super : ℕ → List ℕ → Bool
names_super len back = nat_le len (2 ^ 30) && has_magic back

-- the heat of a journal whose header is this, where it is not cold
abbrev pub heat_with : Option Header → Bool → Heat
heat_with None named = Cold
heat_with (Some h) named = if named then Super else Hot h

-- cold: it has fewer than 28 bytes, its header is refused, it counts no record, or the first one is not wholly there;
-- super: it is not cold, has at most 2^30 bytes, and its last eight bytes are the magic; hot: neither
abbrev pub heat_of : List ℕ → Heat
heat_of journal = heat_with (live_header (length journal) (take 28 journal)) (names_super (length journal) (drop (length journal - 8) journal))

-- the header of a hot journal has allowed sizes
abbrev pub IsAllowedHeat : Heat → Type 0
IsAllowedHeat Cold = Unit {0}
IsAllowedHeat Super = Unit {0}
IsAllowedHeat (Hot h) = is_allowed h ≡ true
