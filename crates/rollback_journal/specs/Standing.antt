-- What a database and its journal stand for together.
use Rattle.std.specs.Prelude.{ℕ, ◌*◌, ◌^◌, nat_lt, Bool, true, false, ◌||◌, List, length, Some, None}
use Rattle.alter_disk.specs.Files.{Files}
use Rattle.rollback_journal.specs.declared.header.Header.{Header}
use Rattle.rollback_journal.specs.declared.heat.Heat.{Heat}
use Rattle.rollback_journal.specs.declared.heat.Heat.TheVariants.{Cold, Hot, Super}
use Rattle.rollback_journal.specs.Heat.{heat_of}
use Rattle.rollback_journal.specs.Records.{entries_of}
use Rattle.rollback_journal.specs.Playback.{played, first_missing}

-- the bytes of a database; or the journal names a super-journal, or it is too large, or it lacks this page
pub data Standing : Type 0 where
  Stands : List ℕ → Standing
  IsSuper : Standing
  IsTooLarge : Standing
  IsShort : ℕ → Standing

-- whether a hot journal of this length is past the limits: 2^30 bytes, a database of 2^18 pages or of 2^29 bytes
abbrev pub is_too_large : ℕ → Header → Bool
is_too_large len h = nat_lt (2 ^ 30) len || nat_lt (2 ^ 18) h.size || nat_lt (2 ^ 29) (h.size * h.page)

-- what a database stands for beside a hot journal within the limits
abbrev pub standing_hot : Files → Header → Standing
standing_hot f h = elim (first_missing h.page h.size (entries_of f.journal h) f.db) [
  | Some missing ↦ IsShort missing
  | None ↦ Stands (played h.page h.size (entries_of f.journal h) f.db)
]

-- what two files stand for, by the heat of the journal
abbrev pub standing_by : Heat → Files → Standing
standing_by Cold f = Stands f.db
standing_by Super f = IsSuper
standing_by (Hot h) f = elim (is_too_large (length f.journal) h) [ true ↦ IsTooLarge | false ↦ standing_hot f h ]

-- what two files stand for: beside a cold journal the database as it is, beside a hot one what its playback leaves
abbrev pub standing : Files → Standing
standing f = standing_by (heat_of f.journal) f
