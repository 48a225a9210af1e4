-- A disk's two files.
use Rattle.std.specs.Prelude.{ℕ, List}
use Rattle.alter_disk.specs.declared.which.Which.{Which}
use Rattle.alter_disk.specs.declared.which.Which.TheVariants.{Db, Journal}

-- the bytes of the database and of its rollback journal
pub record Files : Type 0 where
  pub db : List ℕ
  pub journal : List ℕ

-- the bytes of one of them
abbrev pub file : Which → Files → List ℕ
file Db f = f.db
file Journal f = f.journal

-- the pair with these bytes in one of them
abbrev pub with_file : Which → List ℕ → Files → Files
with_file Db bytes f = record f { db = bytes }
with_file Journal bytes f = record f { journal = bytes }

-- the other one
abbrev pub other_of : Which → Which
other_of Db = Journal
other_of Journal = Db
