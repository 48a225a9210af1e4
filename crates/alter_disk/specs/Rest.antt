-- What no call but `open` changes.
use Rattle.std.specs.Prelude.{◌≡◌, ℕ, List, Bool, Option}

-- a disk's label, whether it was called and opened, and its count of the other kind's faults stay
pub record KeepsRest {D : Type 0} (label_of : D → Option (List ℕ)) (was_called is_open : D → Bool) (count_of : D → ℕ) (old new : D) : Type 0 where
  pub label : label_of new ≡ label_of old
  pub called : was_called new ≡ was_called old
  pub opened : is_open new ≡ is_open old
  pub other : count_of new ≡ count_of old
