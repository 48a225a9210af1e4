-- What a sink has after a failure.
use Rattle.std.specs.Prelude.{◌≡◌, ℕ, List, ◌++◌, Option, Some}

-- the sink has what it had, and then a front of these bytes
pub record WroteFront (had bytes : List ℕ) (now : Option (List ℕ)) : Type 0 where
  pub front : List ℕ
  pub rest : List ℕ
  pub written : now ≡ Some (had ++ front)
  pub whole : bytes ≡ front ++ rest
