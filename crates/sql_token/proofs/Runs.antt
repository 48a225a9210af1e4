-- Runs of bytes that pass a test.
use Rattle.std.proofs.Common.{◌≡◌, ℕ, ◌+◌, Bool, true, false, List, [], ◌∷◌, ◌++◌, ⊎_elim, length, arith, refl, ap, ◌∙◌}
use Rattle.std.proofs.lemmas.Bool.{and_parts, and_from, cond-true, cond-false, cases_Bool}
use Rattle.std.specs.List.{list_all, prefix_len}
use Rattle.sql_token.specs.Byte.{begins}

-- the bytes are a run and a rest that does not go on with it
pub record Run (p : ℕ → Bool) (bytes : List ℕ) : Type 0 where
  pub run : List ℕ
  pub rest : List ℕ
  pub split : bytes ≡ run ++ rest
  pub all : list_all p run ≡ true
  pub stops : begins p rest ≡ false
  pub count : prefix_len p bytes ≡ length run

run_more : (p : ℕ → Bool) (b : ℕ) (bytes : List ℕ) → Run p bytes → p b ≡ true → Run p (b ∷ bytes)
run_more p b bytes r pass = record {
  run = b ∷ r.run;
  rest = r.rest;
  split = ap (λ l. b ∷ l) r.split;
  all = and_from (p b) (list_all p r.run) pass r.all;
  stops = r.stops;
  count = cond-true (p b) (1 + prefix_len p bytes) 0 pass ∙ omega (arith, r.count);
}

pub run_of : (p : ℕ → Bool) (bytes : List ℕ) → Run p bytes
run_of p [] = record { run = []; rest = []; split = refl; all = refl; stops = refl; count = refl }
run_of p (b ∷ bytes) =
    ⊎_elim
    (run_more p b bytes (run_of p bytes))
    (λ fail. record { run = []; rest = b ∷ bytes; split = refl; all = refl; stops = fail; count = cond-false (p b) (1 + prefix_len p bytes) 0 fail })
    (cases_Bool (p b))

-- a run that goes on into the rest
pub run_counts : (p : ℕ → Bool) (run rest : List ℕ) → list_all p run ≡ true → prefix_len p (run ++ rest) ≡ length run + prefix_len p rest
run_counts p [] rest all = omega arith
run_counts p (b ∷ run) rest all =
    let parts = and_parts (p b) (list_all p run) all in
    cond-true (p b) (1 + prefix_len p (run ++ rest)) 0 parts.0 ∙ omega (arith, run_counts p run rest parts.1)

pub run_none : (p : ℕ → Bool) (rest : List ℕ) → begins p rest ≡ false → prefix_len p rest ≡ 0
run_none p [] stops = refl
run_none p (b ∷ rest) stops = cond-false (p b) (1 + prefix_len p rest) 0 stops

-- a run that stops before the rest
pub run_exact : (p : ℕ → Bool) (run rest : List ℕ) → list_all p run ≡ true → begins p rest ≡ false → prefix_len p (run ++ rest) ≡ length run
run_exact p run rest all stops = omega (arith, run_counts p run rest all, run_none p rest stops)
