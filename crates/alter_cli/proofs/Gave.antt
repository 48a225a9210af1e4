-- What a sink has after one more write.
use Rattle.std.proofs.Common.{◌≡◌, List, ◌++◌, ℕ, Option, Some, None, option_map, take, drop, sym, ◌∙◌, ap, append_assoc}
use Rattle.std.proofs.lemmas.List.{take-append-drop}

-- a front of the line that grows by a front of the rest
pub grows : (old : Option (List ℕ)) {a b : Option (List ℕ)} (front line rest : List ℕ) (n : ℕ) → a ≡ option_map (λ w. w ++ front) old → line ≡ front ++ rest
    → b ≡ option_map (λ w. w ++ take n rest) a → (x : List ℕ) × (b ≡ option_map (λ w. w ++ x) old) × (line ≡ x ++ drop n rest)
grows None front line rest n first split more =
    (front ++ take n rest, more ∙ ap (option_map (λ (w : List ℕ). w ++ take n rest)) first, split ∙ ap (λ (x : List ℕ). front ++ x) (sym (take-append-drop n rest)) ∙ sym (append_assoc front (take n rest) (drop n rest)))
grows (Some had) front line rest n first split more =
    (front ++ take n rest, more ∙ ap (option_map (λ (w : List ℕ). w ++ take n rest)) first ∙ ap Some (append_assoc had front (take n rest)), split ∙ ap (λ (x : List ℕ). front ++ x) (sym (take-append-drop n rest)) ∙ sym (append_assoc front (take n rest) (drop n rest)))
