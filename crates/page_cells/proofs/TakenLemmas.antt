-- Places of the page that are marked as taken.
use Rattle.std.proofs.Common.{◌≡◌, ℕ, ◌+◌, ◌-◌, ◌<◌, ◌≤◌, Bool, true, false, List, length, take, drop, get_or, sym, ap, ◌∙◌, arith, length-drop, length-take, get_or-drop, get_or-take}
use Rattle.std.specs.List.{AllWithin}

-- a place among those from start to end, by its place behind start
part_at : (taken : List Bool) (start end i : ℕ) (d : Bool) → i < end - start
    → get_or (take (end - start) (drop start taken)) i d ≡ get_or taken (start + i) d
part_at taken start end i d h = get_or-take (end - start) (drop start taken) i d h ∙ get_or-drop start taken i d

length-part : (taken : List Bool) (start end : ℕ) → end ≤ length taken → length (take (end - start) (drop start taken)) ≡ end - start
length-part taken start end h = length-take (end - start) (drop start taken) ∙ omega (arith, length-drop start taken)

-- one is marked
pub some_taken : (taken : List Bool) (start end i : ℕ) → end ≤ length taken → i < length (take (end - start) (drop start taken))
    → get_or (take (end - start) (drop start taken)) i false ≡ true → AllWithin (λ mark. mark ≡ false) taken start end → ⊥
some_taken taken start end i within small is free =
    let low : i < end - start = omega (arith, length-part taken start end within) in
    let no : get_or taken (start + i) false ≡ false = free (start + i) false (omega arith) (omega arith) in
    apart (sym is ∙ part_at taken start end i false low ∙ no)
  where
    apart : true ≡ false → ⊥
    apart e = cc

-- none is marked
pub none_taken : (taken : List Bool) (start end : ℕ) → end ≤ length taken
    → ((i : ℕ) (d : Bool) → i < length (take (end - start) (drop start taken)) → get_or (take (end - start) (drop start taken)) i d ≡ false)
    → AllWithin (λ mark. mark ≡ false) taken start end
none_taken taken start end within none = λ k d low high.
    let small : k - start < end - start = omega arith in
    let at : start + (k - start) ≡ k = omega arith in
    ap (λ j. get_or taken j d) (sym at) ∙ sym (part_at taken start end (k - start) d small)
    ∙ none (k - start) d (omega (arith, length-part taken start end within))
