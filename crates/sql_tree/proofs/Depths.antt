-- The levels behind a list of tokens, and the first place that is too deep.
use Rattle.std.proofs.Common.{◌≡◌, ℕ, ◌+◌, ◌<◌, ◌≤◌, List, [], ◌∷◌, ◌++◌, ◌⊎◌, ⊎_elim, inl, inr, length, take, drop, get_or, refl, sym, ap, subst, ◌∙◌, arith}
use Rattle.std.proofs.lemmas.Bool.{cases_lt}
use Rattle.std.proofs.lemmas.List.{take_more, take-append-drop, append_assoc, length-append}
use Rattle.std.proofs.lemmas.List.Sums.{fold-append}
use Rattle.sql_token.specs.declared.token.Token.{Token}
use Rattle.sql_tree.specs.declared.nesting.Opening.{Opening}
use Rattle.sql_tree.specs.Nesting.{behind, depth, levels, FirstTooDeep}

-- a list without a last element, or with one behind the others
pub front_of_longer : {X : Type 0} (a b c d : List X) → a ++ c ≡ b ++ d → length a ≤ length b → (e : List X) × (b ≡ a ++ e)
front_of_longer [] b c d same less = (b, refl)
front_of_longer (x ∷ a) [] c d same less = absurd (omega arith)
front_of_longer (x ∷ a) (y ∷ b) c d same less =
    let heads : x ≡ y = cc in
    let tails : a ++ c ≡ b ++ d = cc in
    let (e, split) = front_of_longer a b c d tails (omega arith) in
    (e, ap (λ z. z ∷ b) (sym heads) ∙ ap (λ zs. x ∷ zs) split)

-- the elements behind fronts of one length are equal
pub same_element : {X : Type 0} (a b : List X) (x y : X) (c d : List X) → a ++ x ∷ c ≡ b ++ y ∷ d → length a ≡ length b → x ≡ y
same_element [] [] x y c d same len = cc
same_element [] (z ∷ b) x y c d same len = absurd (omega arith)
same_element (z ∷ a) [] x y c d same len = absurd (omega arith)
same_element (z ∷ a) (w ∷ b) x y c d same len = let tails : a ++ x ∷ c ≡ b ++ y ∷ d = cc in same_element a b x y c d tails (omega arith)

-- behind no token of a front of tokens that is too deep are the levels too deep
pub no_earlier : (text : List ℕ) (tokens : List Token) (a b : ℕ) (f : FirstTooDeep text tokens a) (g : FirstTooDeep text tokens b) → length f.before < length g.before → ⊥
no_earlier text tokens a b f g less =
    let same = append_assoc f.before (f.token ∷ []) f.rest ∙ sym f.whole ∙ g.whole in
    let (e, split) = front_of_longer (f.before ++ f.token ∷ []) g.before f.rest (g.token ∷ g.rest) same (omega (arith, length-append f.before (f.token ∷ []))) in
    let most = g.shallow _ e split in
    omega (arith, most, f.deep)

-- one place is the first
pub first_unique : (text : List ℕ) (tokens : List Token) (a b : ℕ) → FirstTooDeep text tokens a → FirstTooDeep text tokens b → a ≡ b
first_unique text tokens a b f g =
    ⊎_elim
    (λ less. absurd (no_earlier text tokens a b f g less))
    (λ most. ⊎_elim
    (λ less. absurd (no_earlier text tokens b a g f less))
    (λ least.
    let one = same_element f.before g.before f.token g.token f.rest g.rest (sym f.whole ∙ g.whole) (omega arith) in
    f.place ∙ ap (λ t. t.start) one ∙ sym g.place)
    (cases_lt (length g.before) (length f.before)))
    (cases_lt (length f.before) (length g.before))

-- behind each front of the tokens at most 100 levels are open
abbrev pub IsShallow : List ℕ → List Token → Type 0
IsShallow text tokens = (front back : List Token) → tokens ≡ front ++ back → depth text front ≤ 100

-- no place is too deep where each front is shallow
pub none_in_shallow : (text : List ℕ) (tokens : List Token) (at : ℕ) → IsShallow text tokens → FirstTooDeep text tokens at → ⊥
none_in_shallow text tokens at shallow first =
    let most = shallow (first.before ++ first.token ∷ []) first.rest (first.whole ∙ sym (append_assoc first.before (first.token ∷ []) first.rest)) in
    omega (arith, most, first.deep)

-- a front of tokens with one more is a front of the tokens, or all of them
pub front_or_whole : {X : Type 0} (before : List X) (x : X) (front back : List X) → before ++ x ∷ [] ≡ front ++ back → ((e : List X) × (before ≡ front ++ e)) ⊎ (front ≡ before ++ x ∷ [])
front_or_whole [] x [] back same = inl ([], refl)
front_or_whole [] x (y ∷ []) back same = inr (cc)
front_or_whole [] x (y ∷ z ∷ front) back same = absurd (cc)
front_or_whole (w ∷ before) x [] back same = inl (w ∷ before, refl)
front_or_whole (w ∷ before) x (y ∷ front) back same =
    let heads : w ≡ y = cc in
    let tails : before ++ x ∷ [] ≡ front ++ back = cc in
    ⊎_elim
    (λ split. inl (split.0, ap (λ z. z ∷ before) heads ∙ ap (λ zs. y ∷ zs) split.1))
    (λ whole. inr (ap (λ z. z ∷ front) (sym heads) ∙ ap (λ zs. w ∷ zs) whole))
    (front_or_whole before x front back tails)

-- one more token behind which the levels are not too deep
pub shallow_further : (text : List ℕ) (before : List Token) (token : Token) → IsShallow text before → depth text (before ++ token ∷ []) ≤ 100 → IsShallow text (before ++ token ∷ [])
shallow_further text before token shallow most front back same =
    ⊎_elim
    (λ split. shallow front split.0 split.1)
    (λ whole. subst (λ tokens. depth text tokens ≤ 100) (sym whole) most)
    (front_or_whole before token front back same)

-- before the first token no level is open
pub shallow-none : (text : List ℕ) → IsShallow text []
shallow-none text [] back same = omega arith
shallow-none text (y ∷ front) back same = absurd (cc)

-- the levels behind one more token
pub levels_further : (text : List ℕ) (before : List Token) (token : Token) (now new : List Opening) → now ≡ levels text before → new ≡ behind text now token → new ≡ levels text (before ++ token ∷ [])
levels_further text before token now new is turns =
    turns ∙ ap (λ l. behind text l token) is ∙ sym (fold-append (behind text) [] before (token ∷ []))

-- the tokens in front of a place, the one there and those behind it
pub parts_at : (tokens : List Token) (i : ℕ) (d : Token) → i < length tokens → tokens ≡ take i tokens ++ get_or tokens i d ∷ drop (i + 1) tokens
parts_at tokens i d less =
    sym (take-append-drop (i + 1) tokens) ∙ ap (λ l. l ++ drop (i + 1) tokens) (take_more tokens i d less) ∙ append_assoc (take i tokens) (get_or tokens i d ∷ []) (drop (i + 1) tokens)

-- the token at a place is the first behind which the levels are too deep
pub first_at : (text : List ℕ) (tokens : List Token) (i : ℕ) (d : Token) (now new : List Opening) → i < length tokens → IsShallow text (take i tokens) → now ≡ levels text (take i tokens)
    → new ≡ behind text now (get_or tokens i d) → 100 < length new → FirstTooDeep text tokens (get_or tokens i d).start
first_at text tokens i d now new less shallow is turns deep = record {
  before = take i tokens;
  token = get_or tokens i d;
  rest = drop (i + 1) tokens;
  whole = parts_at tokens i d less;
  place = refl;
  deep = subst (λ l. 100 < length l) (levels_further text (take i tokens) (get_or tokens i d) now new is turns) deep;
  shallow = shallow;
}

-- what is known behind some of the tokens
pub record IsBehind (text : List ℕ) (tokens : List Token) (now : List Opening) : Type 0 where
  pub open_levels : now ≡ levels text tokens
  pub shallow : IsShallow text tokens

-- what is known behind one more
pub behind_further : (text : List ℕ) (tokens : List Token) (i : ℕ) (d : Token) (now new : List Opening) → i < length tokens → IsBehind text (take i tokens) now
    → new ≡ behind text now (get_or tokens i d) → length new ≤ 100 → IsBehind text (take (i + 1) tokens) new
behind_further text tokens i d now new less known turns most =
    let is = levels_further text (take i tokens) (get_or tokens i d) now new known.open_levels turns in
    subst (λ l. IsBehind text l new) (sym (take_more tokens i d less)) (record {
      open_levels = is;
      shallow = shallow_further text (take i tokens) (get_or tokens i d) known.shallow (subst (λ l. length l ≤ 100) is most);
    })
