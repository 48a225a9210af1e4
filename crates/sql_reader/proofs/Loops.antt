-- A loop that reads one item a turn: what is read already goes before what is still to be read.
use Rattle.std.proofs.Common.{◌≡◌, ℕ, true, false, ◌&&◌, List, [], ◌∷◌, ◌++◌, Some, None, refl, sym, subst, ◌∙◌}
use Rattle.sql_token.specs.declared.token.Token.{Token}
use Rattle.sql_reader.specs.declared.sort.Sort.{Sort}
use Rattle.sql_reader.specs.Sorts.{sort_of}
use Rattle.sql_reader.specs.Input.{Input}
use Rattle.sql_reader.specs.Looks.{Set, Look, looks, next_sort}
use Rattle.std.proofs.lemmas.Bool.{and_from, or_left}
use Rattle.sql_reader.specs.Reading.{Read, made_of, read_many}
use Rattle.sql_reader.proofs.Turns.{TakesToken, one_more, one_fails, no_more, before_turns}

-- the items that are done, before those that are still to be read, are the whole
pub record Goes (A : Type 0) (starts : Look) (item : (Token → Sort) → Read A) (old : Input) (done : List A) (now : Input) : Type 0 where
  pub same_text : now.text ≡ old.text
  pub turns : read_many (sort_of old.text) starts (item (sort_of old.text)) old.left
      ≡ made_of (λ xs. done ++ xs) (read_many (sort_of old.text) starts (item (sort_of old.text)) now.left)

module _ (A : Type 0) (starts : Look) (item : (Token → Sort) → Read A) (takes : (text : List ℕ) → TakesToken (item (sort_of text))) where
  -- before the first turn
  pub goes_start : (old : Input) → Goes A starts item old [] old
  goes_start old =
      let sort = sort_of old.text in
      record { same_text = refl; turns = sym (before_turns sort starts (item sort) (takes old.text) old.left) }

  -- one more turn
  pub goes_on : (old now next : Input) (done : List A) (x : A) → Goes A starts item old done now → looks (sort_of now.text) starts now.left ≡ true
      → (item (sort_of now.text) now.left ≡ Some (x, next.left)) × (next.text ≡ now.text) → Goes A starts item old (done ++ x ∷ []) next
  goes_on old now next done x before so read =
      let sort = sort_of old.text in
      let here : looks sort starts now.left ≡ true = subst (λ t. looks (sort_of t) starts now.left ≡ true) before.same_text so in
      let first : item sort now.left ≡ Some (x, next.left) = subst (λ t. item (sort_of t) now.left ≡ Some (x, next.left)) before.same_text read.0 in
      record {
        same_text = read.1 ∙ before.same_text;
        turns = before.turns ∙ one_more sort starts (item sort) (takes old.text) done now.left x next.left here first;
      }

  -- no more turns
  pub goes_end : (old now : Input) (done : List A) → Goes A starts item old done now → looks (sort_of now.text) starts now.left ≡ false
      → (read_many (sort_of old.text) starts (item (sort_of old.text)) old.left ≡ Some (done, now.left)) × (now.text ≡ old.text)
  goes_end old now done before other =
      let sort = sort_of old.text in
      let here : looks sort starts now.left ≡ false = subst (λ t. looks (sort_of t) starts now.left ≡ false) before.same_text other in
      (before.turns ∙ no_more sort starts (item sort) (takes old.text) done now.left here, before.same_text)

  -- a turn that fails
  pub goes_wrong : (old now : Input) (done : List A) → Goes A starts item old done now → looks (sort_of now.text) starts now.left ≡ true
      → item (sort_of now.text) now.left ≡ None → read_many (sort_of old.text) starts (item (sort_of old.text)) old.left ≡ None
  goes_wrong old now done before so failed =
      let sort = sort_of old.text in
      let here : looks sort starts now.left ≡ true = subst (λ t. looks (sort_of t) starts now.left ≡ true) before.same_text so in
      let none : item sort now.left ≡ None = subst (λ t. item (sort_of t) now.left ≡ None) before.same_text failed in
      before.turns ∙ one_fails sort starts (item sort) (takes old.text) done now.left here none

-- the next token's sort is in the set
pub looks_one : (sort : Token → Sort) (set : Set) (ts : List Token) → set (next_sort sort ts) ≡ true → looks sort ((set ∷ []) ∷ []) ts ≡ true
looks_one sort set ts here = or_left (set (next_sort sort ts) && true) false (and_from (set (next_sort sort ts)) true here refl)
