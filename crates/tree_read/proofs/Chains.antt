-- The walk through a chain of overflow pages, a page at a time.
use Rattle.std.proofs.Common.{◌≡◌, ◌≤◌, ◌<◌, ℕ, zero, suc, ◌-◌, Bool, true, false, if◌then◌else◌, List, [], ◌∷◌, Option, Some, None, refl, sym, ap, ◌∙◌, arith}
use Rattle.page_cells.specs.declared.kind.Kind.{Kind}
use Rattle.page_cells.specs.declared.cell.Cell.{Cell}
use Rattle.tree_read.specs.declared.error.WalkError.{WalkError}
use Rattle.tree_read.specs.declared.error.WalkError.TheVariants.{Memory, Failed, Corrupt}
use Rattle.tree_read.specs.Answers.{AnswersFault, AnswersLink}
use Rattle.tree_read.specs.Nodes.{Nodes}
use Rattle.tree_read.specs.Walk.{Done, Event, Fault, Found, Walked, Wrong, chain, is_next, overflow, overflow_pages, run, step}
use Rattle.tree_read.proofs.Runs.{answers_step, goes_on_step, run-none, stops_step}

-- behind the page, which has this link
behind : Nodes → ℕ → ℕ → Bool → List Event
behind nodes left page good = if good then chain nodes left (nodes.next page) else Wrong page ∷ []

chain-some : (nodes : Nodes) (left page : ℕ) → 0 < left → chain nodes left page ≡ Found page ∷ behind nodes (left - 1) page (is_next nodes.count (left - 1) (nodes.next page))
unfolding chain behind
chain-some nodes zero page some = absurd (omega arith)
chain-some nodes (suc left) page some = let e : suc left - 1 ≡ left = omega arith in rw e refl

pub chain-none : (nodes : Nodes) (walk : Walked) (left page : ℕ) → left ≤ 0 → run walk (chain nodes left page) ≡ Done walk
unfolding chain
chain-none nodes walk zero page none = run-none walk
chain-none nodes walk (suc left) page none = absurd (omega arith)

-- a fault at its first page, and one at the link behind it
pub chain_stops : (nodes : Nodes) (walk : Walked) (left page : ℕ) (error : WalkError) → 0 < left → AnswersFault error (step walk (Found page)) → AnswersFault error (run walk (chain nodes left page))
chain_stops nodes walk left page error some answers =
    let e = chain-some nodes left page some in
    rw e (answers_step error walk (Found page) _ answers)

wrong_link : (nodes : Nodes) (walk mid : Walked) (left page : ℕ) → 0 < left → step walk (Found page) ≡ Done mid
    → is_next nodes.count (left - 1) (nodes.next page) ≡ false → run walk (chain nodes left page) ≡ Fault page
unfolding behind step
wrong_link nodes walk mid left page some found wrong =
    ap (run walk) (chain-some nodes left page some) ∙ goes_on_step walk mid (Found page) _ found
    ∙ ap (λ (good : Bool). run mid (behind nodes (left - 1) page good)) wrong ∙ wrong_page mid page
  where
    wrong_page : (mid : Walked) (page : ℕ) → run mid (Wrong page ∷ []) ≡ Fault page
    wrong_page mid page = stops_step mid page (Wrong page) [] refl

pub link_stops : (nodes : Nodes) (walk mid : Walked) (left page : ℕ) (error : WalkError) → 0 < left → step walk (Found page) ≡ Done mid
    → AnswersLink nodes page (left - 1) error → AnswersFault error (run walk (chain nodes left page))
link_stops nodes walk mid left page (Memory fault) some found answers = tt
link_stops nodes walk mid left page Failed some found answers = tt
link_stops nodes walk mid left page (Corrupt at) some found answers = wrong_link nodes walk mid left page some found answers.1 ∙ ap Fault (sym answers.0)

-- a page more
pub chain_goes_on : (nodes : Nodes) (walk mid : Walked) (left page next : ℕ) → 0 < left → step walk (Found page) ≡ Done mid → nodes.next page ≡ next
    → is_next nodes.count (left - 1) next ≡ true → run walk (chain nodes left page) ≡ run mid (chain nodes (left - 1) next)
unfolding behind
chain_goes_on nodes walk mid left page next some found is good =
    ap (run walk) (chain-some nodes left page some) ∙ goes_on_step walk mid (Found page) _ found
    ∙ ap (λ (b : Bool). run mid (behind nodes (left - 1) page b)) (ap (is_next nodes.count (left - 1)) is ∙ good)
    ∙ ap (λ (n : ℕ). run mid (chain nodes (left - 1) n)) is

-- a cell without a chain
pub overflow-none : (nodes : Nodes) (kind : Kind) (walk : Walked) (cell : Cell) → cell.overflow ≡ None → run walk (overflow nodes kind cell) ≡ Done walk
overflow-none nodes kind walk cell is = by cell.overflow is
  where
    by : (first : Option ℕ) → first ≡ None → run walk (elim first [ None ↦ [] | Some page ↦ chain nodes (overflow_pages kind nodes.usable cell.payload) page ]) ≡ Done walk
    by None is = run-none walk
    by (Some page) is = absurd (cc)
