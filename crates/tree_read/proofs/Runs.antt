-- Walks one behind the other.
use Rattle.std.proofs.Common.{◌≡◌, ℕ, List, [], ◌∷◌, ◌++◌, refl, sym, ap, ◌∙◌, subst, Result}
use Rattle.tree_read.specs.declared.error.WalkError.{WalkError}
use Rattle.tree_read.specs.declared.error.WalkError.TheVariants.{Memory, Failed, Corrupt}
use Rattle.tree_read.specs.Answers.{AnswersFault, Meets}
use Rattle.tree_read.specs.Walk.{Done, Event, Fault, Outcome, Walked, on_done, run, step}

-- what comes behind two walks
on_done-on_done : (first : Outcome) (f g : Walked → Outcome) → on_done (on_done first f) g ≡ on_done first (λ walk. on_done (f walk) g)
on_done-on_done (Done walk) f g = refl
on_done-on_done (Fault page) f g = refl

on_done-same : (first : Outcome) (f g : Walked → Outcome) → ((walk : Walked) → f walk ≡ g walk) → on_done first f ≡ on_done first g
on_done-same (Done walk) f g same = same walk
on_done-same (Fault page) f g same = refl

pub run-append : (walk : Walked) (xs ys : List Event) → run walk (xs ++ ys) ≡ on_done (run walk xs) (λ next. run next ys)
unfolding run
run-append walk [] ys = refl
run-append walk (event ∷ xs) ys =
    on_done-same (step walk event) (λ next. run next (xs ++ ys)) (λ next. on_done (run next xs) (λ last. run last ys)) (λ next. run-append next xs ys)
    ∙ sym (on_done-on_done (step walk event) (λ next. run next xs) (λ last. run last ys))

-- a walk that is done goes on, and one that meets a fault stops
pub goes_on : (walk next : Walked) (xs ys : List Event) → run walk xs ≡ Done next → run walk (xs ++ ys) ≡ run next ys
goes_on walk next xs ys done = run-append walk xs ys ∙ ap (λ outcome. on_done outcome (λ last. run last ys)) done

pub stops : (walk : Walked) (page : ℕ) (xs ys : List Event) → run walk xs ≡ Fault page → run walk (xs ++ ys) ≡ Fault page
stops walk page xs ys fault = run-append walk xs ys ∙ ap (λ outcome. on_done outcome (λ last. run last ys)) fault

pub goes_on_step : (walk next : Walked) (event : Event) (ys : List Event) → step walk event ≡ Done next → run walk (event ∷ ys) ≡ run next ys
unfolding run
goes_on_step walk next event ys done = ap (λ outcome. on_done outcome (λ last. run last ys)) done

pub stops_step : (walk : Walked) (page : ℕ) (event : Event) (ys : List Event) → step walk event ≡ Fault page → run walk (event ∷ ys) ≡ Fault page
unfolding run
stops_step walk page event ys fault = ap (λ outcome. on_done outcome (λ last. run last ys)) fault

pub run-none : (walk : Walked) → run walk [] ≡ Done walk
unfolding run
run-none walk = refl

-- an error that answers a walk answers each that goes on from there
pub answers_more : (error : WalkError) (first second : Outcome) → ((page : ℕ) → first ≡ Fault page → second ≡ Fault page) → AnswersFault error first → AnswersFault error second
answers_more (Memory fault) first second more answers = tt
answers_more Failed first second more answers = tt
answers_more (Corrupt page) first second more answers = more page answers

pub answers_front : (error : WalkError) (walk : Walked) (xs ys : List Event) → AnswersFault error (run walk xs) → AnswersFault error (run walk (xs ++ ys))
answers_front error walk xs ys = answers_more error (run walk xs) (run walk (xs ++ ys)) (λ page. stops walk page xs ys)

pub answers_step : (error : WalkError) (walk : Walked) (event : Event) (ys : List Event) → AnswersFault error (step walk event) → AnswersFault error (run walk (event ∷ ys))
answers_step error walk event ys = answers_more error (step walk event) (run walk (event ∷ ys)) (λ page. stops_step walk page event ys)

-- an outcome that is the same is answered the same
pub answers_same : (error : WalkError) (first second : Outcome) → second ≡ first → AnswersFault error first → AnswersFault error second
answers_same error first second same = answers_more error first second (λ page fault. same ∙ fault)

-- walks one behind the other are answered as the last one is
pub meets_on : {T : Type 0} (result : Result T WalkError) (walk mid last : Walked) (xs ys : List Event) → run walk xs ≡ Done mid → Meets result last (run mid ys) → Meets result last (run walk (xs ++ ys))
meets_on result walk mid last xs ys done meets = subst (λ (outcome : Outcome). Meets result last outcome) (sym (goes_on walk mid xs ys done)) meets

pub meets_step : {T : Type 0} (result : Result T WalkError) (walk mid last : Walked) (event : Event) (ys : List Event) → step walk event ≡ Done mid → Meets result last (run mid ys) → Meets result last (run walk (event ∷ ys))
meets_step result walk mid last event ys done meets = subst (λ (outcome : Outcome). Meets result last outcome) (sym (goes_on_step walk mid event ys done)) meets

pub run-one : (walk : Walked) (event : Event) → run walk (event ∷ []) ≡ step walk event
run-one walk event = by (step walk event) refl
  where
    by : (outcome : Outcome) → step walk event ≡ outcome → run walk (event ∷ []) ≡ outcome
    by (Done mid) is = goes_on_step walk mid event [] is ∙ run-none mid
    by (Fault page) is = stops_step walk page event [] is

pub meets_one : {T : Type 0} (result : Result T WalkError) (walk last : Walked) (event : Event) → Meets result last (step walk event) → Meets result last (run walk (event ∷ []))
meets_one result walk last event meets = subst (λ (outcome : Outcome). Meets result last outcome) (sym (run-one walk event)) meets

-- an outcome that is the same is met the same
pub meets_same : {T : Type 0} (result : Result T WalkError) (last : Walked) (first second : Outcome) → second ≡ first → Meets result last first → Meets result last second
meets_same result last first second same meets = subst (λ (outcome : Outcome). Meets result last outcome) (sym same) meets
