-- Searches of small drawings with growing budgets, and of classic tests, by computation.
use Rattle.std.specs.Prelude.{ℕ, ◌*◌, List, [], ◌∷◌, map, ◌≡◌, refl, length}
use Rattle.rows.specs.Numbers.{joined}
use Rattle.model.specs.declared.Action.{Action}
use Rattle.model.specs.declared.MemoryOrder.{MemoryOrder}
use Rattle.model.specs.declared.MemoryOrder.TheVariants.{Relaxed, Acquire, Release, SeqCst}
use Rattle.model.specs.Candidates.{Candidate}
use Rattle.model.specs.Drawings.{◌⟶◌, store, load, stores, loads, rmws, drawing, computing}
use Rattle.choices.specs.declared.Outcome.{Outcome}
use Rattle.choices.specs.declared.Outcome.TheVariants.{Found, None, Undecided}
use Rattle.choices.specs.Outcomes.{place, outcome}
use Rattle.choices.specs.Lists.{each_of, product, orders, chained, taken}
use Rattle.choices.specs.Halves.{passed, choices_of, candidates}

-- all that is opened to compute an answer
unfoldable searching : ℕ
unfolding computing joined each_of product orders chained taken place outcome passed choices_of candidates
searching = 0

-- what a search answers with each of these budgets
abbrev searched : Candidate → List ℕ → List Outcome
searched X budgets = map (λ b. outcome passed (candidates X) b) budgets

-- N=0: the empty list of choices but for the order of no SC action
pub nothing_searched : searched (drawing [] [] 0 [] [] [] [] [] []) (0 ∷ 1 ∷ []) ≡ Undecided 0 ∷ Found 1 ∷ []
unfolding searching
nothing_searched = refl

-- one thread stores 7 and loads it: with source none rule 15 or 17 is broken, with the store all hold
pub load_searched : searched (drawing (1 ∷ []) (store 0 0 7 ∷ load 0 0 7 ∷ []) 1 ((0 ⟶ 1) ∷ []) [] [] [] [] []) (0 ∷ 1 ∷ 2 ∷ 3 ∷ []) ≡ Undecided 0 ∷ Undecided 1 ∷ Found 2 ∷ Found 2 ∷ []
unfolding searching
load_searched = refl

-- it loads another value: none of both
pub other_searched : searched (drawing (1 ∷ []) (store 0 0 7 ∷ load 0 0 6 ∷ []) 1 ((0 ⟶ 1) ∷ []) [] [] [] [] []) (1 ∷ 2 ∷ 3 ∷ []) ≡ Undecided 1 ∷ None 2 ∷ None 2 ∷ []
unfolding searching
other_searched = refl

-- an RMW alone is a write of its place, too: itself is its second source
pub rmw_listed : length (candidates (drawing (2 ∷ []) (rmws Relaxed 0 0 1 1 ∷ []) 1 [] [] [] [] [] [])) ≡ 2
unfolding searching
rmw_listed = refl

-- ---- the classic tests: places x and y, both atomic; thread 0 writes 0 to both, threads 1 and 2 act twice each

abbrev threads : (ℕ → ℕ → ℕ → Action) → List Action → Candidate
threads first acts = drawing (2 ∷ 2 ∷ []) (first 0 0 0 ∷ first 0 1 0 ∷ acts) 3 ((0 ⟶ 1) ∷ (2 ⟶ 3) ∷ (4 ⟶ 5) ∷ []) ((1 ⟶ 2) ∷ (1 ⟶ 4) ∷ []) [] [] [] []

-- store buffering: x=1, read y=0; y=1, read x=0
abbrev store_buffering : (ℕ → ℕ → ℕ → Action) → MemoryOrder → Candidate
store_buffering first m = threads first (stores m 1 0 1 ∷ loads m 1 1 0 ∷ stores m 2 1 1 ∷ loads m 2 0 0 ∷ [])

-- message passing with the stale read: x=1, y=1; read y=1, read x=0
abbrev message_passing : MemoryOrder → MemoryOrder → Candidate
message_passing given taken = threads (stores Relaxed) (stores Relaxed 1 0 1 ∷ stores given 1 1 1 ∷ loads taken 2 1 1 ∷ loads Relaxed 2 0 0 ∷ [])

-- load buffering: read x=1, y=1; read y=1, x=1
abbrev load_buffering : Candidate
load_buffering = threads (stores Relaxed) (loads Relaxed 1 0 1 ∷ stores Relaxed 1 1 1 ∷ loads Relaxed 2 1 1 ∷ stores Relaxed 2 0 1 ∷ [])

-- Two reads of three sources, two places of two orders; store buffering with seq_cst accesses and plain first writes has 24 orders of sc, too.
pub classic_listed : length (candidates (store_buffering (stores Relaxed) Relaxed)) ∷ length (candidates (store_buffering store SeqCst)) ∷ [] ≡ 3 * 3 * 2 * 2 ∷ 3 * 3 * 2 * 2 * 24 ∷ []
unfolding searching
classic_listed = refl

-- Store buffering relaxed is found, message passing by release and acquire is not, relaxed it is, and so is load buffering relaxed.
pub classic_searched : map (λ X. outcome passed (candidates X) 36) (store_buffering (stores Relaxed) Relaxed ∷ message_passing Release Acquire ∷ message_passing Relaxed Relaxed ∷ load_buffering ∷ [])
    ≡ Found 17 ∷ None 36 ∷ Found 29 ∷ Found 33 ∷ []
unfolding searching
classic_searched = refl
