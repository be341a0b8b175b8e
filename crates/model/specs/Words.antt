-- The words of the model that speak of single actions and of pairs of actions, and the book that a candidate gives.
use Rattle.std.specs.Prelude.{ℕ, Bool, false, not, ◌&&◌, ◌||◌, List, [], ◌∷◌, eqb, get_or}
use Rattle.rows.specs.Sets.{Rel, never, within, before}
use Rattle.rows.specs.Numbers.{rel}
use Rattle.model.specs.declared.Action.{Action}
use Rattle.model.specs.Actions.{no_action}
use Rattle.model.specs.Candidates.{Candidate, given, kind_is, order_is, reads, writes, is_fence}

-- ---- words of one action

-- Atomic action, or an atomic for short: 3, 4, 5.
abbrev pub is_atomic : Action → Bool
is_atomic = kind_is (3 ∷ 4 ∷ 5 ∷ [])

-- plain accesses (6, 7)
abbrev pub is_plain : Action → Bool
is_plain = kind_is (6 ∷ 7 ∷ [])

abbrev pub locks : Action → Bool
locks = kind_is (1 ∷ [])

abbrev pub unlocks : Action → Bool
unlocks = kind_is (2 ∷ [])

abbrev pub is_rmw : Action → Bool
is_rmw = kind_is (5 ∷ [])

abbrev pub is_seq_cst : Action → Bool
is_seq_cst = order_is (6 ∷ [])

-- SC action: seq_cst, lock or unlock.
abbrev pub is_sc : Action → Bool
is_sc x = is_seq_cst x || locks x || unlocks x

-- Acquire: a read or fence of acquire, acq_rel or seq_cst; a consume fence; a lock.
abbrev pub acquires : Action → Bool
acquires x = ((reads x || is_fence x) && order_is (3 ∷ 5 ∷ 6 ∷ []) x) || (is_fence x && order_is (2 ∷ []) x) || locks x

-- Release: a write or fence of release, acq_rel or seq_cst; an unlock.
abbrev pub releases : Action → Bool
releases x = ((writes x || is_fence x) && order_is (4 ∷ 5 ∷ 6 ∷ []) x) || unlocks x

-- Consume: a read of order consume.
abbrev pub consumes : Action → Bool
consumes x = reads x && order_is (2 ∷ []) x

-- the word of each number, of an action and the kind of its place (0 mutex, 1 non-atomic, 2 atomic, 3 for none):
-- 0 read, 1 write, 2 atomic, 3 plain, 4 fence, 5 lock, 6 unlock, 7 RMW, 8 seq_cst, 9 SC action, 10 acquire, 11 release, 12 consume,
-- 13 at a mutex place, 14 at a non-atomic one, 15 at an atomic one, 16 atomic load, 17 atomic store, 18 an order that rule 1 gives a load, 19 a store
abbrev pub word_list : List (Action → ℕ → Bool)
word_list =
    (λ x q. reads x)
    ∷ (λ x q. writes x)
    ∷ (λ x q. is_atomic x)
    ∷ (λ x q. is_plain x)
    ∷ (λ x q. is_fence x)
    ∷ (λ x q. locks x)
    ∷ (λ x q. unlocks x)
    ∷ (λ x q. is_rmw x)
    ∷ (λ x q. is_seq_cst x)
    ∷ (λ x q. is_sc x)
    ∷ (λ x q. acquires x)
    ∷ (λ x q. releases x)
    ∷ (λ x q. consumes x)
    ∷ (λ x q. eqb q 0)
    ∷ (λ x q. eqb q 1)
    ∷ (λ x q. eqb q 2)
    ∷ (λ x q. kind_is (3 ∷ []) x)
    ∷ (λ x q. kind_is (4 ∷ []) x)
    ∷ (λ x q. order_is (1 ∷ 2 ∷ 3 ∷ 6 ∷ []) x)
    ∷ (λ x q. order_is (1 ∷ 4 ∷ 6 ∷ []) x)
    ∷ []

unfoldable pub word : ℕ → Action → ℕ → Bool
word w = get_or word_list w (λ x q. false)

-- ---- of two actions

-- Same place: both have a place and it is equal.
abbrev pub placed : Action → Action → Bool
placed x y = not (is_fence x) && not (is_fence y) && eqb x.place y.place

-- ---- the book of a candidate

module _ (n : ℕ) (acts : List Action) (places : List ℕ) where
  abbrev pub act : ℕ → Action
  act a = get_or acts a no_action

  -- a fence's place has no kind
  abbrev pub place_kind : ℕ → ℕ
  place_kind a = get_or places (act a).place 3

  -- row w: the actions that have word w
  abbrev pub word_rows : Rel
  word_rows w = before (λ a. word w (act a) (place_kind a)) n

  abbrev pub place_rows : Rel
  place_rows = within n λ a b. placed (act a) (act b)

  abbrev pub thread_rows : Rel
  thread_rows = within n λ a b. eqb (act a).thread (act b).thread

  -- value written = value read
  abbrev pub value_rows : Rel
  value_rows = within n λ a b. eqb (act a).written (act b).read

-- Relations by number: 0 to 6 as given by σ, 7 to 17 still to be worked out, 18 the words, 19 same place, 20 same thread, 21 value written = value read.
unfoldable pub book_from : ℕ → List Action → List ℕ → (ℕ → Rel) → ℕ → Rel
book_from n acts places σ k =
    get_or
    (σ 0 ∷ σ 1 ∷ σ 2 ∷ σ 3 ∷ σ 4 ∷ σ 5 ∷ σ 6
    ∷ never ∷ never ∷ never ∷ never ∷ never ∷ never ∷ never ∷ never ∷ never ∷ never ∷ never
    ∷ word_rows n acts places ∷ place_rows n acts places ∷ thread_rows n acts places ∷ value_rows n acts places ∷ [])
    k
    never

abbrev pub book_of : Candidate → ℕ → Rel
book_of X = book_from X.n X.acts X.places λ k. rel (get_or (given X) k [])
