-- The book of a state's candidate: its words, pairs and relations 0 to 6, read off the state.
use Rattle.std.specs.Prelude.{ℕ, ◌<◌, Bool, true, false, ◌&&◌, ◌||◌, not, List, [], ◌∷◌, ◌≡◌, T, get_or}
use Rattle.std.proofs.Math.Bool.{and-true}
use Rattle.std.proofs.Common.{◌∙◌, T_not}
use Rattle.std.proofs.Math.Dec.{eqb}
use borrow.Author.Tests.{lt-ltb}
use Rattle.rows.specs.Sets.{never}
use Rattle.rows.specs.Numbers.{listed}
use Rattle.rows.specs.Laws.Truth.{and_l, and_r, or_l, or_r}
use Rattle.rows.specs.Laws.Sets.{within_at}
use Rattle.rows.specs.Laws.Lists.{listed_at}
use Rattle.rows.proofs.Laws.Bits.{rows_bit}
use Rattle.model.specs.declared.Action.{Action}
use Rattle.model.specs.declared.ActionKind.{ActionKind}
use Rattle.model.specs.Actions.{order_in, no_action}
use Rattle.model.specs.Candidates.{among}
use Rattle.model.specs.Words.{word, placed, book_from}
use Rattle.model.specs.Model.{Book, entered}
use Rattle.model.specs.Judge.{book}
use Rattle.machine.specs.Machine.{is_kind, is_order, taken, ordered, State, thread_at, place_at, sb_of, asw_of, rf_of, mo_of, candidate}
use Rattle.console.specs.Laws.Late.{either}
use Rattle.console.specs.Laws.Kept.{by_kind}

-- ---- kinds and orders

-- q, where p implies it and holds
implies : (p q : Bool) → T (not p || q) → T p → T q
implies true q t u = t
implies false q t u = absurd u

-- each of the machine's kinds, 3, 4 and 5, that the first list has, the second has
abbrev inside : List ℕ → List ℕ → ℕ → Bool
inside ks ls j = not (among j ks) || among j ls

abbrev pub taking : List ℕ → List ℕ → Bool
taking ks ls = inside ks ls 3 && inside ks ls 4 && inside ks ls 5

-- so an action of the machine that is of one of the first is of one of the second
pub kinds_in : (k : ActionKind) (ks ls : List ℕ) → T (taking ks ls) → T (taken k) → T (is_kind ks k) → T (is_kind ls k)
kinds_in k ks ls c =
    let three : T (inside ks ls 3) = search (and_l) in
    let four : T (inside ks ls 4) = search (and_l, and_r) in
    let five : T (inside ks ls 5) = search (and_r) in
    by_kind (λ j. T (among j ks) → T (among j ls)) (implies (among 3 ks) (among 3 ls) three) (implies (among 4 ks) (among 4 ls) four) (implies (among 5 ks) (among 5 ls) five) k

-- every action of the machine is atomic
pub atomic_kind : (k : ActionKind) → T (taken k) → T (is_kind (3 ∷ 4 ∷ 5 ∷ []) k)
unfolding taken
atomic_kind k t = search (and_l)

-- no action of the machine is seq_cst or consume
pub no_seq_cst : (k : ActionKind) → T (taken k) → T (is_order (6 ∷ []) k) → ⊥
unfolding taken
no_seq_cst k t u =
    let free : T (not (is_order (2 ∷ 6 ∷ []) k)) = search (and_r) in
    T_not (is_order (2 ∷ 6 ∷ []) k) free (search (or_r))

pub no_consume : (k : ActionKind) → T (taken k) → T (is_order (2 ∷ []) k) → ⊥
unfolding taken
no_consume k t u =
    let free : T (not (is_order (2 ∷ 6 ∷ []) k)) = search (and_r) in
    either (eqb (order_in k) 2) false (λ e. T_not (is_order (2 ∷ 6 ∷ []) k) free (search (or_l))) absurd u

-- loads and stores have orders that rule 1 allows
pub load_allowed : (k : ActionKind) → T (ordered k) → T (is_kind (3 ∷ []) k) → T (is_order (1 ∷ 2 ∷ 3 ∷ 6 ∷ []) k)
unfolding ordered
load_allowed k t = implies (is_kind (3 ∷ []) k) (is_order (1 ∷ 2 ∷ 3 ∷ 6 ∷ []) k) (search (and_l))

pub store_allowed : (k : ActionKind) → T (ordered k) → T (is_kind (4 ∷ []) k) → T (is_order (1 ∷ 4 ∷ 6 ∷ []) k)
unfolding ordered
store_allowed k t = implies (is_kind (4 ∷ []) k) (is_order (1 ∷ 4 ∷ 6 ∷ []) k) (search (and_r))

-- ---- the book

module _ (σ : State) where
  abbrev ρ : Book
  ρ = book (candidate σ)

  -- an action as the candidate lists it
  abbrev drawn : ℕ → Action
  drawn a = get_or (listed σ.n σ.act) a no_action

  drawn_is : (a : ℕ) → a < σ.n → drawn a ≡ σ.act a
  drawn_is a l = listed_at σ.act σ.n a no_action l

  -- the words of an action: its place is atomic
  pub word_is : (w a : ℕ) → a < σ.n → place_at σ a < σ.p → ρ 18 w a ≡ word w (σ.act a) 2
  unfolding candidate book_from entered
  word_is w a l h = rw (drawn_is a l, listed_at {A = ℕ} (λ i. 2) σ.p (place_at σ a) 3 h, lt-ltb a σ.n l) (and-true (word w (σ.act a) 2))

  -- pairs of actions
  pub place_is : (a b : ℕ) → a < σ.n → b < σ.n → ρ 19 a b ≡ placed (σ.act a) (σ.act b)
  unfolding candidate book_from entered
  place_is a b la lb = within_at σ.n (λ a b. placed (drawn a) (drawn b)) a b la lb ∙ rw (drawn_is a la, drawn_is b lb)

  pub thread_is : (a b : ℕ) → a < σ.n → b < σ.n → ρ 20 a b ≡ eqb (thread_at σ a) (thread_at σ b)
  unfolding candidate book_from entered
  thread_is a b la lb = within_at σ.n (λ a b. eqb (drawn a).thread (drawn b).thread) a b la lb ∙ rw (drawn_is a la, drawn_is b lb)

  pub value_is : (a b : ℕ) → a < σ.n → b < σ.n → ρ 21 a b ≡ eqb (σ.act a).written (σ.act b).read
  unfolding candidate book_from entered
  value_is a b la lb = within_at σ.n (λ a b. eqb (drawn a).written (drawn b).read) a b la lb ∙ rw (drawn_is a la, drawn_is b lb)

  -- relations 0 to 6
  pub sb_is : (a b : ℕ) → a < σ.n → b < σ.n → ρ 0 a b ≡ sb_of σ a b
  unfolding candidate book_from entered
  sb_is = rows_bit σ.n (sb_of σ)

  pub asw_is : (a b : ℕ) → a < σ.n → b < σ.n → ρ 1 a b ≡ asw_of σ a b
  unfolding candidate book_from entered
  asw_is = rows_bit σ.n (asw_of σ)

  pub dd_is : (a b : ℕ) → a < σ.n → b < σ.n → ρ 2 a b ≡ false
  unfolding candidate book_from entered
  dd_is = rows_bit σ.n never

  pub cd_is : (a b : ℕ) → a < σ.n → b < σ.n → ρ 3 a b ≡ false
  unfolding candidate book_from entered
  cd_is = rows_bit σ.n never

  pub rf_is : (a b : ℕ) → a < σ.n → b < σ.n → ρ 4 a b ≡ rf_of σ a b
  unfolding candidate book_from entered
  rf_is = rows_bit σ.n (rf_of σ)

  pub sc_is : (a b : ℕ) → a < σ.n → b < σ.n → ρ 5 a b ≡ false
  unfolding candidate book_from entered
  sc_is = rows_bit σ.n never

  pub mo_is : (a b : ℕ) → a < σ.n → b < σ.n → ρ 6 a b ≡ mo_of σ a b
  unfolding candidate book_from entered
  mo_is = rows_bit σ.n (mo_of σ)
