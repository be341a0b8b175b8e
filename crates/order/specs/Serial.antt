-- Demand 3: when the serial order is due, and what it is. Definitions only; Laws.Order has the theorem.
use Rattle.std.specs.Prelude.{ℕ, ◌<◌, not, ◌||◌, List, ◌≡◌, T, eqb, length, get_or}
use Rattle.model.specs.declared.Verdict.TheVariants.{Passed}
use Rattle.model.specs.Candidates.{Candidate}
use Rattle.model.specs.Model.{Book, Sb, Asw, Rf, Sc, DataRaces, UnsequencedRaces, read, write, plain, atomic, fence, lock, unlock, seq_cst, at_atomic, same_place, same_thread}
use Rattle.model.specs.Judge.{book, verdict}

-- a plain and an atomic access of one thread at one place, one a write, are sequenced either way
abbrev pub Sequenced : ℕ → Book → Type 0
Sequenced n ρ =
    (a b : ℕ) → a < n → b < n → T (plain n ρ a) → T (atomic n ρ b) → T (same_thread n ρ a b) → T (same_place n ρ a b) → T (write n ρ a || write n ρ b)
    → T (Sb n ρ a b || Sb n ρ b a)

-- By the rules of edition e the serial order is due exactly when
pub record Due (e : ℕ) (n : ℕ) (ρ : Book) : Type 0 where
  -- the candidate is passed,
  pub passed : verdict e n ρ ≡ Passed
  -- has no race,
  pub no_data_race : (a b : ℕ) → a < b → b < n → T (not (DataRaces n ρ a b))
  pub no_unsequenced_race : (a b : ℕ) → a < b → b < n → T (not (UnsequencedRaces n ρ a b))
  -- no indeterminate read
  pub source : (b : ℕ) → b < n → T (read n ρ b) → (a : ℕ) × (a < n) × T (Rf n ρ a b)
  -- and no fence,
  pub no_fence : (a : ℕ) → a < n → T (not (fence n ρ a))
  -- and, in edition 1, every action at an atomic place is a seq_cst atomic action;
  pub places_seq_cst : T (not (eqb e 2)) → (a : ℕ) → a < n → T (at_atomic n ρ a) → T (atomic n ρ a) × T (seq_cst n ρ a)
  -- in edition 2, every atomic action is seq_cst,
  pub actions_seq_cst : T (eqb e 2) → (a : ℕ) → a < n → T (atomic n ρ a) → T (seq_cst n ρ a)
  -- and a plain and an atomic access of one thread at one place, one a write, are sequenced either way.
  pub sequenced : T (eqb e 2) → Sequenced n ρ

-- the action at position i of the order
abbrev pub nth : List ℕ → ℕ → ℕ
nth o i = get_or o i 0

-- The order o lists
pub record Serial (X : Candidate) (o : List ℕ) : Type 0 where
  -- every action once,
  pub size : length o ≡ X.n
  pub bound : (i : ℕ) → i < X.n → nth o i < X.n
  pub whole : (a : ℕ) → a < X.n → (i : ℕ) × (i < X.n) × (nth o i ≡ a)
  pub apart : (i j : ℕ) → i < j → j < X.n → nth o i ≡ nth o j → ⊥
  -- keeps every sb, asw and sc edge;
  pub keeps_sb : (i j : ℕ) → i < X.n → j < X.n → T (Sb X.n (book X) (nth o i) (nth o j)) → i < j
  pub keeps_asw : (i j : ℕ) → i < X.n → j < X.n → T (Asw X.n (book X) (nth o i) (nth o j)) → i < j
  pub keeps_sc : (i j : ℕ) → i < X.n → j < X.n → T (Sc X.n (book X) (nth o i) (nth o j)) → i < j
  -- each read's rf source is an earlier write of its place, with no write of that place between;
  pub reads : (j : ℕ) → j < X.n → T (read X.n (book X) (nth o j))
      → (i : ℕ) × (i < j) × T (Rf X.n (book X) (nth o i) (nth o j))
      × T (write X.n (book X) (nth o i)) × T (same_place X.n (book X) (nth o i) (nth o j))
      × ((k : ℕ) → i < k → k < j → T (write X.n (book X) (nth o k)) → T (same_place X.n (book X) (nth o k) (nth o j)) → ⊥)
  -- each unlock has its own thread's lock of that mutex before it, and nothing on that mutex between.
  pub unlocks : (j : ℕ) → j < X.n → T (unlock X.n (book X) (nth o j))
      → (i : ℕ) × (i < j) × T (lock X.n (book X) (nth o i))
      × T (same_thread X.n (book X) (nth o i) (nth o j)) × T (same_place X.n (book X) (nth o i) (nth o j))
      × ((k : ℕ) → i < k → k < j → T (same_place X.n (book X) (nth o k) (nth o j)) → ⊥)
