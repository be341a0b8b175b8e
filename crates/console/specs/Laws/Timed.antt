-- What the theorem needs of a candidate's book: each action has the step at which it was issued and the step at which it was settled: a read or an RMW at once, a store when it arrived in memory.
use Rattle.std.specs.Prelude.{ℕ, ◌<◌, ◌≤◌, ◌≡◌, ◌⊎◌, T}
use Rattle.model.specs.Model.{Book, Sb, Asw, Dd, Cd, Rf, Sc, Mo, read, write, atomic, plain, fence, lock, unlock, rmw, seq_cst, sc_action, release, consume, at_mutex, at_plain, at_atomic, atomic_load, atomic_store, load_order, store_order, same_place, same_thread, same_value}

pub record Timed (n : ℕ) (ρ : Book) : Type 0 where
  pub thread : ℕ → ℕ
  pub place : ℕ → ℕ
  pub issued : ℕ → ℕ
  pub settled : ℕ → ℕ
  -- ---- words
  pub atomic_all : (a : ℕ) → a < n → T (atomic n ρ a)
  pub at_atomic_lem : (a : ℕ) → a < n → T (at_atomic n ρ a)
  pub no_mutex : (a : ℕ) → a < n → T (at_mutex n ρ a) → ⊥
  pub no_plain_place : (a : ℕ) → a < n → T (at_plain n ρ a) → ⊥
  pub no_plain : (a : ℕ) → a < n → T (plain n ρ a) → ⊥
  pub no_fence : (a : ℕ) → a < n → T (fence n ρ a) → ⊥
  pub no_lock : (a : ℕ) → a < n → T (lock n ρ a) → ⊥
  pub no_unlock : (a : ℕ) → a < n → T (unlock n ρ a) → ⊥
  pub no_sc_action : (a : ℕ) → a < n → T (sc_action n ρ a) → ⊥
  pub no_seq_cst : (a : ℕ) → a < n → T (seq_cst n ρ a) → ⊥
  pub no_consume : (a : ℕ) → a < n → T (consume n ρ a) → ⊥
  pub load_order_lem : (a : ℕ) → a < n → T (atomic_load n ρ a) → T (load_order n ρ a)
  pub store_order_lem : (a : ℕ) → a < n → T (atomic_store n ρ a) → T (store_order n ρ a)
  pub load_reads : (a : ℕ) → a < n → T (atomic_load n ρ a) → T (read n ρ a)
  pub rmw_reads : (a : ℕ) → a < n → T (rmw n ρ a) → T (read n ρ a)
  pub rmw_writes : (a : ℕ) → a < n → T (rmw n ρ a) → T (write n ρ a)
  pub release_writes : (a : ℕ) → a < n → T (release n ρ a) → T (write n ρ a)
  -- ---- pairs of actions
  pub place_e : (a b : ℕ) → a < n → b < n → T (same_place n ρ a b) → place a ≡ place b
  pub place_i : (a b : ℕ) → a < n → b < n → place a ≡ place b → T (same_place n ρ a b)
  pub thread_e : (a b : ℕ) → a < n → b < n → T (same_thread n ρ a b) → thread a ≡ thread b
  pub thread_i : (a b : ℕ) → a < n → b < n → thread a ≡ thread b → T (same_thread n ρ a b)
  pub no_dd : (a b : ℕ) → a < n → b < n → T (Dd n ρ a b) → ⊥
  pub no_cd : (a b : ℕ) → a < n → b < n → T (Cd n ρ a b) → ⊥
  pub no_sc : (a b : ℕ) → a < n → b < n → T (Sc n ρ a b) → ⊥
  -- ---- sb by step order in each thread
  pub sb_thread : (a b : ℕ) → a < n → b < n → T (Sb n ρ a b) → thread a ≡ thread b
  pub sb_up : (a b : ℕ) → a < n → b < n → T (Sb n ρ a b) → a < b
  pub sb_i : (a b : ℕ) → b < n → thread a ≡ thread b → a < b → T (Sb n ρ a b)
  -- ---- times
  pub rises : (a b : ℕ) → a < b → b < n → issued a < issued b
  pub late : (a : ℕ) → a < n → issued a ≤ settled a
  pub at_once : (a : ℕ) → a < n → T (read n ρ a) → settled a ≡ issued a
  pub fifo : (a b : ℕ) → a < b → b < n → thread a ≡ thread b → T (write n ρ b) → settled a < settled b
  pub apart : (a b : ℕ) → a < n → b < n → T (write n ρ a) → T (write n ρ b) → settled a ≡ settled b → a ≡ b
  -- ---- mo by arrival in memory
  pub mo_from : (a b : ℕ) → a < n → b < n → T (Mo n ρ a b) → T (write n ρ a)
  pub mo_to : (a b : ℕ) → a < n → b < n → T (Mo n ρ a b) → T (write n ρ b)
  pub mo_place : (a b : ℕ) → a < n → b < n → T (Mo n ρ a b) → place a ≡ place b
  pub mo_up : (a b : ℕ) → a < n → b < n → T (Mo n ρ a b) → settled a < settled b
  pub mo_i : (a b : ℕ) → a < n → b < n → T (write n ρ a) → T (write n ρ b) → place a ≡ place b → settled a < settled b → T (Mo n ρ a b)
  -- ---- a read takes the write of its place that is settled last, of those in memory by then or before it in its thread
  pub rf_from : (a b : ℕ) → a < n → b < n → T (Rf n ρ a b) → T (write n ρ a)
  pub rf_to : (a b : ℕ) → a < n → b < n → T (Rf n ρ a b) → T (read n ρ b)
  pub rf_place : (a b : ℕ) → a < n → b < n → T (Rf n ρ a b) → place a ≡ place b
  pub rf_value : (a b : ℕ) → a < n → b < n → T (Rf n ρ a b) → T (same_value n ρ a b)
  pub rf_seen : (a b : ℕ) → a < n → b < n → T (Rf n ρ a b) → (settled a < issued b) ⊎ ((thread a ≡ thread b) × (a < b))
  pub rf_last : (a b c : ℕ) → a < n → b < n → c < n → T (Rf n ρ a b) → T (write n ρ c) → place c ≡ place b
      → (settled c < issued b) ⊎ ((thread c ≡ thread b) × (c < b)) → settled c ≤ settled a
  pub rf_some : (b c : ℕ) → b < n → c < n → T (read n ρ b) → T (write n ρ c) → place c ≡ place b
      → (settled c < issued b) ⊎ ((thread c ≡ thread b) × (c < b)) → (a : ℕ) × (a < n) × T (Rf n ρ a b)
  -- ---- asw: by the time that b was issued, all of a's thread up to a was settled
  pub started : (a b c : ℕ) → a < n → b < n → c ≤ a → thread c ≡ thread a → T (Asw n ρ a b) → settled c < issued b
  -- ---- every load comes after a first write of its place: w up to y, y asw z, z up to the load
  pub first : (b : ℕ) → b < n → T (atomic_load n ρ b)
      → (w : ℕ) × (y : ℕ) × (z : ℕ) × (w ≤ y) × (y < n) × (z ≤ b) × T (write n ρ w) × (place w ≡ place b) × (thread w ≡ thread y) × T (Asw n ρ y z) × (thread z ≡ thread b)
