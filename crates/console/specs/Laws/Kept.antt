-- What every state of the machine keeps.
use Rattle.std.specs.Prelude.{ℕ, zero, suc, ◌<◌, ◌≤◌, Bool, true, false, ◌||◌, not, cond, [], ◌∷◌, ◌≡◌, refl, ◌⊎◌, T, eqb}
use Rattle.std.proofs.Common.{sym, subst, inl, inr, ⊎_elim, arith, not-suc-le-zero}
use Rattle.rows.specs.Sets.{Set}
use Rattle.rows.specs.Laws.Truth.{top, true_T}
use Rattle.model.specs.declared.ActionKind.{ActionKind}
use Rattle.model.specs.declared.ActionKind.TheVariants.{Lock, Unlock, AtomicLoad, AtomicStore, ReadModifyWrite, Load, Store, Fence}
use Rattle.model.specs.Actions.{kind_number}
use Rattle.model.specs.Candidates.{among, Values}
use Rattle.machine.specs.Machine.{put, latest, is_kind, taken, ordered, most_traced, State, start, thread_at, place_at, write_at, read_at, in_memory}

-- ---- the latest number that passes

-- m is one more than the greatest number below n that passes f, or 0
pub record Latest (n : ℕ) (f : Set) (m : ℕ) : Type 0 where
  pub miss : (c : ℕ) → m ≤ c → c < n → T (f c) → ⊥
  pub hit : (w : ℕ) → m ≡ suc w → (w < n) × T (f w)

-- such is `latest`
pub latest_is : (n : ℕ) (f : Set) → Latest n f (latest n f)
unfolding latest
latest_is zero f = record { miss = λ c l h t. not-suc-le-zero h; hit = λ w e. absurd (omega arith) }
latest_is (suc n) f = go (latest_is n f) (f n) refl
  where
    go : Latest n f (latest n f) → (b : Bool) → f n ≡ b → Latest (suc n) f (cond b (suc n) (latest n f))
    go I true e = record { miss = λ c l h t. omega arith; hit = λ w q. let z : n ≡ w = omega arith in (omega arith, subst (λ (x : ℕ). T (f x)) z (true_T e)) }
    go I false e =
        record {
          miss = λ c l h t. ⊎_elim (λ (q : c ≡ n). let u : T (f n) = subst (λ (x : ℕ). T (f x)) q t in rw e at u) (λ (q : c < n). I.miss c l q t) (top c n h);
          hit = λ w q. let (l, t) = I.hit w q in (omega arith, t);
        }

-- ---- kinds

-- a kind that is taken is 3, 4 or 5
pub kind_cases : (k : ActionKind) → T (taken k) → (kind_number k ≡ 3) ⊎ ((kind_number k ≡ 4) ⊎ (kind_number k ≡ 5))
unfolding taken
kind_cases Lock t = absurd t
kind_cases Unlock t = absurd t
kind_cases (AtomicLoad m) t = inl refl
kind_cases (AtomicStore m) t = inr (inl refl)
kind_cases (ReadModifyWrite m) t = inr (inr refl)
kind_cases Load t = absurd t
kind_cases Store t = absurd t
kind_cases (Fence m) t = absurd t

-- what holds of 3, 4 and 5 holds of every kind that is taken
pub by_kind : (P : ℕ → Type 0) → P 3 → P 4 → P 5 → (k : ActionKind) → T (taken k) → P (kind_number k)
by_kind P p q r k t =
    ⊎_elim (λ (e : kind_number k ≡ 3). subst P (sym e) p) (⊎_elim (λ (e : kind_number k ≡ 4). subst P (sym e) q) (λ (e : kind_number k ≡ 5). subst P (sym e) r)) (kind_cases k t)

-- a write that is no store is an RMW
pub write_rmw : (k : ActionKind) → T (taken k) → T (is_kind (4 ∷ 5 ∷ 7 ∷ []) k) → T (not (is_kind (4 ∷ []) k)) → T (is_kind (5 ∷ []) k)
write_rmw = by_kind (λ m. T (among m (4 ∷ 5 ∷ 7 ∷ [])) → T (not (among m (4 ∷ []))) → T (among m (5 ∷ []))) (λ w s. w) (λ w s. s) (λ w s. tt)

-- a store writes
pub store_writes : (k : ActionKind) → T (taken k) → T (is_kind (4 ∷ []) k) → T (is_kind (4 ∷ 5 ∷ 7 ∷ []) k)
store_writes = by_kind (λ m. T (among m (4 ∷ [])) → T (among m (4 ∷ 5 ∷ 7 ∷ []))) (λ w. w) (λ w. tt) (λ w. tt)

-- a store does not read
pub store_not_read : (k : ActionKind) → T (taken k) → T (is_kind (4 ∷ []) k) → T (is_kind (3 ∷ 5 ∷ 6 ∷ []) k) → ⊥
store_not_read = by_kind (λ m. T (among m (4 ∷ [])) → T (among m (3 ∷ 5 ∷ 6 ∷ [])) → ⊥) (λ w r. w) (λ w r. r) (λ w r. w)

-- an RMW writes
pub rmw_writes : (k : ActionKind) → T (taken k) → T (is_kind (5 ∷ []) k) → T (is_kind (4 ∷ 5 ∷ 7 ∷ []) k)
rmw_writes = by_kind (λ m. T (among m (5 ∷ [])) → T (among m (4 ∷ 5 ∷ 7 ∷ []))) (λ w. w) (λ w. tt) (λ w. tt)

-- an RMW is no store
pub rmw_not_store : (k : ActionKind) → T (taken k) → T (is_kind (5 ∷ []) k) → T (not (is_kind (4 ∷ []) k))
rmw_not_store = by_kind (λ m. T (among m (5 ∷ [])) → T (not (among m (4 ∷ [])))) (λ w. tt) (λ w. w) (λ w. tt)

-- the machine's reads are the kinds 3 and 5
pub read_kinds : (k : ActionKind) → T (taken k) → is_kind (3 ∷ 5 ∷ []) k ≡ is_kind (3 ∷ 5 ∷ 6 ∷ []) k
read_kinds = by_kind (λ m. among m (3 ∷ 5 ∷ []) ≡ among m (3 ∷ 5 ∷ 6 ∷ [])) refl refl refl

-- and its writes the kinds 4 and 5
pub write_kinds : (k : ActionKind) → T (taken k) → is_kind (4 ∷ 5 ∷ []) k ≡ is_kind (4 ∷ 5 ∷ 7 ∷ []) k
write_kinds = by_kind (λ m. among m (4 ∷ 5 ∷ []) ≡ among m (4 ∷ 5 ∷ 7 ∷ [])) refl refl refl

-- ---- what is kept

-- an action that the machine takes
pub record Good (σ : State) (a : ℕ) : Type 0 where
  pub takes : T (taken (σ.act a).what)
  pub orders : T (ordered (σ.act a).what)
  pub thread_lt : thread_at σ a < σ.t
  pub place_lt : place_at σ a < σ.p
  pub written_ok : T (is_kind (4 ∷ 5 ∷ []) (σ.act a).what || eqb (σ.act a).written 0)
  pub read_ok : T (is_kind (3 ∷ 5 ∷ []) (σ.act a).what || eqb (σ.act a).read 0)
  pub values : Values (σ.act a)

-- The clock of a run, which the machine itself does not keep: the step at which each action was done; the step at which it was settled, a load or an RMW when it was done,
-- a store when it arrived in memory; and the number of steps so far.
pub record Clock : Type 0 where
  pub issued : ℕ → ℕ
  pub settled : ℕ → ℕ
  pub now : ℕ

-- memory at a place: unwritten, or w's, the last to arrive
pub record Unwritten (σ : State) (q : ℕ) : Type 0 where
  pub holds : σ.memory q ≡ 0
  pub none : (a : ℕ) → a < σ.n → T (in_memory σ a) → place_at σ a ≡ q → ⊥

pub record Written (σ : State) (κ : Clock) (q w : ℕ) : Type 0 where
  pub holds : σ.memory q ≡ suc w
  pub below : w < σ.n
  pub there : T (in_memory σ w)
  pub place : place_at σ w ≡ q
  pub last : (a : ℕ) → a < σ.n → T (in_memory σ a) → place_at σ a ≡ q → κ.settled a ≤ κ.settled w

module _ (σ : State) (κ : Clock) where
  -- c is a write of r's thread and place
  pub record Mine (r c : ℕ) : Type 0 where
    pub writes : T (write_at σ c)
    pub thread : thread_at σ c ≡ thread_at σ r
    pub place : place_at σ c ≡ place_at σ r

  -- no store of r's own waited for r's place when r was done
  abbrev pub Fresh : ℕ → Type 0
  Fresh r = (c : ℕ) → c < r → Mine r c → T (not (σ.waiting c)) × (κ.settled c < κ.issued r)

  -- r read from its own queue
  pub record FromQueue (r w : ℕ) : Type 0 where
    pub from : σ.source r ≡ suc w
    pub value : (σ.act r).read ≡ (σ.act w).written
    pub before : w < r
    pub mine : Mine r w
    pub pending : T (σ.waiting w) ⊎ (κ.issued r < κ.settled w)
    pub newest : (c : ℕ) → w < c → c < r → Mine r c → ⊥

  -- r read from memory
  pub record FromMemory (r w : ℕ) : Type 0 where
    pub from : σ.source r ≡ suc w
    pub value : (σ.act r).read ≡ (σ.act w).written
    pub below : w < σ.n
    pub there : T (in_memory σ w)
    pub place : place_at σ w ≡ place_at σ r
    pub by_then : κ.settled w < κ.issued r
    pub last : (c : ℕ) → c < σ.n → T (in_memory σ c) → place_at σ c ≡ place_at σ r → κ.settled c < κ.issued r → κ.settled c ≤ κ.settled w
    pub fresh : Fresh r

  -- r read unwritten memory
  pub record FromNothing (r : ℕ) : Type 0 where
    pub from : σ.source r ≡ 0
    pub value : (σ.act r).read ≡ 0
    pub none : (c : ℕ) → c < σ.n → T (in_memory σ c) → place_at σ c ≡ place_at σ r → κ.settled c < κ.issued r → ⊥
    pub fresh : Fresh r

  -- one of the three
  abbrev pub Source : ℕ → Type 0
  Source r = ((w : ℕ) × FromQueue r w) ⊎ (((w : ℕ) × FromMemory r w) ⊎ FromNothing r)

-- a arrived at b's place before b
pub record Ahead (σ : State) (κ : Clock) (a b : ℕ) : Type 0 where
  pub from : T (in_memory σ a)
  pub to : T (in_memory σ b)
  pub place : place_at σ a ≡ place_at σ b
  pub sooner : κ.settled a < κ.settled b

-- what every state keeps, with its clock
pub record Kept (σ : State) (κ : Clock) : Type 0 where
  pub few : σ.n ≤ most_traced
  pub good : (a : ℕ) → a < σ.n → Good σ a
  pub issued_now : (a : ℕ) → a < σ.n → κ.issued a < κ.now
  pub settled_now : (a : ℕ) → a < σ.n → κ.settled a < κ.now
  pub rises : (a b : ℕ) → a < b → b < σ.n → κ.issued a < κ.issued b
  pub late : (a : ℕ) → a < σ.n → κ.issued a ≤ κ.settled a
  pub at_once : (a : ℕ) → a < σ.n → T (read_at σ a) → κ.settled a ≡ κ.issued a
  pub waits : (a : ℕ) → a < σ.n → T (σ.waiting a) → T (is_kind (4 ∷ []) (σ.act a).what)
  pub fifo : (a b : ℕ) → a < b → b < σ.n → thread_at σ a ≡ thread_at σ b → T (write_at σ b) → T (not (σ.waiting b)) → T (not (σ.waiting a)) × (κ.settled a < κ.settled b)
  pub apart : (a b : ℕ) → a < b → b < σ.n → T (in_memory σ a) → T (in_memory σ b) → κ.settled a ≡ κ.settled b → ⊥
  pub memory_is : (q : ℕ) → Unwritten σ q ⊎ ((w : ℕ) × Written σ κ q w)
  pub source_is : (r : ℕ) → r < σ.n → T (read_at σ r) → Source σ κ r
  pub no_source : (a : ℕ) → a < σ.n → T (not (read_at σ a)) → σ.source a ≡ 0
  pub before_lt : (a b : ℕ) → b < σ.n → T (σ.before b a) → a < σ.n
  pub before_e : (a b : ℕ) → a < σ.n → b < σ.n → T (σ.before b a) → Ahead σ κ a b
  pub before_i : (a b : ℕ) → a < σ.n → b < σ.n → Ahead σ κ a b → T (σ.before b a)

-- the clock after action number n, and after the arrival of w
abbrev pub acted_clock : Clock → ℕ → Clock
acted_clock κ n = record { issued = put κ.issued n κ.now; settled = put κ.settled n κ.now; now = suc κ.now }

abbrev pub moved_clock : Clock → ℕ → Clock
moved_clock κ w = record { issued = κ.issued; settled = put κ.settled w κ.now; now = suc κ.now }

-- the clock before any step
abbrev pub zero_clock : Clock
zero_clock = record { issued = λ a. 0; settled = λ a. 0; now = 0 }

-- at the start there is nothing to keep
pub start_kept : (t p : ℕ) → Kept (start t p) zero_clock
unfolding start
start_kept t p =
    record {
      few = omega arith;
      good = λ a l. absurd (not-suc-le-zero l);
      issued_now = λ a l. absurd (not-suc-le-zero l);
      settled_now = λ a l. absurd (not-suc-le-zero l);
      rises = λ a b l h. absurd (not-suc-le-zero h);
      late = λ a l. absurd (not-suc-le-zero l);
      at_once = λ a l. absurd (not-suc-le-zero l);
      waits = λ a l. absurd (not-suc-le-zero l);
      fifo = λ a b l h. absurd (not-suc-le-zero h);
      apart = λ a b l h. absurd (not-suc-le-zero h);
      memory_is = λ q. inl (record { holds = refl; none = λ a l. absurd (not-suc-le-zero l) });
      source_is = λ r l. absurd (not-suc-le-zero l);
      no_source = λ a l. absurd (not-suc-le-zero l);
      before_lt = λ a b l t. absurd (not-suc-le-zero l);
      before_e = λ a b l h t. absurd (not-suc-le-zero l);
      before_i = λ a b l h t. absurd (not-suc-le-zero l);
    }
