-- The x86-TSO store-buffer machine, one step at a time, and the candidate that a trace yields. Definitions only.
-- There are no lists of stores: action numbers are in the order of issue, so a thread's queue is its stores that still wait, the oldest has the lowest number and the newest the highest.
use Rattle.std.specs.Prelude.{ℕ, zero, suc, Bool, true, false, not, ◌&&◌, ◌||◌, cond, List, [], ◌∷◌, ◌≡◌, eqb, leb, ltb, is_ok}
use Rattle.rows.specs.Sets.{Set, Rel, never, any, least, before}
use Rattle.rows.specs.Numbers.{listed, rows_of}
use Rattle.model.specs.declared.Action.{Action}
use Rattle.model.specs.declared.ActionKind.{ActionKind}
use Rattle.model.specs.declared.refusals.Reason.TheVariants.{NotTraced, OutOfLimit, TooManyActions, WrongQueue}
use Rattle.model.specs.Refusals.{Passed, Refused, Walk}
use Rattle.model.specs.Actions.{kind_number, order_in, no_action}
use Rattle.model.specs.Limits.{most_threads, most_places}
use Rattle.model.specs.Candidates.{Candidate, among}
use Rattle.machine.specs.declared.Step.{Step}
use Rattle.machine.specs.declared.Step.TheVariants.{Does, Drains}

-- ---- small words

-- v at k, f elsewhere
abbrev pub put : {A : Type 0} → (ℕ → A) → ℕ → A → ℕ → A
put f k v a = cond (eqb a k) v (f a)

-- one more than the greatest number below n at which f holds, or 0
unfoldable pub latest : ℕ → Set → ℕ
latest zero f = 0
latest (suc n) f = cond (f n) (suc n) (latest n f)

-- Kinds: 3 atomic load, 4 atomic store, 5 RMW.
abbrev pub is_kind : List ℕ → ActionKind → Bool
is_kind ks k = among (kind_number k) ks

-- Orders: 1 relaxed, 2 consume, 3 acquire, 4 release, 5 acq_rel, 6 seq_cst.
abbrev pub is_order : List ℕ → ActionKind → Bool
is_order os k = among (order_in k) os

-- neither lock, unlock, plain access, fence, consume nor seq_cst
unfoldable pub taken : ActionKind → Bool
taken k = is_kind (3 ∷ 4 ∷ 5 ∷ []) k && not (is_order (2 ∷ 6 ∷ []) k)

-- an order that rule 1 allows: atomic loads have order 1, 2, 3 or 6, and atomic stores 1, 4 or 6
unfoldable pub ordered : ActionKind → Bool
ordered k = (not (is_kind (3 ∷ []) k) || is_order (1 ∷ 2 ∷ 3 ∷ 6 ∷ []) k) && (not (is_kind (4 ∷ []) k) || is_order (1 ∷ 4 ∷ 6 ∷ []) k)

-- A trace has at most 64 actions besides its drain steps.
abbrev pub most_traced : ℕ
most_traced = 64

-- values are of 32 bits
abbrev pub value_limit : ℕ
value_limit = 4294967296

-- ---- the state

-- T threads and P places; n actions; of each action what it was, whether it is a store that still waits in its thread's queue, where it read from (0 from nothing, w + 1 from w),
-- and which writes were in memory at its place before it arrived there; and of each place who wrote what memory holds: 0 nobody, w + 1 w
pub record State : Type 0 where
  pub t : ℕ
  pub p : ℕ
  pub n : ℕ
  pub act : ℕ → Action
  pub waiting : Set
  pub source : ℕ → ℕ
  pub memory : ℕ → ℕ
  pub before : ℕ → Set

-- a machine that has done nothing
unfoldable pub start : ℕ → ℕ → State
start t p = record { t = t; p = p; n = 0; act = λ a. no_action; waiting = λ a. false; source = λ a. 0; memory = λ q. 0; before = λ a b. false }

-- T above 16, P above 64: refused where a machine is made (15)
unfoldable pub machine_ok : ℕ → ℕ → Bool
machine_ok t p = leb t most_threads && leb p most_places

-- whose step it is
abbrev pub owner : Step → ℕ
owner (Does k th pl v) = th
owner (Drains th) = th

module _ (σ : State) where
  abbrev pub thread_at : ℕ → ℕ
  thread_at a = (σ.act a).thread

  abbrev pub place_at : ℕ → ℕ
  place_at a = (σ.act a).place

  abbrev pub write_at : Set
  write_at a = is_kind (4 ∷ 5 ∷ 7 ∷ []) (σ.act a).what

  abbrev pub read_at : Set
  read_at a = is_kind (3 ∷ 5 ∷ 6 ∷ []) (σ.act a).what

  -- a write that has arrived in memory; and those of a place
  abbrev pub in_memory : Set
  in_memory a = write_at a && not (σ.waiting a)

  abbrev pub there : ℕ → Set
  there pl = before (λ a. in_memory a && eqb (place_at a) pl) σ.n

  -- a queue of stores per thread: those of the thread that wait; and those of them for a place
  abbrev pub queued : ℕ → Set
  queued th a = σ.waiting a && eqb (thread_at a) th

  abbrev pub queued_at : ℕ → ℕ → Set
  queued_at th pl a = queued th a && eqb (place_at a) pl

  -- a load takes the newest entry for its place in its own queue, else memory
  unfoldable pub found : ℕ → ℕ → ℕ
  found th pl =
      let own = latest σ.n (queued_at th pl) in
      cond (eqb own 0) (σ.memory pl) own

  -- the value that is found there; unwritten memory is 0, with no source
  unfoldable pub worth : ℕ → ℕ
  worth zero = 0
  worth (suc w) = (σ.act w).written

  -- ---- the refusals

  -- every field within its limit, no value written where the kind writes none, and an order that rule 1 allows
  unfoldable pub fits : ActionKind → ℕ → ℕ → ℕ → Bool
  fits k th pl v = ltb th σ.t && ltb pl σ.p && ltb v value_limit && (is_kind (4 ∷ 5 ∷ []) k || eqb v 0) && ordered k

  -- NotTraced (14): lock, unlock, plain access, fence, consume or seq_cst; OutOfLimit (15): a field out of its limit or a rule 1 order; TooManyActions (16): a 65th action; WrongQueue (17): an RMW with a filled queue or a drain of an empty one
  unfoldable pub refusal : Step → Walk
  refusal (Does k th pl v) =
      cond (not (taken k)) (Refused NotTraced 0)
      (cond (not (fits k th pl v)) (Refused OutOfLimit 0)
      (cond (not (ltb σ.n most_traced)) (Refused TooManyActions 0)
      (cond (is_kind (5 ∷ []) k && any σ.n (queued th)) (Refused WrongQueue 0) Passed)))
  refusal (Drains th) = cond (not (ltb th σ.t)) (Refused OutOfLimit 0) (cond (not (any σ.n (queued th))) (Refused WrongQueue 0) Passed)

  -- ---- the steps

  -- where an action reads from
  abbrev pub reading : ActionKind → ℕ → ℕ → ℕ
  reading k th pl = cond (is_kind (3 ∷ 5 ∷ []) k) (found th pl) 0

  -- after an action: a store waits in its thread's queue, an RMW acts on memory at once
  unfoldable pub done : ActionKind → ℕ → ℕ → ℕ → State
  done k th pl v =
      record {
        t = σ.t;
        p = σ.p;
        n = suc σ.n;
        act = put σ.act σ.n (record { what = k; thread = th; place = pl; read = worth (reading k th pl); written = v });
        waiting = put σ.waiting σ.n (is_kind (4 ∷ []) k);
        source = put σ.source σ.n (reading k th pl);
        memory = λ q. cond (is_kind (5 ∷ []) k && eqb q pl) (suc σ.n) (σ.memory q);
        before = put σ.before σ.n (λ a. is_kind (5 ∷ []) k && there pl a);
      }

  -- after store w has arrived in memory
  unfoldable pub arrived : ℕ → State
  arrived w =
      record {
        t = σ.t;
        p = σ.p;
        n = σ.n;
        act = σ.act;
        waiting = put σ.waiting w false;
        source = σ.source;
        memory = put σ.memory (place_at w) (suc w);
        before = put σ.before w (there (place_at w));
      }

  -- a drain moves the oldest
  abbrev pub effect : Step → State
  effect (Does k th pl v) = done k th pl v
  effect (Drains th) = arrived (least σ.n (queued th))

  -- a refused step changes nothing
  unfoldable pub step : Step → State
  step s = cond (is_ok (refusal s)) (effect s) σ

-- a trace, from a state on
unfoldable pub run : State → List Step → State
run σ [] = σ
run σ (s ∷ l) = run (step σ s) l

-- a state that some trace leads to, on a machine within the limits
pub record Reached (σ : State) : Type 0 where
  pub limits : machine_ok σ.t σ.p ≡ true
  pub steps : List Step
  pub from_start : σ ≡ run (start σ.t σ.p) steps

-- ---- the candidate of a state

module _ (σ : State) where
  -- sb by step order in each thread
  abbrev pub sb_of : Rel
  sb_of a b = eqb (thread_at σ a) (thread_at σ b) && ltb a b

  -- asw from thread 0's last action to each other thread's first; a thread with no action has none, and if thread 0 has none, asw is empty
  abbrev pub last_of_zero : Set
  last_of_zero a = eqb (thread_at σ a) 0 && not (any σ.n λ c. ltb a c && eqb (thread_at σ c) 0)

  abbrev pub first_of_other : Set
  first_of_other b = not (eqb (thread_at σ b) 0) && not (any σ.n λ c. ltb c b && eqb (thread_at σ c) (thread_at σ b))

  abbrev pub asw_of : Rel
  asw_of a b = last_of_zero a && first_of_other b

  -- rf from where a read got its value
  abbrev pub rf_of : Rel
  rf_of a b = eqb (σ.source b) (suc a)

  -- mo by arrival in memory
  abbrev pub mo_of : Rel
  mo_of a b = σ.before b a

  -- all places atomic
  abbrev pub places_of : List ℕ
  places_of = listed σ.p (λ i. 2)

  -- an edition 2 candidate; dd, cd, sc empty
  unfoldable pub candidate : Candidate
  candidate =
      record {
        edition = 2;
        n = σ.n;
        t = σ.t;
        p = σ.p;
        places = places_of;
        acts = listed σ.n σ.act;
        sb = rows_of σ.n sb_of;
        asw = rows_of σ.n asw_of;
        dd = rows_of σ.n never;
        cd = rows_of σ.n never;
        rf = rows_of σ.n rf_of;
        sc = rows_of σ.n never;
        mo = rows_of σ.n mo_of;
      }
