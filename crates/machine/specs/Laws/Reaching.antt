-- A machine that is made is at the start, and one that takes a step is where the trace leads with it; what a step that is taken, or refused, promises.
use Rattle.std.specs.Prelude.{ℕ, Bool, cond, not, false, ◌<◌, ◌≤◌, true, List, [], ◌∷◌, ◌++◌, ◌≡◌, refl, leb, ltb, Result, Ok, Err}
use Rattle.std.proofs.Math.Logic.{∥∥₁_map, ∥∥₁_elim}
use native.Mathlib.Bridge.{le_prop}
use Rattle.std.proofs.Common.{⊎_elim, sym, ◌∙◌, ap₂, arith, ltb→lt}
use Rattle.std.proofs.Math.Path.{ap}
use borrow.Author.Tests.{leb-true}
use Rattle.rows.specs.Sets.{any, least}
use Rattle.rows.specs.Numbers.{has}
use Rattle.rows.specs.Laws.Truth.{and_1, and_l, and_r}
use Rattle.model.specs.declared.ActionKind.{ActionKind}
use Rattle.model.specs.declared.refusals.Refusal.{Refusal}
use Rattle.model.specs.declared.refusals.Reason.{Reason}
use Rattle.model.specs.declared.refusals.Reason.TheVariants.{OutOfLimit, WrongQueue}
use Rattle.model.specs.Refusals.{Passed, Refused, Walk}
use Rattle.model.proofs.Laws.Refusals.{given_not_refused}
use Rattle.drawing.specs.Laws.Passed.{only_if}
use Rattle.model.specs.Limits.{most_threads, most_places}
use Rattle.machine.specs.declared.Machine.{Machine}
use Rattle.machine.specs.declared.Step.{Step}
use Rattle.machine.specs.declared.Step.TheVariants.{Does, Drains}
use Rattle.machine.specs.Machine.{most_traced, value_limit, State, start, machine_ok, fits, refusal, done, arrived, effect, step, run, Reached}
use Rattle.machine.specs.Code.{waits, state_of, Fit, fitting, Keeps, Stepped, Steps}
use Rattle.machine.specs.Laws.Taken.{acted, step_cases}

-- ---- states reached

-- the start is reached by no step
pub start_reached : (t p : ℕ) → machine_ok t p ≡ true → Reached (start t p)
unfolding start run
start_reached t p h = record { limits = h; steps = []; from_start = refl }

-- one trace, then another from where it ended
pub run_on : (σ : State) (l m : List Step) → run (run σ l) m ≡ run σ (l ++ m)
unfolding run
run_on σ [] m = refl
run_on σ (s ∷ l) m = run_on (step σ s) l m

-- one step more
run_last : (σ : State) (l : List Step) (s : Step) → run σ (l ++ (s ∷ [])) ≡ step (run σ l) s
unfolding run
run_last σ l s = sym (run_on σ l (s ∷ []))

module _ (σ : State) where
  -- what a step does leaves T and P
  effect_limits : (s : Step) → ((effect σ s).t ≡ σ.t) × ((effect σ s).p ≡ σ.p)
  unfolding done arrived
  effect_limits (Does k th pl v) = (refl, refl)
  effect_limits (Drains th) = (refl, refl)

  -- so does a step, refused or not
  step_limits : (s : Step) → ((step σ s).t ≡ σ.t) × ((step σ s).p ≡ σ.p)
  step_limits s =
      ⊎_elim
      (λ (e : step σ s ≡ σ). rw e (refl, refl))
      (λ (q : (refusal σ s ≡ Passed) × (step σ s ≡ effect σ s)). rw q.1 (effect_limits s))
      (step_cases σ s)

  -- the state after a step is reached by the same steps and this one
  pub step_reached : (s : Step) → Reached σ → Reached (step σ s)
  step_reached s R =
      let (et, ep) = step_limits s in
      record {
        limits = rw (et, ep) R.limits;
        steps = R.steps ++ (s ∷ []);
        from_start =
            ap (λ (y : State). step y s) R.from_start ∙ sym (run_last (start σ.t σ.p) R.steps s)
            ∙ ap₂ (λ (t p : ℕ). run (start t p) (R.steps ++ (s ∷ []))) (sym et) (sym ep);
      }

-- ---- what the calls promise

-- from a state that is reached every trace leads to one
pub run_reached : (σ : State) (l : List Step) → Reached σ → Reached (run σ l)
unfolding run
run_reached σ [] r = r
run_reached σ (s ∷ l) r = run_reached (step σ s) l (step_reached σ s r)

module _ (m : Machine) where
  -- a machine that holds the start
  pub keeps_start : (t p : ℕ) → machine_ok t p ≡ true → state_of m ≡ start t p → Fit m → Keeps m
  keeps_start t p h e F = record { fit = F; reached = rw e (start_reached t p h) }

  module _ (s : Step) where
    -- a refused step gives no machine, and changes nothing
    pub stepped_refused : (r : Refusal) → refusal (state_of m) s ≡ Err r → Stepped (state_of m) s (Err r)
    unfolding step
    stepped_refused r e = record { answer = sym e; machine = tt; kept = rw e }

    -- one that passes has its effect
    has_effect : refusal (state_of m) s ≡ Passed → step (state_of m) s ≡ effect (state_of m) s
    unfolding step
    has_effect e = rw e

    -- to which some trace leads
    pub effect_reached : refusal (state_of m) s ≡ Passed → ∥ Reached (effect (state_of m) s) ∥₁
    unfolding state_of
    effect_reached e = ∥∥₁_map m.reached (λ (R : Reached (state_of m)). rw (has_effect e) at (step_reached (state_of m) s R))

    -- and leads on
    pub stepped_taken : (r : Machine) → refusal (state_of m) s ≡ Passed → state_of r ≡ effect (state_of m) s → Stepped (state_of m) s (Ok r)
    stepped_taken r e q = record { answer = sym e; machine = q ∙ sym (has_effect e); kept = tt }

    -- from a machine that a trace leads to it leads to one
    pub steps_kept : (r : Result Machine Refusal) → Stepped (state_of m) s r → Keeps m → Steps (state_of m) s r
    steps_kept (Ok r) S K =
        record { answer = S.answer; machine = S.machine; keeps = record { fit = fitting r; reached = rw S.machine (step_reached (state_of m) s K.reached) }; kept = tt }
    steps_kept (Err e) S K = record { answer = S.answer; machine = tt; keeps = tt; kept = S.kept }

    -- a refused step leaves it so
    pub steps_refused : (r : Refusal) → refusal (state_of m) s ≡ Err r → Steps (state_of m) s (Err r)
    steps_refused r e = let S = stepped_refused r e in record { answer = S.answer; machine = tt; keeps = tt; kept = S.kept }

    -- one that is taken leads to one
    pub steps_taken : (r : Machine) → Keeps m → refusal (state_of m) s ≡ Passed → state_of r ≡ effect (state_of m) s → Steps (state_of m) s (Ok r)
    steps_taken r K e q = steps_kept (Ok r) (stepped_taken r e q) K

-- where a trace leads from such a machine is one
pub run_keeps : (m r : Machine) (l : List Step) → state_of r ≡ run (state_of m) l → Keeps m → Keeps r
run_keeps m r l e K = record { fit = fitting r; reached = rw e (run_reached (state_of m) l K.reached) }

-- ---- an action, by its refusal

-- one that passes is within the limits, and some trace leads to what it does
pub act_within : (m : Machine) (k : ActionKind) (th pl v : ℕ) → refusal (state_of m) (Does k th pl v) ≡ Passed
    → (m.n < most_traced) × (th < most_threads) × (pl < most_places) × (v < value_limit) × ∥ Reached (done (state_of m) k th pl v) ∥₁
unfolding state_of fits machine_ok
act_within m k th pl v e =
    let A = acted (state_of m) k th pl v e in
    let f = A.fit in
    let lt : th < m.t = ltb→lt th m.t (search (and_l, and_r)) in
    let lp : pl < m.p = ltb→lt pl m.p (search (and_l, and_r)) in
    let lv : v < value_limit = ltb→lt v value_limit (search (and_l, and_r)) in
    let most : m.t ≤ most_threads =
    ∥∥₁_elim m.reached le_prop (λ (R : Reached (state_of m)). leb-true m.t most_threads (and_1 (leb m.t most_threads) (leb m.p most_places) R.limits)) in
    (A.room, omega arith, omega (arith, m.narrow), lv, effect_reached m (Does k th pl v) e)

-- and its machine's arrays fit
pub act_fits : (m : Machine) (k : ActionKind) (th pl v : ℕ) → refusal (state_of m) (Does k th pl v) ≡ Passed
    → Fit m × (m.n < most_traced) × (th < most_threads) × (pl < most_places) × (v < value_limit)
act_fits m k th pl v e = let (room, lt, lp, lv, reached) = act_within m k th pl v e in (fitting m, room, lt, lp, lv)

-- ---- a drain, by what was tested

-- a test that failed is the refusal
tested : (b : Bool) (k : Reason) (at : ℕ) (w : Walk) {r : Refusal} → cond b Passed (Refused k at) ≡ Err r → cond (not b) (Refused k at) w ≡ Err r
tested true k at w e = absurd (given_not_refused tt _ e)
tested false k at w e = e

module _ (m : Machine) (th : ℕ) where
  -- whether the thread is within its limit
  abbrev own : Walk
  own = cond (ltb th m.t) Passed (Refused OutOfLimit 0)

  -- it is out of it
  pub drain_out : {r : Refusal} → own ≡ Err r → refusal (state_of m) (Drains th) ≡ Err r
  unfolding state_of refusal
  drain_out e = tested (ltb th m.t) OutOfLimit 0 _ e

  module _ (h : own ≡ Passed) where
    -- whether something waits
    abbrev some : Walk
    some = cond (any m.n (waits m.acts (has m.waiting) th)) Passed (Refused WrongQueue 0)

    -- nothing does
    pub drain_none : {r : Refusal} → some ≡ Err r → refusal (state_of m) (Drains th) ≡ Err r
    unfolding state_of refusal
    drain_none e = rw (only_if (ltb th m.t) OutOfLimit 0 Passed h).0 (tested (any m.n (waits m.acts (has m.waiting) th)) WrongQueue 0 Passed e)

    -- something does
    pub drain_some : some ≡ Passed → refusal (state_of m) (Drains th) ≡ Passed
    unfolding state_of refusal
    drain_some e = rw ((only_if (ltb th m.t) OutOfLimit 0 Passed h).0, (only_if (any m.n (waits m.acts (has m.waiting) th)) WrongQueue 0 Passed e).0)

  -- then the oldest of it arrives
  pub drain_effect : (w : ℕ) → w ≡ least m.n (waits m.acts (has m.waiting) th) → arrived (state_of m) w ≡ effect (state_of m) (Drains th)
  unfolding state_of
  drain_effect w e = ap (arrived (state_of m)) e
