-- What the code's machine holds, and what it keeps. Definitions only.
use Rattle.std.specs.Prelude.{ℕ, zero, suc, ◌<◌, ◌≤◌, not, ◌&&◌, cond, List, [], ◌∷◌, ◌≡◌, eqb, ltb, get_or, length, set, ◌+◌, take, drop, Result, Ok, Err, IfOk, OnErr}
use Rattle.rows.specs.Sets.{Set, before, without}
use Rattle.rows.specs.Numbers.{has, held, rel}
use Rattle.rows.specs.declared.Row.{Row}
use Rattle.model.specs.declared.Action.{Action}
use Rattle.model.specs.Actions.{no_action}
use Rattle.model.specs.Limits.{most_actions, most_places, given_relations, given_length, store_length}
use Rattle.model.specs.Candidates.{given}
use Rattle.model.specs.declared.refusals.Reason.TheVariants.{ShortBuffer, OutOfLimit}
use Rattle.model.specs.declared.refusals.Refusal.{Refusal}
use Rattle.model.specs.Refusals.{Passed, Refused, Walk}
use Rattle.machine.specs.declared.Machine.{Machine}
use Rattle.machine.specs.declared.Step.{Step}
use Rattle.machine.specs.declared.Listed.{Listed}
use Rattle.machine.specs.Fields.{state_in}
use Rattle.machine.specs.Machine.{is_kind, most_traced, State, start, machine_ok, refusal, step, Reached, first_of_other, candidate}

-- ---- of a list of actions, of which some wait

-- those of a thread that wait; those of them for a place
abbrev pub waits : List Action → Set → ℕ → Set
waits acts w th a = w a && eqb (get_or acts a no_action).thread th

abbrev pub waits_at : List Action → Set → ℕ → ℕ → Set
waits_at acts w th pl a = waits acts w th a && eqb (get_or acts a no_action).place pl

-- the writes of a place that don't wait
abbrev pub stays : List Action → Set → ℕ → Set
stays acts w pl a = (is_kind (4 ∷ 5 ∷ 7 ∷ []) (get_or acts a no_action).what && not (w a)) && eqb (get_or acts a no_action).place pl

-- what the action before s wrote; 0 if there is none
abbrev pub worth_in : List Action → ℕ → ℕ
worth_in acts zero = 0
worth_in acts (suc w) = (get_or acts w no_action).written

-- those of a thread
abbrev pub of_thread : List Action → ℕ → Set
of_thread acts th a = eqb (get_or acts a no_action).thread th

-- ---- the state that a machine holds

unfoldable pub state_of : Machine → State
state_of m = state_in m.acts m.source m.memory m.before (has m.waiting) m.t m.p m.n

-- after action x: it read from s, `there` was in memory before it, w wait now, and memory is that
abbrev pub noted : Machine → Action → ℕ → Row → Row → List ℕ → State
noted m x s there w memory = state_in (set m.acts m.n x) (set m.source m.n s) memory (set m.before m.n there) (has w) m.t m.p (m.n + 1)

-- after store w, at the place, arrived in memory, where `there` were
abbrev pub moved : Machine → ℕ → ℕ → Row → State
moved m w place there = state_in m.acts m.source (set m.memory place (w + 1)) (set m.before w there) (without (has m.waiting) w) m.t m.p m.n

-- the arrays hold what the state speaks of
pub record Fit (m : Machine) : Type 0 where
  pub rows : length m.before ≡ most_traced
  pub sources : length m.source ≡ most_traced
  pub actions : length m.acts ≡ most_actions
  pub cells : length m.memory ≡ most_places
  pub few : m.n ≤ most_traced
  pub narrow : m.p ≤ most_places
  pub placed : (a : ℕ) → a < m.n → (get_or m.acts a no_action).place < most_places

-- every machine's do: its type says so
pub fitting : (m : Machine) → Fit m
fitting m = record { rows = m.rows; sources = m.sources; actions = m.actions; cells = m.cells; few = m.few; narrow = m.narrow; placed = m.placed }

-- so does it say that some trace leads to its state
pub led_to : (m : Machine) → ∥ Reached (state_of m) ∥₁
unfolding state_of
led_to m = m.reached

-- what a call that makes a machine promises of it, and a step of the next where it holds of the last: the trace itself, where the type says that there is one
pub record Keeps (m : Machine) : Type 0 where
  pub fit : Fit m
  pub reached : Reached (state_of m)

-- what asw is drawn from: these rows have the actions of thread 0, and the first one of every other thread
pub record Starts (m : Machine) (zeros firsts : Row) : Type 0 where
  pub zero : has zeros ≡ before (of_thread m.acts 0) m.n
  pub others : has firsts ≡ before (first_of_other (state_of m)) m.n

-- ---- what the calls promise

-- what is told of a call that gives a machine
abbrev pub told : Result Machine Refusal → Walk
told (Ok m) = Passed
told (Err e) = Err e

-- a machine of t threads and p places that has done nothing; or 15
pub record Makes (t p : ℕ) (r : Result Machine Refusal) : Type 0 where
  pub answer : told r ≡ cond (machine_ok t p) Passed (Refused OutOfLimit 0)
  pub machine : IfOk r (λ m. state_of m ≡ start t p)
  pub keeps : IfOk r Keeps

-- one step: its refusal, or the machine after it
pub record Stepped (σ : State) (s : Step) (r : Result Machine Refusal) : Type 0 where
  pub answer : told r ≡ refusal σ s
  pub machine : IfOk r (λ m. state_of m ≡ step σ s)
  -- a refused step changes nothing
  pub kept : OnErr r (step σ s ≡ σ)

-- the same, and a trace that leads there
pub record Steps (σ : State) (s : Step) (r : Result Machine Refusal) : Type 0 where
  pub answer : told r ≡ refusal σ s
  pub machine : IfOk r (λ m. state_of m ≡ step σ s)
  pub keeps : IfOk r Keeps
  -- a refused step changes nothing
  pub kept : OnErr r (step σ s ≡ σ)

-- the actions, place bytes, edition, N, T and P of the candidate
pub record Lists (σ : State) (r : Listed) : Type 0 where
  pub actions : length r.acts ≡ most_actions
  pub bytes : length r.places ≡ most_places
  pub acts : take r.head.n r.acts ≡ (candidate σ).acts
  pub places : take r.head.p r.places ≡ (candidate σ).places
  pub edition : r.head.edition ≡ (candidate σ).edition
  pub n : r.head.n ≡ σ.n
  pub t : r.head.t ≡ σ.t
  pub p : r.head.p ≡ σ.p

-- a store of fewer than 4,608 numbers (9)
abbrev pub draw_check : ℕ → Walk
draw_check room = cond (ltb room store_length) (Refused ShortBuffer 0) Passed

-- relations 0 to 6 of the candidate in front of a store, whose other numbers stay; a refusal leaves all of it
pub record Draws (σ : State) (s : List ℕ) (r : Walk) (s' : List ℕ) : Type 0 where
  pub answer : r ≡ draw_check (length s)
  pub kept : length s < store_length → s' ≡ s
  pub size : length s' ≡ length s
  pub beyond : drop given_length s' ≡ drop given_length s
  pub relations : store_length ≤ length s → (k : ℕ) → k < given_relations → held s' k ≡ rel (get_or (given (candidate σ)) k [])
