-- The queues are queues: a store joins its own thread's at the end, a drain takes the front away to memory, and nothing else touches them.
use Rattle.std.specs.Prelude.{ℕ, zero, suc, ◌<◌, Bool, true, ◌&&◌, cond, ◌≡◌, refl, T}
use Rattle.std.proofs.Math.Bool.{false, and-true, and-false}
use mathlib.Core.List.{List, [], ◌∷◌, ◌++◌}
use Rattle.std.proofs.Common.{sym, ◌∙◌, subst, ap₂, arith, not-suc-le-zero}
use Rattle.std.proofs.Math.Path.{ap}
use Rattle.std.proofs.Math.Logic.{⊎_elim}
use Rattle.std.proofs.Math.Dec.{eqb}
use borrow.Author.Tests.{eqb-true, eq-eqb, ne_eqb}
use Rattle.rows.specs.Sets.{Set, least, without}
use Rattle.rows.specs.Numbers.{joined}
use Rattle.rows.specs.Laws.Lists.{joined_ext, joined_none}
use Rattle.rows.specs.Laws.Truth.{top, T_true, T_false, true_T, and_1, and_2, and_both, not_both, is_false, eq_or_ne}
use Rattle.model.specs.declared.Action.{Action}
use Rattle.model.specs.declared.ActionKind.{ActionKind}
use Rattle.machine.specs.declared.Step.{Step}
use Rattle.machine.specs.declared.Step.TheVariants.{Does, Drains}
use Rattle.model.specs.Refusals.{Passed}
use Rattle.machine.specs.Machine.{put, is_kind, State, start, thread_at, place_at, queued, worth, refusal, reading, done, arrived, effect, step}
use Rattle.machine.specs.Laws.Taken.{Moved, acted, moved, step_cases}
use Rattle.machine.specs.Laws.Puts.{put_same, put_other}

-- a, where the test passes
abbrev pub one : Bool → ℕ → List ℕ
one t a = cond t (a ∷ []) []

-- the numbers below n that pass, rising
abbrev pub picked : ℕ → Set → List ℕ
picked n f = joined n λ a. one (f a) a

-- a thread's queue: its stores that wait, by number, the oldest in front
unfoldable pub queue : State → ℕ → List ℕ
queue σ th = picked σ.n (queued σ th)

-- ---- numbers that pass

-- the same numbers pass
picked_ext : (n : ℕ) (f g : Set) → ((a : ℕ) → a < n → f a ≡ g a) → picked n f ≡ picked n g
picked_ext n f g h = joined_ext n (λ a. one (f a) a) (λ a. one (g a) a) (λ a l. ap (λ (t : Bool). one t a) (h a l))

-- no number passes
picked_none : (n : ℕ) (f : Set) → ((a : ℕ) → a < n → f a ≡ false) → picked n f ≡ []
picked_none n f h = joined_none n (λ a. one (f a) a) (λ a l. ap (λ (t : Bool). one t a) (h a l))

-- the least stands in front
picked_front : (n : ℕ) (f : Set) (w : ℕ) → w < n → f w ≡ true → ((a : ℕ) → a < w → f a ≡ false) → picked n f ≡ w ∷ picked n (without f w)
unfolding joined
picked_front zero f w l e h = absurd (not-suc-le-zero l)
picked_front (suc n) f w l e h =
    ⊎_elim
    (λ (q : w ≡ n).
    let below : (a : ℕ) → a < n → f a ≡ false = λ a k. h a (omega arith) in
    let hit : f n ≡ true = subst (λ (x : ℕ). f x ≡ true) q e in
    rw (q, picked_none n f below, hit, picked_none n (without f n) (λ a k. rw (below a k)), eq-eqb n n refl))
    (λ (q : w < n). rw (picked_front n f w q e h, ne_eqb n w (λ z. omega arith), and-true (f n)))
    (top w n l)

-- ---- the effects

-- an action
done_queue : (σ : State) (k : ActionKind) (th pl v u : ℕ) → queue (done σ k th pl v) u ≡ queue σ u ++ one (is_kind (4 ∷ []) k && eqb th u) σ.n
unfolding queue joined done
done_queue σ k th pl v u =
    let x : Action = record { what = k; thread = th; place = pl; read = worth σ (reading σ k th pl); written = v } in
    let n : ℕ = σ.n in
    ap₂ (λ (l : List ℕ) (t : Bool). l ++ one t n)
    (picked_ext n (λ a. put σ.waiting n (is_kind (4 ∷ []) k) a && eqb (put σ.act n x a).thread u) (queued σ u)
    (λ a l. ap₂ (λ (t : Bool) (y : Action). t && eqb y.thread u) (put_other σ.waiting n (is_kind (4 ∷ []) k) a (λ e. omega arith)) (put_other σ.act n x a (λ e. omega arith))))
    (ap₂ (λ (t : Bool) (y : Action). t && eqb y.thread u) (put_same σ.waiting n (is_kind (4 ∷ []) k)) (put_same σ.act n x))

-- what arrives is what memory holds at its place
arrived_holds : (σ : State) (w : ℕ) → (arrived σ w).memory (place_at σ w) ≡ suc w
unfolding arrived
arrived_holds σ w = put_same σ.memory (place_at σ w) (suc w)

module _ (σ : State) (th w : ℕ) (m : Moved σ th w) where
  -- w is in its thread's queue
  w_queued : queued σ th w ≡ true
  w_queued = and_both (T_true (σ.waiting w) m.waits) (eq-eqb (thread_at σ w) th m.own)

  -- and nothing before it is in it
  w_least : (a : ℕ) → a < w → queued σ th a ≡ false
  w_least a l =
      is_false (queued σ th a) λ e.
      let same : thread_at σ a ≡ thread_at σ w = eqb-true (thread_at σ a) th (and_2 (σ.waiting a) (eqb (thread_at σ a) th) e) ∙ sym m.own in
      not_both (and_1 (σ.waiting a) (eqb (thread_at σ a) th) e) (T_false (σ.waiting a) (m.oldest a l same))

  -- its arrival, in its own queue
  arrived_own : queue σ th ≡ w ∷ queue (arrived σ w) th
  unfolding queue arrived
  arrived_own =
      picked_front σ.n (queued σ th) w m.below w_queued w_least
      ∙ ap (λ (l : List ℕ). w ∷ l) (picked_ext σ.n (without (queued σ th) w) (λ a. put σ.waiting w false a && eqb (thread_at σ a) th)
      (λ a l. ⊎_elim
      (λ (q : a ≡ w). rw (eq-eqb a w q) (and-false (queued σ th a)))
      (λ (ne : a ≡ w → ⊥). rw (ne_eqb a w ne) (and-true (queued σ th a)))
      (eq_or_ne a w)))

  -- and in another's
  arrived_other : (u : ℕ) → (u ≡ th → ⊥) → queue (arrived σ w) u ≡ queue σ u
  unfolding queue arrived
  arrived_other u ne =
      picked_ext σ.n (λ a. put σ.waiting w false a && eqb (thread_at σ a) u) (queued σ u)
      (λ a l. ⊎_elim
      (λ (q : a ≡ w). rw (eq-eqb a w q, ne_eqb (thread_at σ a) u (λ z. ne (sym z ∙ ap (λ (y : ℕ). thread_at σ y) q ∙ m.own))) (sym (and-false (σ.waiting a))))
      (λ (me : a ≡ w → ⊥). rw (ne_eqb a w me))
      (eq_or_ne a w))

-- ---- the steps

-- a step that is not refused has its effect
has_effect : (σ : State) (s : Step) → refusal σ s ≡ Passed → step σ s ≡ effect σ s
unfolding step
has_effect σ s e = rw e

-- at the start every queue is empty
pub start_empty : (t p u : ℕ) → queue (start t p) u ≡ []
unfolding queue start joined
start_empty t p u = refl

-- an action: a store joins its own thread's queue at the end, and anything else changes no queue
pub store_joins : (σ : State) (k : ActionKind) (th pl v : ℕ) → refusal σ (Does k th pl v) ≡ Passed
    → (u : ℕ) → queue (step σ (Does k th pl v)) u ≡ queue σ u ++ one (is_kind (4 ∷ []) k && eqb th u) σ.n
store_joins σ k th pl v e u = rw (has_effect σ (Does k th pl v) e) (done_queue σ k th pl v u)

-- an RMW finds its own thread's queue empty
pub rmw_alone : (σ : State) (k : ActionKind) (th pl v : ℕ) → refusal σ (Does k th pl v) ≡ Passed → T (is_kind (5 ∷ []) k) → queue σ th ≡ []
unfolding queue
rmw_alone σ k th pl v e m = picked_none σ.n (queued σ th) (λ a l. is_false (queued σ th a) (λ t. (acted σ k th pl v e).free m a l (true_T t)))

-- a drain: the front leaves its queue, and is what memory holds at its place
pub drain_front : (σ : State) (th : ℕ) → refusal σ (Drains th) ≡ Passed
    → (w : ℕ) × (queue σ th ≡ w ∷ queue (step σ (Drains th)) th) × ((step σ (Drains th)).memory (place_at σ w) ≡ suc w)
drain_front σ th e =
    let w : ℕ = least σ.n (queued σ th) in
    rw (has_effect σ (Drains th) e) (w, arrived_own σ th w (moved σ th e), arrived_holds σ w)

-- and no other queue changes
pub drain_other : (σ : State) (th : ℕ) → refusal σ (Drains th) ≡ Passed → (u : ℕ) → (u ≡ th → ⊥) → queue (step σ (Drains th)) u ≡ queue σ u
drain_other σ th e u ne = rw (has_effect σ (Drains th) e) (arrived_other σ th (least σ.n (queued σ th)) (moved σ th e) u ne)

-- a refused step changes no queue
pub refused_stays : (σ : State) (s : Step) → (refusal σ s ≡ Passed → ⊥) → (u : ℕ) → queue (step σ s) u ≡ queue σ u
unfolding step
refused_stays σ s ne u = ⊎_elim (λ (e : step σ s ≡ σ). rw e) (λ q. absurd (ne q.0)) (step_cases σ s)
