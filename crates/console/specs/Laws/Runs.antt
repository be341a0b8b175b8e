-- Every state that the machine reaches keeps what Kept says; and what stands before and after the moment when other threads begin.
use Rattle.std.specs.Prelude.{ℕ, ◌<◌, ◌≤◌, Bool, true, ◌&&◌, not, ◌≡◌, refl, T, eqb}
use mathlib.Core.List.{List, [], ◌∷◌}
use Rattle.std.proofs.Common.{sym, ◌∙◌, subst, ap, ⊎_elim, arith, eqb→eq}
use Rattle.rows.specs.Sets.{Set, any, all, count, least}
use Rattle.rows.specs.Laws.Truth.{test, top, true_T, and_l, and_r, and_i, neqb_e}
use Rattle.rows.proofs.Laws.Quantifiers.{any_e, any_no, all_i, all_e, count_none}
use Rattle.model.specs.declared.Action.{Action}
use Rattle.model.specs.declared.ActionKind.{ActionKind}
use Rattle.machine.specs.declared.Step.{Step}
use Rattle.machine.specs.declared.Step.TheVariants.{Does, Drains}
use Rattle.model.specs.Refusals.{Passed}
use Rattle.machine.specs.Machine.{put, is_kind, is_order, State, owner, start, queued, refusal, done, arrived, step, run, Reached, reading, worth, thread_at, place_at}
use Rattle.machine.specs.Laws.Taken.{Acted, Moved, acted, moved, step_cases}
use Rattle.console.specs.Consoles.{every_step, stores_first, stores_once}
use Rattle.machine.specs.Laws.Puts.{put_same, put_other}
use Rattle.console.specs.Laws.Kept.{Clock, acted_clock, moved_clock, zero_clock, Kept, start_kept}
use Rattle.console.specs.Laws.Grown.{grown}
use Rattle.console.specs.Laws.Drained.{drained}

-- ---- what every step keeps, every trace keeps

module _ (P : State → Clock → Type 0) (f : Step → Bool)
    (acts : (σ : State) (i : Clock) (k : ActionKind) (th pl v : ℕ) → T (f (Does k th pl v)) → Acted σ k th pl v → P σ i → P (done σ k th pl v) (acted_clock i σ.n))
    (moves : (σ : State) (i : Clock) (th w : ℕ) → T (f (Drains th)) → Moved σ th w → P σ i → P (arrived σ w) (moved_clock i w)) where
  -- one step, refused or not
  one_step : (σ : State) (i : Clock) (s : Step) → T (f s) → P σ i → (j : Clock) × P (step σ s) j
  one_step σ i (Does k th pl v) t x =
      ⊎_elim
      (λ (e : step σ (Does k th pl v) ≡ σ). (i, rw e x))
      (λ ((r, e) : (refusal σ (Does k th pl v) ≡ Passed) × (step σ (Does k th pl v) ≡ done σ k th pl v)).
      (acted_clock i σ.n, subst (λ (y : State). P y (acted_clock i σ.n)) (sym e) (acts σ i k th pl v t (acted σ k th pl v r) x)))
      (step_cases σ (Does k th pl v))
  one_step σ i (Drains th) t x =
      ⊎_elim
      (λ (e : step σ (Drains th) ≡ σ). (i, rw e x))
      (λ ((r, e) : (refusal σ (Drains th) ≡ Passed) × (step σ (Drains th) ≡ arrived σ (least σ.n (queued σ th)))).
      (moved_clock i (least σ.n (queued σ th)), subst (λ (y : State). P y (moved_clock i (least σ.n (queued σ th)))) (sym e) (moves σ i th (least σ.n (queued σ th)) t (moved σ th r) x)))
      (step_cases σ (Drains th))

  -- every step of a trace
  pub whole_run : (σ : State) (i : Clock) (l : List Step) → T (every_step f l) → P σ i → (j : Clock) × P (run σ l) j
  unfolding run
  whole_run σ i [] t x = (i, x)
  whole_run σ i (s ∷ l) t x =
      let (j, y) = one_step σ i s (and_l (f s) (every_step f l) t) x in
      whole_run (step σ s) j l (and_r (f s) (every_step f l) t) y

-- every trace will do
every_true : (l : List Step) → T (every_step (λ s. true) l)
every_true [] = tt
every_true (s ∷ l) = every_true l

-- a trace from the start
pub run_kept : (t p : ℕ) (l : List Step) → (i : Clock) × Kept (run (start t p) l) i
run_kept t p l =
    whole_run Kept (λ s. true) (λ σ i k th pl v u A K. grown σ i K k th pl v A) (λ σ i th w u M K. drained σ i K th w M)
    (start t p) zero_clock l (every_true l) (start_kept t p)

-- a state that some trace leads to
pub reached_kept : (σ : State) → Reached σ → (κ : Clock) × Kept σ κ
reached_kept σ r = subst (λ (τ : State). (κ : Clock) × Kept τ κ) (sym r.from_start) (run_kept σ.t σ.p r.steps)

-- ---- the moment when other threads begin: τ is the state then

-- what the theorem uses of it
pub record Begun (τ : State) : Type 0 where
  pub stores : (a : ℕ) → a < τ.n → T (is_kind (4 ∷ []) (τ.act a).what)
  pub of_zero : (a : ℕ) → a < τ.n → thread_at τ a ≡ 0
  pub each_place : (q : ℕ) → q < τ.p → (a : ℕ) × (a < τ.n) × (place_at τ a ≡ q)

-- stores of thread 0 only, and one or more to each place
pub begun : (τ : State) → T (stores_first τ) → Begun τ
unfolding stores_first
begun τ t =
    let ofs : Set = λ a. is_kind (4 ∷ []) (τ.act a).what && eqb (thread_at τ a) 0 in
    let each : Set = λ q. any τ.n λ a. eqb (place_at τ a) q in
    let u : T (all τ.n ofs) = search (and_l) in
    let v : T (all τ.p each) = search (and_r) in
    record {
      stores = λ a l. and_l (is_kind (4 ∷ []) (τ.act a).what) (eqb (thread_at τ a) 0) (all_e τ.n ofs u a l);
      of_zero = λ a l. eqb→eq (thread_at τ a) 0 (and_r (is_kind (4 ∷ []) (τ.act a).what) (eqb (thread_at τ a) 0) (all_e τ.n ofs u a l));
      each_place = λ q l. let (a, la, h) = any_e τ.n (λ a. eqb (place_at τ a) q) (all_e τ.p each v q l) in (a, la, eqb→eq (place_at τ a) q h);
    }

-- just one store to each place, relaxed: so there is a store to each
pub once_first : (σ : State) → T (stores_once σ) → T (stores_first σ)
unfolding stores_once stores_first
once_first σ t =
    let once : Set = λ a. is_kind (4 ∷ []) (σ.act a).what && is_order (1 ∷ []) (σ.act a).what && eqb (thread_at σ a) 0 in
    let ofs : Set = λ a. is_kind (4 ∷ []) (σ.act a).what && eqb (thread_at σ a) 0 in
    let one : Set = λ q. eqb (count σ.n λ a. eqb (place_at σ a) q) 1 in
    let each : Set = λ q. any σ.n λ a. eqb (place_at σ a) q in
    and_i (all σ.n ofs) (all σ.p each)
    (all_i σ.n ofs λ a l. let u : T (once a) = all_e σ.n once (and_l (all σ.n once) (all σ.p one) t) a l in
    let k : T (is_kind (4 ∷ []) (σ.act a).what) = search (and_l) in
    let z : T (eqb (thread_at σ a) 0) = search (and_r) in
    search (and_i))
    (all_i σ.p each λ q l. some (λ a. eqb (place_at σ a) q) (eqb→eq (count σ.n λ a. eqb (place_at σ a) q) 1 (all_e σ.p one (and_r (all σ.n once) (all σ.p one) t) q l)))
  where
    some : (f : Set) → count σ.n f ≡ 1 → T (any σ.n f)
    some f e = ⊎_elim (λ y. true_T y) (λ y. let z : count σ.n f ≡ 0 = count_none σ.n f (any_no σ.n f y) in absurd (omega arith)) (test (any σ.n f))

-- what stays of τ, and what comes after it
pub record After (τ : State) (ι : Clock) (σ : State) (κ : Clock) : Type 0 where
  pub p_same : σ.p ≡ τ.p
  pub more : τ.n ≤ σ.n
  pub later : ι.now ≤ κ.now
  pub act_same : (a : ℕ) → a < τ.n → σ.act a ≡ τ.act a
  pub settled_then : (a : ℕ) → a < τ.n → κ.settled a < ι.now
  pub other : (b : ℕ) → τ.n ≤ b → b < σ.n → thread_at σ b ≡ 0 → ⊥
  pub issued_then : (b : ℕ) → τ.n ≤ b → b < σ.n → ι.now ≤ κ.issued b

-- before the first step
after_none : (τ : State) (ι : Clock) → Kept τ ι → After τ ι τ ι
after_none τ ι K =
    record {
      p_same = refl;
      more = omega arith;
      later = omega arith;
      act_same = λ a l. refl;
      settled_then = K.settled_now;
      other = λ b l h. absurd (omega arith);
      issued_then = λ b l h. absurd (omega arith);
    }

-- an action of another thread
after_acts : (τ : State) (ι : Clock) (σ : State) (κ : Clock) (k : ActionKind) (th pl v : ℕ) → (th ≡ 0 → ⊥) → After τ ι σ κ → After τ ι (done σ k th pl v) (acted_clock κ σ.n)
unfolding done
after_acts τ ι σ κ k th pl v ne A =
    let m : τ.n ≤ σ.n = A.more in
    let l₀ : ι.now ≤ κ.now = A.later in
    let x : Action = record { what = k; thread = th; place = pl; read = worth σ (reading σ k th pl); written = v } in
    record {
      p_same = A.p_same;
      more = omega arith;
      later = omega arith;
      act_same = λ a l. put_other σ.act σ.n x a (λ e. omega arith) ∙ A.act_same a l;
      settled_then = λ a l. rw (put_other κ.settled σ.n κ.now a (λ e. omega arith)) (A.settled_then a l);
      other = λ b l h z.
          ⊎_elim
          (λ (e : b ≡ σ.n). ne (sym (ap (λ (y : Action). y.thread) (put_same σ.act σ.n x)) ∙ subst (λ (y : ℕ). (put σ.act σ.n x y).thread ≡ 0) e z))
          (λ (q : b < σ.n). A.other b l q (sym (ap (λ (y : Action). y.thread) (put_other σ.act σ.n x b (λ e. omega arith))) ∙ z))
          (top b σ.n h);
      issued_then = λ b l h.
          ⊎_elim
          (λ (e : b ≡ σ.n). subst (λ (y : ℕ). ι.now ≤ put κ.issued σ.n κ.now y) (sym e) (rw (put_same κ.issued σ.n κ.now) l₀))
          (λ (q : b < σ.n). rw (put_other κ.issued σ.n κ.now b (λ e. omega arith)) (A.issued_then b l q))
          (top b σ.n h);
    }

-- a drain of another thread
after_moves : (τ : State) (ι : Clock) (σ : State) (κ : Clock) (th w : ℕ) → Begun τ → (th ≡ 0 → ⊥) → Moved σ th w → After τ ι σ κ → After τ ι (arrived σ w) (moved_clock κ w)
unfolding arrived
after_moves τ ι σ κ th w S ne M A =
    let l₀ : ι.now ≤ κ.now = A.later in
    record {
      p_same = A.p_same;
      more = A.more;
      later = omega arith;
      act_same = A.act_same;
      settled_then = λ a l.
          let neq : a ≡ w → ⊥ = λ e. ne (sym M.own ∙ ap (λ (y : ℕ). thread_at σ y) (sym e) ∙ ap (λ (y : Action). y.thread) (A.act_same a l) ∙ S.of_zero a l) in
          rw (put_other κ.settled w κ.now a neq) (A.settled_then a l);
      other = A.other;
      issued_then = A.issued_then;
    }

-- both together, along the steps of other threads
pub record Going (τ : State) (ι : Clock) (σ : State) (κ : Clock) : Type 0 where
  pub kept : Kept σ κ
  pub after : After τ ι σ κ

-- a trace of other threads
pub run_going : (τ : State) (ι : Clock) (l : List Step) → Begun τ → Kept τ ι → T (every_step (λ s. not (eqb (owner s) 0)) l) → (κ : Clock) × Going τ ι (run τ l) κ
run_going τ ι l S K t =
    whole_run (Going τ ι) (λ s. not (eqb (owner s) 0))
    (λ σ i k th pl v u A G. record { kept = grown σ i G.kept k th pl v A; after = after_acts τ ι σ i k th pl v (neqb_e th 0 u) G.after })
    (λ σ i th w u M G. record { kept = drained σ i G.kept th w M; after = after_moves τ ι σ i th w S (neqb_e th 0 u) M G.after })
    τ ι l t (record { kept = K; after = after_none τ ι K })
