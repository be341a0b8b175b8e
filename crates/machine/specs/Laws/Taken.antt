-- What a step has that is not refused; and that every step is refused or has its effect.
use Prim.Native.Nat.{ℕ, ◌<◌}
use Rattle.std.specs.Prelude.{Bool, true, false, ◌&&◌, not, [], ◌∷◌, ◌≡◌, ◌⊎◌, ltb, is_ok, Ok, Err, refl}
use Rattle.std.proofs.Math.Bool.{cond, true≢false}
use Rattle.std.proofs.Common.{sym, ◌∙◌}
use Rattle.std.proofs.Math.Path.{ap}
use Rattle.std.proofs.Math.Logic.{inl, inr, ⊎_elim}
use Rattle.std.proofs.Math.Dec.{T, eqb, eqb→eq, ltb→lt, T_not, not_T}
use Rattle.rows.specs.Sets.{any, least}
use Rattle.rows.specs.Laws.Truth.{test, T_true, true_T, and_l, and_r, and_i, eqb_i, not_both}
use Rattle.rows.proofs.Laws.Quantifiers.{any_i, least_is, least_any}
use Rattle.model.specs.declared.ActionKind.{ActionKind}
use Rattle.model.specs.declared.refusals.Reason.TheVariants.{NotTraced, OutOfLimit, TooManyActions, WrongQueue}
use Rattle.model.specs.Refusals.{Passed, Refused, Walk}
use Rattle.model.proofs.Laws.Refusals.{given_not_refused}
use Rattle.machine.specs.declared.Step.{Step}
use Rattle.machine.specs.declared.Step.TheVariants.{Does, Drains}
use Rattle.machine.specs.Machine.{is_kind, taken, most_traced, State, queued, fits, refusal, effect, step, thread_at}

-- what passed is no refusal
passed_only : (w : Walk) → is_ok w ≡ true → w ≡ Passed
passed_only (Ok _) e = refl
passed_only (Err r) e = absurd (true≢false (sym e))

accepted : (p q r s : Bool)
    → cond (not p) (Refused NotTraced 0) (cond (not q) (Refused OutOfLimit 0) (cond (not r) (Refused TooManyActions 0) (cond s (Refused WrongQueue 0) Passed))) ≡ Passed
    → T p × T q × T r × T (not s)
accepted true true true true e = absurd (given_not_refused tt _ (sym e))
accepted true true true false e = (tt, tt, tt, tt)
accepted true true false s e = absurd (given_not_refused tt _ (sym e))
accepted true false r s e = absurd (given_not_refused tt _ (sym e))
accepted false q r s e = absurd (given_not_refused tt _ (sym e))

drainable : (p q : Bool) → cond (not p) (Refused OutOfLimit 0) (cond (not q) (Refused WrongQueue 0) Passed) ≡ Passed → T p × T q
drainable true true e = (tt, tt)
drainable true false e = absurd (given_not_refused tt _ (sym e))
drainable false q e = absurd (given_not_refused tt _ (sym e))

module _ (σ : State) where
  -- an action is taken
  pub record Acted (k : ActionKind) (th pl v : ℕ) : Type 0 where
    pub ok : T (taken k)
    pub fit : T (fits σ k th pl v)
    pub room : σ.n < most_traced
    pub free : T (is_kind (5 ∷ []) k) → (a : ℕ) → a < σ.n → T (queued σ th a) → ⊥

  -- a drain is taken
  pub record Moved (th w : ℕ) : Type 0 where
    pub below : w < σ.n
    pub waits : T (σ.waiting w)
    pub own : thread_at σ w ≡ th
    pub oldest : (a : ℕ) → a < w → thread_at σ a ≡ thread_at σ w → T (not (σ.waiting a))

  pub acted : (k : ActionKind) (th pl v : ℕ) → refusal σ (Does k th pl v) ≡ Passed → Acted k th pl v
  unfolding refusal
  acted k th pl v e =
      let (p, q, r, s) = accepted (taken k) (fits σ k th pl v) (ltb σ.n most_traced) (is_kind (5 ∷ []) k && any σ.n (queued σ th)) e in
      record {
        ok = p;
        fit = q;
        room = ltb→lt σ.n most_traced r;
        free = λ m a l t. T_not (is_kind (5 ∷ []) k && any σ.n (queued σ th)) s (and_i (is_kind (5 ∷ []) k) (any σ.n (queued σ th)) m (any_i σ.n (queued σ th) a l t));
      }

  pub moved : (th : ℕ) → refusal σ (Drains th) ≡ Passed → Moved th (least σ.n (queued σ th))
  unfolding refusal
  moved th e =
      let (p, q) = drainable (ltb th σ.t) (any σ.n (queued σ th)) e in
      let w : ℕ = least σ.n (queued σ th) in
      let L = least_is σ.n (queued σ th) in
      let lw : w < σ.n = least_any σ.n (queued σ th) (T_true (any σ.n (queued σ th)) q) in
      let t : T (queued σ th w) = true_T (L.hit lw) in
      let own : thread_at σ w ≡ th = eqb→eq (thread_at σ w) th (and_r (σ.waiting w) (eqb (thread_at σ w) th) t) in
      record {
        below = lw;
        waits = and_l (σ.waiting w) (eqb (thread_at σ w) th) t;
        own = own;
        oldest = λ a l z. not_T (σ.waiting a) (λ u.
            not_both (T_true (queued σ th a) (and_i (σ.waiting a) (eqb (thread_at σ a) th) u (eqb_i (thread_at σ a) th (z ∙ own)))) (L.miss a l));
      }

  -- a step that is refused changes nothing, one that is not has its effect
  pub step_cases : (s : Step) → (step σ s ≡ σ) ⊎ ((refusal σ s ≡ Passed) × (step σ s ≡ effect σ s))
  unfolding step
  step_cases s =
      ⊎_elim
      (λ (e : is_ok (refusal σ s) ≡ true). inr (passed_only (refusal σ s) e, ap (λ (y : Bool). cond y (effect σ s) σ) e))
      (λ (e : is_ok (refusal σ s) ≡ false). inl (ap (λ (y : Bool). cond y (effect σ s) σ) e))
      (test (is_ok (refusal σ s)))
