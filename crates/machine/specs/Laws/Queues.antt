-- The newest of a queue, where a read reads from, and the value that it finds there.
use Rattle.model.specs.Actions.{no_action}
use Rattle.model.specs.declared.Action.{Action}
use Rattle.std.proofs.Math.ListN.{get_or-eq_default}
use Rattle.std.specs.Prelude.{ℕ, ◌+◌, true, false, ◌≡◌, refl, get_or, zero, suc, ◌-◌, ◌≤◌, List, length}
use Rattle.std.proofs.Common.{add-one, sym, ◌∙◌, ap, arith}
use borrow.Author.Tests.{ne_eqb}
use Rattle.rows.specs.Sets.{Set}
use Rattle.rows.specs.Numbers.{has}
use Rattle.machine.specs.declared.Machine.{Machine}
use Rattle.machine.specs.Machine.{latest, found}
use Rattle.machine.specs.Code.{waits_at, state_of, worth_in}

-- ---- the newest, looked for one number after another

-- there is none at first
pub latest_none : (f : Set) → 0 ≡ latest 0 f
unfolding latest
latest_none f = refl

-- f holds at n: that is the newest
pub latest_hit : (n : ℕ) (f : Set) → f n ≡ true → n + 1 ≡ latest (n + 1) f
unfolding latest
latest_hit n f e = rw (add-one n, e)

-- f doesn't hold at n: the newest is still the same
pub latest_miss : (n : ℕ) (f : Set) → f n ≡ false → latest n f ≡ latest (n + 1) f
unfolding latest
latest_miss n f e = rw (add-one n, e)

-- ---- where a read reads from

module _ (m : Machine) (th pl own : ℕ) (e : own ≡ latest m.n (waits_at m.acts (has m.waiting) th pl)) where
  -- nothing of its own waits: from memory
  pub found_memory : own ≡ 0 → get_or m.memory pl 0 ≡ found (state_of m) th pl
  unfolding state_of found
  found_memory z = rw (← e, z)

  -- the newest of its own
  pub found_own : (own ≡ 0 → ⊥) → own ≡ found (state_of m) th pl
  unfolding state_of found
  found_own z = rw (← e, ne_eqb own 0 z)

-- ---- the value that is found there

-- of the action before s
pub worth_at : (acts : List Action) (s : ℕ) → (s ≡ 0 → ⊥) → (get_or acts (s - 1) no_action).written ≡ worth_in acts s
worth_at acts zero z = absurd (z refl)
worth_at acts (suc w) z = let e : suc w - 1 ≡ w = omega arith in rw e refl

-- there is none past the end
pub worth_out : (acts : List Action) (s : ℕ) → (s ≡ 0 → ⊥) → length acts ≤ s - 1 → 0 ≡ worth_in acts s
worth_out acts s z h = sym (ap (λ (y : Action). y.written) (get_or-eq_default acts no_action h)) ∙ worth_at acts s z
