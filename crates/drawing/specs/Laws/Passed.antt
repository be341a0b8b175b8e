-- What a part of the check that passed tells.
use Rattle.std.specs.Prelude.{ℕ, zero, suc, ◌+◌, ◌<◌, ◌≤◌, ◌≡◌, refl, Bool, true, false, cond, List, length, ltb, eqb, Ok, Err}
use Rattle.std.proofs.Common.{sym, ⊎_elim, arith, eq-or-lt_of_le, ltb-false, eqb-true}
use Rattle.model.specs.Candidates.{edition_ok}
use Rattle.model.specs.Limits.{most_actions, most_threads, most_places}
use Rattle.model.specs.declared.refusals.Reason.{Reason}
use Rattle.model.specs.Refusals.{Passed, Refused, Walk}
use Rattle.drawing.specs.Files.{le_at, edition_in, actions_in, threads_in, places_in, then, walks, head_check, edition_check, limits_check, header_check}

refused_not_passed : (k : Reason) (a : ℕ) → Refused k a ≡ Passed → ⊥
refused_not_passed k a e = let z : ◌≡◌ {A = ℕ} 0 1 = cc in omega arith

pub unless : (b : Bool) (k : Reason) (a : ℕ) (w : Walk) → cond b (Refused k a) w ≡ Passed → (b ≡ false) × (w ≡ Passed)
unless true k a w e = absurd (refused_not_passed k a e)
unless false k a w e = (refl, e)

pub only_if : (b : Bool) (k : Reason) (a : ℕ) (w : Walk) → cond b w (Refused k a) ≡ Passed → (b ≡ true) × (w ≡ Passed)
only_if true k a w e = (refl, e)
only_if false k a w e = absurd (refused_not_passed k a e)

pub both_pass : (v w : Walk) → then v w ≡ Passed → (v ≡ Passed) × (w ≡ Passed)
both_pass (Ok _) w e = (refl, e)
both_pass (Err r) w e = absurd (refused_not_passed r.reason r.at e)

-- each part of a walk that passed passed
pub each_pass : (f : ℕ → Walk) (i m : ℕ) → walks f i m ≡ Passed → (j : ℕ) → i ≤ j → j < i + m → f j ≡ Passed
unfolding walks
each_pass f i zero e j l h = absurd (let z : ⊥ = omega arith in z)
each_pass f i (suc m) e j l h =
    let p = both_pass (f i) (walks f (i + 1) m) e in
    ⊎_elim (λ (q : i ≡ j). rw (sym q) p.0) (λ q. each_pass f (i + 1) m p.1 j (omega arith) (omega arith)) (eq-or-lt_of_le l)

-- a walk passes if each of its parts does
pub walks_pass : (f : ℕ → Walk) (i m : ℕ) → ((j : ℕ) → j < i + m → f j ≡ Passed) → walks f i m ≡ Passed
unfolding walks
walks_pass f i zero h = refl
walks_pass f i (suc m) h = rw (h i (omega arith)) (walks_pass f (i + 1) m (λ j l. h j (omega arith)))

-- a record whose head passed has its kind and its length, and is there
pub record Headed (s : List ℕ) (at kind len : ℕ) : Type 0 where
  pub kind_due : le_at s (at + 2) 2 ≡ kind
  pub length_due : le_at s at 2 ≡ len
  pub room : at + 4 + len ≤ length s

pub headed : (s : List ℕ) (at kind len : ℕ) → head_check s at kind len ≡ Passed → Headed s at kind len
unfolding head_check
headed s at kind len e =
    let a = unless (ltb (length s) (at + 4)) _ _ _ e in
    let b = only_if (eqb (le_at s (at + 2) 2) kind) _ _ _ a.1 in
    let d = only_if (eqb (le_at s at 2) len) _ _ _ b.1 in
    let f = unless (ltb (length s) (at + 4 + len)) _ _ _ d.1 in
    record {
      kind_due = eqb-true (le_at s (at + 2) 2) kind b.0;
      length_due = eqb-true (le_at s at 2) len d.0;
      room = ltb-false (length s) (at + 4 + len) f.0;
    }

-- edition, N, T and P of a first record that passed
pub record Limited (newest : ℕ) (s : List ℕ) : Type 0 where
  pub edition : edition_ok newest (edition_in s) ≡ true
  pub actions : actions_in s ≤ most_actions
  pub threads : threads_in s ≤ most_threads
  pub places : places_in s ≤ most_places

pub limited : (newest : ℕ) (s : List ℕ) → then (edition_check newest s) (limits_check s) ≡ Passed → Limited newest s
unfolding edition_check limits_check
limited newest s e =
    let h = both_pass (edition_check newest s) _ e in
    let a = only_if (edition_ok newest (edition_in s)) _ _ _ h.0 in
    let b = unless (ltb most_actions (actions_in s)) _ _ _ h.1 in
    let d = unless (ltb most_threads (threads_in s)) _ _ _ b.1 in
    let f = unless (ltb most_places (places_in s)) _ _ _ d.1 in
    record {
      edition = a.0;
      actions = ltb-false most_actions (actions_in s) b.0;
      threads = ltb-false most_threads (threads_in s) d.0;
      places = ltb-false most_places (places_in s) f.0;
    }

pub header_headed : (newest : ℕ) (s : List ℕ) → header_check newest s ≡ Passed → Headed s 0 1 8
unfolding header_check
header_headed newest s e = headed s 0 1 8 (both_pass (head_check s 0 1 8) _ e).0

pub header_limited : (newest : ℕ) (s : List ℕ) → header_check newest s ≡ Passed → Limited newest s
unfolding header_check
header_limited newest s e = limited newest s (both_pass (head_check s 0 1 8) _ e).1
