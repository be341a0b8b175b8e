-- A thread out of its limit, nothing that waits, or the oldest store moved out.
use Rattle.std.proofs.Common.{rules, ℕ, ◌<◌, ◌≤◌, ◌≡◌, refl, sym, ap, ◌∙◌, arith, lt-ltb, ltb-true, ltb}
use Rattle.std.proofs.Math.Bool.{Bool, true, false, not, and-true}
use Rattle.std.specs.Prelude.{Err}
use Rattle.rows.proofs.Laws.Quantifiers.{any_before, least_is, least_any, least_hit}
use Rattle.rows.specs.Laws.Truth.{both_true}
use Rattle.rows.specs.Numbers.{has, size}
use Rattle.rows.specs.Sets.{Set, any, least, before}
use Rattle.drawing.specs.Laws.Passed.{only_if}
use Rattle.model.specs.declared.refusals.Reason.TheVariants.{WrongQueue}
use Rattle.model.specs.Refusals.{Passed}
use Rattle.machine.specs.declared.Step.TheVariants.{Drains}
use Rattle.machine.specs.Code.{waits}
use Rattle.machine.specs.Laws.Reaching.{drain_out, drain_none, drain_some, drain_effect, effect_reached, stepped_taken, stepped_refused}
use Rattle.machine.proofs.steps.drain.Goals as goal

-- the least member of a row that is f below n is the least number below n at which f holds
least_cut : (n : ℕ) (f s : Set) → s ≡ before f n → any size s ≡ true → (least size s < n) × (least size s ≡ least n f)
least_cut n f s e some =
    let k = least size s in
    let p = least_is size s in
    let hit = both_true (f k) (ltb k n) (ap (λ (t : Set). t k) (sym e) ∙ p.hit (least_any size s some)) in
    let low : k < n = ltb-true k n hit.1 in
    (low, sym (least_hit n f k low hit.0 (λ i l. let q : i < n = omega arith in rw (e, lt-ltb i n q, and-true (f i)) at (p.miss i l))))

-- a row that isn't empty has a member
twice : (b : Bool) → not (not b) ≡ b
twice true = refl
twice false = refl

pub returns-in_err-unless : goal.returns-in_err-unless
returns-in_err-unless c =
    let m = c.args.m in
    let th = c.args.thread in
    let left : c.from_residual.result ≡ Err c.in_err-unless.field-0.0 = search rules in
    rw left (stepped_refused m (Drains th) _ (drain_out m th (sym c.unless.ensures ∙ c.in_err-unless.was)))

pub returns-in_err-unless-2 : goal.returns-in_err-unless-2
returns-in_err-unless-2 c =
    let m = c.args.m in
    let th = c.args.thread in
    let f = waits m.acts (has m.waiting) th in
    let few : m.n ≤ size = omega (arith, m.few) in
    let some : not c.is_empty.result ≡ any m.n f = ap not c.is_empty.ensures ∙ twice _ ∙ ap (any size) c.queue-queue.ensures ∙ any_before m.n size f few in
    let left : c.from_residual-in_err-unless-2.result ≡ Err c.in_err-unless-2.field-0.0 = search rules in
    rw left (stepped_refused m (Drains th) _ (drain_none m th (sym c.unless.ensures ∙ c.in_ok-unless.was) (rw some at (sym c.unless-2.ensures ∙ c.in_err-unless-2.was))))

pub move_out-requires : goal.move_out-requires
move_out-requires c =
    let m = c.args.m in
    let th = c.args.thread in
    let w = c.lowest in
    let f = waits m.acts (has m.waiting) th in
    let few : m.n ≤ size = omega (arith, m.few) in
    let held : any size (has c.queue-queue.result) ≡ true = sym (twice _) ∙ ap not (sym c.is_empty.ensures) ∙ (only_if (not c.is_empty.result) WrongQueue 0 Passed (sym c.unless-2.ensures ∙ c.in_ok-unless-2.was)).0 in
    let some : not c.is_empty.result ≡ any m.n f = ap not c.is_empty.ensures ∙ twice _ ∙ ap (any size) c.queue-queue.ensures ∙ any_before m.n size f few in
    let h = least_cut m.n f _ c.queue-queue.ensures held in
    let passed = drain_some m th (sym c.unless.ensures ∙ c.in_ok-unless.was) (rw some at (sym c.unless-2.ensures ∙ c.in_ok-unless-2.was)) in
    (rw w.ensures h.0, rw (drain_effect m th w.result (w.ensures ∙ h.1)) (effect_reached m (Drains th) passed))

pub returns : goal.returns
returns c =
    let m = c.args.m in
    let th = c.args.thread in
    let w = c.lowest in
    let f = waits m.acts (has m.waiting) th in
    let few : m.n ≤ size = omega (arith, m.few) in
    let held : any size (has c.queue-queue.result) ≡ true = sym (twice _) ∙ ap not (sym c.is_empty.ensures) ∙ (only_if (not c.is_empty.result) WrongQueue 0 Passed (sym c.unless-2.ensures ∙ c.in_ok-unless-2.was)).0 in
    let some : not c.is_empty.result ≡ any m.n f = ap not c.is_empty.ensures ∙ twice _ ∙ ap (any size) c.queue-queue.ensures ∙ any_before m.n size f few in
    let h = least_cut m.n f _ c.queue-queue.ensures held in
    stepped_taken m (Drains th) c.move_out.result
    (drain_some m th (sym c.unless.ensures ∙ c.in_ok-unless.was) (rw some at (sym c.unless-2.ensures ∙ c.in_ok-unless-2.was)))
    (c.move_out.ensures ∙ drain_effect m th w.result (w.ensures ∙ h.1))
