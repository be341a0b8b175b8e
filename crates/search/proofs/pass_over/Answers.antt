-- `pass_over`: an order of no action and the choices after it have the books of these. Assumes nothing.
use Rattle.std.proofs.Common.{ℕ, ◌+◌, ◌-◌, ◌≤◌, ◌≡◌, false, ap, ◌∙◌, arith}
use mathlib.Core.Bool.{not}
use mathlib.Core.Path.{fun_ext}
use Rattle.rows.specs.Sets.{Rel, any}
use Rattle.rows.specs.Numbers.{size}
use Rattle.rows.specs.Laws.Truth.{none_left}
use Rattle.choices.specs.Walks.{spread, ordering}
use Rattle.choices.proofs.Laws.Lists.{arranged_none, spread_order}
use Rattle.search.proofs.pass_over.Goals as goal

spread_past : (n p : ℕ) (π : Rel) (o : ℕ) → (o ≡ 0 → ⊥) → n ≤ n + p - (o - 1) → any size (π (n + p - (o - 1))) ≡ false → spread n p π (o - 1) ≡ spread n p π o
spread_past n p π o some l e = fun_ext λ σ. arranged_none (ordering n p (n + p - (o - 1))) (π (n + p - (o - 1))) (spread n p π (o - 1)) σ e ∙ spread_order n p π σ o some l

pub loop-left-preserved : goal.loop-left-preserved
loop-left-preserved c =
    let l = c.loop-left in
    let e = rw c.load.ensures at (none_left c.is_empty.ensures (ap not c.if-is_empty.true)) in
    (omega arith, spread_past _ _ _ l.left (λ z. omega arith) (omega arith) e ∙ l.invariant.1)
