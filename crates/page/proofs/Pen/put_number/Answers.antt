use Prim.Native.Nat.{ℕ, zero, suc, ◌^◌, ◌-◌, ◌/◌, ◌<◌, ◌≤◌}
use Rattle.std.proofs.Common.{arith, append_assoc, pow-suc}
use mathlib.Core.Path.{◌≡◌}
use Rattle.std.proofs.lemmas.List.{drop-set, take_rest, length-set}
use Rattle.page.specs.Laws.Numbers.{decimal_digit, decimal_more}
use Rattle.page.specs.Laws.Pens.{pens}
use Rattle.page.proofs.Pen.put_number.Goals as goal

-- a tenth has one digit less
tenth : (left first : ℕ) → 10 ≤ left → left < 10 ^ first → (left / 10 < 10 ^ (first - 1)) × (1 ≤ first)
tenth left zero h l = absurd (omega arith)
tenth left (suc k) h l = let e : suc k - 1 ≡ k = omega arith in (rw e (omega (arith, pow-suc 10 k)), omega arith)

pub loop-left-preserved : goal.loop-left-preserved
loop-left-preserved c =
    let l = c.loop-left in
    let t = tenth l.left l.first c.loop-left-test.true l.invariant.0 in
    (t.0, grind (arith, length-set), grind (arith, length-set), grind (arith, decimal_more, drop-set, append_assoc))

pub returns : goal.returns
returns c = grind (arith, pens, decimal_digit, take_rest)
