use Prim.Native.Nat.{◌+◌}
use mathlib.Core.Path.{◌≡◌, refl, sym}
use native.Mathlib.Omega.{arith}
use Rattle.rows.specs.Sets.{sum}
use Rattle.rows.specs.Numbers.{size, held}
use Rattle.rows.proofs.Laws.Quantifiers.{sum_one}
use Rattle.rows.proofs.Laws.Pairs.{pairs_small}
use Rattle.slow.proofs.verdict.pairs.Invariants.{counted}
use Rattle.slow.proofs.verdict.pairs.Goals as goal

pub loop-a-init : goal.loop-a-init
unfolding sum
loop-a-init c = (omega arith, refl)

pub overflow_add-total : goal.overflow_add-total
overflow_add-total c =
    let more : let s = c.args in let l = c.loop-a in
    l.total + c.above-total.result ≡ sum (l.a + 1) (counted s.t.numbers.now s.t.n s.k) =
    let s = c.args in
    let l = c.loop-a in
    rw (c.above-total.ensures, l.invariant.1) (sym (sum_one l.a (counted s.t.numbers.now s.t.n s.k))) in
    let l = c.loop-a in
    omega (arith, more, pairs_small size c.args.t.n (l.a + 1) (held c.args.t.numbers.now c.args.k) c.requires, l.invariant.0, c.requires)

pub loop-a-preserved : goal.loop-a-preserved
loop-a-preserved c =
    let more : let s = c.args in let l = c.loop-a in
    l.total + c.above-total.result ≡ sum (l.a + 1) (counted s.t.numbers.now s.t.n s.k) =
    let s = c.args in
    let l = c.loop-a in
    rw (c.above-total.ensures, l.invariant.1) (sym (sum_one l.a (counted s.t.numbers.now s.t.n s.k))) in
    (omega arith, more)

pub returns : goal.returns
returns c =
    let l = c.loop-a in
    let e : l.a ≡ c.args.t.n = omega arith in
    rw e at l.invariant.1
