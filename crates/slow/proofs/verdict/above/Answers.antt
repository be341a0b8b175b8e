use Prim.Native.Nat.{◌+◌}
use mathlib.Core.Path.{◌≡◌, refl}
use native.Mathlib.Omega.{arith}
use Rattle.rows.specs.Sets.{count}
use Rattle.rows.proofs.Laws.Quantifiers.{count_le}
use Rattle.slow.specs.Laws.Scan.{count_more}
use Rattle.slow.proofs.verdict.above.Invariants.{counted}
use Rattle.slow.proofs.verdict.above.Goals as goal

pub loop-b-init : goal.loop-b-init
unfolding count
loop-b-init c = (omega arith, refl)

pub overflow_add-total : goal.overflow_add-total
overflow_add-total c =
    let more : let s = c.args in let l = c.loop-b in
    l.total + c.one_if-total.result ≡ count (l.b + 1) (counted s.t.numbers.now s.k s.a) =
    let s = c.args in
    let l = c.loop-b in
    count_more (counted s.t.numbers.now s.k s.a) l.b l.total c.one_if-total.result l.invariant.1 (rw (c.one_if-total.ensures, c.edge.ensures)) in
    let l = c.loop-b in
    omega (arith, more, count_le (l.b + 1) (counted c.args.t.numbers.now c.args.k c.args.a), l.invariant.0, c.requires)

pub loop-b-preserved : goal.loop-b-preserved
loop-b-preserved c =
    let more : let s = c.args in let l = c.loop-b in
    l.total + c.one_if-total.result ≡ count (l.b + 1) (counted s.t.numbers.now s.k s.a) =
    let s = c.args in
    let l = c.loop-b in
    count_more (counted s.t.numbers.now s.k s.a) l.b l.total c.one_if-total.result l.invariant.1 (rw (c.one_if-total.ensures, c.edge.ensures)) in
    (omega arith, more)

pub returns : goal.returns
returns c =
    let l = c.loop-b in
    let e : l.b ≡ c.args.t.n = omega arith in
    rw e at l.invariant.1
