use mathlib.Core.Path.{◌≡◌, ◌∙◌}
use native.Mathlib.Omega.{arith}
use borrow.Author.Rules.{rules}
use Rattle.rows.specs.Numbers.{held}
use Rattle.table.specs.Laws.Table.{reach_none, reach_more}
use Rattle.table.proofs.walk.follow.Goals as goal

pub loop-b-init : goal.loop-b-init
loop-b-init c =
    let s = c.args in
    (omega arith, (search rules, reach_none (held s.reached.now) 0 s.a (held s.t.now s.k s.c)))

pub loop-b-preserved : goal.loop-b-preserved
loop-b-preserved c =
    let l = c.loop-b in
    let s = c.args in
    let steps = held s.t.now s.k s.c in
    (omega arith, (search rules, reach_more (held s.reached.now) (held l.reached) (held c.mark.new.t) 0 s.a steps l.b l.invariant.1.1 (λ j x. c.mark.ensures j x ∙ rw c.edge.ensures)))

pub returns : goal.returns
returns c =
    let l = c.loop-b in
    let e : l.b ≡ c.args.n = omega arith in
    (rw e at l.invariant.1.1) 0
