-- `lay_plan`: the first i rows of the plan are laid. Assumes nothing.
use native.Mathlib.Omega.{arith}
use borrow.Author.Count.{below_none}
use borrow.Author.Rules.{rules}
use Rattle.rows.specs.Numbers.{has, held}
use Rattle.rows.proofs.Laws.Loops.{fill_more}
use Rattle.finder.specs.Finding.{plan_row}
use Rattle.finder.proofs.lay_plan.Goals as goal

pub loop-i-init : goal.loop-i-init
loop-i-init c = (omega arith, (search rules, below_none _))

pub loop-i-preserved : goal.loop-i-preserved
loop-i-preserved c =
    let a = c.args in
    let l = c.loop-i in
    let new = c.put in
    let row = c.plan_row in
    (omega arith, (search rules, fill_more (plan_row a.n a.p (held a.desk.now) (held a.at.now 0)) (held l.plan 0) (held new.new.d 0) l.i (has row.result) (new.ensures 0) row.ensures l.invariant.1.1))

pub returns : goal.returns
returns c = λ i h. c.loop-i.invariant.1.1 i (omega arith)
