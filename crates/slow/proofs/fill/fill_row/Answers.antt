use mathlib.Core.Path.{◌≡◌, ◌∙◌}
use native.Mathlib.Omega.{arith}
use borrow.Author.Rules.{rules}
use Rattle.rows.specs.Numbers.{held}
use Rattle.table.specs.Laws.Table.{reach_none, reach_more}
use Rattle.slow.proofs.fill.fill_row.Invariants.{row}
use Rattle.slow.proofs.fill.fill_row.Goals as goal

pub loop-b-init : goal.loop-b-init
loop-b-init c =
    let s = c.args in
    (omega arith, (search rules, reach_none (held s.part.now) 0 s.a (row s.k s.t.numbers.now s.t.n s.a)))

pub loop-b-preserved : goal.loop-b-preserved
loop-b-preserved c =
    let l = c.loop-b in
    let s = c.args in
    (omega arith, (search rules, reach_more (held s.part.now) (held l.part) (held c.mark.new.t) 0 s.a (row s.k s.t.numbers.now s.t.n s.a) l.b l.invariant.1.1 (λ j x. c.mark.ensures j x ∙ rw (c.step.ensures c.requires.2))))

pub returns : goal.returns
returns c =
    let l = c.loop-b in
    let e : l.b ≡ c.args.t.n = omega arith in
    (rw e at l.invariant.1.1) 0
