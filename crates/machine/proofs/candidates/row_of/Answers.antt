-- `candidates::row_of`: none from n on, else that of relation k. Assumes nothing.
use mathlib.Core.Path.{ap, ◌∙◌}
use native.Mathlib.Omega.{arith}
use Rattle.rows.specs.Sets.{Rel, before}
use Rattle.machine.specs.Code.{state_of}
use Rattle.machine.specs.Laws.Rows.{row_at, row_past, edges_none, asw_firsts}
use Rattle.machine.proofs.candidates.row_of.Goals as goal

pub returns-then-m-a : goal.returns-then-m-a
unfolding state_of
returns-then-m-a c = c.empty.ensures ∙ row_past (state_of c.args.m) c.args.k c.args.a c.requires.0 c.if-m-a.true

pub returns-then-k-eq-SB : goal.returns-then-k-eq-SB
unfolding state_of
returns-then-k-eq-SB c = let a = c.args in rw c.if-k-eq-SB.true (c.sb_row.ensures ∙ row_at (state_of a.m) 0 a.a (omega arith) (omega arith))

pub returns-then-k-eq-ASW : goal.returns-then-k-eq-ASW
unfolding state_of
returns-then-k-eq-ASW c =
    let a = c.args in
    rw c.if-k-eq-ASW.true (rw (c.only_if.ensures, c.is_last.ensures, c.requires.1.others) (asw_firsts (state_of a.m) a.a) ∙ row_at (state_of a.m) 1 a.a (omega arith) (omega arith))

pub returns-then-k-eq-RF : goal.returns-then-k-eq-RF
unfolding state_of
returns-then-k-eq-RF c =
    let a = c.args in
    rw c.if-k-eq-RF.true (c.rf_row.ensures ∙ row_at (state_of a.m) 4 a.a (omega arith) (omega arith))

pub returns-then-k-eq-MO : goal.returns-then-k-eq-MO
unfolding state_of
returns-then-k-eq-MO c =
    let a = c.args in
    rw c.if-k-eq-MO.true (c.mo_row.ensures ∙ row_at (state_of a.m) 6 a.a (omega arith) (omega arith))

pub returns : goal.returns
unfolding state_of
returns c =
    let a = c.args in
    c.empty-2.ensures
    ∙ ap (λ (r : Rel). before (r a.a) a.m.n) (edges_none (state_of a.m) a.k c.if-k-eq-SB.false c.if-k-eq-ASW.false c.if-k-eq-RF.false c.if-k-eq-MO.false)
    ∙ row_at (state_of a.m) a.k a.a c.requires.0 (omega arith)
