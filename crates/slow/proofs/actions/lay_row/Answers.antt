use mathlib.Core.Path.{◌≡◌, refl, ◌∙◌}
use native.Mathlib.Omega.{arith}
use borrow.Author.Rules.{rules}
use Rattle.rows.specs.Numbers.{held}
use Rattle.slow.specs.Laying.{row}
use Rattle.table.specs.Laws.Table.{reach_none, reach_more}
use Rattle.slow.proofs.actions.lay_row.Goals as goal

pub loop-b-init : goal.loop-b-init
loop-b-init c =
    let s = c.args in
    (omega arith, (refl, reach_none (held s.t.now) s.k s.a (row s.acts s.places.now s.k s.a)))

pub loop-b-preserved : goal.loop-b-preserved
loop-b-preserved c =
    let s = c.args in
    let l = c.loop-b in (
      omega arith,
      (
        search rules,
        reach_more (held s.t.now) (held l.t) (held c.mark.new.t) s.k s.a (row s.acts s.places.now s.k s.a) l.b l.invariant.1.1
            (λ j r. c.mark.ensures j r ∙ rw (c.entry.ensures, c.place_kind-q.ensures)),
      ),
    )

pub returns : goal.returns
returns c =
    let e : c.loop-b.b ≡ c.args.n = omega arith in
    rw e at c.loop-b.invariant.1.1
