-- `clear_derived`: the relations from 7 to below k are empty, and the others as they were. Assumes nothing.
use mathlib.Core.Path.{◌≡◌, refl, ◌∙◌, fun_ext}
use native.Mathlib.Omega.{arith}
use Rattle.rows.specs.Numbers.{area}
use Rattle.rows.proofs.Laws.Parts.{zeros_none}
use Rattle.relations.specs.Laws.Derive.{kept_none, kept_more}
use Rattle.search.specs.Finds.{nothing}
use borrow.Author.Rules.{rules}
use Rattle.search.proofs.clear_derived.Goals as goal

pub loop-k-init : goal.loop-k-init
loop-k-init c = (refl, (fun_ext (zeros_none area 0), (refl, (omega arith, (omega arith, kept_none nothing _)))))

pub loop-k-preserved : goal.loop-k-preserved
loop-k-preserved c =
    let l = c.loop-k in
    let i = l.invariant in
    (i.0, (i.1.0, (search rules, (omega arith, (omega arith, kept_more nothing nothing _ _ _ l.k i.1.1.1.0 (λ j ne. refl) (λ j. c.copy.ensures j ∙ rw i.1.0) i.1.1.1.1.1)))))

pub returns : goal.returns
returns c =
    let l = c.loop-k in
    let end : l.k ≡ 18 = omega (arith, l.invariant.1.1.1.1.0) in
    rw end at l.invariant.1.1.1.1.1
