use Rattle.relations.specs.Laws.Derive.{base_is, ithb_steps}
use Rattle.relations.specs.Bases.{bases}
use Rattle.model.specs.Model.{cad, r, ithb_step, ithb, derived}
use Rattle.rows.specs.Sets.{never, within, closure}
use Rattle.rows.specs.Numbers.{held}
use Rattle.rows.proofs.Laws.Closure.{closure_within}
use lib.ListN.{get_or}
use native.Mathlib.Omega.{arith}
use mathlib.Core.Path.{◌≡◌, ap, ◌∙◌}
use Prim.Native.Nat.{◌-◌}
use Rattle.relations.proofs.fill.Goals as goal

pub returns-then-k-eq-VSSE : goal.returns-then-k-eq-VSSE
unfolding derived
returns-then-k-eq-VSSE c = c.fill_vsse.ensures ∙ rw c.if-k-eq-VSSE.true

pub returns-in-10 : goal.returns-in-10
unfolding bases derived cad
returns-in-10 c =
    let a = c.args in
    let rows = c.fill_rows.ensures in
    c.close.ensures ∙ ap (closure a.desk.now.n) rows ∙ closure_within a.desk.now.n (get_or (bases a.desk.now.n (held a.desk.now.book.now)) (a.k - 7) never) ∙ rw c.in-10.is

pub returns-in-12 : goal.returns-in-12
unfolding bases derived ithb
returns-in-12 c =
    let filled = c.fill_rows in
    let a = c.args in
    let ρ = held a.desk.now.book.now in
    let rows : held filled.new.part 0 ≡ within a.desk.now.n (r a.desk.now.n ρ) = filled.ensures ∙ rw c.in-12.is in
    let steps = rw rows at c.fill_after_sb.ensures ∙ ithb_steps a.desk.now.n ρ in
    c.close-in-12.ensures ∙ ap (closure a.desk.now.n) steps ∙ closure_within a.desk.now.n (ithb_step a.desk.now.n ρ) ∙ rw c.in-12.is

pub returns-in_default : goal.returns-in_default
returns-in_default c =
    let a = c.args in
    c.fill_rows.ensures ∙ ap (within a.desk.now.n) (base_is a.desk.now.n (held a.desk.now.book.now) (a.k - 7) (λ e. omega arith) (λ e. omega arith) (λ e. omega arith))
