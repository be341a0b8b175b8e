use Rattle.std.proofs.Common.{ℕ, ◌≡◌, ◌+◌, ◌-◌, arith, ap, subst}
use Rattle.rows.proofs.Laws.Closure.{round_none, round_or}
use Rattle.rows.proofs.Laws.Parts.{held_out, held_wide}
use Rattle.rows.specs.Laws.Closure.{Round}
use Rattle.rows.specs.Numbers.{size, held}
use Rattle.rows.specs.Sets.{Set}
use Rattle.rows.proofs.close_round.Goals as goal

pub loop-a-init : goal.loop-a-init
loop-a-init c =
    let part = c.args.part.now in
    round_none size c.args.n (held part 0) (λ x b l. ap (λ (t : Set). t b) (held_out part 0 x l))

pub loop-a-preserved : goal.loop-a-preserved
loop-a-preserved c =
    let l = c.loop-a in
    let n = c.args.n in
    let old = held c.args.part.now 0 in
    let now = held l.part 0 in
    let step = c.close_row-more in
    let q : l.a ≡ l.a - 1 + 1 = omega arith in
    round_or size n old now _ (l.a - 1) l.more (subst (λ (i : ℕ). Round n old now i l.more) q l.invariant) step.ensures.by_index _ (held_wide l.part 0) step.ensures.value
