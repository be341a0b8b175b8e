use Rattle.std.proofs.Common.{not, ap, rules, refl, sym, ◌∙◌}
use Rattle.std.proofs.Math.Bool.{and-false}
use Rattle.rows.proofs.Laws.Joins.{image_none}
use Rattle.rows.proofs.Laws.Parts.{held_untold, joined_before}
use Rattle.rows.specs.Numbers.{has, held}
use Rattle.rows.specs.Sets.{never, both}
use Rattle.rows.proofs.join_in.Goals.{then-not-has_part-via-then-not-has_part, then-not-has_part-via-else-not-has_part+then-not-has_part-2}
use Rattle.rows.proofs.join_in.Goals as goal

pub returns-then-not-has_part : goal.returns-then-not-has_part
returns-then-not-has_part c =
    let a = c.args in
    let r = held a.d.now a.k in
    c.empty.ensures ∙ elim c.then-not-has_part.branch [
      | then-not-has_part-via-then-not-has_part w ↦
          rw (held_untold a.d.now a.k c.has_part.ensures (ap not w.if-not-has_part.true)) (sym (image_none a.n (has a.from) (λ x. both (never x) (held a.e.now a.l x)) (λ x y. refl)))
      | then-not-has_part-via-else-not-has_part+then-not-has_part-2 w ↦
          rw (held_untold a.e.now a.l w.has_part-else-not-has_part.ensures (ap not w.if-not-has_part-2.true)) (sym (image_none a.n (has a.from) (λ x. both (r x) (never x)) (λ x y. and-false (r x y))))
    ]

pub returns : goal.returns
returns c =
    let a = c.args in
    joined_before a.n a.from _ _ _ c.before-2.ensures (c.gather.ensures (λ x. both (held a.d.now a.k x) (held a.e.now a.l x)) (λ x row low h. search rules))
