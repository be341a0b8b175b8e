use Rattle.std.proofs.Common.{not, ap, rules, refl, sym, ◌∙◌}
use Rattle.rows.proofs.Laws.Joins.{image_none}
use Rattle.rows.proofs.Laws.Parts.{held_untold, joined_before}
use Rattle.rows.specs.Numbers.{has, held}
use Rattle.rows.specs.Sets.{never, without}
use Rattle.rows.proofs.join_others.Goals as goal

pub returns-then-not-has_part : goal.returns-then-not-has_part
returns-then-not-has_part c =
    let a = c.args in
    c.empty.ensures ∙ rw (held_untold a.d.now a.k c.has_part.ensures (ap not c.if-not-has_part.true)) (sym (image_none a.n (has a.from) (λ x. without (never x) x) (λ x y. refl)))

pub returns : goal.returns
returns c =
    let a = c.args in
    joined_before a.n a.from _ _ _ c.before-2.ensures (c.gather.ensures (λ x. without (held a.d.now a.k x) x) (λ x row low h. search rules))
