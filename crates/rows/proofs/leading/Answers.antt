use Rattle.std.proofs.Common.{not, ap, rules, refl, sym, ◌∙◌}
use Rattle.std.proofs.Math.Bool.{and-false, not-not}
use Rattle.std.proofs.Math.Path.{fun_ext}
use Rattle.rows.proofs.Laws.Loops.{gather_passing}
use Rattle.rows.proofs.Laws.Parts.{held_untold, has_out}
use Rattle.rows.proofs.Laws.Quantifiers.{any_none}
use Rattle.rows.specs.Numbers.{size, has, held}
use Rattle.rows.specs.Sets.{Set, any, never, both, when, single, before}
use Rattle.rows.proofs.leading.Goals as goal

pub returns-then-not-has_part : goal.returns-then-not-has_part
returns-then-not-has_part c =
    let a = c.args in
    c.empty.ensures ∙ rw (held_untold a.d.now a.k c.has_part.ensures (ap not c.if-not-has_part.true)) (fun_ext λ b. rw (any_none size (both (never b) (has a.these)) (λ x l. refl)) (sym (and-false (has a.from b))))

pub returns : goal.returns
returns c =
    let a = c.args in
    let leads : Set = λ x. any size (both (held a.d.now a.k x) (has a.these)) in
    c.gather.ensures (λ x. when (leads x) (before (single x) size)) (λ x row low h. let e = not-not (leads x) in search rules)
    ∙ gather_passing size (has a.from) leads (has_out a.from)
