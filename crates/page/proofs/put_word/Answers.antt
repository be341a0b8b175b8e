use Rattle.std.proofs.Common.{ap, ◌∙◌, refl, get_or}
use Rattle.page.specs.Page.{stamp, write}
use Rattle.page.specs.Laws.Pages.{write_next}
use Rattle.page.proofs.put_word.Goals as goal

pub loop-b-init : goal.loop-b-init
unfolding write
loop-b-init c = refl

pub loop-b-preserved : goal.loop-b-preserved
loop-b-preserved c =
    let l = c.loop-b in
    write_next _ _ _ l.b-index c.loop-b-test.true (c.put_at-next.ensures ∙ ap (λ p. stamp c.args.most p (get_or c.args.word.now l.b-index 0)) l.invariant)
