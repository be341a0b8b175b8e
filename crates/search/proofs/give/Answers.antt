-- `give`: row a of the given relations is put with the edges. Assumes nothing.
use mathlib.Core.Path.{sym, ap, ◌∙◌}
use Rattle.rows.specs.Sets.{Rel}
use Rattle.rows.specs.Numbers.{has, held}
use Rattle.search.specs.Laws.Edges.{adds_is, blank_low, blank_put}
use Rattle.search.specs.Finds.{blank}
use Rattle.search.proofs.give.Goals as goal

pub returns : goal.returns
returns c =
    let a = c.args in
    let l = c.requires.0 in
    let ρ = held a.desk.now in
    let row_is = c.load-row.ensures ∙ ap (λ (r : Rel). r a.a) (sym (blank_low ρ a.k l)) in
    record { result_value = row_is; desk_after = blank_put a.k a.a _ ρ _ l c.put.ensures ∙ rw (c.or.ensures, row_is) (sym (adds_is a.k a.a (has a.s) (blank ρ))) }
