use Rattle.std.proofs.Common.{◌∙◌, sym, rules, arith, lt-ltb}
use Rattle.rows.specs.Numbers.{held}
use Rattle.model.specs.Limits.{given_relations}
use Rattle.drawing.proofs.Laws.Opened.{opened_actions, opened_places}
use Rattle.judge.specs.Laws.Judging.{good_settled}
use Rattle.inspector.specs.Laws.Lent.{book_lent}
use Rattle.inspector.proofs.judge_front.Goals as goal

pub judge_actions-requires : goal.judge_actions-requires
judge_actions-requires c =
    let few = c.head-head.ensures.heads.actions in
    (few, omega (arith, few, c.requires.1), search rules)

pub returns : goal.returns
returns c =
    let d = c.args.drawing in
    let h = d.head in
    let σ = held c.fill.new.store in
    let acts = c.actions-acts.ensures ∙ sym (opened_actions _ _ d.good) in
    let places = c.places-places.ensures ∙ sym (opened_places _ _ d.good) in
    good_settled d.file.now h.edition h.n h.t h.p d.good σ (λ k l. c.fill.ensures k ∙ rw (lt-ltb k given_relations l)) _ _ _ _ (λ i. (c.slice_known-4-1.given i).fits) (search rules)
    (rw (acts, places, c.head-head.ensures.value, book_lent d.file.now h.edition h.n h.t h.p σ d.good) at c.judge_actions.ensures)
