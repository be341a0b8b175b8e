-- `judge_desk`: notes, relations and rules, one after another: what stood in the relations is never read. Assumes nothing.
use mathlib.Core.Path.{sym, ap, ◌∙◌}
use Rattle.rows.specs.Numbers.{held}
use Rattle.model.specs.Judge.{is_passed, verdict}
use Rattle.model.specs.Laws.Filled.{filled_is}
use Rattle.choices.specs.Walks.{passes}
use Rattle.search.specs.Finds.{blank}
use Rattle.desk.specs.Laws.Notes.{noted_filled}
use Rattle.search.specs.Laws.Edges.{blank_filled, placing_filled, filled_blank}
use Rattle.search.proofs.judge_desk.Goals as goal

pub scan-requires : goal.scan-requires
scan-requires c =
    let ρ = held c.args.desk.now in
    let derived = c.derive.ensures.d_after in (
      c.requires.0,
      rw derived (noted_filled c.args.n ρ _ c.take_notes.ensures),
      rw derived (filled_is c.args.n ρ),
      rw derived (placing_filled c.args.n ρ c.requires.3),
    )

pub returns : goal.returns
unfolding passes
returns c =
    let a = c.args in
    let ρ = held a.desk.now in
    let derived = c.derive.ensures.d_after in
    let same = derived ∙ sym (blank_filled a.n ρ) in record { value = c.is_passed.ensures ∙ ap is_passed (c.scan.ensures ∙ ap (verdict a.edition a.n) same); by_index = λ j. c.derive.ensures.by_index j ∙ rw same; desk_unchanged = ap blank derived ∙ filled_blank a.n ρ }
