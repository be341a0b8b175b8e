-- `leaf`: no budget; or the candidate is judged, and laid if it is passed. Assumes nothing.
use mathlib.Core.Path.{refl, sym, ◌∙◌}
use Rattle.search.specs.Laws.Edges.{judged_kept, judged_laid}
use Rattle.search.specs.Laws.Walks.{walks_refused, passed_at, failed_at}
use Rattle.search.proofs.leaf.Goals as goal

pub returns-then-budget-eq0 : goal.returns-then-budget-eq0
returns-then-budget-eq0 c = record { walks = rw c.if-budget-eq0.true (walks_refused _ _ _ _); back = refl }

pub returns-then-judge_desk : goal.returns-then-judge_desk
returns-then-judge_desk c =
    let judged = c.judge_desk.ensures in
    record {
      walks = passed_at _ _ _ _ _ _ c.if-budget-eq0.false (sym judged.value ∙ c.if-judge_desk.true) (judged_laid _ _ _ _ judged.by_index _ _ judged.desk_unchanged c.lay_half.ensures);
      back = judged.desk_unchanged;
    }

pub returns : goal.returns
returns c =
    let judged = c.judge_desk.ensures in
    record {
      walks = failed_at _ _ _ _ _ _ c.if-budget-eq0.false (sym judged.value ∙ c.if-judge_desk.false) (judged_kept _ _ _ _ judged.by_index);
      back = judged.desk_unchanged;
    }
