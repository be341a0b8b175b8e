use mathlib.Core.Path.{refl, ◌∙◌}
use Rattle.rows.proofs.Laws.Members.{member_listed, member_and}
use Rattle.rows.specs.Numbers.{listed, wide, numbers, has}
use Rattle.rows.proofs.Row.and.Goals as goal

pub returns : goal.returns
unfolding has listed
returns c =
    let a = c.args in
    member_listed wide _ _ refl ∙ member_and wide (numbers a.self) (numbers a.other)
