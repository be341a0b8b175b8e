use mathlib.Core.Path.{refl, ◌∙◌}
use Rattle.rows.proofs.Laws.Members.{member_listed, member_or}
use Rattle.rows.specs.Numbers.{listed, wide, numbers, has}
use Rattle.rows.proofs.Row.or.Goals as goal

pub returns : goal.returns
unfolding has listed
returns c =
    let a = c.args in
    member_listed wide _ _ refl ∙ member_or wide (numbers a.self) (numbers a.other)
