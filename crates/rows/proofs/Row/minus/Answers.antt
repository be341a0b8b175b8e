use mathlib.Core.Path.{refl, ◌∙◌}
use borrow.Author.Rules.{rules}
use Rattle.rows.proofs.Laws.Members.{member_listed, member_less}
use Rattle.rows.proofs.Laws.Parts.{numbers_low}
use Rattle.rows.specs.Numbers.{listed, wide, numbers, has}
use Rattle.rows.proofs.Row.minus.Goals as goal

pub returns : goal.returns
unfolding has listed
returns c =
    let a = c.args in
    member_listed wide _ _ refl ∙ member_less wide (numbers a.self) (numbers a.other) (numbers_low a.other (search rules) (search rules))
