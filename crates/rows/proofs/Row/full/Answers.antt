use mathlib.Core.Path.{refl, ◌∙◌}
use Rattle.rows.proofs.Laws.Members.{member_listed, member_digit}
use Rattle.rows.specs.Numbers.{listed, number, digit, wide, has}
use mathlib.Core.Bool.{true}
use Rattle.rows.proofs.Row.full.Goals as goal

pub returns : goal.returns
unfolding has listed number digit
returns c = member_listed wide _ (digit λ b. true) refl ∙ member_digit wide (λ b. true)
