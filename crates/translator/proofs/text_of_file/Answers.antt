use mathlib.Core.Path.{sym, ◌∙◌}
use borrow.Author.Rules.{rules}
use Rattle.translator.proofs.text_of_file.Goals as goal

pub returns-in_err-head : goal.returns-in_err-head
returns-in_err-head c = rw (sym c.check_file.ensures ∙ c.in_err-head.was) (search rules)
