-- `file_of_text`: the check up to the edges, then the rest. Assumes nothing.
use mathlib.Core.Path.{◌≡◌, sym, ◌∙◌}
use borrow.Author.Rules.{rules}
use Rattle.std.specs.Prelude.{Err}
use Rattle.rows.proofs.Laws.Parts.{zeros_none}
use Rattle.model.specs.Limits.{store_length}
use Rattle.translator.specs.Laws.Translating.{begin_refused}
use Rattle.translator.proofs.file_of_text.Goals as goal

pub file_of_begun-requires : goal.file_of_begun-requires
file_of_begun-requires c =
    (sym c.begin.ensures ∙ c.in_ok-start.was, search rules, λ k a l. zeros_none store_length k a)

pub returns-in_err-start : goal.returns-in_err-start
returns-in_err-start c =
    let left : c.from_residual.result ≡ Err c.in_err-start.field-0.0 = search rules in
    rw left (begin_refused _ _ _ (sym c.begin.ensures ∙ c.in_err-start.was))
