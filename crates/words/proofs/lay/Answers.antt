use mathlib.Core.Path.{◌∙◌, fun_ext}
use native.Mathlib.Omega.{arith}
use Rattle.rows.specs.Numbers.{held}
use Rattle.rows.proofs.Laws.Parts.{held_short}
use Rattle.words.proofs.Book.{sheet_words, sheet_places, sheet_threads, sheet_values, laid}
use Rattle.words.proofs.lay.Goals as goal

pub returns : goal.returns
returns c =
    let a = c.args in
    λ acts places h. fun_ext λ j.
    c.lay_values.ensures j
    ∙ rw (
      c.lay_meets-2.ensures j,
      c.lay_meets.ensures j,
      c.lay_words.ensures j,
      c.lay_given.ensures j,
      sheet_words a.n acts places a.sheet.now h,
      sheet_places a.n acts places a.sheet.now h,
      sheet_threads a.n acts places a.sheet.now h,
      sheet_values a.n acts places a.sheet.now h,
    ) (laid a.n acts places (held a.store.now) (held a.desk.now) (λ k l. held_short a.desk.now k (omega arith)) j)
