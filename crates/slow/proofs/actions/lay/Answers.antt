use Rattle.slow.specs.Laws.Laying.{book_laid}
use Rattle.rows.specs.Numbers.{held}
use Rattle.rows.specs.Sets.{Rel, never}
use mathlib.Core.Path.{◌≡◌, ap, ◌∙◌, fun_ext}
use borrow.Author.Rules.{rules}
use Rattle.slow.proofs.actions.lay.Goals as goal

pub lay_part-requires : goal.lay_part-requires
lay_part-requires c = (search rules, search rules, search rules, λ a. ap (λ (r : Rel). r a) (c.lay_given.ensures 18) ∙ c.requires.3 18 a)

pub lay_part-requires-2 : goal.lay_part-requires-2
lay_part-requires-2 c = (search rules, search rules, search rules, λ a. ap (λ (r : Rel). r a) (c.lay_part.ensures 19 ∙ c.lay_given.ensures 19) ∙ c.requires.3 19 a)

pub lay_part-requires-3 : goal.lay_part-requires-3
lay_part-requires-3 c = (search rules, search rules, search rules, λ a. ap (λ (r : Rel). r a) (c.lay_part-2.ensures 20 ∙ c.lay_part.ensures 20 ∙ c.lay_given.ensures 20) ∙ c.requires.3 20 a)

pub lay_part-requires-4 : goal.lay_part-requires-4
lay_part-requires-4 c = (search rules, search rules, search rules, λ a. ap (λ (r : Rel). r a) (c.lay_part-3.ensures 21 ∙ c.lay_part-2.ensures 21 ∙ c.lay_part.ensures 21 ∙ c.lay_given.ensures 21) ∙ c.requires.3 21 a)

pub returns : goal.returns
returns c =
    let a = c.args in
    fun_ext λ j.
    let empty : held a.t.now j ≡ never = fun_ext (c.requires.3 j) in
    c.lay_part-4.ensures j
    ∙ rw (
      c.lay_part-3.ensures j,
      c.lay_part-2.ensures j,
      c.lay_part.ensures j,
      c.lay_given.ensures j,
      empty,
    ) (book_laid a.n a.acts a.places.now (held a.store.now) j)
