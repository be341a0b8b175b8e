use mathlib.Core.Bool.{and-true}
use mathlib.Core.Path.{refl}
use borrow.Author.Tests.{eq-eqb, lt-ltb}
use Rattle.rows.proofs.Laws.Parts.{zeros_none}
use Rattle.rows.specs.Numbers.{area, held}
use Rattle.rows.specs.Sets.{closure}
use Rattle.table.proofs.walk.comes_back.Goals as goal

pub walk-requires : goal.walk-requires
walk-requires c =
    (c.requires.0, c.requires.1, refl, zeros_none area 0 c.args.a)

pub returns : goal.returns
returns c =
    let s = c.args in
    let a = s.a in
    rw (c.edge.ensures, c.walk.ensures a, eq-eqb a a refl, lt-ltb a s.n c.requires.0) (and-true (closure s.n (held s.t.now s.k) a a))
