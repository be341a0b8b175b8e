use mathlib.Core.Bool.{not}
use Rattle.rows.specs.Numbers.{held}
use Rattle.slow.specs.Searches.{reached, fed}
use Rattle.slow.specs.Laws.Rules.{by_test}
use Rattle.slow.proofs.offences.unfed.Goals as goal

pub returns : goal.returns
returns c =
    let s = c.args in
    rw (c.reached-3.ensures, c.reached-2.ensures, c.fed.ensures, c.reached.ensures) (by_test (reached s.t.n (held s.t.numbers.now) s.k s.b) (not (fed s.t.n (held s.t.numbers.now) s.k s.b)) (reached s.t.n (held s.t.numbers.now) 4 s.b))
